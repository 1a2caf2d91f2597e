-- The numbers and names of what makes an event unfair.
use Rattle.std.specs.Prelude.{ℕ, List, codes}
use Rattle.wire_sim.specs.declared.event.Unfair.{Unfair}
use Rattle.wire_sim.specs.declared.event.Unfair.TheVariants.{NoSuchFrame, Stale, OtherEpoch, SecondOpening, NoMemory}

-- the number and name of why an event is refused
abbrev pub unfair_text : Unfair → List ℕ
unfair_text NoSuchFrame = codes "U1 NoSuchFrame"
unfair_text Stale = codes "U2 Stale"
unfair_text OtherEpoch = codes "U3 OtherEpoch"
unfair_text SecondOpening = codes "U4 SecondOpening"
unfair_text NoMemory = codes "U5 NoMemory"
