-- Of which of a host's actions in a script want of memory may be told.
use Rattle.std.specs.Prelude.{◌<◌, Err}
use Rattle.sides.specs.declared.side.Side.{Side}
use Rattle.wire_sim.specs.declared.event.Event.{Event}
use Rattle.wire_sim.specs.declared.event.Unfair.TheVariants.{NoMemory}
use Rattle.wire_sim.specs.WorldView.{WorldView}
use Rattle.script.specs.declared.action.Action.{Action}
use Rattle.script.specs.declared.action.Action.TheVariants.{Recv, Count, RecvFrom, CountFrom, Emit}
use Rattle.script.specs.Events.{IsEventOf}
use Rattle.commands.specs.Play.{ComesTo}

-- it reads octets, or emits a frame
abbrev pub WantsOctets : Action → Type 0
WantsOctets (Recv id most) = 0 < most
WantsOctets (Count id most) = 0 < most
WantsOctets (RecvFrom id most) = 0 < most
WantsOctets (CountFrom id most) = 0 < most
WantsOctets Emit = Unit {0}
WantsOctets _ = ⊥

-- Of no other action is it told, whatever world it meets.
abbrev pub MemoryIsWantedForOctets : Type 0
MemoryIsWantedForOctets =
    (side : Side) (action : Action) (happens : Event) (old new : WorldView) → IsEventOf side action happens → ComesTo happens (Err NoMemory) old new
    → WantsOctets action
