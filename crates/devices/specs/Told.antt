-- What a link in memory keeps is what it tells.
use Rattle.std.specs.Prelude.{List, map}
use Rattle.devices.specs.Passages.{Passage, taken, given}
use Rattle.devices.specs.declared.link.memory.Passage.{Passage as Kept}
use Rattle.devices.specs.declared.link.memory.Passage.TheVariants.{Taken, Given}

-- a passage without where its octets lie in memory
abbrev pub passage_of : Kept → Passage
passage_of (Taken from octets) = taken from octets.items
passage_of (Given to octets) = given to octets.items

abbrev pub told_of : List Kept → List Passage
told_of passages = map passage_of passages
