use Rattle.std.proofs.Common.{◌≡◌, ◌++◌, map, take}
use Rattle.ladder.specs.declared.passage.Passage.TheVariants.{Sent}
use Rattle.ladder.specs.declared.happened.Happened.TheVariants.{Passed}
use Rattle.commands.proofs.laddered.note_sent.Given as goal

abbrev pub invariant-loop-index : goal.invariant-loop-index
invariant-loop-index l = l.happened.items ≡ l.initial.happened.items ++ map Passed (map (Sent l.from) (take l.index-index l.frames))
