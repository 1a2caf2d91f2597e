use Rattle.std.proofs.Common.{◌≡◌, ◌++◌, map, take, option_to_list}
use Rattle.std.specs.List.{flat_map}
use Rattle.ladder.specs.declared.happened.Happened.TheVariants.{Passed}
use Rattle.commands.proofs.laddered.note_brought.Given as goal

abbrev pub invariant-loop-passage : goal.invariant-loop-passage
invariant-loop-passage l = l.happened.items ≡ l.initial.happened.items ++ map Passed (flat_map option_to_list (take l.passage-index l.passages))
