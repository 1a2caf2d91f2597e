use Rattle.std.proofs.Common.{◌≡◌, ◌++◌, map, take}
use Rattle.ladder.specs.declared.happened.Happened.TheVariants.{Passed}
use Rattle.commands.specs.Laddered.{passages_in}
use Rattle.commands.proofs.laddered.note_things.Given as goal

abbrev pub invariant-loop-happening : goal.invariant-loop-happening
invariant-loop-happening l = l.happened.items ≡ l.initial.happened.items ++ map Passed (passages_in (take l.happening-index l.things))
