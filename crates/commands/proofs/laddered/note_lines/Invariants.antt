use Rattle.std.proofs.Common.{◌≡◌, ◌++◌, map, take}
use Rattle.ladder.specs.declared.happened.Happened.TheVariants.{Printed}
use Rattle.commands.proofs.laddered.note_lines.Given as goal

abbrev pub invariant-loop-line : goal.invariant-loop-line
invariant-loop-line l = l.happened.items ≡ l.initial.happened.items ++ map Printed (map (λ line. line.now) (take l.line-index l.lines))
