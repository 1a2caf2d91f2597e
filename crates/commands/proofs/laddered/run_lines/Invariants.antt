use Rattle.std.proofs.Common.{map, take}
use Rattle.commands.specs.Laddered.{HasRun}
use Rattle.commands.proofs.laddered.run_lines.Given as goal

abbrev pub invariant-loop-line : goal.invariant-loop-line
invariant-loop-line l = HasRun l.initial.world.seen (map (λ line. line.now) (take l.line-index l.lines)) l.happened.items l.world.seen
