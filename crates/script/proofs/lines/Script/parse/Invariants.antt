use Rattle.std.proofs.Common.{map}
use Rattle.script.specs.Words.{lines_of}
use Rattle.script.proofs.ScriptLemmas.{IsReadUpTo}
use Rattle.script.proofs.lines.Script.parse.Given as goal

abbrev pub invariant-loop-index : goal.invariant-loop-index
invariant-loop-index l =
    IsReadUpTo (lines_of l.octets) (map (λ line. line.now) l.line-items) l.index l.script.setting l.script.commands.items
