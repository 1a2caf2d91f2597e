use Rattle.std.proofs.Common.{◌≡◌, ◌++◌, take, string_bytes}
use Rattle.script.specs.Text.{escaped_of}
use Rattle.script.proofs.answer.escape.Given as goal

abbrev pub invariant-loop-octet : goal.invariant-loop-octet
invariant-loop-octet l = string_bytes l.line ≡ string_bytes l.initial.line ++ escaped_of (take l.octet-index l.octets)
