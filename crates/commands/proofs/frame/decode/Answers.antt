use Rattle.std.proofs.Common.{string_bytes}
use Rattle.commands.proofs.HexLemmas.{front_taken}
use Rattle.commands.proofs.frame.decode.Goals as goal

pub returns-in_err-finish-clause-printed : goal.returns-in_err-finish-clause-printed
returns-in_err-finish-clause-printed g c =
    front_taken _ c.in_ok-text.text.items c.in_ok-lines.cause (string_bytes c.in_ok-lines.lines) _ c.in_err-finish.field-0.0 _ _
    c.from_residual-in_err-finish.ensures.1 c.in_err-finish.ensures.faults.0 c.in_ok-text.ensures.all
    (rw c.as_slice.ensures.value at c.in_ok-lines.ensures.ok) c.in_err-finish.ensures.faults.1
