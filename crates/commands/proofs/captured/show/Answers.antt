use Rattle.std.proofs.Common.{string_bytes, sym}
use Rattle.commands.proofs.CapturedLemmas.{cut_way, whole_way, front_way}
use Rattle.commands.proofs.RunLemmas.{is_write, is_no_write}
use Rattle.commands.proofs.captured.show.Goals as goal

pub returns-then-is_write_fault-clause-shown : goal.returns-then-is_write_fault-clause-shown
returns-then-is_write_fault-clause-shown g c =
    cut_way c.args.capture.now c.show_all-outcome.result (g.W.Sink.taken c.args.out.now) (g.W.Sink.taken c.show_all-outcome.new.out)
    (string_bytes c.new-lines.result) (string_bytes c.show_all-outcome.new.lines) c.new-lines.ensures.bytes (is_write _ (sym c.if-is_write_fault.ensures))
    c.show_all-outcome.ensures.shown

pub returns-in_err-finish-clause-shown : goal.returns-in_err-finish-clause-shown
returns-in_err-finish-clause-shown g c =
    front_way c.args.capture.now c.show_all-outcome.result c.from_residual.result c.in_err-finish.field-0.0 (g.W.Sink.taken c.args.out.now)
    (g.W.Sink.taken c.show_all-outcome.new.out) (g.W.Sink.taken c.finish.new.out) (string_bytes c.new-lines.result)
    (string_bytes c.show_all-outcome.new.lines) c.new-lines.ensures.bytes (is_no_write _ (sym c.if-is_write_fault.ensures))
    c.show_all-outcome.ensures.shown c.from_residual.ensures.1 c.in_err-finish.ensures.faults

pub returns-clause-shown : goal.returns-clause-shown
returns-clause-shown g c =
    whole_way c.args.capture.now c.show_all-outcome.result (g.W.Sink.taken c.args.out.now) (g.W.Sink.taken c.show_all-outcome.new.out)
    (g.W.Sink.taken c.finish.new.out) (string_bytes c.new-lines.result) (string_bytes c.show_all-outcome.new.lines) c.new-lines.ensures.bytes
    (is_no_write _ (sym c.if-is_write_fault.ensures)) c.show_all-outcome.ensures.shown c.in_ok-finish.ensures.taken
