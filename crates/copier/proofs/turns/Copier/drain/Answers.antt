use Rattle.std.proofs.Common.{take}
use Rattle.copier.proofs.Passing.{on_err}
use Rattle.copier.proofs.Turning.{drained-same, drained-front, drained-kept}
use Rattle.copier.proofs.turns.Copier.drain.Goals as goal

pub returns-in_err-accepted-clause-left : goal.returns-in_err-accepted-clause-left
returns-in_err-accepted-clause-left g c = on_err c.from_residual.result (drained-same (g.W.Sink.taken c.args.dst.now) c.args.self.now)

pub returns-in_err-count-clause-left : goal.returns-in_err-count-clause-left
returns-in_err-count-clause-left g c = on_err c.from_residual-in_err-count.result (drained-same (g.W.Sink.taken c.args.dst.now) c.args.self.now)

pub returns-in_err-write_all-in-Octets-clause-left : goal.returns-in_err-write_all-in-Octets-clause-left
returns-in_err-write_all-in-Octets-clause-left g c =
    let reads = rw c.in-Octets.is at c.in_ok-count.ensures.reads in
    on_err c.from_residual-in_err-write_all-in-Octets.result
    (drained-front _ _ c.args.self.now c.accept.new.self c.receive.new.self (take c.in-Octets.count c.receive.new.buffer) c.in_ok-accepted.ensures.course reads.1 c.in_err-write_all-in-Octets.ensures.err)

pub returns-in_err-flush-in-End-clause-left : goal.returns-in_err-flush-in-End-clause-left
returns-in_err-flush-in-End-clause-left g c = on_err c.from_residual-in_err-flush-in-End.result (drained-kept _ _ c.args.self.now c.in_err-flush-in-End.ensures.taken)
