use Rattle.std.proofs.Common.{sym, ap, arith}
use Rattle.tcp_segment.proofs.Answering.{read_ok, read_err}
use Rattle.frames.specs.Pairs.{segment_pair}
use Rattle.frames.proofs.pairs.segment_pair.Goals as goal

pub returns-in-Ok : goal.returns-in-Ok
returns-in-Ok c = rw c.pair_between.ensures (sym (ap (segment_pair c.args.source c.args.destination) (read_ok c.args.source c.args.destination c.args.octets.now c.in-Ok.segment c.in-Ok.ensures)))

pub returns-in-Err : goal.returns-in-Err
returns-in-Err c =
    sym (ap (segment_pair c.args.source c.args.destination) (read_err c.args.source c.args.destination c.args.octets.now c.in-Err.field-0 (λ i. omega (arith, c.type_inv.octets i)) c.in-Err.ensures))
