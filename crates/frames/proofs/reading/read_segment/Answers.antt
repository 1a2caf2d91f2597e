use Rattle.std.proofs.Common.{sym, ap, arith}
use Rattle.tcp_segment.specs.declared.fault.SegmentFault.TheVariants.{UpperHeader, UpperSum}
use Rattle.tcp_segment.proofs.Answering.{fault_ok, fault_err}
use Rattle.frames.specs.Meaning.{segment_heard}
use Rattle.frames.proofs.reading.read_segment.Goals as goal

pub returns-in-Ok : goal.returns-in-Ok
returns-in-Ok c = sym (ap (segment_heard c.args.source) (fault_ok c.args.source c.args.destination c.args.octets.now c.in-Ok.segment c.in-Ok.ensures))

pub returns-in-Err-UpperHeader : goal.returns-in-Err-UpperHeader
returns-in-Err-UpperHeader c =
    sym (ap (segment_heard c.args.source) (fault_err c.args.source c.args.destination c.args.octets.now UpperHeader (λ i. omega (arith, c.type_inv.octets i)) (rw c.in-Err-UpperHeader.field-0-is at c.in-Err-UpperHeader.ensures)))

pub returns-in-Err-UpperSum : goal.returns-in-Err-UpperSum
returns-in-Err-UpperSum c =
    sym (ap (segment_heard c.args.source) (fault_err c.args.source c.args.destination c.args.octets.now UpperSum (λ i. omega (arith, c.type_inv.octets i)) (rw c.in-Err-UpperSum.field-0-is at c.in-Err-UpperSum.ensures)))
