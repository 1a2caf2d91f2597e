use Rattle.std.proofs.Common.{sym, ap, arith}
use Rattle.icmp.specs.declared.fault.IcmpFault.TheVariants.{UpperHeader, UpperSum}
use Rattle.icmp.proofs.Answering.{read_ok, read_err}
use Rattle.frames.specs.Meaning.{message_heard}
use Rattle.frames.proofs.Layers.{all_octets}
use Rattle.frames.proofs.reading.read_message.Goals as goal

pub returns-in-Ok : goal.returns-in-Ok
returns-in-Ok c = sym (ap (message_heard c.args.source) (read_ok c.args.octets.now c.in-Ok.message c.in-Ok.ensures))

pub returns-in-Err-UpperHeader : goal.returns-in-Err-UpperHeader
returns-in-Err-UpperHeader c =
    let each = all_octets c.args.octets.now (λ i. omega (arith, c.type_inv.octets i)) in
    sym (ap (message_heard c.args.source) (read_err c.args.octets.now UpperHeader each (rw c.in-Err-UpperHeader.field-0-is at c.in-Err-UpperHeader.ensures)))

pub returns-in-Err-UpperSum : goal.returns-in-Err-UpperSum
returns-in-Err-UpperSum c =
    let each = all_octets c.args.octets.now (λ i. omega (arith, c.type_inv.octets i)) in
    sym (ap (message_heard c.args.source) (read_err c.args.octets.now UpperSum each (rw c.in-Err-UpperSum.field-0-is at c.in-Err-UpperSum.ensures)))
