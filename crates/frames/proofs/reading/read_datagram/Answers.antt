use Rattle.std.proofs.Common.{Err, cond, sym, ◌∙◌, ap, arith}
use Rattle.ipv4.specs.declared.fault.Ipv4Fault.TheVariants.{IpHeader, IpSum}
use Rattle.ipv4.proofs.Reading.{read_ok, read_err}
use Rattle.frames.specs.declared.drop.DropCause.TheVariants.{OtherAddress}
use Rattle.frames.specs.Meaning.{datagram_heard, upper_heard}
use Rattle.frames.proofs.Layers.{all_octets}
use Rattle.frames.proofs.reading.read_datagram.Goals as goal

pub returns-in-Ok : goal.returns-in-Ok
returns-in-Ok c =
    c.read_upper.ensures
    ∙ sym (ap (datagram_heard c.args.addr) (read_ok c.args.octets.now c.in-Ok.datagram c.in-Ok.ensures)
    ∙ ap (λ b. cond b (upper_heard c.in-Ok.datagram) (Err OtherAddress)) (sym c.is_for_us.ensures ∙ c.if-is_for_us.true))

pub returns-in-Ok-2 : goal.returns-in-Ok-2
returns-in-Ok-2 c =
    sym (ap (datagram_heard c.args.addr) (read_ok c.args.octets.now c.in-Ok.datagram c.in-Ok.ensures)
    ∙ ap (λ b. cond b (upper_heard c.in-Ok.datagram) (Err OtherAddress)) (sym c.is_for_us.ensures ∙ c.if-is_for_us.false))

pub returns-in-Err-IpHeader : goal.returns-in-Err-IpHeader
returns-in-Err-IpHeader c =
    let each = all_octets c.args.octets.now (λ i. omega (arith, c.type_inv.octets i)) in
    sym (ap (datagram_heard c.args.addr) (read_err c.args.octets.now IpHeader each (rw c.in-Err-IpHeader.field-0-is at c.in-Err-IpHeader.ensures-1)))

pub returns-in-Err-IpSum : goal.returns-in-Err-IpSum
returns-in-Err-IpSum c =
    let each = all_octets c.args.octets.now (λ i. omega (arith, c.type_inv.octets i)) in
    sym (ap (datagram_heard c.args.addr) (read_err c.args.octets.now IpSum each (rw c.in-Err-IpSum.field-0-is at c.in-Err-IpSum.ensures-1)))
