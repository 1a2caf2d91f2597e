use Rattle.std.proofs.Common.{Err, sym, subst, ◌∙◌, ap, arith}
use Rattle.arp.specs.Packet.{IsParsed}
use Rattle.arp.proofs.PlainReading.{read_ok, read_err, is_fault}
use Rattle.frames.specs.Meaning.{packet_heard}
use Rattle.frames.proofs.Layers.{all_octets, from_other, from_none}
use Rattle.frames.proofs.reading.read_packet.Goals as goal

pub returns-in-Ok : goal.returns-in-Ok
returns-in-Ok c =
    sym (ap (packet_heard c.args.addr) (read_ok c.args.octets.now c.in-Ok.packet c.in-Ok.ensures)
    ∙ from_other c.args.addr c.in-Ok.packet (sym c.may_send.ensures ∙ c.if-may_send.true))

pub returns-in-Ok-2 : goal.returns-in-Ok-2
returns-in-Ok-2 c =
    sym (ap (packet_heard c.args.addr) (read_ok c.args.octets.now c.in-Ok.packet c.in-Ok.ensures)
    ∙ from_none c.args.addr c.in-Ok.packet (sym c.may_send.ensures ∙ c.if-may_send.false))

pub returns-in-Err : goal.returns-in-Err
returns-in-Err c =
    let each = all_octets c.args.octets.now (λ i. omega (arith, c.type_inv.octets i)) in
    sym (ap (packet_heard c.args.addr) (read_err c.args.octets.now each (subst (λ fault. IsParsed c.args.octets.now (Err fault)) (is_fault c.in-Err.field-0) c.in-Err.ensures)))
