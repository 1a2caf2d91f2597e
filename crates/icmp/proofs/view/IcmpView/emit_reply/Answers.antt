use Rattle.std.proofs.Common.{◌≡◌, ◌+◌, ◌-◌, length, arith, ap, ◌∙◌}
use Rattle.icmp.proofs.Sending.{reply_written}
use Rattle.icmp.proofs.view.IcmpView.emit_reply.Goals as goal

pub returns-clause-octets : goal.returns-clause-octets
returns-clause-octets c =
    let payload = c.payload-payload.ensures.octets in
    let count : 8 + length c.payload-payload.result.now - 8 ≡ length c.args.self.now.payload = omega (arith, ap length payload) in
    c.emit_echo_reply.ensures.octets
    ∙ reply_written c.args.self.now c.args.out.now c.copy_from_slice.new.self c.identifier.result c.number.result _ c.emit_echo_reply.result c.requires
    (c.copy_from_slice.ensures.after ∙ payload) c.identifier.ensures c.number.ensures count (omega (arith, ap length payload, c.emit_echo_reply.ensures.len))
