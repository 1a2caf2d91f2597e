use Rattle.std.proofs.Common.{rules, arith}
use Rattle.arp.specs.Packet.{spelling as packet_octets}
use Rattle.arp.proofs.OnePacket.{length-spelling}
use Rattle.frames.proofs.Emitted.{framed_payload, kept_behind}
use Rattle.frames.proofs.emission.emit_arp.Goals as goal

pub returns-clause-octets : goal.returns-clause-octets
returns-clause-octets c =
    let p = c.args.packet.now in
    let len = length-spelling p c.emit.ensures.spelled.widths in
    let payload = framed_payload 14 1500 c.args.out.now c.emit.new.out (packet_octets p) 28 c.told-out c.emit.ensures.octets len (omega arith) in
    let kept = kept_behind 14 1500 c.args.out.now c.emit.new.out (packet_octets p) 28 60 c.told-out c.emit.ensures.octets len (omega arith) (omega arith) in
    rw (c.emit-2.ensures.octets, payload, c.emit-2.ensures.len, kept, c.packet_destination.ensures) (search rules)
