use Rattle.std.proofs.Common.{◌+◌, ℕ, List, ◌∙◌, slice_range}
use Rattle.inet_sum.specs.Sum.{checksum_of}
use Rattle.udp.specs.Datagram.{spelling, summed}
use Rattle.udp.specs.Sent.{sent_with, checksum_field}
use Rattle.udp.proofs.Sending.{payload-length, before}
use Rattle.udp.proofs.head.Head.emit.Goals as goal

pub returns-clause-octets : goal.returns-clause-octets
returns-clause-octets c =
    let payload : List ℕ = slice_range c.args.out.now 8 (8 + c.args.payload_len) in
    let checksum : ℕ = checksum_field (checksum_of (summed c.args.src c.args.dst (spelling (sent_with c.args.self.now payload 0)))) in
    c.emit_summed.ensures.octets payload (payload-length c.args.out.now c.args.payload_len c.requires.room) c.requires.sum
    ∙ before c.args.self.now c.args.out.now c.args.payload_len checksum

pub returns-clause-sendable : goal.returns-clause-sendable
returns-clause-sendable c =
    c.emit_summed.ensures.sendable (slice_range c.args.out.now 8 (8 + c.args.payload_len)) (payload-length c.args.out.now c.args.payload_len c.requires.room)
