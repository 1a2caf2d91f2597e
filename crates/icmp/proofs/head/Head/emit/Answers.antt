use Rattle.std.proofs.Common.{◌+◌, arith}
use Rattle.icmp.proofs.Sending.{emitted}
use Rattle.icmp.proofs.head.Head.emit.Goals as goal

pub returns-clause-octets : goal.returns-clause-octets
returns-clause-octets c =
    emitted c.args.self.now c.checksum-checksum.result (8 + c.args.payload_len) c.args.out.now c.write.new.out c.write-2.new.out
    c.write.ensures c.checksum-checksum.ensures c.write-2.ensures (omega arith) (omega arith)
