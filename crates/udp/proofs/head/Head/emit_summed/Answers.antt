use Rattle.std.proofs.Common.{◌≡◌, ◌+◌, ◌∙◌, length, arith}
use Rattle.udp.proofs.Sending.{emitted}
use Rattle.udp.proofs.head.Head.emit_summed.Goals as goal

pub returns-clause-octets : goal.returns-clause-octets
returns-clause-octets c = λ payload size is_sum.
    let whole : 8 + length payload ≡ 8 + c.args.payload_len = omega (arith, size) in
    emitted c.args.src c.args.dst c.args.self.now payload c.sum_in_parts-sum.result c.told.result c.args.out.now c.header-unsummed.result c.copy_from_slice.new.self
    (c.header-unsummed.ensures payload whole) (c.sum_in_parts-sum.ensures.sum payload size is_sum) c.told.ensures
    (c.copy_from_slice.ensures.after ∙ c.header-header.ensures payload whole)
