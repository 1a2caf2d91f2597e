use Rattle.std.proofs.Common.{nat_eq, take, sym, ◌∙◌, ap, arith}
use Rattle.std.proofs.lemmas.List.{length-take-le}
use Rattle.reassembly.specs.Buffers.{BufferView, count_set}
use Rattle.reassembly.specs.Octets.{is_covered}
use Rattle.reassembly.proofs.Known.{covered_is}
use Rattle.reassembly.proofs.buffer.DataBuffer.is_covered.Goals as goal

pub returns : goal.returns
returns c =
    let octets = length-take-le c.self.inside.reach c.self.inside.octets.items (omega arith) in
    let flags = length-take-le c.self.inside.reach c.self.inside.present.items (omega arith) in
    let flags_in_use = take c.self.inside.reach c.self.inside.present.items in
    ap (λ n. nat_eq n c.self.inside.reach) c.self.invariant.counted
    ∙ ap (nat_eq (count_set flags_in_use)) (sym flags)
    ∙ covered_is (take c.self.inside.reach c.self.inside.octets.items) flags_in_use (octets ∙ sym flags)
    ∙ ap (λ (b : BufferView). is_covered b.octets) c.self.view_is
