use Rattle.std.proofs.Common.{take, sym, ◌∙◌, ap, arith}
use Rattle.std.proofs.lemmas.List.{length-take-le}
use Rattle.reassembly.specs.Buffers.{BufferView}
use Rattle.reassembly.specs.Octets.{is_covered, filled}
use Rattle.reassembly.proofs.Known.{filled-known}
use Rattle.reassembly.proofs.buffer.DataBuffer.octets.Goals as goal

pub returns : goal.returns
returns c =
    let octets = length-take-le c.self.inside.reach c.self.inside.octets.items (omega arith) in
    let flags = length-take-le c.self.inside.reach c.self.inside.present.items (omega arith) in
    ap (take c.self.inside.reach) c.deref.ensures.value
    ∙ sym (filled-known (take c.self.inside.reach c.self.inside.octets.items) (take c.self.inside.reach c.self.inside.present.items) (octets ∙ sym flags)
    (ap (λ (b : BufferView). is_covered b.octets) c.self.view_is ∙ c.requires))
    ∙ ap (λ (b : BufferView). filled b.octets) c.self.view_is
