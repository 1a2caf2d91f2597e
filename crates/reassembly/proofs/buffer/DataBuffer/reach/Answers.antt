use Rattle.std.proofs.Common.{length, sym, ◌∙◌, ap, arith}
use Rattle.reassembly.specs.Buffers.{BufferView}
use Rattle.reassembly.proofs.BufferSteps.{view_length}
use Rattle.reassembly.proofs.buffer.DataBuffer.reach.Goals as goal

pub returns-clause-value : goal.returns-clause-value
returns-clause-value c =
    sym (view_length c.self.inside.octets.items c.self.inside.present.items c.self.inside.reach (omega arith) (omega arith)) ∙ ap (λ (b : BufferView). length b.octets) c.self.view_is
