use Rattle.std.proofs.Common.{◌+◌, length, ◌∙◌, ap, arith}
use Rattle.reassembly.specs.Buffers.{BufferView}
use Rattle.reassembly.specs.Octets.{put, laid}
use Rattle.reassembly.proofs.BufferSteps.{length-reaching}
use Rattle.reassembly.proofs.buffer.DataBuffer.lay.Goals as goal

pub put-requires-clause-in_use : goal.put-requires-clause-in_use
put-requires-clause-in_use c = omega (arith, length-reaching (c.args.at + length c.args.new.now) c.args.self.now.octets, ap (λ (b : BufferView). length b.octets) c.widen.ensures)

pub returns : goal.returns
unfolding laid
returns c = c.put.ensures ∙ ap (λ (b : BufferView). record b { octets = put c.args.at c.args.new.now b.octets }) c.widen.ensures
