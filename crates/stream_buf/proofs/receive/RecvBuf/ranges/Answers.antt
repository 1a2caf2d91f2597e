use Rattle.std.proofs.Common.{◌∙◌, sym, ap}
use Rattle.stream_buf.specs.Receiving.{ReceiveView, ranges}
use Rattle.stream_buf.proofs.Viewing.{ranges_viewed}
use Rattle.stream_buf.proofs.receive.RecvBuf.ranges.Goals as goal

pub returns : goal.returns
returns c =
    c.len.ensures ∙ sym (ranges_viewed c.self.inside.octets c.self.inside.readable c.self.inside.ranges c.self.invariant)
    ∙ ap (λ (b : ReceiveView). ranges b.kept) c.self.view_is
