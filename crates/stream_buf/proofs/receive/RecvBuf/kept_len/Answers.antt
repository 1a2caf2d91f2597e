use Rattle.std.proofs.Common.{◌∙◌, sym, ap}
use Rattle.stream_buf.specs.Receiving.{ReceiveView, kept_count}
use Rattle.stream_buf.proofs.Viewing.{octets_viewed, few_covered}
use Rattle.stream_buf.proofs.receive.RecvBuf.kept_len.Goals as goal

pub places-requires : goal.places-requires
places-requires c = few_covered c.self.inside.octets c.self.inside.readable c.self.inside.ranges c.self.invariant

pub returns : goal.returns
returns c =
    c.places.ensures ∙ sym (octets_viewed c.self.inside.octets c.self.inside.readable c.self.inside.ranges c.self.invariant)
    ∙ ap (λ (b : ReceiveView). kept_count b.kept) c.self.view_is
