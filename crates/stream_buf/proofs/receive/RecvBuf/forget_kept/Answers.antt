use Rattle.std.proofs.Common.{ℕ, List, take, ◌∙◌, ap}
use Rattle.stream_buf.specs.Ring.{Buffer, buffer}
use Rattle.stream_buf.specs.declared.ranges.Range.{Range}
use Rattle.stream_buf.specs.Receiving.{ReceiveView, after_forgetting}
use Rattle.stream_buf.specs.Stored.{receive_view}
use Rattle.stream_buf.proofs.Viewing.{viewed_forgotten}
use Rattle.stream_buf.proofs.receive.RecvBuf.forget_kept.Goals as goal

pub returns : goal.returns
returns c =
    let octets : Buffer = c.self.inside.octets in
    let n : ℕ = c.self.inside.readable in
    ap (λ (b : Buffer). receive_view b n c.clear.new.self) c.truncate_back.ensures
    ∙ ap (λ (rs : List Range). receive_view (buffer (take n octets.items) octets.capacity) n rs) c.clear.ensures
    ∙ viewed_forgotten octets n c.self.inside.ranges c.self.invariant
    ∙ ap (λ (b : ReceiveView). after_forgetting b) c.self.view_is
