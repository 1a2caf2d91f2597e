use Rattle.std.proofs.Common.{◌≡◌, ℕ, ◌-◌, length, take, drop, ◌∙◌, ap, arith}
use Rattle.std.proofs.lemmas.List.{length-take}
use Rattle.stream_buf.specs.Ring.{Buffer, buffer}
use Rattle.stream_buf.specs.Receiving.{ReceiveView, after_read}
use Rattle.stream_buf.specs.Stored.{receive_view}
use Rattle.stream_buf.proofs.Viewing.{viewed_read}
use Rattle.stream_buf.proofs.receive.RecvBuf.read.Goals as goal

pub returns-clause-after : goal.returns-clause-after
returns-clause-after c =
    let octets : Buffer = c.self.inside.octets in
    let n : ℕ = c.self.inside.readable in
    let count : ℕ = c.min-count.result in
    let all : length (take count c.args.out.now) ≡ count = omega (arith, length-take count c.args.out.now, c.min-count.ensures) in
    ap (λ (b : Buffer). receive_view b (n - count) c.self.inside.ranges)
    (c.read_into.ensures.items ∙ ap (λ (k : ℕ). buffer (drop k octets.items) octets.capacity) all)
    ∙ viewed_read octets n c.self.inside.ranges c.self.invariant (length c.args.out.now) count c.min-count.ensures
    ∙ ap (λ (b : ReceiveView). after_read b (length c.args.out.now)) c.self.view_is
