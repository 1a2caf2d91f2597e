use Rattle.std.proofs.Common.{◌∙◌, sym, ap, subst, length, ◌-◌, ℕ}
use Rattle.stream_buf.specs.Receiving.{ReceiveView, IsReceiving}
use Rattle.stream_buf.proofs.Viewing.{room_viewed, receives}
use Rattle.stream_buf.proofs.receive.RecvBuf.room.Goals as goal

pub returns-clause-room : goal.returns-clause-room
returns-clause-room c =
    ap (λ (n : ℕ). n - c.self.inside.readable) c.capacity.ensures.capacity
    ∙ sym (room_viewed c.self.inside.octets c.self.inside.readable c.self.inside.ranges c.self.invariant)
    ∙ ap (λ (b : ReceiveView). length b.kept) c.self.view_is

pub returns-clause-limits : goal.returns-clause-limits
returns-clause-limits c = subst IsReceiving c.self.view_is (receives c.self.inside.octets c.self.inside.readable c.self.inside.ranges c.self.invariant)
