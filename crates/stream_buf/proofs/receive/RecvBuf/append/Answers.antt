use Rattle.std.proofs.Common.{ℕ, ◌+◌, ◌≤◌, length, sym, ◌∙◌, ap, subst, arith}
use Rattle.stream_buf.specs.Ring.{Buffer}
use Rattle.stream_buf.specs.Receiving.{ReceiveView, joined, after_insert}
use Rattle.stream_buf.specs.Stored.{receive_view, IsStored}
use Rattle.stream_buf.proofs.Viewing.{room_viewed, count_appended, viewed_appended, stored_appended}
use Rattle.stream_buf.proofs.receive.RecvBuf.append.Goals as goal

pub lay-requires : goal.lay-requires
lay-requires c =
    let seen = ap (λ (b : ReceiveView). length b.kept) c.self.view_is in
    let room = room_viewed c.self.inside.octets c.self.inside.readable c.self.inside.ranges c.self.invariant in
    omega (arith, seen, room, c.requires.within, c.self.invariant.there, c.self.invariant.fits.0)

pub overflow_add-self : goal.overflow_add-self
overflow_add-self c =
    let octets : Buffer = c.self.inside.octets in
    let n : ℕ = c.self.inside.readable in
    let within : length c.args.octets.now ≤ length (receive_view octets n c.self.inside.ranges).kept =
    subst (λ (b : ReceiveView). length c.args.octets.now ≤ length b.kept) (sym c.self.view_is) c.requires.within in
    let stored = stored_appended octets n c.self.inside.ranges c.self.invariant c.args.octets.now within c.requires.some c.join_front-count.result c.join_front-count.new.self
    c.join_front-count.ensures.ranges c.join_front-count.ensures.apart c.join_front-count.ensures.few in
    omega (arith, stored.there, stored.fits.0, stored.fits.1)

pub invariant_of-self : goal.invariant_of-self
invariant_of-self c =
    let octets : Buffer = c.self.inside.octets in
    let n : ℕ = c.self.inside.readable in
    let within : length c.args.octets.now ≤ length (receive_view octets n c.self.inside.ranges).kept =
    subst (λ (b : ReceiveView). length c.args.octets.now ≤ length b.kept) (sym c.self.view_is) c.requires.within in
    subst (λ (b : Buffer). IsStored b (n + c.join_front-count.result) c.join_front-count.new.self) (sym c.lay.ensures)
    (stored_appended octets n c.self.inside.ranges c.self.invariant c.args.octets.now within c.requires.some c.join_front-count.result c.join_front-count.new.self
    c.join_front-count.ensures.ranges c.join_front-count.ensures.apart c.join_front-count.ensures.few)

pub returns-clause-count : goal.returns-clause-count
returns-clause-count c =
    let octets : Buffer = c.self.inside.octets in
    let n : ℕ = c.self.inside.readable in
    let within : length c.args.octets.now ≤ length (receive_view octets n c.self.inside.ranges).kept =
    subst (λ (b : ReceiveView). length c.args.octets.now ≤ length b.kept) (sym c.self.view_is) c.requires.within in
    count_appended octets n c.self.inside.ranges c.self.invariant c.args.octets.now within c.requires.some c.join_front-count.result c.join_front-count.new.self
    c.join_front-count.ensures.ranges c.join_front-count.ensures.apart
    ∙ ap (λ (b : ReceiveView). length (joined b 0 c.args.octets.now)) c.self.view_is

pub returns-clause-after : goal.returns-clause-after
returns-clause-after c =
    let octets : Buffer = c.self.inside.octets in
    let n : ℕ = c.self.inside.readable in
    let within : length c.args.octets.now ≤ length (receive_view octets n c.self.inside.ranges).kept =
    subst (λ (b : ReceiveView). length c.args.octets.now ≤ length b.kept) (sym c.self.view_is) c.requires.within in
    ap (λ (b : Buffer). receive_view b (n + c.join_front-count.result) c.join_front-count.new.self) c.lay.ensures
    ∙ viewed_appended octets n c.self.inside.ranges c.self.invariant c.args.octets.now within c.requires.some c.join_front-count.result c.join_front-count.new.self
    c.join_front-count.ensures.ranges c.join_front-count.ensures.apart
    ∙ ap (λ (b : ReceiveView). after_insert b 0 c.args.octets.now) c.self.view_is
