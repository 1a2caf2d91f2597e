use Rattle.std.proofs.Common.{◌≡◌, ℕ, ◌+◌, ◌≤◌, true, List, length, sym, ◌∙◌, ap, subst, arith}
use Rattle.stream_buf.specs.Ring.{Buffer, buffer}
use Rattle.stream_buf.specs.declared.ranges.Range.{Range}
use Rattle.stream_buf.specs.Receiving.{ReceiveView, is_taken, joined, after_insert}
use Rattle.stream_buf.specs.Stored.{receive_view, IsStored, laid_at}
use Rattle.stream_buf.proofs.Viewing.{room_viewed, few_kept, none_readable, viewed_kept, stored_kept}
use Rattle.stream_buf.proofs.receive.RecvBuf.keep.Goals as goal

pub overflow_add-self-inside : goal.overflow_add-self-inside
overflow_add-self-inside c =
    let seen = ap (λ (b : ReceiveView). length b.kept) c.self.view_is in
    let room = room_viewed c.self.inside.octets c.self.inside.readable c.self.inside.ranges c.self.invariant in
    omega (arith, seen, room, c.requires.within, c.self.invariant.there, c.self.invariant.fits.0, c.self.invariant.fits.1)

pub lay-requires : goal.lay-requires
lay-requires c =
    let seen = ap (λ (b : ReceiveView). length b.kept) c.self.view_is in
    let room = room_viewed c.self.inside.octets c.self.inside.readable c.self.inside.ranges c.self.invariant in
    omega (arith, seen, room, c.requires.within, c.self.invariant.there, c.self.invariant.fits.0)

pub overflow_add-distance : goal.overflow_add-distance
overflow_add-distance c =
    let seen = ap (λ (b : ReceiveView). length b.kept) c.self.view_is in
    let room = room_viewed c.self.inside.octets c.self.inside.readable c.self.inside.ranges c.self.invariant in
    omega (arith, seen, room, c.requires.within, c.self.invariant.there, c.self.invariant.fits.0, c.self.invariant.fits.1)

pub add-requires-clause-room : goal.add-requires-clause-room
add-requires-clause-room c =
    let octets : Buffer = c.self.inside.octets in
    let n : ℕ = c.self.inside.readable in
    let rs : List Range = c.self.inside.ranges in
    let at : ℕ = c.args.distance in
    let new : List ℕ = c.args.octets.now in
    let within : at + length new ≤ length (receive_view octets n rs).kept = subst (λ (b : ReceiveView). at + length new ≤ length b.kept) (sym c.self.view_is) c.requires.within in
    let taken : is_taken (receive_view octets n rs) at new ≡ true = ap (λ (b : ReceiveView). is_taken b at new) c.self.view_is ∙ c.requires.taken in
    few_kept octets n rs c.self.invariant at new c.requires.ahead within c.requires.some taken

pub invariant_of-self : goal.invariant_of-self
invariant_of-self c =
    let octets : Buffer = c.self.inside.octets in
    let n : ℕ = c.self.inside.readable in
    let rs : List Range = c.self.inside.ranges in
    let at : ℕ = c.args.distance in
    let new : List ℕ = c.args.octets.now in
    let within : at + length new ≤ length (receive_view octets n rs).kept = subst (λ (b : ReceiveView). at + length new ≤ length b.kept) (sym c.self.view_is) c.requires.within in
    let taken : is_taken (receive_view octets n rs) at new ≡ true = ap (λ (b : ReceiveView). is_taken b at new) c.self.view_is ∙ c.requires.taken in
    subst (λ (b : Buffer). IsStored b n c.add.new.self) (sym c.lay.ensures)
    (subst (λ (l : List Range). IsStored (buffer (laid_at (n + at) new octets.items) octets.capacity) n l) (sym c.add.ensures.ranges)
    (stored_kept octets n rs c.self.invariant at new c.requires.ahead within c.requires.some taken))

pub returns-clause-count : goal.returns-clause-count
returns-clause-count c =
    let octets : Buffer = c.self.inside.octets in
    let n : ℕ = c.self.inside.readable in
    let rs : List Range = c.self.inside.ranges in
    let at : ℕ = c.args.distance in
    let new : List ℕ = c.args.octets.now in
    let within : at + length new ≤ length (receive_view octets n rs).kept = subst (λ (b : ReceiveView). at + length new ≤ length b.kept) (sym c.self.view_is) c.requires.within in
    let taken : is_taken (receive_view octets n rs) at new ≡ true = ap (λ (b : ReceiveView). is_taken b at new) c.self.view_is ∙ c.requires.taken in
    ap (λ (b : ReceiveView). length (joined b at new)) (sym c.self.view_is)
    ∙ none_readable octets n rs c.self.invariant at new c.requires.ahead within c.requires.some taken

pub returns-clause-after : goal.returns-clause-after
returns-clause-after c =
    let octets : Buffer = c.self.inside.octets in
    let n : ℕ = c.self.inside.readable in
    let rs : List Range = c.self.inside.ranges in
    let at : ℕ = c.args.distance in
    let new : List ℕ = c.args.octets.now in
    let within : at + length new ≤ length (receive_view octets n rs).kept = subst (λ (b : ReceiveView). at + length new ≤ length b.kept) (sym c.self.view_is) c.requires.within in
    let taken : is_taken (receive_view octets n rs) at new ≡ true = ap (λ (b : ReceiveView). is_taken b at new) c.self.view_is ∙ c.requires.taken in
    ap (λ (b : Buffer). receive_view b n c.add.new.self) c.lay.ensures
    ∙ ap (λ (l : List Range). receive_view (buffer (laid_at (n + at) new octets.items) octets.capacity) n l) c.add.ensures.ranges
    ∙ viewed_kept octets n rs c.self.invariant at new c.requires.ahead within c.requires.some taken
    ∙ ap (λ (b : ReceiveView). after_insert b at new) c.self.view_is
