use Rattle.std.proofs.Common.{◌≡◌, ℕ, ◌+◌, ◌<◌, ◌≤◌, nat_le, List, length, sym, ◌∙◌, ap, subst, arith}
use Rattle.std.proofs.lemmas.Bool.{eqb-true, eqb-false}
use Rattle.stream_buf.specs.Ring.{Buffer}
use Rattle.stream_buf.specs.declared.ranges.Range.{Range}
use Rattle.stream_buf.specs.Receiving.{ReceiveView, is_taken}
use Rattle.stream_buf.specs.Stored.{receive_view}
use Rattle.stream_buf.proofs.Taking.{taken_first}
use Rattle.stream_buf.proofs.Viewing.{room_viewed, none_taken, ahead_taken}
use Rattle.stream_buf.proofs.receive.RecvBuf.takes.Goals as goal
use Rattle.stream_buf.proofs.receive.RecvBuf.takes.Goals.{then-distance-eq0-via-then-distance-eq0, then-distance-eq0-via-else-distance-eq0+then-is_empty}

pub returns-then-distance-eq0 : goal.returns-then-distance-eq0
returns-then-distance-eq0 c =
    let octets : Buffer = c.self.inside.octets in
    let n : ℕ = c.self.inside.readable in
    let rs : List Range = c.self.inside.ranges in
    let at : ℕ = c.args.distance in
    let new : List ℕ = c.args.octets.now in
    let within : at + length new ≤ length (receive_view octets n rs).kept = subst (λ (b : ReceiveView). at + length new ≤ length b.kept) (sym c.self.view_is) c.requires in
    elim c.then-distance-eq0.branch [
      | then-distance-eq0-via-then-distance-eq0 w ↦ sym (taken_first c.args.self.now at new w.if-distance-eq0.true)
      | then-distance-eq0-via-else-distance-eq0+then-is_empty w ↦
          sym (ap (λ (b : ReceiveView). is_taken b at new) (sym c.self.view_is) ∙ none_taken octets n rs c.self.invariant at new within (eqb-true (length new) 0 (sym w.is_empty.ensures ∙ w.if-is_empty.true)))
    ]

pub overflow_add-new : goal.overflow_add-new
overflow_add-new c =
    let seen = ap (λ (b : ReceiveView). length b.kept) c.self.view_is in
    let room = room_viewed c.self.inside.octets c.self.inside.readable c.self.inside.ranges c.self.invariant in
    omega (arith, seen, room, c.requires, c.self.invariant.fits.1)

pub returns : goal.returns
returns c =
    let octets : Buffer = c.self.inside.octets in
    let n : ℕ = c.self.inside.readable in
    let rs : List Range = c.self.inside.ranges in
    let at : ℕ = c.args.distance in
    let new : List ℕ = c.args.octets.now in
    let within : at + length new ≤ length (receive_view octets n rs).kept = subst (λ (b : ReceiveView). at + length new ≤ length b.kept) (sym c.self.view_is) c.requires in
    let none : length new ≡ 0 → ⊥ = eqb-false (length new) 0 (sym c.is_empty.ensures ∙ c.if-is_empty.false) in
    let some : 0 < length new = omega (arith, none) in
    ap (λ (k : ℕ). nat_le k 32) c.len_with.ensures
    ∙ ahead_taken octets n rs c.self.invariant at new within some (omega (arith, c.if-distance-eq0.false))
    ∙ ap (λ (b : ReceiveView). is_taken b at new) c.self.view_is
