-- The first octet of those that are left goes behind them.
use Rattle.std.proofs.Common.{◌≡◌, ℕ, ◌<◌, List, [], ◌∷◌, ◌++◌, length, drop, sym, ◌∙◌, ap, arith}
use Rattle.std.specs.List.{slice_get}
use Rattle.circular_buffer.specs.Buffer.{Buffer, buffer, keep_last}
use Rattle.udp.proofs.Turning.{turned, length-turned, turned_next, has_first, pushed_whole, length-rest}
use Rattle.udp.proofs.waiting.move_behind.Goals as goal
use Rattle.udp.proofs.waiting.move_behind.Goals.{in-Some, in_default}

pub loop-preserved : goal.loop-preserved
loop-preserved c =
    let xs : List ℕ = c.args.octets.now.items in
    let capacity : ℕ = c.args.octets.now.capacity in
    let i : ℕ = c.loop.counter in
    let held : List ℕ = turned i xs in
    let shown : c.loop.octets ≡ buffer held capacity = c.loop.invariant in
    let below : i < length xs = omega (arith, c.loop-test.true, c.requires.count) in
    let some : 0 < length held = omega (arith, length-turned i xs, below) in
    let popped : c.pop_front.new.self ≡ buffer (drop 1 held) capacity = c.pop_front.ensures.items ∙ ap (λ (b : Buffer ℕ). buffer (drop 1 b.items) b.capacity) shown in
    elim c.match-pop_front.branch [
      | in-Some w ↦
          let octet : ℕ = w.in-Some.octet in
          let room : length (drop 1 held) < capacity = omega (arith, length-rest held some, length-turned i xs, c.requires.within) in
          w.octets-is ∙ w.push_back.ensures.items
          ∙ ap (λ (b : Buffer ℕ). buffer (keep_last b.capacity (b.items ++ octet ∷ [])) b.capacity) popped
          ∙ ap (λ (ys : List ℕ). buffer ys capacity)
          (pushed_whole (drop 1 held) octet capacity room
          ∙ turned_next xs i octet below
          (ap (λ (b : Buffer ℕ). slice_get b.items 0) (sym shown) ∙ sym c.pop_front.ensures.value ∙ w.in-Some.is))
      | in_default w ↦ absurd (has_first held some (ap (λ (b : Buffer ℕ). slice_get b.items 0) (sym shown) ∙ sym c.pop_front.ensures.value ∙ w.in_default.is))
    ]
