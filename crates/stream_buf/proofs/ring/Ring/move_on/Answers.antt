use Rattle.std.proofs.Common.{◌≡◌, ℕ, ◌+◌, ◌-◌, ◌≤◌, List, length, take, drop, ◌∙◌, ap, arith}
use Rattle.std.proofs.lemmas.List.{length-take}
use Rattle.stream_buf.specs.Ring.{Buffer, buffer, turned}
use Rattle.stream_buf.proofs.Turning.{dropped_on, dropped_round}
use Rattle.stream_buf.proofs.ring.Ring.move_on.Goals as goal
use Rattle.stream_buf.proofs.ring.Ring.move_on.Goals.{then-count-to_end, else-count-to_end}

pub returns : goal.returns
returns c =
    let block : List ℕ = c.self.inside.block.items in
    let start : ℕ = c.self.inside.start in
    let len : ℕ = c.self.inside.len in
    let count : ℕ = c.args.count in
    let there : start ≤ length block = c.self.invariant.0.there in
    let within : len ≤ length block = c.self.invariant.0.fits in
    let size : c.len.result ≡ length block = c.len.ensures ∙ c.self.inside.block.ok.0 in
    let seen = ap (λ (b : Buffer). length b.items) c.self.view_is in
    let less : count ≤ len = omega (arith, seen, length-take len (turned start block), c.requires) in
    let items : take (len - count) (turned c.if-count-to_end.self block) ≡ drop count (take len (turned start block)) =
    elim c.if-count-to_end.branch [
      | then-count-to_end w ↦
          let fits : start + count ≤ length block = omega (arith, w.if-count-to_end.true, size, there) in
          ap (λ (s : ℕ). take (len - count) (turned s block)) w.self-is ∙ dropped_on block start len count there within less fits
      | else-count-to_end w ↦
          let past : length block ≤ start + count = omega (arith, w.if-count-to_end.false, size, there) in
          ap (λ (s : ℕ). take (len - count) (turned s block)) w.self-is
          ∙ ap (λ (n : ℕ). take (len - count) (turned (count - (n - start)) block)) size
          ∙ dropped_round block start len count there within less past
    ] in
    ap (λ (xs : List ℕ). buffer xs c.self.inside.capacity) items ∙ ap (λ (b : Buffer). buffer (drop count b.items) b.capacity) c.self.view_is
