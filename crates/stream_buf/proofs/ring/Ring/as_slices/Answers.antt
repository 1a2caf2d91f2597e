use Rattle.std.proofs.Common.{ℕ, ◌++◌, List, take, drop, ◌∙◌, ap}
use Rattle.stream_buf.specs.Ring.{Buffer}
use Rattle.stream_buf.proofs.Turning.{first_of_parts}
use Rattle.stream_buf.proofs.ring.Ring.as_slices.Goals as goal

pub returns : goal.returns
returns c =
    let start : ℕ = c.self.inside.start in
    let len : ℕ = c.self.inside.len in
    let front : List ℕ = c.split_at.result.1.now in
    let back : List ℕ = c.split_at.result.0.now in
    first_of_parts front back len c.min-in_front.result c.min-in_front.ensures
    ∙ ap (λ (xs : List ℕ). take len (xs ++ back)) (c.split_at.ensures.back ∙ ap (λ (xs : List ℕ). drop start xs) c.as_slice.ensures.value)
    ∙ ap (λ (xs : List ℕ). take len (drop start c.self.inside.block.items ++ xs))
    (c.split_at.ensures.front ∙ ap (λ (xs : List ℕ). take start xs) c.as_slice.ensures.value)
    ∙ ap (λ (b : Buffer). b.items) c.self.view_is
