use Rattle.std.proofs.Common.{◌≡◌, ℕ, ◌+◌, ◌-◌, ◌^◌, ◌<◌, Bool, not, List, [], ◌∷◌, ◌++◌, length, get_or, take, sym, ◌∙◌, ap, arith}
use Rattle.std.proofs.lemmas.List.{get_or_default}
use Rattle.stream_buf.specs.declared.ranges.Range.{Range}
use Rattle.stream_buf.specs.Ranges.{range}
use Rattle.tcp_segment.specs.declared.blocks.Block.{Block}
use Rattle.tcp_halves.specs.Blocks.{block_of, has_place}
use Rattle.tcp_halves.proofs.Runs.{ranges_fit}
use Rattle.tcp_halves.proofs.Gathered.{both_at, front_passes, front_stays, both_pass}
use Rattle.tcp_halves.proofs.receiver.Receiver.blocks.Invariants.{lacks_place}
use Rattle.tcp_halves.proofs.receiver.Receiver.blocks.Goals as goal
use Rattle.tcp_halves.proofs.receiver.Receiver.blocks.Goals.{then-has_place, else-has_place}

pub block_of-requires : goal.block_of-requires
block_of-requires c =
    let few : length c.self.inside.buffer.kept < 2 ^ 32 = omega (arith, c.self.invariant.3.places, c.self.invariant.1) in
    ranges_fit c.self.inside.buffer.kept c.kept_ranges-ranges.result.now c.loop-range.range-index (range 0 0) c.kept_ranges-ranges.ensures few c.loop-range-test.true

pub loop-range-preserved : goal.loop-range-preserved
loop-range-preserved c =
    let f : Range → Block = block_of c.self.inside.rnext.0 in
    let p : Range → Bool = has_place c.past-place.result in
    let q : Range → Bool = lacks_place c.past-place.result in
    let rs : List Range = c.kept_ranges-ranges.result.now in
    let i : ℕ = c.loop-range.range-index in
    let r : Range = get_or rs i (range 0 0) in
    let is : get_or rs i r ≡ r = sym (get_or_default rs i (range 0 0) r c.loop-range-test.true) in
    elim c.if-has_place.branch [
      | then-has_place w ↦
          w.blocks-is ∙ w.push.ensures
          ∙ ap (λ (b : Block). take 4 (c.loop-range.blocks ++ b ∷ [])) w.block_of.ensures
          ∙ ap (λ (l : List Block). take 4 (l ++ f r ∷ [])) c.loop-range.invariant
          ∙ front_passes f p q rs i r c.loop-range-test.true is (sym c.has_place.ensures ∙ w.if-has_place.true)
      | else-has_place w ↦ w.blocks-is ∙ c.loop-range.invariant ∙ front_stays f p q rs i r c.loop-range-test.true is (sym c.has_place.ensures ∙ w.if-has_place.false)
    ]

pub block_of-requires-then-not-has_place : goal.block_of-requires-then-not-has_place
block_of-requires-then-not-has_place c =
    let few : length c.self.inside.buffer.kept < 2 ^ 32 = omega (arith, c.self.invariant.3.places, c.self.invariant.1) in
    let below : c.loop-index.index - 1 < length c.kept_ranges-ranges.result.now = omega (arith, c.loop-index-test.true, c.loop-index.invariant.within) in
    ranges_fit c.self.inside.buffer.kept c.kept_ranges-ranges.result.now (c.loop-index.index - 1) (range 0 0) c.kept_ranges-ranges.ensures few below

pub loop-index-preserved-then-not-has_place : goal.loop-index-preserved-then-not-has_place
loop-index-preserved-then-not-has_place c =
    let f : Range → Block = block_of c.self.inside.rnext.0 in
    let p : Range → Bool = has_place c.past-place.result in
    let q : Range → Bool = lacks_place c.past-place.result in
    let rs : List Range = c.kept_ranges-ranges.result.now in
    let k : ℕ = c.loop-index.index - 1 in
    let r : Range = get_or rs k (range 0 0) in
    let below : k < length rs = omega (arith, c.loop-index-test.true, c.loop-index.invariant.within) in
    let next : c.loop-index.index ≡ k + 1 = omega (arith, c.loop-index-test.true) in
    let is : get_or rs k r ≡ r = sym (get_or_default rs k (range 0 0) r below) in
    record {
      within = omega (arith, below);
      gathered =
          c.push-then-not-has_place.ensures
          ∙ ap (λ (b : Block). take 4 (c.loop-index.blocks ++ b ∷ [])) c.block_of-then-not-has_place.ensures
          ∙ ap (λ (l : List Block). take 4 (l ++ f r ∷ [])) (c.loop-index.invariant.gathered ∙ ap (both_at f p q rs) next)
          ∙ both_pass f p q rs k r below is (ap not (sym c.has_place-in-loop-index.ensures ∙ c.if-not-has_place.true));
    }
