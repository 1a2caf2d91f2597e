use Rattle.std.proofs.Common.{◌≡◌, ℕ, ◌<◌, ◌≤◌, List, length, get_or, set, sym, ◌∙◌, ap, subst, arith}
use Rattle.std.proofs.lemmas.List.{get_or_default}
use Rattle.std.proofs.lemmas.List.Edits.{map_over_more}
use Rattle.stream_buf.specs.declared.ranges.Range.{Range}
use Rattle.stream_buf.specs.Ranges.{range, nearer}
use Rattle.stream_buf.proofs.Gathering.{apart_at, unmoved}
use Rattle.stream_buf.proofs.ranges.move_nearer.Goals as goal

pub nearer-requires : goal.nearer-requires
nearer-requires c =
    let rs : List Range = c.args.ranges.now in
    let i : ℕ = c.loop-range.range-index in
    let same : get_or c.loop-range.ranges i (range 0 0) ≡ get_or rs i (range 0 0) =
    ap (λ (l : List Range). get_or l i (range 0 0)) c.loop-range.invariant ∙ unmoved (nearer c.args.count) rs i (range 0 0) c.loop-range-test.true in
    subst (λ (r : Range). (c.args.count ≤ r.start) × (r.start < r.end)) (sym same) (apart_at rs c.args.count i (range 0 0) c.requires c.loop-range-test.true)

pub loop-range-preserved : goal.loop-range-preserved
loop-range-preserved c =
    let i : ℕ = c.loop-range.range-index in
    let l : List Range = c.loop-range.ranges in
    let r : Range = get_or l i (range 0 0) in
    let below : i < length l = omega (arith, c.loop-range-test.true, c.loop-range.auto.ranges) in
    ap (λ (s : Range). set l i s) c.nearer.ensures
    ∙ map_over_more (nearer c.args.count) c.args.ranges.now l i r c.loop-range-test.true c.loop-range.invariant (get_or_default l i (range 0 0) r below)
