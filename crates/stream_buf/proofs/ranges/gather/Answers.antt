use Rattle.std.proofs.Common.{◌≡◌, ◌<◌, min, List, length, get_or, ◌∙◌, ap, arith}
use Rattle.arrayvec.specs.ArrayVec.{ArrayVec}
use Rattle.stream_buf.specs.declared.ranges.Range.{Range}
use Rattle.stream_buf.specs.Ranges.{range, hull}
use Rattle.stream_buf.proofs.Gathering.{passed, taken}
use Rattle.stream_buf.proofs.ranges.gather.Goals as goal
use Rattle.stream_buf.proofs.ranges.gather.Goals.{then-range-joined, else-range-joined+then-range-joined-2}

pub loop-preserved : goal.loop-preserved
loop-preserved c =
    let l : List Range = c.loop.list.items in
    let r : Range = get_or c.deref.result.now c.loop.place (range 0 0) in
    let was = c.loop.invariant in
    let there : c.loop.place < length l = omega (arith, was.passed, c.loop-test.true, c.len-end.ensures.value) in
    let is : r ≡ get_or l c.loop.place (range 0 0) = ap (λ (rs : List Range). get_or rs c.loop.place (range 0 0)) c.deref.ensures.0 in
    elim c.if-range-joined.branch [
      | then-range-joined w ↦
          let same : length c.if-range-joined.list.items ≡ length l = ap (λ (v : ArrayVec Range). length v.items) w.list-is in
          let step = passed l c.loop.place r c.loop.joined (range 0 0) there is w.if-range-joined.true in
          record {
            place = omega (arith, same, there, w.place-is);
            passed = omega (arith, same, was.passed, w.place-is);
            joined = was.joined ∙ step ∙ cc;
            first = λ zero. let start = (was.first zero).1 in absurd (omega (arith, start, w.if-range-joined.true));
          }
      | else-range-joined+then-range-joined-2 w ↦
          let same : length c.if-range-joined.list.items ≡ length w.remove.new.self.items = ap (λ (v : ArrayVec Range). length v.items) w.list-is in
          let step = taken l c.loop.place r c.loop.joined (range 0 0) there is w.if-range-joined.false w.if-range-joined-2.true in
          let hulled : c.if-range-joined.joined ≡ hull r c.loop.joined = w.joined-is ∙ w.hull-joined.ensures in
          record {
            place = omega (arith, same, there, w.place-is, w.remove.ensures.len);
            passed = omega (arith, same, was.passed, w.place-is, w.remove.ensures.len);
            joined = was.joined ∙ step ∙ cc;
            first = λ zero.
                let start = (was.first zero).1 in
                let least : min r.start c.loop.joined.start ≡ 0 = omega (arith, start) in
                (w.place-is ∙ (was.first zero).0, ap (λ (s : Range). s.start) hulled ∙ least);
          }
    ]
