use Rattle.std.proofs.Common.{◌≡◌, ℕ, ◌+◌, ◌-◌, true, List, length, take, reverse, sym, ◌∙◌, ap, subst, arith}
use Rattle.std.proofs.lemmas.Iterator.Adapters.{YieldsList-from_rev_slice}
use Rattle.std.proofs.lemmas.Iterator.Consumers.{YieldsList-turn, YieldsList-end}
use Rattle.std.proofs.lemmas.List.{length_push, length-take, length-reverse}
use Rattle.stream_buf.specs.declared.ranges.Range.{Range}
use Rattle.stream_buf.specs.declared.scoreboard.Tolerance.{Tolerance}
use Rattle.stream_buf.specs.Ranges.{covered}
use Rattle.stream_buf.specs.Scoreboard.{IsScoreboard, tells_loss}
use Rattle.stream_buf.proofs.Stepping.{sound_one, one_more, found, found_none, told, few_told, little}
use Rattle.stream_buf.proofs.scoreboard.Scoreboard.lost_past.Goals as goal

pub overflow_sub-octets : goal.overflow_sub-octets
overflow_sub-octets c =
    let turn = YieldsList-turn (YieldsList-from_rev_slice c.args.self.now (cc (c.self.view_is, c.as_slice.ensures, c.iter.ensures.rest, c.rev-range-items.ensures.source, c.into_iter-range-iterator.ensures.into_iter_gives))) c.loop-range.yielded _ c.loop-range.yielded_by _ _ c.in-Some.range c.in-Some.is c.next.ensures.steps in
    let one = sound_one c.args.self.now (length c.loop-range.yielded) c.in-Some.range.now turn.0 turn.1 (subst IsScoreboard c.self.view_is c.self.invariant) in
    omega (arith, one.0)

pub overflow_add-octets : goal.overflow_add-octets
overflow_add-octets c =
    let turn = YieldsList-turn (YieldsList-from_rev_slice c.args.self.now (cc (c.self.view_is, c.as_slice.ensures, c.iter.ensures.rest, c.rev-range-items.ensures.source, c.into_iter-range-iterator.ensures.into_iter_gives))) c.loop-range.yielded _ c.loop-range.yielded_by _ _ c.in-Some.range c.in-Some.is c.next.ensures.steps in
    let one = sound_one c.args.self.now (length c.loop-range.yielded) c.in-Some.range.now turn.0 turn.1 (subst IsScoreboard c.self.view_is c.self.invariant) in
    omega (arith, one.1, c.loop-range.invariant.little, c.ranges.most.fits)

pub overflow_cast-result : goal.overflow_cast-result
overflow_cast-result c =
    let turn = YieldsList-turn (YieldsList-from_rev_slice c.args.self.now (cc (c.self.view_is, c.as_slice.ensures, c.iter.ensures.rest, c.rev-range-items.ensures.source, c.into_iter-range-iterator.ensures.into_iter_gives))) c.loop-range.yielded _ c.loop-range.yielded_by _ _ c.in-Some.range c.in-Some.is c.next.ensures.steps in
    let one = sound_one c.args.self.now (length c.loop-range.yielded) c.in-Some.range.now turn.0 turn.1 (subst IsScoreboard c.self.view_is c.self.invariant) in
    omega (arith, one.0, one.1)

pub returns-then-tells_loss-clause-value : goal.returns-then-tells_loss-clause-value
returns-then-tells_loss-clause-value c =
    let rs : List Range = c.args.self.now in
    let t : Tolerance = record { ranges = c.args.few; octets = c.args.most } in
    let n : ℕ = length c.loop-range.yielded in
    let r : Range = c.in-Some.range.now in
    let back : List Range = take (n + 1) (reverse rs) in
    let was = c.loop-range.invariant in
    let turn = YieldsList-turn (YieldsList-from_rev_slice c.args.self.now (cc (c.self.view_is, c.as_slice.ensures, c.iter.ensures.rest, c.rev-range-items.ensures.source, c.into_iter-range-iterator.ensures.into_iter_gives))) c.loop-range.yielded _ c.loop-range.yielded_by _ _ c.in-Some.range c.in-Some.is c.next.ensures.steps in
    let octets : c.loop-range.octets ≡ covered (take n (reverse rs)) = was.octets ∙ ap (λ (k : ℕ). covered (take k (reverse rs))) was.past in
    let next = one_more rs n r turn.0 turn.1 in
    let tells : tells_loss t back ≡ true =
    told t (c.loop-range.past + 1) (c.loop-range.octets + (r.end - r.start)) back (omega (arith, was.past, length-take (n + 1) (reverse rs), turn.0)) (omega (arith, octets, next))
    ∙ sym c.tells_loss.ensures ∙ c.if-tells_loss.true in
    sym (found rs n r turn.0 turn.1 t (little t n c.loop-range.octets rs (omega (arith, was.past, was.there)) (omega (arith, was.past, was.few)) octets was.little) tells)

pub loop-range-preserved : goal.loop-range-preserved
loop-range-preserved c =
    let rs : List Range = c.args.self.now in
    let n : ℕ = length c.loop-range.yielded in
    let r : Range = c.in-Some.range.now in
    let was = c.loop-range.invariant in
    let turn = YieldsList-turn (YieldsList-from_rev_slice c.args.self.now (cc (c.self.view_is, c.as_slice.ensures, c.iter.ensures.rest, c.rev-range-items.ensures.source, c.into_iter-range-iterator.ensures.into_iter_gives))) c.loop-range.yielded _ c.loop-range.yielded_by _ _ c.in-Some.range c.in-Some.is c.next.ensures.steps in
    let octets : c.loop-range.octets ≡ covered (take n (reverse rs)) = was.octets ∙ ap (λ (k : ℕ). covered (take k (reverse rs))) was.past in
    let next = one_more rs n r turn.0 turn.1 in
    let here : covered (take (c.loop-range.past + 1) (reverse rs)) ≡ covered (take (n + 1) (reverse rs)) = ap (λ (k : ℕ). covered (take (k + 1) (reverse rs))) was.past in
    let few = few_told (record { ranges = c.args.few; octets = c.args.most }) (c.loop-range.past + 1) (c.loop-range.octets + (r.end - r.start)) (sym c.tells_loss.ensures ∙ c.if-tells_loss.false) in
    record {
      past = omega (arith, was.past, length_push c.loop-range.yielded c.in-Some.range);
      there = omega (arith, was.past, length-reverse rs, turn.0);
      few = few.0;
      octets = omega (arith, octets, next, here);
      little = few.1;
    }

pub returns-clause-value : goal.returns-clause-value
returns-clause-value c =
    let rs : List Range = c.args.self.now in
    let was = c.loop-range.invariant in
    let turn = YieldsList-end (YieldsList-from_rev_slice c.args.self.now (cc (c.self.view_is, c.as_slice.ensures, c.iter.ensures.rest, c.rev-range-items.ensures.source, c.into_iter-range-iterator.ensures.into_iter_gives))) c.loop-range.yielded _ c.loop-range.yielded_by _ _ c.in-None.is c.next.ensures.steps in
    sym (found_none (record { ranges = c.args.few; octets = c.args.most }) c.loop-range.past rs (omega (arith, turn.1, was.past)) (little (record { ranges = c.args.few; octets = c.args.most }) c.loop-range.past c.loop-range.octets rs was.there was.few was.octets was.little))
