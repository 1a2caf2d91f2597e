use Rattle.std.proofs.Common.{◌≡◌, ℕ, suc, List, length, map, sym, ◌∙◌, ap, subst, arith}
use Rattle.std.proofs.lemmas.List.{length-map}
use Rattle.std.specs.List.{refill}
use Rattle.stream_buf.specs.declared.ranges.Range.{Range}
use Rattle.stream_buf.specs.Ranges.{AreApart, nearer}
use Rattle.stream_buf.specs.Scoreboard.{passed}
use Rattle.stream_buf.proofs.Joining.{apart_before}
use Rattle.stream_buf.proofs.Gathering.{refilled}
use Rattle.stream_buf.proofs.Scoreboards.{ahead, ahead_past, passed_apart, passed_are}
use Rattle.stream_buf.proofs.ranges.Ranges.pass.Goals as goal

-- what is left, once each of those that stay is told from the further place
left_is : (count : ℕ) (rs left slice moved : List Range) → left ≡ ahead count rs → slice ≡ left → moved ≡ map (nearer count) slice
    → refill (length left) left moved ≡ passed count rs
left_is count rs left slice moved kept same nearer_by =
    let is : moved ≡ map (nearer count) left = nearer_by ∙ ap (λ (l : List Range). map (nearer count) l) same in
    refilled left moved (ap length is ∙ length-map left (nearer count)) ∙ is ∙ ap (λ (l : List Range). map (nearer count) l) kept ∙ passed_are count rs

pub move_nearer-requires : goal.move_nearer-requires
move_nearer-requires c =
    let rs : List Range = c.self.inside.list.items in
    subst (AreApart c.args.count) (sym (c.deref_mut.ensures.value ∙ c.keep_past.ensures))
    (apart_before (ahead c.args.count rs) (suc c.args.count) c.args.count (omega arith) (ahead_past c.args.count rs 1 c.self.invariant))

pub invariant_of-self : goal.invariant_of-self
invariant_of-self c =
    let rs : List Range = c.self.inside.list.items in
    subst (AreApart 1) (sym (left_is c.args.count rs c.keep_past.new.list.items c.deref_mut.result.now c.move_nearer.new.ranges c.keep_past.ensures c.deref_mut.ensures.value c.move_nearer.ensures))
    (passed_apart c.args.count rs c.self.invariant)

pub returns-clause-ranges : goal.returns-clause-ranges
returns-clause-ranges c =
    left_is c.args.count c.self.inside.list.items c.keep_past.new.list.items c.deref_mut.result.now c.move_nearer.new.ranges c.keep_past.ensures c.deref_mut.ensures.value c.move_nearer.ensures
    ∙ ap (λ (l : List Range). passed c.args.count l) c.self.view_is

pub returns-clause-apart : goal.returns-clause-apart
returns-clause-apart c = invariant_of-self c
