use Rattle.std.proofs.Common.{◌≡◌, ℕ, suc, List, ◌∷◌, length, map, refl, sym, ◌∙◌, ap, subst, arith}
use Rattle.std.proofs.lemmas.List.{length-map}
use Rattle.std.specs.List.{insert}
use Rattle.stream_buf.specs.declared.ranges.Range.{Range}
use Rattle.stream_buf.specs.Ranges.{range, AreApart, with_range, nearer, further}
use Rattle.stream_buf.proofs.Joining.{apart_before}
use Rattle.stream_buf.proofs.Gathering.{left_apart, left_nearer, left_further, refilled}
use Rattle.stream_buf.proofs.ranges.Ranges.join_front.Goals as goal

pub move_nearer-requires : goal.move_nearer-requires
move_nearer-requires c =
    let left : List Range = c.gather.new.list.items in
    let joined : Range = c.gather.result.1 in
    let first = c.gather.ensures.first refl in
    let is : with_range c.self.inside.list.items (range 0 c.args.end) ≡ joined ∷ left = c.gather.ensures.joined ∙ ap (λ (n : ℕ). insert left n joined) first.0 in
    subst (AreApart joined.end) (sym c.deref_mut.ensures.value)
    (apart_before left (suc joined.end) joined.end (omega arith) (left_apart c.self.inside.list.items left c.args.end joined c.self.invariant c.requires first.1 is))

pub invariant_of-self : goal.invariant_of-self
invariant_of-self c =
    let left : List Range = c.gather.new.list.items in
    let joined : Range = c.gather.result.1 in
    let first = c.gather.ensures.first refl in
    let is : with_range c.self.inside.list.items (range 0 c.args.end) ≡ joined ∷ left = c.gather.ensures.joined ∙ ap (λ (n : ℕ). insert left n joined) first.0 in
    let moved : c.move_nearer.new.ranges ≡ map (nearer joined.end) left = c.move_nearer.ensures ∙ ap (λ (l : List Range). map (nearer joined.end) l) c.deref_mut.ensures.value in
    let same : length c.move_nearer.new.ranges ≡ length left = ap length moved ∙ length-map left (nearer joined.end) in
    subst (AreApart 1) (sym (refilled left c.move_nearer.new.ranges same ∙ moved))
    (left_nearer c.self.inside.list.items left c.args.end joined c.self.invariant c.requires first.1 is)

pub returns-clause-apart : goal.returns-clause-apart
returns-clause-apart c =
    let left : List Range = c.gather.new.list.items in
    let joined : Range = c.gather.result.1 in
    let first = c.gather.ensures.first refl in
    let is : with_range c.self.inside.list.items (range 0 c.args.end) ≡ joined ∷ left = c.gather.ensures.joined ∙ ap (λ (n : ℕ). insert left n joined) first.0 in
    let moved : c.move_nearer.new.ranges ≡ map (nearer joined.end) left = c.move_nearer.ensures ∙ ap (λ (l : List Range). map (nearer joined.end) l) c.deref_mut.ensures.value in
    let same : length c.move_nearer.new.ranges ≡ length left = ap length moved ∙ length-map left (nearer joined.end) in
    subst (AreApart 1) (sym (refilled left c.move_nearer.new.ranges same ∙ moved))
    (left_nearer c.self.inside.list.items left c.args.end joined c.self.invariant c.requires first.1 is)

pub returns-clause-ranges : goal.returns-clause-ranges
returns-clause-ranges c =
    let left : List Range = c.gather.new.list.items in
    let joined : Range = c.gather.result.1 in
    let first = c.gather.ensures.first refl in
    let is : with_range c.self.inside.list.items (range 0 c.args.end) ≡ joined ∷ left = c.gather.ensures.joined ∙ ap (λ (n : ℕ). insert left n joined) first.0 in
    let moved : c.move_nearer.new.ranges ≡ map (nearer joined.end) left = c.move_nearer.ensures ∙ ap (λ (l : List Range). map (nearer joined.end) l) c.deref_mut.ensures.value in
    let same : length c.move_nearer.new.ranges ≡ length left = ap length moved ∙ length-map left (nearer joined.end) in
    ap (λ (rs : List Range). with_range rs (range 0 c.args.end)) (sym c.self.view_is)
    ∙ left_further c.self.inside.list.items left c.args.end joined c.self.invariant c.requires first.1 is
    ∙ ap (λ (l : List Range). range 0 joined.end ∷ map (further joined.end) l) (sym (refilled left c.move_nearer.new.ranges same ∙ moved))
