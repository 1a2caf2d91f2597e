-- One leaf is written, or stands there already.
use Rattle.std.proofs.Common.{◌≡◌, ◌+◌, ◌/◌, ◌∙◌, length, get_or, set, sym, ap, arith, List, Option, None}
use Rattle.std.proofs.lemmas.Grind.{common_steps}
use Rattle.std.proofs.lemmas.List.{set-get_or, map-set}
use Rattle.clock.specs.declared.moment.Moment.{Moment}
use Rattle.fixed_vec.specs.FixedVec.{FixedVec}
use Rattle.marks.specs.Tree.{key, keys}
use Rattle.marks.proofs.Leasts.{carried, changed_set, same-from_eq}
use Rattle.marks.proofs.deadlines.Deadlines.set.Goals as goal

pub returns-then-eq-clause-items : goal.returns-then-eq-clause-items
returns-then-eq-clause-items c =
    let moments = c.args.self.now.items in
    sym (ap (λ (m : Option Moment). set moments c.args.place m) (sym (same-from_eq _ _ (sym c.eq.ensures ∙ c.if-eq.true)))
    ∙ ap (λ (xs : List (Option Moment)). set moments c.args.place (get_or xs c.args.place None)) (c.deref.ensures.0 ∙ ap (λ (v : FixedVec (Option Moment)). v.items) c.self.view_is)
    ∙ set-get_or moments c.args.place None)

pub climb-requires-clause-tree : goal.climb-requires-clause-tree
climb-requires-clause-tree c =
    let nodes = c.self.inside.nodes.items in
    let moments = c.self.inside.moments.items in
    let leaf : (c.len.result + c.args.place) / 2 ≡ (length nodes + c.args.place) / 2 = omega arith in
    let written : c.deref-2.result.now ≡ set moments c.args.place c.args.deadline = grind (arith, common_steps) in
    carried _ _ _ _ _ nodes _ _ leaf leaf c.deref_mut-2.ensures.value (ap keys written ∙ map-set key moments c.args.place c.args.deadline)
    (changed_set nodes (keys moments) c.args.place (key c.args.deadline) c.self.invariant.1.tree)
