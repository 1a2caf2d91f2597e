-- One leaf leaves.
use Rattle.std.proofs.Common.{◌≡◌, ◌+◌, ◌-◌, ◌/◌, ◌∙◌, length, ap, Option, arith}
use Rattle.std.proofs.lemmas.List.{length-map}
use Rattle.clock.specs.declared.moment.Moment.{Moment}
use Rattle.fixed_vec.specs.FixedVec.{FixedVec}
use Rattle.marks.specs.Tree.{key, keys}
use Rattle.marks.proofs.Leasts.{carried, changed_remove}
use Rattle.marks.proofs.Spans.{keys_remove}
use Rattle.marks.proofs.deadlines.Deadlines.remove.Goals as goal

pub renew-requires-clause-tree : goal.renew-requires-clause-tree
renew-requires-clause-tree c =
    let nodes = c.self.inside.nodes.items in
    let moments = c.self.inside.moments.items in
    let from : (c.len.result + c.args.place) / 2 ≡ (length nodes + c.args.place) / 2 = omega arith in
    let to : (c.len-2.result + (c.len-3.result - 1)) / 2 ≡ (length nodes + (length (keys moments) - 1)) / 2 = omega (arith, length-map moments key) in
    carried _ _ _ _ _ nodes _ _ from to c.deref_mut.ensures.value (ap keys (c.deref.ensures.0 ∙ c.remove.ensures.items) ∙ keys_remove moments c.args.place)
    (changed_remove nodes (keys moments) c.args.place (omega (arith, length-map moments key, ap (λ (v : FixedVec (Option Moment)). length v.items) c.self.view_is)) c.self.invariant.1.tree)
