-- One leaf joins.
use Rattle.std.proofs.Common.{◌≡◌, ◌+◌, ◌/◌, ◌∙◌, length, ap, arith}
use Rattle.std.proofs.lemmas.List.{map_push, length-map}
use Rattle.marks.specs.Tree.{key, keys}
use Rattle.marks.proofs.Leasts.{carried, changed_push}
use Rattle.marks.proofs.deadlines.Deadlines.push.Goals as goal

pub climb-requires-clause-tree : goal.climb-requires-clause-tree
climb-requires-clause-tree c =
    let nodes = c.self.inside.nodes.items in
    let moments = c.self.inside.moments.items in
    let leaf : (c.len.result + c.len-2.result) / 2 ≡ (length nodes + length (keys moments)) / 2 = omega (arith, length-map moments key) in
    carried _ _ _ _ _ nodes _ _ leaf leaf c.deref_mut.ensures.value (ap keys (c.deref.ensures.0 ∙ c.push.ensures.items) ∙ map_push key moments c.args.deadline)
    (changed_push nodes (keys moments) (key c.args.deadline) c.self.invariant.1.tree)
