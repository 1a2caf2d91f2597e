-- The first lies below the first node, or below one that the walk to the right finds, or there is none.
use Rattle.std.proofs.Common.{◌∙◌, ◌<◌, ◌≤◌, sym, ap, arith, length}
use Rattle.std.proofs.lemmas.List.{get_or_default}
use Rattle.clock.specs.Moments.{has_come}
use Rattle.marks.specs.First.{first_from}
use Rattle.marks.specs.Tree.{never, keys, at_place}
use Rattle.marks.proofs.Leasts.{at-node}
use Rattle.marks.proofs.Comings.{none_come, below_root, first_is, first_is_none}
use Rattle.marks.proofs.walk.first_come.Goals as goal

pub returns-then-nodes-now_key : goal.returns-then-nodes-now_key
returns-then-nodes-now_key c =
    let nodes = c.args.nodes.now in
    let leaves = keys c.args.moments.now in
    let late : c.args.now.0 < at_place nodes leaves 1 = omega (arith, at-node nodes leaves 1 c.requires.top, get_or_default nodes 1 never 0 c.requires.top) in
    let none = none_come nodes leaves c.args.now.0 c.requires.tree c.requires.even late in
    sym (first_is_none c.args.moments.now c.args.now (omega arith) c.args.from (length nodes) c.requires.held (λ leaf behind inside. none leaf (omega arith) inside))

pub first_leaf-requires-clause-come : goal.first_leaf-requires-clause-come
first_leaf-requires-clause-come c =
    let nodes = c.args.nodes.now in
    let leaves = keys c.args.moments.now in
    let come : at_place nodes leaves 1 ≤ c.args.now.0 = omega (arith, at-node nodes leaves 1 c.requires.top, get_or_default nodes 1 never 0 c.requires.top) in
    (0, below_root nodes leaves c.args.now.0 c.requires.tree c.requires.even come)

pub returns-then-from-eq0 : goal.returns-then-from-eq0
returns-then-from-eq0 c =
    let nodes = c.args.nodes.now in
    let leaves = keys c.args.moments.now in
    let come : at_place nodes leaves 1 ≤ c.args.now.0 = omega (arith, at-node nodes leaves 1 c.requires.top, get_or_default nodes 1 never 0 c.requires.top) in
    sym (ap (λ n. first_from (λ deadline. has_come deadline c.args.now) n c.args.moments.now) c.if-from-eq0.true
    ∙ first_is c.args.moments.now c.args.now (omega arith) 0 _ (c.first_leaf.ensures 0 (below_root nodes leaves c.args.now.0 c.requires.tree c.requires.even come)))

pub returns-in-Some : goal.returns-in-Some
returns-in-Some c = sym (first_is c.args.moments.now c.args.now (omega arith) c.args.from _ (c.first_leaf-in-Some.ensures c.args.from c.in-Some.ensures))

pub returns-in-None : goal.returns-in-None
returns-in-None c = sym (first_is_none c.args.moments.now c.args.now (omega arith) c.args.from (length c.args.nodes.now) c.requires.held c.in-None.ensures)
