-- The next is the left one of the two below, or the right one.
use Rattle.std.proofs.Common.{◌≡◌, ◌*◌, ◌+◌, ◌<◌, ◌≤◌, ℕ, arith}
use Rattle.marks.specs.Tree.{keys, at_place}
use Rattle.marks.specs.Walk.{LiesBelow}
use Rattle.marks.proofs.Comings.{next_left, next_right, found_leaf}
use Rattle.marks.proofs.walk.first_leaf.Goals as goal

pub loop-node-preserved-then-at_place-now : goal.loop-node-preserved-then-at_place-now
loop-node-preserved-then-at_place-now c =
    let nodes = c.args.nodes.now in
    let leaves = keys c.args.moments.now in
    let left : ℕ = c.loop-node.node * 2 in
    let twice : left ≡ 2 * c.loop-node.node = omega arith in
    let not_yet : c.args.now < at_place nodes leaves left = omega arith in
    let next : (from : ℕ) → LiesBelow nodes leaves c.args.now from c.loop-node.node → LiesBelow nodes leaves c.args.now from (left + 1) =
    λ from. next_right nodes leaves c.args.now c.requires.tree from c.loop-node.node left twice c.loop-node-test.true not_yet
    in
    let some = c.loop-node.invariant.0 in
    ((some.0, next some.0 some.1), λ from lies. next from (c.loop-node.invariant.1 from lies))

pub loop-node-preserved : goal.loop-node-preserved
loop-node-preserved c =
    let nodes = c.args.nodes.now in
    let leaves = keys c.args.moments.now in
    let left : ℕ = c.loop-node.node * 2 in
    let twice : left ≡ 2 * c.loop-node.node = omega arith in
    let come : at_place nodes leaves left ≤ c.args.now = omega arith in
    let next : (from : ℕ) → LiesBelow nodes leaves c.args.now from c.loop-node.node → LiesBelow nodes leaves c.args.now from left =
    λ from. next_left nodes leaves c.args.now c.requires.tree from c.loop-node.node left twice c.loop-node-test.true come
    in
    let some = c.loop-node.invariant.0 in
    ((some.0, next some.0 some.1), λ from lies. next from (c.loop-node.invariant.1 from lies))

pub returns : goal.returns
returns c = λ from lies.
    found_leaf c.args.nodes.now (keys c.args.moments.now) c.args.now c.requires.tree from c.loop-node.node c.loop-node-test.false (c.loop-node.invariant.1 from lies)
