use Rattle.std.proofs.Common.{inr, refl}
use Rattle.script.proofs.ScriptLemmas.{bad_here, read_one_more, good_if, bad_if}
use Rattle.script.proofs.lines.Script.parse.Goals as goal

pub returns-then-not-branch-clause-bad : goal.returns-then-not-branch-clause-bad
returns-then-not-branch-clause-bad c =
    let found = bad_here _ _ _ _ _ _ _ c.loop-index.invariant c.loop-index-test.true c.in_ok-item.ensures.item
    (bad_if _ _ c.in_ok-add.ensures.good c.if-not-branch.true) in
    inr (rw found refl)

pub loop-index-preserved : goal.loop-index-preserved
loop-index-preserved c =
    read_one_more _ _ _ _ _ _ _ _ _ c.loop-index.invariant c.loop-index-test.true c.in_ok-item.ensures.item
    (good_if _ _ c.in_ok-add.ensures.good c.if-not-branch.false) (c.in_ok-add.ensures.stage c.if-not-branch.false) (c.in_ok-add.ensures.scales c.if-not-branch.false) c.in_ok-add.ensures.commands
    (c.in_ok-add.ensures.limit c.if-not-branch.false)
