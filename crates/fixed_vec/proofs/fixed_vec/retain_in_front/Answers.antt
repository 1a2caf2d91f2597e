-- What is kept so far stands in front, and what is not asked yet stands behind.
use Rattle.std.proofs.Common.{◌<◌, length, arith, of_calls}
use Rattle.std.specs.Fn.{CalledAtMut}
use Rattle.std.proofs.lemmas.List.{get_or_default}
use Rattle.std.proofs.RetainMut.{Called-Mut, retain_mut_end}
use Rattle.fixed_vec.proofs.Turns.{retained, discarded}
use Rattle.fixed_vec.proofs.fixed_vec.retain_in_front.Goals.{then-keeps, else-keeps}
use Rattle.fixed_vec.proofs.fixed_vec.retain_in_front.Goals as goal

pub loop-at-preserved : goal.loop-at-preserved
loop-at-preserved g c =
    let turn = c.loop-at in
    let R = CalledAtMut g.F.FnMut in
    let called = Called-Mut g.F.FnMut c.keeps.ensures in
    let within : turn.at < length turn.items = omega arith in
    elim c.if-keeps.branch [
      | then-keeps w ↦ (
        omega arith,
        search of_calls,
        rw (w.items-is, w.kept-is, w.swap.ensures.after)
            (retained R c.args.keeps c.args.items.now turn.keeps _ turn.items turn.kept turn.at _ _ turn.invariant.0 within
            (get_or_default turn.items turn.at _ _ within) turn.invariant.2 (rw w.if-keeps.true at called)),
      )
      | else-keeps w ↦ (
        omega arith,
        search of_calls,
        rw (w.items-is, w.kept-is)
            (discarded R c.args.keeps c.args.items.now turn.keeps _ turn.items turn.kept turn.at _ _ turn.invariant.0 within
            (get_or_default turn.items turn.at _ _ within) turn.invariant.2 (rw w.if-keeps.false at called)),
      )
    ]

pub returns-clause-filtered : goal.returns-clause-filtered
returns-clause-filtered g c =
    let turn = c.loop-at in
    retain_mut_end (CalledAtMut g.F.FnMut) _ _ turn.keeps turn.items turn.kept turn.at (omega arith) turn.invariant.2
