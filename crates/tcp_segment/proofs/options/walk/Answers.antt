use Rattle.std.proofs.Common.{◌≢◌, ℕ, ◌-◌, List, Some, None, take, drop, length, get_or, sym, ◌∙◌, arith}
use Rattle.std.proofs.lemmas.List.{length-take}
use Rattle.std.proofs.lemmas.Result.{err_from_is_err_and}
use Rattle.tcp_segment.specs.declared.fault.SegmentFault.TheVariants.{UpperHeader}
use Rattle.tcp_segment.proofs.Results.{ok_or_ok, ok_or_err}
use Rattle.tcp_segment.proofs.Walk.{at_none, at_option, at_wrong_body, at_no_option, at_end, at_nothing, body_shorter}
use Rattle.tcp_segment.proofs.OptionLists.{answered}
use Rattle.tcp_segment.proofs.options.walk.Goals as goal

pub loop-rest-preserved-in-1 : goal.loop-rest-preserved-in-1
loop-rest-preserved-in-1 c = sym (at_none c.loop-rest.rest.now c.loop-rest.told (omega arith) (omega arith)) ∙ c.loop-rest.invariant

pub loop-rest-smaller : goal.loop-rest-smaller
loop-rest-smaller c =
    let xs = c.loop-rest.rest.now in
    let ok = c.in_ok-body-in_default-kind in
    let tail : List ℕ = take (length xs - 1) (drop 1 xs) in
    omega (arith, body_shorter tail ok.body.now ok.after.now ok.ensures.ok, length-take (length xs - 1) (drop 1 xs))

pub returns-in-0 : goal.returns-in-0
returns-in-0 c =
    answered c.args.options.now c.loop-rest.rest.now c.loop-rest.told (Some c.loop-rest.told) UpperHeader c.loop-rest.invariant
    (at_end c.loop-rest.rest.now c.loop-rest.told (omega arith) (omega arith))

pub returns : goal.returns
returns c =
    answered c.args.options.now c.loop-rest.rest.now c.loop-rest.told (Some c.loop-rest.told) UpperHeader c.loop-rest.invariant
    (at_nothing c.loop-rest.rest.now c.loop-rest.told (omega arith))

pub loop-rest-preserved : goal.loop-rest-preserved
loop-rest-preserved c =
    let xs = c.loop-rest.rest.now in
    let ok = c.in_ok-body-in_default-kind in
    let no_end : get_or xs 0 0 ≢ 0 = λ e. absurd (omega arith) in
    let no_none : get_or xs 0 0 ≢ 1 = λ e. absurd (omega arith) in
    let told = ok_or_ok _ _ _ _ c.with.ensures c.in_ok-told-in_default-kind.was in
    sym (at_option xs ok.body.now ok.after.now c.loop-rest.told _ (omega arith) no_end no_none ok.ensures.ok told) ∙ c.loop-rest.invariant

pub returns-in_err-body-in_default-kind : goal.returns-in_err-body-in_default-kind
returns-in_err-body-in_default-kind c =
    let xs = c.loop-rest.rest.now in
    let no_end : get_or xs 0 0 ≢ 0 = λ e. absurd (omega arith) in
    let no_none : get_or xs 0 0 ≢ 1 = λ e. absurd (omega arith) in
    let err = c.in_err-body-in_default-kind.ensures.err in
    let p = err_from_is_err_and c.from_residual.result c.from_residual.ensures.1 in
    rw (p.1, p.2, err.1)
    (answered c.args.options.now xs c.loop-rest.told None UpperHeader c.loop-rest.invariant
    (at_no_option xs c.loop-rest.told (omega arith) no_end no_none err.0))

pub returns-in_err-told-in_default-kind : goal.returns-in_err-told-in_default-kind
returns-in_err-told-in_default-kind c =
    let xs = c.loop-rest.rest.now in
    let ok = c.in_ok-body-in_default-kind in
    let no_end : get_or xs 0 0 ≢ 0 = λ e. absurd (omega arith) in
    let no_none : get_or xs 0 0 ≢ 1 = λ e. absurd (omega arith) in
    let none = ok_or_err _ _ _ _ c.with.ensures c.in_err-told-in_default-kind.was in
    let p = err_from_is_err_and c.from_residual-in_err-told-in_default-kind.result c.from_residual-in_err-told-in_default-kind.ensures.1 in
    rw (p.1, p.2, none.1)
    (answered c.args.options.now xs c.loop-rest.told None UpperHeader c.loop-rest.invariant
    (at_wrong_body xs ok.body.now ok.after.now c.loop-rest.told (omega arith) no_end no_none ok.ensures.ok none.0))
