use Rattle.std.proofs.Common.{refl, sym, ◌∙◌, ap, Some, Err, arith, length}
use Rattle.capture.specs.Reading.{Unread}
use Rattle.commands.proofs.CapturedLemmas.{none_shown, shown_more, shorter, ends_way, faulty_way, memory_way, line_way}
use Rattle.commands.proofs.captured.show_all.Goals as goal

pub loop-record-init : goal.loop-record-init
loop-record-init g c = record { failures = refl; shown = none_shown _ _ _ }

pub returns-in_err-record-clause-shown : goal.returns-in_err-record-clause-shown
returns-in_err-record-clause-shown g c =
    faulty_way _ _ _ _ _ _ _ _ c.in_err-record.field-0.0 c.from_residual.ensures.1 (sym c.in-Some.ensures.answer ∙ ap Some c.in_err-record.was)
    c.loop-record.invariant.shown

pub returns-in_err-text-clause-shown : goal.returns-in_err-text-clause-shown
returns-in_err-text-clause-shown g c =
    memory_way _ _ _ _ _ _ _ _ _ _ _ c.from_residual-in_err-text.ensures.1 refl refl refl c.loop-record.invariant.shown

pub returns-in_err-add_line-clause-shown : goal.returns-in_err-add_line-clause-shown
returns-in_err-add_line-clause-shown g c =
    line_way _ _ _ _ c.in_ok-record.field-0 _ _ _ _ _ _ _ _ c.in_err-add_line.field-0.0 c.from_residual-in_err-add_line.ensures.1 c.in_err-add_line.ensures.faults
    (λ sink. rw c.as_str.ensures.value at c.in_err-add_line.ensures.cut (ap Err sink)) (sym c.in-Some.ensures.answer ∙ ap Some c.in_ok-record.was)
    c.next_record.ensures.rest c.loop-record.invariant.shown c.in_ok-text.ensures

pub overflow_add-number : goal.overflow_add-number
overflow_add-number g c =
    let taken = shorter c.loop-record.capture.header c.loop-record.capture.octets c.in_ok-record.field-0 (sym c.in-Some.ensures.answer ∙ ap Some c.in_ok-record.was) in
    omega (arith, c.loop-record.invariant.shown.fits, taken, c.requires)

pub loop-record-smaller : goal.loop-record-smaller
loop-record-smaller g c =
    let taken = shorter c.loop-record.capture.header c.loop-record.capture.octets c.in_ok-record.field-0 (sym c.in-Some.ensures.answer ∙ ap Some c.in_ok-record.was) in
    omega (arith, ap (λ (u : Unread). length u.octets) c.next_record.ensures.rest, taken)

pub loop-record-preserved : goal.loop-record-preserved
loop-record-preserved g c = record {
  failures = c.in_ok-add_line.ensures.written ∙ c.loop-record.invariant.failures;
  shown = shown_more _ _ _ _ c.in_ok-record.field-0 _ _ _ _ _ _ _ (sym c.in-Some.ensures.answer ∙ ap Some c.in_ok-record.was)
      c.next_record.ensures.rest c.loop-record.invariant.shown c.in_ok-text.ensures (rw c.as_str.ensures.value at c.in_ok-add_line.ensures.added);
}

pub returns-clause-shown : goal.returns-clause-shown
returns-clause-shown g c = ends_way _ _ _ _ _ _ _ tt (sym c.in_default.ensures.answer) c.loop-record.invariant.shown
