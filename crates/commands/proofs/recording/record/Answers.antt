use Rattle.std.proofs.Common.{refl, ◌∙◌}
use Rattle.commands.proofs.RecordingLemmas.{none_recorded, recorded_more, record_cut, header_cut, all_recorded, whole_taken}
use Rattle.commands.proofs.recording.record.Goals as goal

pub loop-happening-init : goal.loop-happening-init
loop-happening-init g c = record { failures = refl; recorded = none_recorded _ _ _ c.new-clocks.ensures }

pub returns-in_err-write_all-clause-taken : goal.returns-in_err-write_all-clause-taken
returns-in_err-write_all-clause-taken g c =
    header_cut _ _ c.args.world.now.seen _ _ c.file_head.result c.from_residual.ensures.1 c.file_head.ensures c.in_err-write_all.ensures.err

pub returns-in_err-record_one-clause-taken : goal.returns-in_err-record_one-clause-taken
returns-in_err-record_one-clause-taken g c =
    record_cut _ _ c.args.world.now.seen c.trace-happening-items.result.now _ c.happening-item.result _ _ _ _ _ c.file_head.result
    c.from_residual-in_err-record_one.ensures.1 c.trace-happening-items.ensures.trace c.loop-happening-test.true c.happening-item.is c.file_head.ensures
    c.in_ok-write_all.ensures.ok c.loop-happening.invariant.recorded c.in_err-record_one.ensures.err

pub loop-happening-preserved : goal.loop-happening-preserved
loop-happening-preserved g c = record {
  failures = c.in_ok-record_one.ensures.failures ∙ c.loop-happening.invariant.failures;
  recorded = recorded_more c.args.world.now.seen c.trace-happening-items.result.now _ c.happening-item.result _ _ _ _ _ c.trace-happening-items.ensures.trace
      c.loop-happening-test.true c.happening-item.is c.after-clocks.ensures c.loop-happening.invariant.recorded c.in_ok-record_one.ensures.ok;
}

pub returns-clause-taken : goal.returns-clause-taken
returns-clause-taken g c =
    whole_taken c.flush.result c.args.world.now.seen _ _ _
    (all_recorded c.args.world.now.seen c.trace-happening-items.result.now _ _ _ _ _ c.file_head.result c.trace-happening-items.ensures.trace
    c.loop-happening-test.false c.file_head.ensures c.in_ok-write_all.ensures.ok c.loop-happening.invariant.recorded)
    c.flush.ensures.taken c.flush.ensures.fault
