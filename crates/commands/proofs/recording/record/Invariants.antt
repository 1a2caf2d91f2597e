use Rattle.std.proofs.Common.{◌≡◌}
use Rattle.commands.proofs.RecordingLemmas.{IsRecordedUpTo}
use Rattle.commands.proofs.recording.record.Given as goal

abbrev pub invariant-loop-happening : goal.invariant-loop-happening
invariant-loop-happening g l = record {
  failures : g.W.Sink.failures l.out ≡ g.W.Sink.failures l.initial.out;
  recorded : IsRecordedUpTo l.world.seen l.happening-index l.clocks (g.W.Sink.taken l.initial.out) (g.W.Sink.taken l.out);
}
