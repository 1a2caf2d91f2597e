use Rattle.std.proofs.Common.{◌≡◌, length, string_bytes}
use Rattle.commands.proofs.CapturedLemmas.{IsShownSoFar}
use Rattle.commands.proofs.captured.show_all.Given as goal

abbrev pub invariant-loop-record : goal.invariant-loop-record
invariant-loop-record g l = record {
  failures : g.W.Sink.failures l.out ≡ g.W.Sink.failures l.initial.out;
  shown : IsShownSoFar l.initial.capture l.capture l.number (g.W.Sink.taken l.initial.out) (g.W.Sink.taken l.out) (string_bytes l.initial.lines) (string_bytes l.lines);
}

abbrev pub decreases-loop-record : goal.decreases-loop-record
decreases-loop-record g l = length l.capture.octets
