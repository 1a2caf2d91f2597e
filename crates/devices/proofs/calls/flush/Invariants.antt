use Rattle.std.proofs.Common.{◌-◌, ◌≤◌, replicate, Some}
use Rattle.std.specs.Io.KnownBytes.{Keeps}
use Rattle.std.specs.declared.io.ErrorKind.TheVariants.{Interrupted}
use Rattle.devices.specs.declared.calls.TheConstants.{MOST_AGAIN}
use Rattle.devices.specs.Calls.{Ends}
use Rattle.devices.proofs.calls.flush.Given as goal

abbrev pub invariant-loop-again : goal.invariant-loop-again
invariant-loop-again g l = record {
  few : l.again ≤ MOST_AGAIN;
  kept : Keeps (g.W.Writer.contents l.initial.writer) (g.W.Writer.contents l.writer);
  ends : Ends (g.W.Writer.ends l.initial.writer) (g.W.Writer.ends l.writer) (replicate l.again (Some Interrupted));
}

abbrev pub decreases-loop-again : goal.decreases-loop-again
decreases-loop-again g l = MOST_AGAIN - l.again
