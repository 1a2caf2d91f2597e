use Rattle.std.proofs.Common.{◌≡◌, ◌-◌, ◌≤◌, length, replicate, Some}
use Rattle.std.specs.Io.KnownBytes.{Keeps}
use Rattle.std.specs.declared.io.ErrorKind.TheVariants.{Interrupted}
use Rattle.devices.specs.declared.calls.TheConstants.{MOST_AGAIN}
use Rattle.devices.specs.Calls.{Ends}
use Rattle.devices.proofs.calls.read.Given as goal

abbrev pub invariant-loop-again : goal.invariant-loop-again
invariant-loop-again g l = record {
  few : l.again ≤ MOST_AGAIN;
  kept : Keeps (g.R.Reader.remaining l.initial.reader) (g.R.Reader.remaining l.reader);
  ends : Ends (g.R.Reader.ends l.initial.reader) (g.R.Reader.ends l.reader) (replicate l.again (Some Interrupted));
  room : length l.buffer ≡ length l.initial.buffer;
}

abbrev pub decreases-loop-again : goal.decreases-loop-again
decreases-loop-again g l = MOST_AGAIN - l.again
