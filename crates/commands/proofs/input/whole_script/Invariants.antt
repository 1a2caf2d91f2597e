use Rattle.std.proofs.Common.{◌≡◌, ◌-◌, vec_len}
use Rattle.std.specs.Io.KnownBytes.{Consumes}
use Rattle.commands.proofs.input.whole_script.Given as goal

abbrev pub invariant-loop-script : goal.invariant-loop-script
invariant-loop-script g l = record {
  failures : g.R.Source.failures l.script ≡ g.R.Source.failures l.initial.script;
  read : Consumes (g.R.Source.remaining l.initial.script) (g.R.Source.remaining l.script) l.octets.items;
}

abbrev pub decreases-loop-script : goal.decreases-loop-script
decreases-loop-script g l = 1000001 - vec_len l.octets
