use Rattle.std.proofs.Common.{◌≡◌, ◌-◌, ◌^◌, vec_len}
use Rattle.std.specs.Io.KnownBytes.{Consumes}
use Rattle.commands.proofs.input.whole.Given as goal

abbrev pub invariant-loop-octets : goal.invariant-loop-octets
invariant-loop-octets g l = record {
  failures : g.R.Source.failures l.text ≡ g.R.Source.failures l.initial.text;
  read : Consumes (g.R.Source.remaining l.initial.text) (g.R.Source.remaining l.text) l.octets.items;
}

abbrev pub decreases-loop-octets : goal.decreases-loop-octets
decreases-loop-octets g l = 2 ^ 64 - vec_len l.octets
