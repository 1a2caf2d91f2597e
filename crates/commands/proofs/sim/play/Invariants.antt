use Rattle.std.proofs.Common.{◌≡◌, take, string_bytes}
use Rattle.commands.specs.Play.{IsPlayed}
use Rattle.commands.proofs.sim.play.Given as goal

abbrev pub invariant-loop-command : goal.invariant-loop-command
invariant-loop-command g l = record {
  failures : g.W.Sink.failures l.out ≡ g.W.Sink.failures l.initial.out;
  played : IsPlayed l.initial.world.seen l.world.seen (take l.command-index l.commands) (g.W.Sink.taken l.initial.out) (g.W.Sink.taken l.out) (string_bytes l.initial.lines) (string_bytes l.lines);
}
