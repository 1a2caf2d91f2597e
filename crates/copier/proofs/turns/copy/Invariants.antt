use Rattle.std.proofs.Common.{◌≡◌}
use Rattle.copier.proofs.Turning.{IsGoing}
use Rattle.copier.proofs.turns.copy.Given as goal

abbrev pub invariant-loop : goal.invariant-loop
invariant-loop g l = record {
  read : g.R.Source.failures l.src ≡ g.R.Source.failures l.fn.src;
  written : g.W.Sink.failures l.dst ≡ g.W.Sink.failures l.fn.dst;
  carried : g.L.Link.failures l.link ≡ g.L.Link.failures l.fn.link;
  leads : g.L.Link.leads_to l.fn.link l.link;
  going : IsGoing (g.R.Source.given l.fn.src) (g.W.Sink.taken l.fn.dst) (g.R.Source.given l.src) (g.R.Source.remaining l.src) (g.W.Sink.taken l.dst) (g.L.Link.told l.fn.link) (g.L.Link.told l.link) l.copier;
}
