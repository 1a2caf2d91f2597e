use Rattle.std.proofs.Common.{◌≡◌}
use Rattle.devices.specs.Time.{IsToldTime}
use Rattle.copier.specs.Moves.{KeepsTold, Carries}
use Rattle.copier.proofs.ends.Ends.pass_all.Given as goal

abbrev pub invariant-loop : goal.invariant-loop
invariant-loop g l = record {
  time : IsToldTime (g.L.Link.clock l.link) l.self.clock;
  failed : g.L.Link.failures l.link ≡ g.L.Link.failures l.fn.link;
  told : KeepsTold (g.L.Link.told l.fn.link) (g.L.Link.told l.link);
  leads : g.L.Link.leads_to l.fn.link l.link;
  carries : Carries (g.L.Link.told l.fn.link) (g.L.Link.told l.link) l.fn.self l.self;
}
