use Rattle.std.proofs.Common.{Ok, ap}
use Rattle.sockets.specs.Causes as table
use Rattle.sockets.specs.Ids.{has_id}
use Rattle.host.specs.declared.host.Host.TheInside.{Inside}
use Rattle.host.proofs.Ran.{called}
use Rattle.host.proofs.host.Host.give_way.Goals as goal

pub invariant_of-self : goal.invariant_of-self
invariant_of-self c =
    called {T = Unit {0}} (Ok tt) (table.GivesWay (has_id c.args.id)) c.give_way.new.self (ap (λ (h : Inside). h.layers) c.self-inside.view_is) c.self.view_is c.sound.ensures.sound c.self.invariant tt tt (λ _. tt) c.give_way.ensures tt
