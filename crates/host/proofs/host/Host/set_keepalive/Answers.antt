use Rattle.std.proofs.Common.{ap}
use Rattle.sockets.specs.Causes as table
use Rattle.host.specs.declared.host.Host.TheInside.{Inside}
use Rattle.host.proofs.Ran.{called, unrefused}
use Rattle.host.proofs.host.Host.set_keepalive.Goals as goal

pub invariant_of-self : goal.invariant_of-self
invariant_of-self c =
    called c.set_keepalive.result (table.SetsKeepAlive c.args.id c.args.every) c.set_keepalive.new.self (ap (λ (h : Inside). h.layers) c.self-inside.view_is) c.self.view_is c.sound.ensures.sound c.self.invariant tt tt (unrefused c.set_keepalive.result _ c.set_keepalive.ensures.refused) c.set_keepalive.ensures.ok c.set_keepalive.ensures.err
