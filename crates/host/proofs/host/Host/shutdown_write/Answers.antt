use Rattle.std.proofs.Common.{ap}
use Rattle.sockets.specs.Causes as table
use Rattle.host.specs.declared.host.Host.TheInside.{Inside}
use Rattle.host.proofs.Ran.{called, unrefused}
use Rattle.host.proofs.host.Host.shutdown_write.Goals as goal

pub invariant_of-self : goal.invariant_of-self
invariant_of-self c =
    called c.shutdown_write.result (table.Shuts c.args.id) c.shutdown_write.new.self (ap (λ (h : Inside). h.layers) c.self-inside.view_is) c.self.view_is c.sound.ensures.sound c.self.invariant tt tt (unrefused c.shutdown_write.result _ c.shutdown_write.ensures.refused) c.shutdown_write.ensures.ok c.shutdown_write.ensures.err
