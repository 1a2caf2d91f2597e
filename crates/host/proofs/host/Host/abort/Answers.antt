use Rattle.std.proofs.Common.{ap}
use Rattle.sockets.specs.Causes as table
use Rattle.sockets.specs.declared.role.Leave.TheVariants.{Abort}
use Rattle.host.specs.declared.host.Host.TheInside.{Inside}
use Rattle.host.proofs.Ran.{called, unrefused}
use Rattle.host.proofs.host.Host.abort.Goals as goal

pub invariant_of-self : goal.invariant_of-self
invariant_of-self c =
    called c.abort.result (table.Leaves Abort c.args.id) c.abort.new.self (ap (λ (h : Inside). h.layers) c.self-inside.view_is) c.self.view_is c.sound.ensures.sound c.self.invariant tt tt (unrefused c.abort.result _ c.abort.ensures.refused) c.abort.ensures.ok c.abort.ensures.err
