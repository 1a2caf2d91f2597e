use Rattle.std.proofs.Common.{ap}
use Rattle.sockets.specs.Causes as table
use Rattle.sockets.specs.declared.role.Leave.TheVariants.{Close}
use Rattle.host.specs.declared.host.Host.TheInside.{Inside}
use Rattle.host.proofs.Ran.{called, unrefused}
use Rattle.host.proofs.host.Host.close.Goals as goal

pub invariant_of-self : goal.invariant_of-self
invariant_of-self c =
    called c.close.result (table.Leaves Close c.args.id) c.close.new.self (ap (λ (h : Inside). h.layers) c.self-inside.view_is) c.self.view_is c.sound.ensures.sound c.self.invariant tt tt (unrefused c.close.result _ c.close.ensures.refused) c.close.ensures.ok c.close.ensures.err
