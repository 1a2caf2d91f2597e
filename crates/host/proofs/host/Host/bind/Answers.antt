use Rattle.std.proofs.Common.{ap}
use Rattle.sockets.specs.Causes as table
use Rattle.host.specs.declared.host.Host.TheInside.{Inside}
use Rattle.host.proofs.Ran.{called, unrefused}
use Rattle.host.proofs.host.Host.bind.Goals as goal

pub invariant_of-self : goal.invariant_of-self
invariant_of-self c =
    called c.bind.result (table.Binds c.args.id c.args.local) c.bind.new.self (ap (λ (h : Inside). h.layers) c.self-inside.view_is) c.self.view_is c.sound.ensures.sound c.self.invariant tt tt (unrefused c.bind.result _ c.bind.ensures.refused) c.bind.ensures.ok c.bind.ensures.err
