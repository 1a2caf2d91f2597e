use Rattle.std.proofs.Common.{ap}
use Rattle.sockets.specs.Causes as table
use Rattle.host.specs.declared.host.Host.TheInside.{Inside}
use Rattle.host.proofs.Ran.{called, unrefused}
use Rattle.host.proofs.host.Host.connect.Goals as goal

pub invariant_of-self : goal.invariant_of-self
invariant_of-self c =
    called c.connect.result (table.Connects c.args.now c.args.isn.0 c.args.id c.args.peer c.is_routed-is_routed.result) c.connect.new.self (ap (λ (h : Inside). h.layers) c.self-inside.view_is) c.self.view_is c.sound.ensures.sound c.self.invariant c.connect.ensures.numbered c.is_routed-is_routed.ensures (unrefused c.connect.result _ c.connect.ensures.refused) c.connect.ensures.ok c.connect.ensures.err
