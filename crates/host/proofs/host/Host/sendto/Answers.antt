use Rattle.std.proofs.Common.{ap}
use Rattle.sockets.specs.Causes as table
use Rattle.host.specs.declared.host.Host.TheInside.{Inside}
use Rattle.host.proofs.Ran.{called, answered}
use Rattle.host.proofs.host.Host.sendto.Goals as goal

pub invariant_of-self : goal.invariant_of-self
invariant_of-self c =
    called c.sendto.result (table.SendsTo c.args.id c.args.peer c.args.octets.now c.is_routed.result) c.sendto.new.self (ap (λ (h : Inside). h.layers) c.self-inside.view_is) c.self.view_is c.sound.ensures.sound c.self.invariant tt c.is_routed.ensures (answered c.sendto.result _ c.sendto.ensures.answer) c.sendto.ensures.ok c.sendto.ensures.err
