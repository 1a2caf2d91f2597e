use Rattle.std.proofs.Common.{ap}
use Rattle.sockets.specs.Causes as table
use Rattle.host.specs.declared.host.Host.TheInside.{Inside}
use Rattle.host.proofs.Ran.{called, answered}
use Rattle.host.proofs.host.Host.send.Goals as goal

pub invariant_of-self : goal.invariant_of-self
invariant_of-self c =
    called c.send.result (table.Sends c.args.id c.args.octets.now) c.send.new.self (ap (λ (h : Inside). h.layers) c.self-inside.view_is) c.self.view_is c.sound.ensures.sound c.self.invariant tt tt (answered c.send.result _ c.send.ensures.answer) c.send.ensures.ok c.send.ensures.err
