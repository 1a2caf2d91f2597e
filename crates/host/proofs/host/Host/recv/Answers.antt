use Rattle.std.proofs.Common.{length, ap}
use Rattle.sockets.specs.Causes as table
use Rattle.host.specs.declared.host.Host.TheInside.{Inside}
use Rattle.host.proofs.Ran.{called, answered}
use Rattle.host.proofs.host.Host.recv.Goals as goal

pub invariant_of-self : goal.invariant_of-self
invariant_of-self c =
    called c.recv.result (table.Receives c.args.id (length c.args.buffer.now)) c.recv.new.self (ap (λ (h : Inside). h.layers) c.self-inside.view_is) c.self.view_is c.sound.ensures.sound c.self.invariant tt tt (answered c.recv.result _ c.recv.ensures.answer) c.recv.ensures.ok c.recv.ensures.err
