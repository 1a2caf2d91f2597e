use Rattle.std.proofs.Common.{ap}
use Rattle.host.specs.declared.host.Host.TheInside.{Inside}
use Rattle.host.proofs.Ran.{made}
use Rattle.host.proofs.host.Host.socket.Goals as goal

pub invariant_of-self : goal.invariant_of-self
invariant_of-self c =
    made c.socket.result c.args.kind c.socket.new.self (ap (λ (h : Inside). h.layers) c.self-inside.view_is) c.self.view_is c.sound.ensures.sound c.self.invariant c.socket.ensures.full c.socket.ensures.ok c.socket.ensures.err
