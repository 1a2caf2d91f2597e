use Rattle.std.proofs.Common.{rules, arith}
use Rattle.frames.proofs.Layers.{all_octets}
use Rattle.host.specs.Runs.{Delivers}
use Rattle.host.proofs.Ran.{ran}
use Rattle.host.proofs.host.Host.deliver.Goals as goal

pub invariant_of-self : goal.invariant_of-self
invariant_of-self c =
    ran (Delivers c.args.now c.args.isn.0 c.args.frame.now) c.deliver.new.self c.self.view_is c.sound.ensures.sound c.self.invariant (search rules) (all_octets c.args.frame.now (λ i. omega (arith, c.type_inv.frame i))) (λ config. tt) (c.deliver.result, c.deliver.ensures)
