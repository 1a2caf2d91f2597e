use Rattle.host.specs.Runs.{Emits}
use Rattle.host.proofs.Ran.{ran}
use Rattle.host.proofs.host.Host.next_frame.Goals as goal

pub invariant_of-self : goal.invariant_of-self
invariant_of-self c = ran (Emits c.args.now) c.next_frame.new.self c.self.view_is c.sound.ensures.sound c.self.invariant tt tt (λ config. tt) c.next_frame.ensures.after
