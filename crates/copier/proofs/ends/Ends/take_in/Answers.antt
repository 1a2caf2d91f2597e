use Rattle.std.proofs.Common.{take}
use Rattle.copier.proofs.Passing.{carries-given, carries-keeps}
use Rattle.copier.proofs.ends.Ends.take_in.Goals as goal

pub returns-in-Ok-Some-clause-passes : goal.returns-in-Ok-Some-clause-passes
returns-in-Ok-Some-clause-passes g c =
    let carries = carries-given _ _ c.args.to (take c.in-Ok-Some.len c.recv.new.frame) c.args.self.now c.hear.new.self (rw c.in-Ok-Some.field-0-is at c.in-Ok-Some.ensures.told) c.hear.ensures.hears in
    record { failed = rw c.in-Ok-Some.is at c.recv.ensures.failures; fault = tt; told = carries-keeps _ _ c.args.self.now c.hear.new.self carries; carries = carries }
