use Rattle.recorder.proofs.Writing.{captures_more, captures_front}
use Rattle.recorder.proofs.link.RecordedLink.record.Goals as goal

pub returns-then-self-clause-captures : goal.returns-then-self-clause-captures
returns-then-self-clause-captures g c = λ before frames so_far.
    captures_more c.write_record.result c.is_ok-self.result before _ _ frames c.args.self.now.clock c.args.frame.now c.is_ok-self.ensures.value
    c.write_record.ensures.ok c.write_record.ensures.err (rw c.if-self.true at so_far)

pub returns-else-self-clause-captures : goal.returns-else-self-clause-captures
returns-else-self-clause-captures g c = λ before frames so_far.
    rw c.if-self.false (captures_front before _ frames c.args.self.now.clock c.args.frame.now (rw c.if-self.false at so_far))
