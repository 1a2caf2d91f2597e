use Rattle.copier.proofs.Passing.{keeps-then, carries-then}
use Rattle.copier.proofs.ends.Ends.carry.Goals as goal

pub returns-in_err-from_b-clause-told : goal.returns-in_err-from_b-clause-told
returns-in_err-from_b-clause-told g c = keeps-then _ _ _ (rw c.tick.ensures.told at c.in_ok-from_a.ensures.passes.told) c.in_err-from_b.ensures.passes.told

pub returns-in_err-to_b-clause-told : goal.returns-in_err-to_b-clause-told
returns-in_err-to_b-clause-told g c = keeps-then _ _ _ (keeps-then _ _ _ (rw c.tick.ensures.told at c.in_ok-from_a.ensures.passes.told) c.in_ok-from_b.ensures.passes.told) c.in_err-to_b.ensures.passes.told

pub returns-in_err-to_a-clause-told : goal.returns-in_err-to_a-clause-told
returns-in_err-to_a-clause-told g c = keeps-then _ _ _ (keeps-then _ _ _ (keeps-then _ _ _ (rw c.tick.ensures.told at c.in_ok-from_a.ensures.passes.told) c.in_ok-from_b.ensures.passes.told) c.in_ok-to_b.ensures.passes.told) c.in_err-to_a.ensures.passes.told

pub returns-clause-told : goal.returns-clause-told
returns-clause-told g c = keeps-then _ _ _ (keeps-then _ _ _ (keeps-then _ _ _ (rw c.tick.ensures.told at c.in_ok-from_a.ensures.passes.told) c.in_ok-from_b.ensures.passes.told) c.in_ok-to_b.ensures.passes.told) c.in_ok-to_a.ensures.passes.told

pub returns-clause-carries : goal.returns-clause-carries
returns-clause-carries g c =
    carries-then _ _ _ c.args.self.now c.pass_all-3.new.self c.pass_all-4.new.self
    (carries-then _ _ _ c.args.self.now c.pass_all-2.new.self c.pass_all-3.new.self
    (carries-then _ _ _ c.args.self.now c.pass_all.new.self c.pass_all-2.new.self (rw c.tick.ensures.told at c.in_ok-from_a.ensures.passes.carries) c.in_ok-from_b.ensures.passes.carries) c.in_ok-to_b.ensures.passes.carries) c.in_ok-to_a.ensures.passes.carries
