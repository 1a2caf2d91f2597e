use Rattle.copier.proofs.Passing.{keeps-then, carries-then}
use Rattle.copier.proofs.ends.Ends.pass_all.Goals as goal

pub returns-in-Ok-false-clause-passes : goal.returns-in-Ok-false-clause-passes
returns-in-Ok-false-clause-passes g c = record {
  failed = rw c.loop.invariant.failed at c.in-Ok-false.ensures.passes.failed;
  fault = tt;
  told = keeps-then _ _ _ c.loop.invariant.told c.in-Ok-false.ensures.passes.told;
  carries = carries-then _ _ _ c.args.self.now c.loop.self c.pass.new.self c.loop.invariant.carries c.in-Ok-false.ensures.passes.carries;
}

pub returns-in-Err-clause-passes : goal.returns-in-Err-clause-passes
returns-in-Err-clause-passes g c = record {
  failed = rw c.loop.invariant.failed at c.in-Err.ensures.passes.failed;
  fault = c.in-Err.ensures.passes.fault;
  told = keeps-then _ _ _ c.loop.invariant.told c.in-Err.ensures.passes.told;
  carries = tt;
}

pub loop-preserved : goal.loop-preserved
loop-preserved g c = record {
  time = c.pass.ensures.time;
  failed = rw c.loop.invariant.failed at c.in-Ok-true.ensures.passes.failed;
  told = keeps-then _ _ _ c.loop.invariant.told c.in-Ok-true.ensures.passes.told;
  leads = g.met.L.Link.leads_on c.args.link.now c.loop.link c.pass.new.link c.loop.invariant.leads c.pass.ensures.leads;
  carries = carries-then _ _ _ c.args.self.now c.loop.self c.pass.new.self c.loop.invariant.carries c.in-Ok-true.ensures.passes.carries;
}
