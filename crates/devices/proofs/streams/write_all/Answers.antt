use Rattle.std.proofs.Common.{◌<◌, ◌∙◌, arith}
use Rattle.devices.proofs.Moving.{taken_more, uncounted}
use Rattle.devices.proofs.streams.write_all.Goals as goal

pub loop-rest-preserved : goal.loop-rest-preserved
loop-rest-preserved g c =
    let some : 0 < c.in_ok-count.count = omega arith in
    record {
      failures = uncounted _ _ _ _ some c.in_ok-count.ensures.failures ∙ c.loop-rest.invariant.failures;
      taken = rw c.split_at.ensures.back (taken_more _ _ _ _ _ _ c.loop-rest.invariant.taken c.in_ok-count.ensures.taken);
    }
