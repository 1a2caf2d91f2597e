use Rattle.host.proofs.Dropped.{cache-alone, unchanged, learnt-alone}
use Rattle.host.proofs.laws.dropped_frames_change_the_cache_alone.Goals as goal

pub returns-clause-alone : goal.returns-clause-alone
returns-clause-alone c = cache-alone

pub returns-clause-unchanged : goal.returns-clause-unchanged
returns-clause-unchanged c = unchanged

pub returns-clause-learnt : goal.returns-clause-learnt
returns-clause-learnt c = learnt-alone
