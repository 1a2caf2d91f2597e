use Rattle.std.proofs.Common.{◌≤◌}
use Rattle.std.specs.Fn.{CalledAtMut}
use Rattle.std.proofs.RetainMut.{RetainMutInvariant}
use Rattle.fixed_vec.proofs.fixed_vec.retain_in_front.Given as goal

abbrev pub invariant-loop-at : goal.invariant-loop-at
invariant-loop-at g l = (l.kept ≤ l.at) × goal.F-IsAlwaysCallable g l.keeps
    × RetainMutInvariant (CalledAtMut g.F.FnMut) l.initial.keeps l.initial.items l.keeps l.items l.kept l.at
