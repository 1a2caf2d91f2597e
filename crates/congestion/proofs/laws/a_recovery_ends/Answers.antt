use Rattle.congestion.proofs.Windows.{recovery-begins}
use Rattle.congestion.proofs.laws.a_recovery_ends.Goals as goal

pub returns-clause-begins : goal.returns-clause-begins
returns-clause-begins c = recovery-begins
