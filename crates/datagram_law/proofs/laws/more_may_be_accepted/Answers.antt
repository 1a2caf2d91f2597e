use Rattle.std.proofs.Common.{◌≡◌}
use Rattle.datagram_law.specs.Carried.{IsOf}
use Rattle.datagram_law.proofs.InTurn.{before, in_turn, still}
use Rattle.datagram_law.proofs.Gathering.{pool_still}
use Rattle.datagram_law.proofs.laws.more_may_be_accepted.Goals as goal

pub returns-clause-in_turn : goal.returns-clause-in_turn
returns-clause-in_turn c = in_turn

pub returns-clause-before : goal.returns-clause-before
returns-clause-before c = before

pub returns-clause-of_one : goal.returns-clause-of_one
returns-clause-of_one c = λ accepted more d of. still (λ a. IsOf a d) accepted more of

pub returns-clause-came : goal.returns-clause-came
returns-clause-came c = λ accepted more source local octets came.
    still (λ a. (a.source ≡ source) × (a.peer ≡ local) × (a.octets ≡ octets)) accepted more came

pub returns-clause-pool : goal.returns-clause-pool
returns-clause-pool c = pool_still
