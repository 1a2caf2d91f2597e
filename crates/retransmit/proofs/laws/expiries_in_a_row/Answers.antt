use Rattle.retransmit.proofs.Timeouts.{expiries_in_a_row}
use Rattle.retransmit.proofs.laws.expiries_in_a_row.Goals as goal

pub returns : goal.returns
returns c = expiries_in_a_row
