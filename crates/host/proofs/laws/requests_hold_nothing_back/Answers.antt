use Rattle.host.proofs.HeldBack.{table-held}
use Rattle.host.proofs.laws.requests_hold_nothing_back.Goals as goal

pub returns : goal.returns
returns c = table-held
