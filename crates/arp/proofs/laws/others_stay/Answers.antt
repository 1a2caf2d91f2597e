use Rattle.arp.proofs.Kept.{others_stay, others_stay_not_ours}
use Rattle.arp.proofs.laws.others_stay.Goals as goal

pub returns-clause-room : goal.returns-clause-room
returns-clause-room c = others_stay

pub returns-clause-not_ours : goal.returns-clause-not_ours
returns-clause-not_ours c = others_stay_not_ours
