use Rattle.udp_link.proofs.SendLemmas.{sent_twice}
use Rattle.udp_link.proofs.link.hand_over.Goals as goal

pub returns-in_ok-sent-in-Twice-clause-sent : goal.returns-in_ok-sent-in-Twice-clause-sent
returns-in_ok-sent-in-Twice-clause-sent g c = rw c.in-Twice.is (sent_twice _ _ _ _ _ c.in_ok-sent-in-Twice.ensures.sent c.sent-in-Twice-2.ensures.sent)
