use Rattle.tcp_state.proofs.AckNumbers.{ack_heard, asking_heard, ack_within, number_next, number_probed}
use Rattle.tcp_state.proofs.laws.acknowledgements_are_heard.Goals as goal

pub returns : goal.returns
returns c = record { heard = ack_heard; asks = asking_heard; within = ack_within; next = number_next; probed = number_probed }
