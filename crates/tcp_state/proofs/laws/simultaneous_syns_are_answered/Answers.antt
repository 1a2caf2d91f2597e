use Rattle.tcp_state.proofs.SynAnswers.{syn_answered, reset_refuses}
use Rattle.tcp_state.proofs.laws.simultaneous_syns_are_answered.Goals as goal

pub returns : goal.returns
returns c = record { answered = syn_answered; reset = reset_refuses }
