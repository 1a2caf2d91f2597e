use Rattle.tcp_state.proofs.ThreeSteps.{listener_answers, syn_ack_opens, ack_confirms}
use Rattle.tcp_state.proofs.laws.openings_take_three_steps.Goals as goal

pub returns : goal.returns
returns c = record { answers = listener_answers; opens = syn_ack_opens; confirms = ack_confirms }
