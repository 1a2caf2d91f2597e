use Rattle.wire_sim.proofs.two_ends.Meets.{syn_opened, syn_ack_opens, ack_confirms}
use Rattle.wire_sim.proofs.duties.heard_connects_open.Goals as goal

pub returns : goal.returns
returns c = record { syn = syn_opened; syn_ack = syn_ack_opens; acknowledgement = ack_confirms }
