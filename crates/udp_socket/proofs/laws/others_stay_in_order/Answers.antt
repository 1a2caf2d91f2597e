use Rattle.udp_socket.proofs.Places.{brought_between, due_brought}
use Rattle.udp_socket.proofs.laws.others_stay_in_order.Goals as goal

pub returns-clause-later : goal.returns-clause-later
returns-clause-later c = brought_between

pub returns-clause-peer : goal.returns-clause-peer
returns-clause-peer c = due_brought
