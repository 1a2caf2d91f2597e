use Rattle.udp_socket.proofs.InTime.{those_stay, parts_stay}
use Rattle.udp_socket.proofs.laws.datagrams_are_given_up_in_time.Goals as goal

pub returns-clause-stay : goal.returns-clause-stay
returns-clause-stay c = λ s lost now before_last. those_stay lost now before_last s.outbox

pub returns-clause-parts : goal.returns-clause-parts
returns-clause-parts c = parts_stay
