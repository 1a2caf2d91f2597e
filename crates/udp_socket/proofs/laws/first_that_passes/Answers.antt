use Rattle.udp_socket.proofs.FirstThat.{is_place, place_is, none_passes, passes_none, is_within, peer_of, no_peer_of}
use Rattle.udp_socket.proofs.laws.first_that_passes.Goals as goal

pub returns-clause-some : goal.returns-clause-some
returns-clause-some c = λ test outbox place. (is_place test outbox place, place_is test outbox place)

pub returns-clause-none : goal.returns-clause-none
returns-clause-none c = λ test outbox. (none_passes test outbox, passes_none test outbox)

pub returns-clause-within : goal.returns-clause-within
returns-clause-within c = λ test s. is_within test s.outbox

pub returns-clause-peer : goal.returns-clause-peer
returns-clause-peer c = λ test s. peer_of test s.outbox

pub returns-clause-nobody : goal.returns-clause-nobody
returns-clause-nobody c = λ test s. no_peer_of test s.outbox
