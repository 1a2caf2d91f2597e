use Rattle.std.proofs.Common.{map, refl}
use Rattle.udp_socket.specs.SocketView.{line_of, waiting_of}
use Rattle.udp_socket.proofs.Rooms.{room_tested}
use Rattle.udp_socket.proofs.laws.room.Goals as goal

pub returns-clause-received : goal.returns-clause-received
returns-clause-received c = λ s len. let test = room_tested (line_of s.inbox) len refl in (test.1, test.0)

pub returns-clause-sent : goal.returns-clause-sent
returns-clause-sent c = λ s len. let test = room_tested (line_of (map waiting_of s.outbox)) len refl in (test.1, test.0)
