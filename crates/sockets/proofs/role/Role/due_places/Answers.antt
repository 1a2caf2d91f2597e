-- There is one segment at most, and a datagram in each place.
use Rattle.sockets.proofs.Emitting.{datagrams_few, segments_few}
use Rattle.sockets.proofs.role.Role.due_places.Goals as goal

pub returns-in-Connected : goal.returns-in-Connected
returns-in-Connected c = segments_few c.args.self.now c.in-Connected.connection c.in-Connected.listener c.in-Connected.is

pub returns-in-Datagrams : goal.returns-in-Datagrams
returns-in-Datagrams c = datagrams_few c.args.self.now c.in-Datagrams.bound c.in-Datagrams.socket c.waiting.result c.in-Datagrams.is c.waiting.ensures
