use Rattle.sockets.proofs.Grants.{scaled_room, plain_room}
use Rattle.sockets.proofs.granted.buffers_are_as_asked.Goals as goal

pub returns : goal.returns
returns c = record { scaled = scaled_room; plain = plain_room }
