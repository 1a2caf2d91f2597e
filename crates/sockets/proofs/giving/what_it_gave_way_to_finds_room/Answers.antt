use Rattle.sockets.proofs.GivenRoom.{gone, others_stay, other_stays, segment_placed, socket_placed}
use Rattle.sockets.proofs.giving.what_it_gave_way_to_finds_room.Goals as goal

pub returns : goal.returns
returns c = record { gone = λ h x o there may. gone h o x there may; others = others_stay; stays = other_stays; segment = segment_placed; socket = socket_placed }
