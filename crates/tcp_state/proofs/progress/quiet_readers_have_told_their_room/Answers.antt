use Rattle.tcp_state.proofs.ToldRoom.{room_told, whole_told, segment_told}
use Rattle.tcp_state.proofs.progress.quiet_readers_have_told_their_room.Goals as goal

pub returns : goal.returns
returns c = record { told = room_told; whole = whole_told; wide = segment_told }
