use Rattle.sockets.proofs.Leaving.{fresh_leaves, room_wide, each_leaves, socket_leaves}
use Rattle.sockets.proofs.laws.quiet_readers_leave_a_window.Goals as goal

pub returns : goal.returns
returns c = record { fresh = fresh_leaves; room = room_wide; event = each_leaves; quiet = socket_leaves }
