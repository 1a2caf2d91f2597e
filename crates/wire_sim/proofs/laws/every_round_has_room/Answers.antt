use Rattle.wire_sim.proofs.rounds.RoundsHaveRoom.{rounds-have-room}
use Rattle.wire_sim.proofs.laws.every_round_has_room.Goals as goal

pub returns : goal.returns
returns c = rounds-have-room
