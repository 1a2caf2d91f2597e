use Rattle.wire_sim.proofs.rounds.RoundsHaveRoom.{told-with-room}
use Rattle.commands.proofs.sim.go_round.Goals as goal

pub returns-clause-came : goal.returns-clause-came
returns-clause-came c =
    let round = c.round.ensures in
    rw c.in_ok-make_room.ensures.seen at (told-with-room c.args.writer c.args.reader_id c.round.result _ _ c.in_ok-make_room.ensures.room round.rounds round.refused round.stopped)
