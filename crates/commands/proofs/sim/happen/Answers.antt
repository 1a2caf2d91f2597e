use Rattle.commands.proofs.RoomLemmas.{comes_to, one_taken_up}
use Rattle.commands.proofs.sim.happen.Goals as goal

pub returns-clause-came : goal.returns-clause-came
returns-clause-came c =
    let step = c.step.ensures in
    comes_to c.args.event c.step.result c.args.world.now c.step.new.self c.requires step.unfair step.refused step.taken step.memory

pub returns-clause-room : goal.returns-clause-room
returns-clause-room c =
    let step = c.step.ensures in
    one_taken_up c.args.event c.step.result c.args.world.now c.step.new.self step.unfair step.refused step.taken step.memory step.room
