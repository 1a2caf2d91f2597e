-- The law of the stream holds of a beginning, as of all that is reached.
use Rattle.wire_sim.specs.Runs.{IsReached}
use Rattle.wire_sim.specs.WorldView.{network_view, world_with}
use Rattle.wire_sim.proofs.runs.RunsAreLawful.{run_lawful}
use Rattle.wire_sim.proofs.runs.FieldsAreReached.{reached-with}
use Rattle.wire_sim.proofs.world.World.of.Goals as goal

pub returns-in-Ok-Ok-clause-lawful : goal.returns-in-Ok-Ok-clause-lawful
returns-in-Ok-Ok-clause-lawful c =
    let n = network_view c.new.result in
    let begun : IsReached c.args.limit (world_with c.in-Ok-Ok.a c.in-Ok-Ok.b c.args.limit) = rw (c.in-Ok-Ok.is-0, c.in-Ok-Ok.is-1) at c.requires in
    run_lawful n.limit (record { network = n; trace = c.new-in-Ok-Ok.result.items }) (reached-with c.args.limit _ _ n c.new-in-Ok-Ok.result.items begun c.new.ensures c.new-in-Ok-Ok.ensures.items)
