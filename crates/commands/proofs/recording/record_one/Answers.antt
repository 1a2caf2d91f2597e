use Rattle.commands.proofs.RecordingLemmas.{record_of_event, cut_as}
use Rattle.commands.proofs.recording.record_one.Goals as goal

pub returns-in-Some-clause-err : goal.returns-in-Some-clause-err
returns-in-Some-clause-err g c =
    cut_as _ _ _ _ _ (record_of_event c.args.world.now.seen.network.frames c.args.clocks _ _ c.in-Emit-Frame.side c.in-Emit-Frame.index c.in-Emit-Frame.len-1
    c.of.result c.in-Some.octets.now c.in-Emit-Frame.is-0 c.in-Emit-Frame.is-1 c.in-Some.ensures c.of.ensures)
    c.write_record.ensures.err
