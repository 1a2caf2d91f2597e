use Rattle.std.proofs.Common.{refl}
use Rattle.recorder.proofs.Writing.{whole_record, cut_head, cut_octets}
use Rattle.recorder.proofs.write.write_record.Goals as goal

pub returns-in_err-write_all-clause-err : goal.returns-in_err-write_all-clause-err
returns-in_err-write_all-clause-err g c =
    cut_head c.from_residual.result _ _ _ _ c.args.frame.now (c.record_head.ensures c.args.frame.now refl) c.in_err-write_all.ensures.err

pub returns-clause-ok : goal.returns-clause-ok
returns-clause-ok g c =
    whole_record c.write_all-2.result _ _ _ _ _ c.args.frame.now (c.record_head.ensures c.args.frame.now refl) c.in_ok-write_all.ensures.ok c.write_all-2.ensures.ok

pub returns-clause-err : goal.returns-clause-err
returns-clause-err g c =
    cut_octets c.write_all-2.result _ _ _ _ _ c.args.frame.now (c.record_head.ensures c.args.frame.now refl) c.in_ok-write_all.ensures.ok c.write_all-2.ensures.err
