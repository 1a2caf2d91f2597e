use Rattle.std.proofs.Common.{ℕ, [], ◌∷◌, ◌∙◌, ap, length}
use Rattle.tcp_segment.proofs.Sending.{room_for_blocks, with_blocks}
use Rattle.tcp_segment.proofs.head.Head.write_report.Goals as goal

pub write-requires : goal.write-requires
write-requires c =
    room_for_blocks c.args.self.now c.copy_from_slice.new.self c.args.out.now c.requires.syn c.requires.some c.report_len.ensures.few
    (ap length c.copy_from_slice.ensures.after) c.requires.room

pub returns : goal.returns
returns c =
    with_blocks c.args.self.now c.copy_from_slice.new.self c.write.new.out c.args.out.now c.requires.syn c.requires.some c.report_len.ensures.few
    (c.copy_from_slice.ensures.after ∙ ap (λ (n : ℕ). 1 ∷ 1 ∷ 5 ∷ n ∷ []) c.report_len.ensures.value) c.write.ensures
