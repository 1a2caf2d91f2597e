use Rattle.udp.proofs.Copying.{copied}
use Rattle.udp.proofs.waiting.copy_of_two.Goals as goal

pub returns : goal.returns
returns c =
    copied c.args.front.now c.args.back.now c.args.out.now c.copy_from_slice.new.self c.copy_from_slice-2.new.self c.args.at c.min-skipped.result c.min-from_front.result
    c.min-skipped.ensures c.min-from_front.ensures c.copy_from_slice.ensures.after c.copy_from_slice-2.ensures.after
