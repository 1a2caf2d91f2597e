use Rattle.std.proofs.Common.{ℕ, ◌-◌, ◌*◌, length, drop, ◌∙◌, ap, arith}
use Rattle.std.proofs.lemmas.List.{take_all, length-drop}
use Rattle.tcp_segment.specs.Options.{block_in}
use Rattle.tcp_segment.proofs.BlockLists.{pushed}
use Rattle.tcp_segment.proofs.options.blocks_in.Goals as goal

pub loop-i-preserved : goal.loop-i-preserved
loop-i-preserved c =
    let body = c.args.body.now in
    let at : ℕ = 8 * c.loop-i.i in
    pushed c.loop-i.i body c.loop-i.blocks c.push.new.self c.block_in.result (omega arith) c.loop-i.invariant
    (c.block_in.ensures ∙ ap block_in (take_all (length body - at) (drop at body) (omega (arith, length-drop at body)))) c.push.ensures
