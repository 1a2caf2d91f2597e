use Rattle.std.proofs.Common.{◌≡◌, length, arith, ap, ◌∙◌}
use Rattle.arp.specs.Cache.{after_sender}
use Rattle.arp.proofs.Fronts.{front_changed, front_changed-set, front_changed-length}
use Rattle.arp.proofs.cache.update.Goals as goal

pub loop-pair-preserved : goal.loop-pair-preserved
loop-pair-preserved c =
    front_changed-set (after_sender c.args.sender) c.args.pairs.now c.loop-pair.pairs c.loop-pair.pair-index _ _ c.loop-pair.invariant (omega arith) c.hear.ensures

pub returns : goal.returns
returns c =
    let all : c.loop-pair.pair-index ≡ length c.args.pairs.now = omega arith in
    c.loop-pair.invariant
    ∙ ap (λ k. front_changed (after_sender c.args.sender) k c.args.pairs.now) all
    ∙ front_changed-length (after_sender c.args.sender) c.args.pairs.now
