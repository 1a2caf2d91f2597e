-- Two hosts of two addresses and two MACs, on which nothing happened, are the beginning of every run.
use Rattle.std.proofs.Common.{◌≡◌, ◌∙◌, false, sym}
use Rattle.wire_sim.specs.WorldView.{are_alike}
use Rattle.wire_sim.proofs.runs.FieldsAreReached.{unalike, reached-made, fresh-made}
use Rattle.wire_sim.proofs.world.World.with_limit.Goals as goal

pub of-requires : goal.of-requires
of-requires c =
    let apart : are_alike c.args.a c.args.b ≡ false =
    unalike c.args.a c.args.b c.addr.result c.addr-2.result c.mac.result c.mac-else-eq.result c.addr.ensures c.addr-2.ensures c.mac.ensures c.mac-else-eq.ensures (sym c.eq.ensures ∙ c.if-eq.false) (sym c.eq-else-eq.ensures ∙ c.if-eq-2.false) in
    reached-made c.args.limit c.args.a c.args.b c.new-a.result c.new-b.result c.sound.ensures c.sound-2.ensures apart c.requires.1 c.new-a.ensures.host c.new-b.ensures.host

pub returns-clause-fresh : goal.returns-clause-fresh
returns-clause-fresh c = fresh-made c.args.limit c.args.a c.args.b c.new-a.result c.new-b.result c.of.result c.new-a.ensures.host c.new-b.ensures.host c.of.ensures.had c.of.ensures.seen
