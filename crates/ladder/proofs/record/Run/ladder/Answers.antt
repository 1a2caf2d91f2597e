use Rattle.std.proofs.Common.{◌≡◌, ◌<◌, ◌∙◌, ap, subst, get_or, length}
use Rattle.ladder.specs.Arrivals.{has_number}
use Rattle.ladder.specs.Ladder.{RunView}
use Rattle.ladder.proofs.Told.{told_more}
use Rattle.ladder.proofs.record.Run.ladder.Goals as goal

pub loop-thing-preserved : goal.loop-thing-preserved
loop-thing-preserved c =
    let place = c.loop-thing.thing-index in
    let thing = c.thing-item.result in
    let item : thing ≡ get_or c.args.self.now.happened place thing =
    c.thing-item.is ∙ ap (λ (r : RunView). get_or r.happened place thing) c.self.view_is in
    let within : place < length c.args.self.now.happened = subst (λ (r : RunView). place < length r.happened) c.self.view_is c.loop-thing-test.true in
    told_more c.args.self.now place thing (has_number c.in_ok-ever.ever) (has_number c.loop-thing.seen.arrivals) (has_number c.push_happened.new.seen.arrivals)
    c.loop-thing.ladder.items c.push_happened.new.ladder.items c.loop-thing.seen.syns.items c.push_happened.new.seen.syns.items within item c.in_ok-ever.ensures
    c.loop-thing.invariant c.in_ok-push_happened.ensures.line c.in_ok-push_happened.ensures.syns c.in_ok-push_happened.ensures.arrivals
