-- The first node is the key of the least of all.
use Rattle.std.proofs.Common.{◌≡◌, ◌∙◌, sym, ap, arith, None, Option}
use Rattle.std.specs.List.{fold}
use Rattle.std.proofs.lemmas.List.{get_or_default}
use Rattle.clock.specs.declared.moment.Moment.{Moment}
use Rattle.clock.specs.Moments.{sooner}
use Rattle.fixed_vec.specs.FixedVec.{FixedVec}
use Rattle.marks.specs.Tree.{never, key}
use Rattle.marks.proofs.Spans.{least_root, key-early, key-never}
use Rattle.marks.proofs.deadlines.Deadlines.least.Goals as goal

pub returns-then-least-lt-LAST : goal.returns-then-least-lt-LAST
returns-then-least-lt-LAST c =
    let nodes = c.self.inside.nodes.items in
    let moments = c.self.inside.moments.items in
    let sound = c.self.invariant.1 in
    let root : key (fold sooner None moments) ≡ c.index-least.result.now =
    least_root nodes moments sound.even sound.top (omega (arith, sound.held, sound.room)) sound.tree ∙ get_or_default nodes 1 never _ sound.top ∙ sym c.index-least.ensures
    in
    sym (key-early (fold sooner None moments) c.index-least.result.now root c.if-least-lt-LAST.true) ∙ ap (λ (v : FixedVec (Option Moment)). fold sooner None v.items) c.self.view_is

pub returns-then-least : goal.returns-then-least
returns-then-least c =
    let nodes = c.self.inside.nodes.items in
    let moments = c.self.inside.moments.items in
    let sound = c.self.invariant.1 in
    let root : key (fold sooner None moments) ≡ never =
    least_root nodes moments sound.even sound.top (omega (arith, sound.held, sound.room)) sound.tree ∙ get_or_default nodes 1 never _ sound.top ∙ sym c.index-least.ensures ∙ c.if-least.true
    in
    sym (key-never (fold sooner None moments) root) ∙ ap (λ (v : FixedVec (Option Moment)). fold sooner None v.items) c.self.view_is
