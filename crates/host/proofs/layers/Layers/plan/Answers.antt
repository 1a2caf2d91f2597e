-- The first behind the one that sent last, or else the first of all.
use Rattle.std.proofs.Common.{Option, Some, sym, ◌∙◌, ap, subst}
use Rattle.std.specs.Option.{option_or}
use Rattle.sockets.specs.Turns.{IsTurnPlace}
use Rattle.host.specs.HostView.{HostView}
use Rattle.host.specs.declared.emission.Plan.{Plan}
use Rattle.host.specs.Plans.{plan_from}
use Rattle.host.proofs.Planned.{plan_is}
use Rattle.host.proofs.layers.Layers.plan.Goals as goal

pub returns-in-Some-clause-what : goal.returns-in-Some-clause-what
returns-in-Some-clause-what c =
    (plan_is c.args.self.now c.args.now c.turn_place.result (subst (λ (g : HostView). IsTurnPlace g.sockets c.turn_place.result) c.self.view_is c.turn_place.ensures) (Some c.in-Some.plan)
    (sym (ap (λ (o : Option Plan). option_or o (plan_from c.args.self.now c.args.now 0)) (sym c.plan_from.ensures ∙ c.in-Some.is)))).0

pub returns-in-Some-clause-first : goal.returns-in-Some-clause-first
returns-in-Some-clause-first c =
    (plan_is c.args.self.now c.args.now c.turn_place.result (subst (λ (g : HostView). IsTurnPlace g.sockets c.turn_place.result) c.self.view_is c.turn_place.ensures) (Some c.in-Some.plan)
    (sym (ap (λ (o : Option Plan). option_or o (plan_from c.args.self.now c.args.now 0)) (sym c.plan_from.ensures ∙ c.in-Some.is)))).1

pub returns-in-None-clause-what : goal.returns-in-None-clause-what
returns-in-None-clause-what c =
    (plan_is c.args.self.now c.args.now c.turn_place.result (subst (λ (g : HostView). IsTurnPlace g.sockets c.turn_place.result) c.self.view_is c.turn_place.ensures) c.plan_from-in-None.result
    (c.plan_from-in-None.ensures ∙ sym (ap (λ (o : Option Plan). option_or o (plan_from c.args.self.now c.args.now 0)) (sym c.plan_from.ensures ∙ c.in-None.is)))).0

pub returns-in-None-clause-first : goal.returns-in-None-clause-first
returns-in-None-clause-first c =
    (plan_is c.args.self.now c.args.now c.turn_place.result (subst (λ (g : HostView). IsTurnPlace g.sockets c.turn_place.result) c.self.view_is c.turn_place.ensures) c.plan_from-in-None.result
    (c.plan_from-in-None.ensures ∙ sym (ap (λ (o : Option Plan). option_or o (plan_from c.args.self.now c.args.now 0)) (sym c.plan_from.ensures ∙ c.in-None.is)))).1
