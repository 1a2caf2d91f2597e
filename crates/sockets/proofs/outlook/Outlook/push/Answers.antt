-- What is noted of a further entry is true of it.
use Rattle.std.proofs.Common.{◌∷◌, [], ◌++◌, Bool, Option, ◌∙◌, ap, refl}
use Rattle.clock.specs.declared.moment.Moment.{Moment}
use Rattle.sockets.proofs.Outlooks.{outlook_joined}
use Rattle.sockets.proofs.outlook.Outlook.push.Goals as goal

pub returns : goal.returns
returns c = λ most entries known.
    outlook_joined c.args.self.now _ most entries c.args.entry.now known refl
    (c.push.ensures.items ∙ ap (λ (b : Bool). c.args.self.now.busy.items ++ b ∷ []) c.is_busy.ensures) c.push.ensures.most
    (c.push-2.ensures.items ∙ ap (λ (b : Bool). c.args.self.now.pending.items ++ b ∷ []) c.is_pending.ensures) c.push-2.ensures.most
    (c.push-3.ensures.items ∙ ap (λ (d : Option Moment). c.args.self.now.deadlines.items ++ d ∷ []) c.deadline.ensures) c.push-3.ensures.most
