-- A frame that was dropped finds no room at the same after it.
use Rattle.std.proofs.Common.{◌∙◌, ℕ, length, Err, Result, ap, subst}
use Rattle.frames.specs.declared.drop.DropCause.{DropCause}
use Rattle.host.specs.Arrival.{IsDelivered}
use Rattle.host.specs.GiveWay.{with_way}
use Rattle.host.specs.HostView.{HostView}
use Rattle.host.specs.Lack.{lack}
use Rattle.counters.specs.declared.counters.Counters.{Counters}
use Rattle.counters.specs.Counting.{after_refusal, raised}
use Rattle.counters.proofs.Alike.{refused_alike}
use Rattle.counters.proofs.counters.Counters.deliver.Goals as goal

pub returns-in-Err-clause-counted : goal.returns-in-Err-clause-counted
returns-in-Err-clause-counted c =
    let h : HostView = with_way c.args.host.now c.args.frame.now in
    let dropped : IsDelivered h c.args.now c.args.isn.0 c.args.frame.now (Err c.in-Err.cause) c.deliver_by_way-answer.new.self =
    subst (λ (r : Result _ DropCause). IsDelivered h c.args.now c.args.isn.0 c.args.frame.now r c.deliver_by_way-answer.new.self) c.in-Err.is c.deliver_by_way-answer.ensures
    in
    let counted : ℕ → ℕ → Counters = λ frames octets. record c.args.self.now { frames_in = frames; octets_in = octets } in
    c.count_refusal.ensures
    ∙ ap (λ (n : ℕ). after_refusal c.in-Err.cause (lack c.deliver_by_way-answer.new.self c.args.frame.now) (counted n c.raise-2.new.count)) c.raise.ensures
    ∙ ap (λ (n : ℕ). after_refusal c.in-Err.cause (lack c.deliver_by_way-answer.new.self c.args.frame.now) (counted (raised c.args.self.now.frames_in 1) n)) c.raise-2.ensures
    ∙ refused_alike c.in-Err.cause h c.args.now c.args.isn.0 c.args.frame.now c.deliver_by_way-answer.new.self (counted (raised c.args.self.now.frames_in 1) (raised c.args.self.now.octets_in (length c.args.frame.now))) dropped
