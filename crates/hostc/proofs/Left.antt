-- The host that a call leaves in a handle, and the counters that a tick does.
use Rattle.std.proofs.Common.{◌≡◌, ap, ◌∙◌}
use Rattle.std.specs.Prelude.{Option, Some, Result, Ok, Err, option_map, OnOk, OnErr}
use Rattle.std.specs.Result.{result_err}
use Rattle.clock.specs.declared.moment.Moment.{Moment}
use Rattle.sockets.specs.SocketsView.{SocketsView}
use Rattle.sockets.specs.declared.refusal.Refusal.{Refusal}
use Rattle.host.specs.GivenUp.{gives_up}
use Rattle.host.specs.HostView.{HostView, with_sockets}
use Rattle.counters.specs.declared.counters.Counters.{Counters}
use Rattle.counters.specs.Counting.{Ticked, after_event}
use Rattle.hostc.specs.declared.counted.Counted.{Counted}
use Rattle.hostc.specs.Calls.{after_call}
use Rattle.hostc.specs.Counters.{counters_after_tick}

left : {T : Type 0} (old new : HostView) (answer : Result T Refusal) (refusal : Option Refusal) (table : SocketsView) → result_err answer ≡ refusal → OnOk answer (new ≡ with_sockets old table) → OnErr answer (new ≡ old) → new ≡ after_call refusal old table
left old new (Ok done) refusal table e ok err = ok ∙ ap (λ r. after_call r old table) e
left old new (Err cause) refusal table e ok err = err ∙ ap (λ r. after_call r old table) e

-- what a call that may be refused leaves
pub left_by : {T : Type 0} (was is : Option HostView) (old lent new : HostView) (answer : Result T Refusal) (refusal : HostView → Option Refusal) (table : HostView → SocketsView)
    → Some old ≡ was → lent ≡ old → is ≡ Some new → result_err answer ≡ refusal lent → OnOk answer (new ≡ with_sockets lent (table lent)) → OnErr answer (new ≡ lent)
    → is ≡ option_map (λ h. after_call (refusal h) h (table h)) was
left_by was is old lent new answer refusal table from borrowed to e ok err =
    to ∙ ap Some (left lent new answer (refusal lent) (table lent) e ok err) ∙ ap (λ h. Some (after_call (refusal h) h (table h))) borrowed ∙ ap (option_map (λ h. after_call (refusal h) h (table h))) from

-- what a call that is never refused leaves
pub always_left : (was is : Option HostView) (old lent new : HostView) (after : HostView → HostView) → Some old ≡ was → lent ≡ old → is ≡ Some new → new ≡ after lent → is ≡ option_map after was
always_left was is old lent new after from borrowed to e = to ∙ ap Some e ∙ ap (λ h. Some (after h)) borrowed ∙ ap (option_map after) from

-- what a tick that is counted leaves of the counters
pub tick_counted : (host : Option HostView) (was is : Option Counters) (old lent : Counted) (new : Counters) (now : Moment) → Some old.host ≡ host → Some old.counters ≡ was → lent ≡ old → is ≡ Some new
    → new ≡ after_event lent.counters (Ticked (gives_up lent.host now)) → is ≡ counters_after_tick host now was
tick_counted host was is old lent new now held counted borrowed to e =
    to ∙ ap Some e
    ∙ ap (λ (k : Counted). Some (after_event k.counters (Ticked (gives_up k.host now)))) borrowed
    ∙ ap (λ (h : Option HostView). counters_after_tick h now (Some old.counters)) held
    ∙ ap (λ (c : Option Counters). counters_after_tick host now c) counted
