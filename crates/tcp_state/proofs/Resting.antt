-- Why a tick ends nothing of a connection that rests.
use Rattle.std.proofs.Common.{◌≡◌, ◌||◌, ◌&&◌, not, nat_le, nat_lt, Bool, true, false, [], Some, refl, ◌∙◌, ap}
use Rattle.clock.specs.declared.moment.Moment.{Moment}
use Rattle.clock.specs.Moments.{has_come}
use Rattle.retransmit.specs.Deadlines.{next_of}
use Rattle.tcp_state.specs.declared.calls.Refusal.TheVariants.{ETIMEDOUT}
use Rattle.tcp_state.specs.declared.resend.TheConstants.{MOST_EXPIRIES}
use Rattle.tcp_state.specs.declared.state.State.{State}
use Rattle.tcp_state.specs.declared.state.State.TheVariants.{FinWait2, TimeWait}
use Rattle.tcp_state.specs.View.{View, IsSound, is_opening, is_time_wait, awaits_fin_ack, end_of_wait, is_at_end, after_stop, after_reset}
use Rattle.tcp_state.specs.Alive.{IsPatient, after_silence}
use Rattle.tcp_state.specs.Timing.{KeepsTime, probes, clocked, expires, is_silent_for_good, gives_up, after_timers, after_tick}
use Rattle.tcp_halves.proofs.Choices.{either, clash}
use Rattle.tcp_state.proofs.Clocked.{timers_keep}
use Rattle.tcp_state.proofs.OwedAlone.{none_out, unprobed}
use Rattle.tcp_state.proofs.Minute.{runs_not}
use Rattle.tcp_state.proofs.Waits.{asked_few}

-- no wait ends what its caller has not left, but in TIME-WAIT
no_end : (state : State) (released : Bool) (since now : Moment) → released ≡ false → is_time_wait state ≡ false → has_come (end_of_wait state released since) now ≡ false
no_end FinWait2 true since now kept other = cc
no_end FinWait2 false since now kept other = refl
no_end TimeWait released since now kept other = cc
no_end _ released since now kept other = refl

pub rests_on : (v : View) (now : Moment) → IsSound v → KeepsTime v → is_opening v.state ≡ false → is_time_wait v.state ≡ false → awaits_fin_ack v.state ≡ false → v.sending.held ≡ [] → v.released ≡ false
    → IsPatient v → ((after_tick v now).sending ≡ v.sending) × ((after_tick v now).receiving ≡ v.receiving) × ((after_tick v now).state ≡ v.state)
rests_on v now sound keeps opened goes_on shut empty kept patient =
    let P : View → Type 0 = λ w. (w.sending ≡ v.sending) × (w.receiving ≡ v.receiving) × (w.state ≡ v.state) in
    let quiet = after_silence v now in
    let same = timers_keep quiet now in
    let none : expires v now ≡ false =
    ap (λ b. b || has_come v.timers.probe now) (runs_not v.timers.retransmission now (keeps.retransmission ∙ ap (λ n. nat_lt 0 n && not (probes v)) (none_out v sound opened shut empty)))
    ∙ runs_not v.timers.probe now (keeps.probe ∙ unprobed v shut empty) in
    let lives : gives_up v now ≡ false =
    ap (λ b. (b && nat_le MOST_EXPIRIES v.resend.expiries) || is_silent_for_good v now) none
    ∙ asked_few v now patient in
    either View P (is_at_end v now) (after_stop v) _ (λ over. clash (is_at_end v now) over (no_end v.state v.released v.since now kept goes_on))
    (λ remains. either View P (gives_up v now) (after_reset v (Some ETIMEDOUT)) _ (λ given_up. clash (gives_up v now) given_up lives)
    (λ stays. either View P (has_come (next_of v.timers) now) (clocked false (after_timers quiet now) now) quiet
    (λ comes. (ap (λ (w : View). w.sending) same, ap (λ (w : View). w.receiving) same, ap (λ (w : View). w.state) same)) (λ early. (refl, refl, refl))))
