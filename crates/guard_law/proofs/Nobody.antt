-- What may give way counts as that: what nobody answers, once a tick comes to its timer, and what is in TIME-WAIT for nobody.
use Rattle.std.proofs.Common.{◌≡◌, suc, ◌^◌, ◌<◌, ◌≤◌, ◌||◌, nat_lt, nat_le, true, false, Some, refl, ◌∙◌, ap, arith}
use Rattle.std.proofs.lemmas.Bool.{leb-true, ltb-false}
use Rattle.clock.specs.declared.moment.Moment.{Moment}
use Rattle.clock.specs.Moments.{has_come, sooner}
use Rattle.clock.proofs.Comings.{sooner-has_come}
use Rattle.retransmit.specs.Deadlines.{next_of}
use Rattle.retransmit.specs.declared.timers.Timers.{Timers}
use Rattle.tcp_segment.specs.Segment.{Segment}
use Rattle.tcp_segment.specs.Wire.{past}
use Rattle.tcp_state.specs.declared.state.State.{State}
use Rattle.tcp_state.specs.declared.state.State.TheVariants.{SynReceived}
use Rattle.tcp_state.specs.View.{View, is_syn_received, is_time_wait, is_at_end}
use Rattle.tcp_state.specs.Alive.{after_silence, is_silent}
use Rattle.tcp_state.specs.Timing.{gives_up, clocked, delayed_ack_expired, override_expired, retransmission_expired, after_tick}
use Rattle.tcp_state.specs.Way.{is_unanswered, left_since, lies_past}
use Rattle.sockets.proofs.Followed.{by_test}

received_is : (t : State) → is_syn_received t ≡ true → t ≡ SynReceived
received_is SynReceived is = refl
received_is _ is = cc

-- no other timer moves what counts
others_leave : (v : View) (now : Moment) → is_unanswered (clocked false (override_expired (delayed_ack_expired v now) now) now) ≡ is_unanswered v
others_leave v now =
    by_test (has_come v.timers.delayed_ack now)
    (λ delayed. by_test (has_come v.timers.overriding now) (λ over. rw (delayed, over) refl) (λ over. rw (delayed, over) refl))
    (λ delayed. by_test (has_come v.timers.overriding now) (λ over. rw (delayed, over) refl) (λ over. rw (delayed, over) refl))

next_come : (t : Timers) (now : Moment) → has_come t.retransmission now ≡ true → has_come (next_of t) now ≡ true
next_come t now comes = sooner-has_come (sooner t.retransmission t.probe) (sooner t.delayed_ack t.overriding) now ∙ ap (λ b. b || has_come (sooner t.delayed_ack t.overriding) now) (sooner-has_come t.retransmission t.probe now ∙ ap (λ b. b || has_come t.probe now) comes)

pub counted : (v : View) (now : Moment) → v.passive ≡ true → is_syn_received v.state ≡ true → has_come v.timers.retransmission now ≡ true → v.resend.expiries < 12 → is_unanswered (after_tick v now) ≡ true
counted v now passive received comes few =
    let state = received_is v.state received in
    let goes_on : is_at_end v now ≡ false = rw state refl in
    let less : nat_le 12 v.resend.expiries ≡ false = by_test (nat_le 12 v.resend.expiries) (λ yes. let more : 12 ≤ v.resend.expiries = leb-true _ _ yes in absurd (omega (arith, few, more))) (λ no. no) in
    let quiet : is_silent v now ≡ false = rw state refl in
    let patient : gives_up v now ≡ false = rw (quiet, less, comes) refl in
    let next : has_come (next_of v.timers) now ≡ true = next_come v.timers now comes in
    let asked = after_silence v now in
    let once : nat_lt 0 (suc v.resend.expiries) ≡ true = by_test (nat_lt 0 (suc v.resend.expiries)) (λ yes. yes) (λ no. let none : suc v.resend.expiries ≤ 0 = ltb-false _ _ no in absurd (omega (arith, none))) in
    let moved : is_unanswered (retransmission_expired asked) ≡ true = rw (passive, state, once) refl in
    rw (goes_on, patient, next, comes) (others_leave (retransmission_expired asked) now ∙ moved)

pub left : (v : View) → is_time_wait v.state ≡ true → v.released ≡ true → left_since v ≡ Some v.since
left v waits released = rw (waits, released) refl

pub at_or_past : (v : View) (s : Segment) → past s.number v.receiving.rnext < 2 ^ 31 → lies_past v s ≡ true
at_or_past v s near = let not_before : nat_le (2 ^ 31) (past s.number v.receiving.rnext) ≡ false = by_test (nat_le (2 ^ 31) (past s.number v.receiving.rnext)) (λ yes. let far : 2 ^ 31 ≤ past s.number v.receiving.rnext = leb-true _ _ yes in absurd (omega (arith, near, far))) (λ no. no) in rw not_before refl
