-- Why a connection that a listener opened is unanswered only once it waited for a second.
use Rattle.std.proofs.Common.{◌≡◌, ◌⊎◌, ◌∷◌, [], ℕ, ◌<◌, ◌≤◌, ◌^◌, ◌&&◌, nat_lt, true, false, List, Contains, Option, Some, None, inl, inr, arith, refl, sym, ◌∙◌, ap, ap₂, subst}
use Rattle.std.proofs.lemmas.Bool.{leb-true, ltb-true}
use Rattle.std.proofs.lemmas.List.Elements.{Contains-append_right}
use Rattle.clock.specs.declared.moment.Moment.{Moment}
use Rattle.clock.specs.Moments.{after, has_come}
use Rattle.ipv4.specs.declared.addr.Endpoint.{Endpoint}
use Rattle.tcp_segment.specs.Segment.{Segment}
use Rattle.tcp_segment.specs.Wire.{past}
use Rattle.tcp_halves.specs.Halves.{Room}
use Rattle.tcp_halves.specs.Stream.{outstanding}
use Rattle.tcp_halves.proofs.Choices.{and_left, and_right, or_else}
use Rattle.retransmit.specs.Timeout.{Timeout}
use Rattle.tcp_state.specs.View.{View, is_syn_sent, is_syn_received}
use Rattle.tcp_state.specs.Timing.{expires}
use Rattle.tcp_state.specs.Arrival.{opened_passively}
use Rattle.tcp_state.specs.Edges.{Event, Ticks, Emits, moment_of, after_event}
use Rattle.tcp_state.specs.Way.{is_unanswered}
use Rattle.tcp_state.proofs.Clocks.{counted, begins, runs_on}
use Rattle.tcp_state.proofs.Timeouts.{others_keep}
use Rattle.guard_law.specs.Waited.{after_all, HasWaited}
use Rattle.guard_law.proofs.Opening.{received_lives, Stays, IsEmission, stays, unless_none, timed}

-- a deadline was set when something went out, for a second
pub record IsSet (events : List Event) (deadline : Moment) : Type 0 where
  pub began : Moment
  pub goes_out : Contains events (Emits began)
  pub end : deadline ≡ after began 1000

-- nothing expired yet, and the timer runs for a second, if it does, and else nothing is outstanding
pub record Waits (events : List Event) (v : View) : Type 0 where
  pub expiries : v.resend.expiries ≡ 0
  pub rto : v.resend.timeout.rto ≡ 1000
  pub timer : (deadline : Moment) → v.timers.retransmission ≡ Some deadline → IsSet events deadline
  pub idle : v.timers.retransmission ≡ None → outstanding v.sending ≡ 0

-- So it is after each event.
pub record SoFar (events : List Event) (v : View) : Type 0 where
  pub past : is_syn_sent v.state ≡ false
  pub unprobed : is_syn_received v.state ≡ true → v.timers.probe ≡ None
  pub waits : is_syn_received v.state ≡ true → HasWaited events ⊎ Waits events v

-- A tick that comes to the deadline.

came : (events : List Event) (v : View) (deadline now : Moment) → Waits events v → v.timers.retransmission ≡ Some deadline → Contains events (Ticks now) → deadline.0 ≤ now.0 → HasWaited events
came events v deadline now w runs ticks comes = let set = w.timer deadline runs in record {
  began = set.began;
  goes_out = set.goes_out;
  ticked = now;
  ticks = ticks;
  second = subst (λ (m : Moment). m.0 ≤ now.0) set.end comes;
}

expired : (o : Option Moment) (now : Moment) → has_come o now ≡ true → (deadline : Moment) × (o ≡ Some deadline) × (deadline.0 ≤ now.0)
expired (Some deadline) now comes = (deadline, refl, leb-true deadline.0 now.0 comes)
expired None now comes = cc

-- in SYN-RECEIVED no other timer expires
retransmission_comes : (v : View) (now : Moment) → v.timers.probe ≡ None → expires v now ≡ true → has_come v.timers.retransmission now ≡ true
retransmission_comes v now none comes = elim (or_else (has_come v.timers.retransmission now) (has_come v.timers.probe now) comes) [
  | inl is ↦ is
  | inr probe ↦ let bad : false ≡ true = sym (ap (λ o. has_come o now) none) ∙ probe in cc
]

-- One event.

one : (a b : Moment) → Some a ≡ Some b → a ≡ b
one a b e = cc

-- the timer begins where something goes out
begun : (events : List Event) (v : View) (e : Event) → Contains events e → Waits events v → Stays (IsEmission e) v (after_event v e) → is_syn_received (after_event v e).state ≡ true
    → (began deadline : Moment) → v.timers.retransmission ≡ None → (after_event v e).timers.retransmission ≡ Some deadline → moment_of e ≡ Some began → Contains events (Emits began)
begun events v e there w k received began deadline none set at = elim (k.nxt received) [
  | inl same ↦
      let some = (timed v e received).flies deadline none set in
      let kept : outstanding (after_event v e).sending ≡ outstanding v.sending = ap₂ past same (k.una received) in
      let zero = w.idle none in
      absurd (omega (arith, some, kept, zero))
  | inr emission ↦ subst (Contains events) (emission.1 ∙ ap Emits (one emission.0 began (sym (ap moment_of emission.1) ∙ at))) there
]

-- an event at which nothing expires
goes_on : (events : List Event) (v : View) (e : Event) → Contains events e → Waits events v → Stays (IsEmission e) v (after_event v e) → is_syn_received (after_event v e).state ≡ true
    → (after_event v e).resend.expiries ≡ 0 → (after_event v e).resend.timeout.rto ≡ 1000
    → (was is : Option Moment) → v.timers.retransmission ≡ was → (after_event v e).timers.retransmission ≡ is → HasWaited events ⊎ Waits events (after_event v e)
goes_on events v e there w k received expiries rto was None runs set =
    inr (record { expiries = expiries; rto = rto; timer = λ deadline runs_then. unless_none _ deadline set runs_then; idle = (timed v e received).idle w.idle })
goes_on events v e there w k received expiries rto None (Some is) none set =
    let b = begins v e is none set in
    inr (record {
      expiries = expiries;
      rto = rto;
      timer = λ deadline runs. record { began = b.0; goes_out = begun events v e there w k received b.0 is none set b.1; end = one deadline is (sym runs ∙ set) ∙ b.2 ∙ ap (after b.0) rto };
      idle = (timed v e received).idle w.idle;
    })
goes_on events v e there w k received expiries rto (Some was) (Some is) runs set = elim (runs_on v e was is (received_lives (after_event v e).state received) runs set) [
  | inl same ↦ inr (record {
    expiries = expiries;
    rto = rto;
    timer = λ deadline runs_then. w.timer deadline (runs ∙ ap (λ (m : Moment). Some m) (sym same) ∙ sym set ∙ runs_then);
    idle = (timed v e received).idle w.idle;
  })
  | inr other ↦ elim other [
    | inl moved ↦ absurd (moved (k.una received))
    | inr tick ↦ inl (came events v was tick.0 w runs (subst (Contains events) tick.1 there) tick.2)
  ]
]

waits_on : (events : List Event) (v : View) (e : Event) → Contains events e → v.timers.probe ≡ None → Waits events v → Stays (IsEmission e) v (after_event v e) → is_syn_received (after_event v e).state ≡ true
    → HasWaited events ⊎ Waits events (after_event v e)
waits_on events v e there none w k received =
    let ticked : (now : Moment) → e ≡ Ticks now → has_come v.timers.retransmission now ≡ true → HasWaited events ⊎ Waits events (after_event v e) = λ now is comes.
    let x = expired v.timers.retransmission now comes in inl (came events v x.0 now w x.1 (subst (Contains events) is there) x.2) in
    let uncounted : (after_event v e).resend.expiries ≡ 0 → HasWaited events ⊎ Waits events (after_event v e) = λ expiries. elim (others_keep v e) [
      | inl same ↦ goes_on events v e there w k received expiries (ap (λ (t : Timeout). t.rto) same ∙ w.rto) v.timers.retransmission (after_event v e).timers.retransmission refl refl
      | inr other ↦ elim other [
        | inl moved ↦ absurd (moved.3 (k.una received))
        | inr tick ↦ ticked tick.0 tick.1 tick.2
      ]
    ] in
    elim (counted v e) [
      | inl same ↦ uncounted (same ∙ w.expiries)
      | inr other ↦ elim other [
        | inl progress ↦ uncounted progress.0
        | inr tick ↦ ticked tick.0 tick.1 (retransmission_comes v tick.0 none tick.2)
      ]
    ]

step : (events : List Event) (v : View) (e : Event) → Contains events e → SoFar events v → SoFar events (after_event v e)
step events v e there so =
    let k = stays v e so.past in
    record {
      past = k.past;
      unprobed = λ received. (timed v e received).probe (so.unprobed (k.received received));
      waits = λ received. elim (so.waits (k.received received)) [
        | inl waited ↦ inl waited
        | inr w ↦ waits_on events v e there (so.unprobed (k.received received)) w k received
      ];
    }

-- All events.

run : (events : List Event) (v : View) (rest : List Event) → ((e : Event) → Contains rest e → Contains events e) → SoFar events v → SoFar events (after_all v rest)
run events v [] among so = so
run events v (e ∷ rest) among so =
    run events (after_event v e) rest (λ x there. among x (Contains-append_right (e ∷ []) rest x there)) (step events v e (among e (0, omega arith, refl)) so)

pub waited : (room : Room) (local peer : Endpoint) (isn : ℕ) (syn : Segment) (opened : Moment) (events : List Event) → isn < 2 ^ 32 → is_unanswered (after_all (opened_passively room local peer isn syn opened) events) ≡ true
    → HasWaited events
waited room local peer isn syn opened events small unanswered =
    let v = opened_passively room local peer isn syn opened in
    let w = after_all v events in
    let none : past isn isn ≡ 0 = omega (arith, small) in
    let first : Waits events v = record { expiries = refl; rto = refl; timer = λ deadline runs. cc; idle = λ rests. none } in
    let so = run events v events (λ e there. there) (record { past = refl; unprobed = λ received. refl; waits = λ received. inr first }) in
    let waits = w.passive && is_syn_received w.state in
    let some : 0 < w.resend.expiries = ltb-true 0 w.resend.expiries (and_right waits (nat_lt 0 w.resend.expiries) unanswered) in
    elim (so.waits (and_right w.passive (is_syn_received w.state) (and_left waits (nat_lt 0 w.resend.expiries) unanswered))) [
      | inl has ↦ has
      | inr still ↦ let zero = still.expiries in absurd (omega (arith, zero, some))
    ]
