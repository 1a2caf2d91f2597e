-- Why a tick leaves what takes numbers waiting for its hop since when it did, unless the connection is given up.
use Rattle.std.proofs.Common.{◌≡◌, ◌⊎◌, inl, inr, ℕ, ◌==◌, ◌&&◌, ◌||◌, not, nat_le, nat_lt, Bool, true, false, if◌then◌else◌, length, Option, Some, None, is_some, refl, sym, ◌∙◌, ap, arith}
use Rattle.std.proofs.lemmas.Bool.{eqb-true}
use Rattle.std.proofs.lemmas.Grind.{common_steps}
use Rattle.clock.specs.declared.moment.Moment.{Moment}
use Rattle.clock.specs.Moments.{has_come}
use Rattle.retransmit.specs.Deadlines.{next_of}
use Rattle.tcp_halves.specs.Halves.{Sending}
use Rattle.tcp_halves.specs.Stream.{outstanding}
use Rattle.tcp_halves.specs.Windows.{sendable, takes_enough, is_worth_sending}
use Rattle.tcp_halves.proofs.Choices.{either, and_left}
use Rattle.tcp_state.specs.Selective.{allowance}
use Rattle.tcp_state.specs.declared.state.State.{State}
use Rattle.tcp_state.specs.View.{View, is_opening, awaits_fin_ack, is_at_end}
use Rattle.tcp_state.specs.New.{passes_full}
use Rattle.tcp_state.specs.Timing.{KeepsTime, awaits_first, waiting_since, gives_up, probes, retransmits, clocked, probe_expired, retransmission_expired, after_expiry, after_timers, after_tick}
use Rattle.tcp_state.specs.Alive.{after_silence}
use Rattle.tcp_state.proofs.TailProbes.{first_silent}
use Rattle.tcp_state.proofs.Clocked.{by_others}

-- whether a first segment waits, by what it hangs on
abbrev wants : Sending → State → ℕ → Bool → Bool → Bool → Bool → Bool
wants s t cwnd nodelay passes overridden owes =
    (outstanding s == 0)
    && (is_opening t || (nat_lt 0 (sendable s cwnd) && is_worth_sending s cwnd ((nodelay && takes_enough s cwnd) || passes || overridden)) || (awaits_fin_ack t && (outstanding s == length s.held) && nat_lt (outstanding s) s.window)
    || (owes && (not (is_opening t) && (s.window == 0) && (not (length s.held == 0) || awaits_fin_ack t))))

-- new octets waited long enough, or a probe is owed: it waits all the same
raised_over : (idle opens some full small quick over fin rest : Bool) → (idle && (opens || (some && (full || small || (quick || over))) || fin || rest)) ≡ true
    → (idle && (opens || (some && (full || small || (quick || true))) || fin || rest)) ≡ true
raised_over idle opens some full small quick over fin rest e = grind (arith, common_steps)

raised_owed : (idle opens new fin owes probed : Bool) → (idle && (opens || new || fin || (owes && probed))) ≡ true → (idle && (opens || new || fin || probed)) ≡ true
raised_owed idle opens new fin owes probed e = grind (arith, common_steps)

-- what timers make of a connection of which nothing is outstanding
record Acts (v u : View) : Type 0 where
  sending : u.sending ≡ v.sending
  state : u.state ≡ v.state
  congestion : allowance u ≡ allowance v
  unheard : u.unheard ≡ v.unheard
  nodelay : u.nodelay ≡ v.nodelay
  passes : passes_full u ≡ passes_full v
  over : (u.resend.overridden ≡ v.resend.overridden) ⊎ (u.resend.overridden ≡ true)
  owes : (u.resend.owes_probe ≡ v.resend.owes_probe) ⊎ (u.resend.owes_probe ≡ true)

awaits_on : (v u : View) → Acts v u → awaits_first v ≡ true → awaits_first u ≡ true
awaits_on v u a waits =
    ap (λ (s : Sending). wants s u.state (allowance u) u.nodelay (passes_full u) u.resend.overridden u.resend.owes_probe) a.sending
    ∙ ap (λ (t : State). wants v.sending t (allowance u) u.nodelay (passes_full u) u.resend.overridden u.resend.owes_probe) a.state
    ∙ ap (λ (n : ℕ). wants v.sending v.state n u.nodelay (passes_full u) u.resend.overridden u.resend.owes_probe) a.congestion
    ∙ ap (λ (b : Bool). wants v.sending v.state (allowance v) b (passes_full u) u.resend.overridden u.resend.owes_probe) a.nodelay
    ∙ ap (λ (b : Bool). wants v.sending v.state (allowance v) v.nodelay b u.resend.overridden u.resend.owes_probe) a.passes
    ∙ owed
  where
    s : Sending
    s = v.sending

    cwnd : ℕ
    cwnd = allowance v

    full : Bool
    full = nat_le s.smss (sendable s cwnd)

    small : Bool
    small = (outstanding s == 0) && takes_enough s cwnd

    quick : Bool
    quick = (v.nodelay && takes_enough s cwnd) || passes_full v

    fin : Bool
    fin = awaits_fin_ack v.state && (outstanding s == length s.held) && nat_lt (outstanding s) s.window

    probed : Bool
    probed = not (is_opening v.state) && (s.window == 0) && (not (length s.held == 0) || awaits_fin_ack v.state)

    overridden : wants s v.state cwnd v.nodelay (passes_full v) u.resend.overridden v.resend.owes_probe ≡ true
    overridden = elim a.over [
      | inl same ↦ ap (λ (b : Bool). wants s v.state cwnd v.nodelay (passes_full v) b v.resend.owes_probe) same ∙ waits
      | inr over ↦ ap (λ (b : Bool). wants s v.state cwnd v.nodelay (passes_full v) b v.resend.owes_probe) over
          ∙ raised_over (outstanding s == 0) (is_opening v.state) (nat_lt 0 (sendable s cwnd)) full small quick v.resend.overridden fin (v.resend.owes_probe && probed) waits
    ]

    owed : wants s v.state cwnd v.nodelay (passes_full v) u.resend.overridden u.resend.owes_probe ≡ true
    owed = elim a.owes [
      | inl same ↦ ap (λ (b : Bool). wants s v.state cwnd v.nodelay (passes_full v) u.resend.overridden b) same ∙ overridden
      | inr owes ↦ ap (λ (b : Bool). wants s v.state cwnd v.nodelay (passes_full v) u.resend.overridden b) owes
          ∙ raised_owed (outstanding s == 0) (is_opening v.state) (nat_lt 0 (sendable s cwnd) && is_worth_sending s cwnd (quick || u.resend.overridden)) fin v.resend.owes_probe probed overridden
    ]

none_come : (o : Option Moment) (now : Moment) → is_some o ≡ false → has_come o now ≡ false
none_come None now e = refl
none_come (Some moment) now e = cc

timers_act : (v : View) (now : Moment) → has_come v.timers.retransmission now ≡ false → Acts v (after_timers v now)
timers_act v now early =
    by_others (Acts v) v now first
    (λ w owes a. record { sending = a.sending; state = a.state; congestion = a.congestion; unheard = a.unheard; nodelay = a.nodelay; passes = a.passes; over = a.over; owes = a.owes })
    (λ w a. record { sending = a.sending; state = a.state; congestion = a.congestion; unheard = a.unheard; nodelay = a.nodelay; passes = a.passes; over = inr refl; owes = a.owes })
  where
    same : Acts v v
    same = record { sending = refl; state = refl; congestion = refl; unheard = refl; nodelay = refl; passes = refl; over = inl refl; owes = inl refl }

    first : Acts v (after_expiry v now)
    first =
        either View (Acts v) (has_come v.timers.retransmission now) (retransmission_expired v) _
        (λ comes. let bad : true ≡ false = sym comes ∙ early in cc)
        (λ late. either View (Acts v) (has_come v.timers.probe now) (probe_expired v now) v
        (λ probes. record { sending = refl; state = refl; congestion = refl; unheard = refl; nodelay = refl; passes = refl; over = inl refl; owes = inr refl }) (λ none. same))

pub wait_goes_on : (v : View) (now since : Moment) → KeepsTime v → v.unheard ≡ Some since → is_at_end v now ≡ false → gives_up v now ≡ false → (let w = after_tick v now in w.unheard) ≡ Some since
wait_goes_on v now since keeps is waits lives =
    let first : awaits_first v ≡ true = sym keeps.unheard ∙ ap (λ (o : Option Moment). is_some o) is in
    let idle : (outstanding v.sending == 0) ≡ true = and_left _ _ first in
    let rests : retransmits v ≡ false = silent (outstanding v.sending) (probes v) idle in
    let early : has_come v.timers.retransmission now ≡ false = none_come v.timers.retransmission now (keeps.retransmission ∙ rests) in
    let asked = after_silence v now in
    let u = after_timers asked now in
    let acts : Acts asked u = timers_act asked now early in
    let on : awaits_first u ≡ true = awaits_on asked u acts (first_silent v now ∙ first) in
    rw (waits, lives) (either View (λ w. w.unheard ≡ Some since) (has_come (next_of v.timers) now) (clocked false u now) asked
    (λ comes. ap (λ (b : Bool). if b then Some (waiting_since u.unheard now) else None) on ∙ ap (λ (o : Option Moment). Some (waiting_since o now)) (acts.unheard ∙ is))
    (λ later. is))
  where
    silent : (out : ℕ) (probed : Bool) → (out == 0) ≡ true → (nat_lt 0 out && not probed) ≡ false
    silent out probed e = let none : out ≡ 0 = eqb-true out 0 e in ap (λ (n : ℕ). nat_lt 0 n && not probed) none
