-- Why what is held goes out, whatever the peer's window.
use Rattle.std.proofs.Common.{◌≡◌, ℕ, ◌<◌, ◌==◌, ◌||◌, ◌&&◌, not, nat_lt, if◌then◌else◌, Bool, true, false, length, Option, Some, None, inl, inr, arith, refl, sym, ◌∙◌, ap, is_some}
use Rattle.std.proofs.lemmas.Bool.{lt-ltb, eq-eqb}
use Rattle.std.proofs.lemmas.Bool.Decides.{eqb_tells}
use Rattle.std.specs.Option.{option_or}
use Rattle.clock.specs.declared.moment.Moment.{Moment}
use Rattle.clock.specs.Moments.{sooner}
use Rattle.retransmit.specs.Deadlines.{next_of}
use Rattle.tcp_state.specs.Selective.{allowance}
use Rattle.tcp_state.specs.declared.emission.Due.{Due}
use Rattle.tcp_state.specs.declared.emission.Due.TheVariants.{Rst, Syn, Text, Probe}
use Rattle.tcp_halves.specs.Stream.{outstanding}
use Rattle.tcp_halves.specs.Windows.{sendable, is_worth_sending}
use Rattle.tcp_state.specs.View.{View, IsSound, is_opening, is_closed, awaits_fin_ack, ends_at}
use Rattle.tcp_state.specs.Alive.{alive_at}
use Rattle.tcp_state.specs.Tail.{tail_at}
use Rattle.tcp_state.specs.Congestion.{KeepsCongestion}
use Rattle.tcp_state.specs.Timing.{KeepsTime, has_unacknowledged, probes, deadline}
use Rattle.tcp_state.specs.New.{sends_new, sends_fin, waits_no_longer}
use Rattle.tcp_state.specs.Due.{first_due, ack_due, again, again_at, goes_again, again_from, new_octets, fin_alone, new_due}
use Rattle.tcp_state.specs.Positions.{HasToSend, takes_numbers}
use Rattle.tcp_halves.proofs.Choices.{either, by, clash, and_false, both, or_left, or_right, of_false}
use Rattle.tcp_state.proofs.Allowance.{allowance_some}
use Rattle.tcp_state.proofs.Unchanged.{closed_plain, closed_holds}

-- Timers.

sooner_left : (a b : Option Moment) → is_some a ≡ true → is_some (sooner a b) ≡ true
sooner_left None b e = cc
sooner_left (Some m) None e = refl
sooner_left (Some m) (Some n) e = either (Option Moment) (λ o. is_some o ≡ true) _ (Some m) (Some n) (λ first. refl) (λ second. refl)

sooner_right : (a b : Option Moment) → is_some b ≡ true → is_some (sooner a b) ≡ true
sooner_right None b e = e
sooner_right (Some m) None e = cc
sooner_right (Some m) (Some n) e = sooner_left (Some m) (Some n) refl

-- a timer that runs has a moment
retransmission_told : (v : View) → is_some v.timers.retransmission ≡ true → is_some (deadline v) ≡ true
retransmission_told v runs =
    let t = v.timers in
    sooner_left (sooner (next_of t) (ends_at v)) (sooner (alive_at v) (tail_at v)) (sooner_left (next_of t) (ends_at v) (sooner_left (sooner t.retransmission t.probe) (sooner t.delayed_ack t.overriding) (sooner_left t.retransmission t.probe runs)))

probe_told : (v : View) → is_some v.timers.probe ≡ true → is_some (deadline v) ≡ true
probe_told v runs =
    let t = v.timers in
    sooner_left (sooner (next_of t) (ends_at v)) (sooner (alive_at v) (tail_at v)) (sooner_left (next_of t) (ends_at v) (sooner_left (sooner t.retransmission t.probe) (sooner t.delayed_ack t.overriding) (sooner_right t.retransmission t.probe runs)))

override_told : (v : View) → is_some v.timers.overriding ≡ true → is_some (deadline v) ≡ true
override_told v runs =
    let t = v.timers in
    sooner_left (sooner (next_of t) (ends_at v)) (sooner (alive_at v) (tail_at v)) (sooner_left (next_of t) (ends_at v) (sooner_right (sooner t.retransmission t.probe) (sooner t.delayed_ack t.overriding) (sooner_right t.delayed_ack t.overriding runs)))

-- what is outstanding and not probed with runs the retransmission timer
outstanding_told : (v : View) → KeepsTime v → (outstanding v.sending == 0) ≡ false → probes v ≡ false → is_some (deadline v) ≡ true
outstanding_told v keeps some unprobed =
    let more : 0 < outstanding v.sending = elim (eqb_tells (outstanding v.sending) 0) [ inl t ↦ clash (outstanding v.sending == 0) t.0 some | inr t ↦ omega (arith, t.1) ] in
    retransmission_told v (keeps.retransmission ∙ both (nat_lt 0 (outstanding v.sending)) (not (probes v)) (lt-ltb 0 (outstanding v.sending) more) (of_false (probes v) unprobed))

-- A reset is owed only where nothing waits.

closed_has_none : (v : View) → IsSound v → is_closed v.state ≡ true → HasToSend v → ⊥
closed_has_none v sound closed has =
    let plain = closed_plain v.state closed in
    let none = (closed_holds v sound closed).0 in
    elim has [
      | inl opening ↦ clash (is_opening v.state) opening plain.0
      | inr sends ↦ elim sends [ inl some ↦ omega (arith, none, some) | inr waits ↦ clash (awaits_fin_ack v.state) waits plain.1 ]
    ]

pub owed_where_closed : (owes closed released : Bool) → (owes && not (closed && released)) ≡ false → owes ≡ true → closed ≡ true
owed_where_closed true true released e f = refl
owed_where_closed true false released e f = cc
owed_where_closed false closed released e f = cc

no_reset : (v : View) → IsSound v → HasToSend v → v.owes_reset ≡ false
no_reset v sound has =
    by (v.owes_reset ≡ false) v.owes_reset (λ owes. absurd (closed_has_none v sound (owed_where_closed v.owes_reset (is_closed v.state) v.released sound.reset owes) has)) (λ none. none)

-- While the connection opens.

opening_unprobed : (v : View) → is_opening v.state ≡ true → probes v ≡ false
opening_unprobed v opening = ap (λ b. not b && (v.sending.window == 0) && has_unacknowledged v) opening

syn_due : (v : View) → v.owes_reset ≡ false → is_opening v.state ≡ true → (outstanding v.sending == 0) ≡ true → takes_numbers (first_due v) ≡ true
syn_due v none opening unsent =
    let rest = option_or (again_from v v.resend.mark) (new_due v) in
    let P : Option Due → Type 0 = λ o. takes_numbers o ≡ true in
    either (Option Due) P v.owes_reset (Some Rst) _ (λ owes. clash v.owes_reset owes none)
    (λ past. either (Option Due) P (is_opening v.state) _ rest
    (λ opens. either (Option Due) P ((outstanding v.sending == 0) || is_some v.resend.mark) (Some Syn) (ack_due v) (λ goes. refl)
    (λ waits. clash ((outstanding v.sending == 0) || is_some v.resend.mark) (or_left (outstanding v.sending == 0) (is_some v.resend.mark) unsent) waits))
    (λ opened. clash (is_opening v.state) opening opened))

opening_goes : (v : View) → IsSound v → KeepsTime v → HasToSend v → is_opening v.state ≡ true → (takes_numbers (first_due v) || is_some (deadline v)) ≡ true
opening_goes v sound keeps has opening =
    by ((takes_numbers (first_due v) || is_some (deadline v)) ≡ true) (outstanding v.sending == 0)
    (λ unsent. or_left (takes_numbers (first_due v)) (is_some (deadline v)) (syn_due v (no_reset v sound has) opening unsent))
    (λ sent. or_right (takes_numbers (first_due v)) (is_some (deadline v)) (outstanding_told v keeps sent (opening_unprobed v opening)))

-- Past the opening.

-- what goes out again is before what is new
new_goes : (v : View) → v.owes_reset ≡ false → is_opening v.state ≡ false → takes_numbers (new_due v) ≡ true → takes_numbers (first_due v) ≡ true
new_goes v none opened new =
    let P : Option Due → Type 0 = λ o. takes_numbers o ≡ true in
    either (Option Due) P v.owes_reset (Some Rst) _ (λ owes. clash v.owes_reset owes none)
    (λ past. either (Option Due) P (is_opening v.state) _ _ (λ opens. clash (is_opening v.state) opens opened) (λ opens_not. marked v.resend.mark))
  where
    marked : (mark : Option ℕ) → takes_numbers (option_or (again_from v mark) (new_due v)) ≡ true
    marked None = new
    marked (Some mark) = either (Option Due) (λ o. takes_numbers (option_or o (new_due v)) ≡ true) (goes_again v (again_at v mark)) (Some (Text (again v (again_at v mark)))) None (λ goes. refl) (λ waits. new)

octets_go : (v : View) → sends_new v ≡ true → takes_numbers (new_due v) ≡ true
octets_go v sends =
    ap (λ b. takes_numbers (if b then Some (Text (new_octets v)) else if sends_fin v then Some (Text (fin_alone v)) else if v.resend.owes_probe && probes v then Some Probe else ack_due v)) sends

fin_goes : (v : View) → sends_fin v ≡ true → takes_numbers (new_due v) ≡ true
fin_goes v sends =
    let P : Option Due → Type 0 = λ o. takes_numbers o ≡ true in
    either (Option Due) P (sends_new v) (Some (Text (new_octets v))) _ (λ octets. refl)
    (λ no_octets. either (Option Due) P (sends_fin v) (Some (Text (fin_alone v))) _ (λ fin. refl) (λ no_fin. clash (sends_fin v) sends no_fin))

-- octets may go out, and do or wait for more
sendable_goes : (v : View) → v.owes_reset ≡ false → KeepsTime v → is_opening v.state ≡ false → 0 < sendable v.sending (allowance v) → (takes_numbers (first_due v) || is_some (deadline v)) ≡ true
sendable_goes v none keeps opened some =
    let goes = nat_lt 0 (sendable v.sending (allowance v)) in
    let worth = is_worth_sending v.sending (allowance v) (waits_no_longer v) in
    let may : goes ≡ true = lt-ltb 0 (sendable v.sending (allowance v)) some in
    by ((takes_numbers (first_due v) || is_some (deadline v)) ≡ true) worth
    (λ is. or_left (takes_numbers (first_due v)) (is_some (deadline v)) (new_goes v none opened (octets_go v (both goes worth may is))))
    (λ is_not. or_right (takes_numbers (first_due v)) (is_some (deadline v)) (override_told v (keeps.overriding (both (not (is_opening v.state)) (goes && not worth) (of_false (is_opening v.state) opened) (both goes (not worth) may (of_false worth is_not))))))

-- the window is closed, and probed
closed_window : (v : View) → KeepsTime v → is_opening v.state ≡ false → (v.sending.window == 0) ≡ true → has_unacknowledged v ≡ true → is_some (deadline v) ≡ true
closed_window v keeps opened shut has =
    let both_tests = both (not (is_opening v.state)) (v.sending.window == 0) (of_false (is_opening v.state) opened) shut in
    probe_told v (keeps.probe ∙ both (not (is_opening v.state) && (v.sending.window == 0)) (has_unacknowledged v) both_tests has)

-- the window is open: what is outstanding runs the retransmission timer, and else octets or the FIN may go out
wide_window : (v : View) → IsSound v → v.owes_reset ≡ false → KeepsTime v → KeepsCongestion v → is_opening v.state ≡ false → (v.sending.window == 0) ≡ false → has_unacknowledged v ≡ true
    → (takes_numbers (first_due v) || is_some (deadline v)) ≡ true
wide_window v sound none keeps network opened wide has =
    let goal : Type 0 = (takes_numbers (first_due v) || is_some (deadline v)) ≡ true in
    let room : 0 < v.sending.window = elim (eqb_tells v.sending.window 0) [ inl t ↦ clash (v.sending.window == 0) t.0 wide | inr t ↦ omega (arith, t.1) ] in
    let unprobed : probes v ≡ false = ap (λ b. not (is_opening v.state) && b && has_unacknowledged v) wide ∙ ap (λ b. b && has_unacknowledged v) (and_false (not (is_opening v.state))) in
    elim (eqb_tells (outstanding v.sending) 0) [
      | inr some ↦ or_right (takes_numbers (first_due v)) (is_some (deadline v)) (outstanding_told v keeps some.0 unprobed)
      | inl idle ↦ let some_network = allowance_some v sound network idle.1 in elim (eqb_tells (length v.sending.held) 0) [
        | inr octets ↦ sendable_goes v none keeps opened (omega (arith, room, some_network, idle.1, octets.1))
        | inl empty ↦
            let waits : awaits_fin_ack v.state ≡ true = sym (ap (λ b. not b || awaits_fin_ack v.state) empty.0) ∙ has in
            let all = outstanding v.sending == length v.sending.held in
            let sends : sends_fin v ≡ true = both (awaits_fin_ack v.state && all) (nat_lt (outstanding v.sending) v.sending.window)
            (both (awaits_fin_ack v.state) all waits (eq-eqb (outstanding v.sending) (length v.sending.held) (omega (arith, idle.1, empty.1)))) (lt-ltb (outstanding v.sending) v.sending.window (omega (arith, idle.1, room))) in
            or_left (takes_numbers (first_due v)) (is_some (deadline v)) (new_goes v none opened (fin_goes v sends))
      ]
    ]

unacknowledged : (v : View) → is_opening v.state ≡ false → HasToSend v → has_unacknowledged v ≡ true
unacknowledged v opened has =
    let some = not (length v.sending.held == 0) in
    elim has [
      | inl opening ↦ clash (is_opening v.state) opening opened
      | inr sends ↦ elim sends [
        | inl held ↦ or_left some (awaits_fin_ack v.state) (elim (eqb_tells (length v.sending.held) 0) [ inl t ↦ absurd (omega (arith, held, t.1)) | inr t ↦ of_false (length v.sending.held == 0) t.0 ])
        | inr waits ↦ or_right some (awaits_fin_ack v.state) waits
      ]
    ]

pub goes_out : (v : View) → IsSound v → KeepsTime v → KeepsCongestion v → HasToSend v → (takes_numbers (first_due v) || is_some (deadline v)) ≡ true
goes_out v sound keeps network has =
    let goal : Type 0 = (takes_numbers (first_due v) || is_some (deadline v)) ≡ true in
    by goal (is_opening v.state) (opening_goes v sound keeps has)
    (λ opened. by goal (v.sending.window == 0)
    (λ shut. or_right (takes_numbers (first_due v)) (is_some (deadline v)) (closed_window v keeps opened shut (unacknowledged v opened has)))
    (λ wide. wide_window v sound (no_reset v sound has) keeps network opened wide (unacknowledged v opened has)))
