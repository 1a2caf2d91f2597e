-- What is new goes out, where the windows take it, and what was lost.
use Rattle.std.proofs.Common.{◌≡◌, ℕ, ◌+◌, ◌-◌, ◌*◌, ◌<◌, ◌≤◌, ◌==◌, ◌&&◌, ◌||◌, ◌⊎◌, not, nat_lt, nat_le, min, if◌then◌else◌, true, false, length, [], Some, None, is_some, inl, inr, arith, refl, ◌∙◌, ap, ap₂}
use Rattle.std.specs.Option.{option_or}
use Rattle.std.proofs.lemmas.Bool.{eq-eqb, lt-ltb, le-ltb, le-leb}
use Rattle.std.proofs.lemmas.Bool.Decides.{eqb_tells}
use Rattle.tcp_state.specs.Selective.{repairs_gaps, pipe, allowance}
use Rattle.tcp_state.proofs.Places.{goes_plainly}
use Rattle.tcp_state.specs.declared.emission.Due.TheVariants.{Rst, Syn, Text, Probe}
use Rattle.tcp_state.specs.declared.emission.Stretch.{Stretch}
use Rattle.tcp_state.specs.declared.state.State.{State}
use Rattle.tcp_state.specs.declared.state.State.TheVariants.{Closed, SynSent, SynReceived, FinWait1, Closing, LastAck}
use Rattle.stream_buf.specs.Scoreboard.{first_gap}
use Rattle.tcp_halves.specs.Stream.{outstanding}
use Rattle.tcp_halves.specs.Windows.{open_window, unsent, usable, sendable, takes_all, takes_enough, is_worth_sending}
use Rattle.tcp_halves.proofs.Choices.{both, and_false, or_left, or_right, unowed}
use Rattle.tcp_state.specs.View.{View, IsSound, is_opening, is_closed, is_write_finished, awaits_fin_ack}
use Rattle.tcp_state.specs.Timing.{probes, has_unacknowledged}
use Rattle.tcp_state.specs.New.{takes_last, passes_full, sends_new, takes_fin, sends_fin, waits_no_longer}
use Rattle.tcp_state.specs.Due.{first_due, again, again_at, is_missing, goes_by_reports, goes_by_windows, goes_again, again_from, new_due, ack_due, new_octets, rest_of, fin_alone}
use Rattle.tcp_state.proofs.Signals.{flies_open}

-- a connection goes on, and is open
record IsOpen (state : State) : Type 0 where
  opened : is_opening state ≡ false
  lives : is_closed state ≡ false

open_with : (size : ℕ) (t : State) (held : ℕ) → 0 < held → held ≤ (if is_opening t || is_write_finished t then 0 else size) → IsOpen t
open_with size SynSent held some few = absurd (omega (arith, some, few))
open_with size SynReceived held some few = absurd (omega (arith, some, few))
open_with size Closed held some few = absurd (omega (arith, some, few))
open_with size _ held some few = record { opened = refl; lives = refl }

open_until : (t : State) → awaits_fin_ack t ≡ true → IsOpen t
open_until FinWait1 e = record { opened = refl; lives = refl }
open_until Closing e = record { opened = refl; lives = refl }
open_until LastAck e = record { opened = refl; lives = refl }
open_until _ e = cc

-- without a resend mark what is new is due first
new_first : (v : View) → IsSound v → IsOpen v.state → v.resend.mark ≡ None → first_due v ≡ new_due v
new_first v sound open_yet unmarked =
    ap (λ b. if b then Some Rst else if is_opening v.state then (if (outstanding v.sending == 0) || is_some v.resend.mark then Some Syn else ack_due v) else option_or (again_from v v.resend.mark) (new_due v))
    (unowed v.owes_reset (is_closed v.state) v.released open_yet.lives sound.reset)
    ∙ ap (λ b. if b then (if (outstanding v.sending == 0) || is_some v.resend.mark then Some Syn else ack_due v) else option_or (again_from v v.resend.mark) (new_due v)) open_yet.opened
    ∙ ap (λ m. option_or (again_from v m) (new_due v)) unmarked

-- New octets.

octets_due : (v : View) (count : ℕ) → sends_new v ≡ true → (new_octets v).count ≡ count → new_due v ≡ Some (Text (record { offset = outstanding v.sending; count = count; fin = takes_fin v (outstanding v.sending + count) }))
octets_due v count sends is =
    ap (λ b. if b then Some (Text (new_octets v)) else if sends_fin v then Some (Text (fin_alone v)) else if v.resend.owes_probe && probes v then Some Probe else ack_due v) sends
    ∙ ap (λ n. Some (Text (record { offset = outstanding v.sending; count = n; fin = takes_fin v (outstanding v.sending + n) }))) is

pub full_goes_out : (v : View) → IsSound v → v.resend.mark ≡ None → outstanding v.sending + v.sending.smss ≤ length v.sending.held → outstanding v.sending + v.sending.smss ≤ v.sending.window
    → outstanding v.sending + v.sending.smss ≤ (allowance v) → first_due v ≡ Some (Text (record { offset = outstanding v.sending; count = v.sending.smss; fin = takes_fin v (outstanding v.sending + v.sending.smss) }))
full_goes_out v sound unmarked held window cwnd =
    let n = sendable v.sending (allowance v) in
    let least = sound.segment_least in
    let full : v.sending.smss ≤ n = omega (arith, held, window, cwnd) in
    let worth : is_worth_sending v.sending (allowance v) (waits_no_longer v) ≡ true =
    or_left (nat_le v.sending.smss n || ((outstanding v.sending == 0) && takes_enough v.sending (allowance v))) (waits_no_longer v)
    (or_left (nat_le v.sending.smss n) _ (le-leb v.sending.smss n full)) in
    let sends : sends_new v ≡ true = both (nat_lt 0 n) _ (lt-ltb 0 n (omega (arith, full, least))) worth in
    new_first v sound (open_with v.sending.size v.state (length v.sending.held) (omega (arith, held, least)) sound.held) unmarked ∙ octets_due v v.sending.smss sends (omega (arith, full))

-- nothing is outstanding: what may go out is all that is held, or half of the largest window
idle : (v : View) → IsSound v → v.resend.mark ≡ None → v.sending.nxt ≡ v.sending.una → 0 < sendable v.sending (allowance v)
    → (nat_le (unsent v.sending) (usable v.sending (allowance v)) || nat_le v.sending.max_window (2 * sendable v.sending (allowance v))) ≡ true
    → first_due v ≡ Some (Text (record { offset = 0; count = min (sendable v.sending (allowance v)) v.sending.smss; fin = takes_fin v (min (sendable v.sending (allowance v)) v.sending.smss) }))
idle v sound unmarked none some enough =
    let n = sendable v.sending (allowance v) in
    let out : outstanding v.sending ≡ 0 = omega (arith, none, sound.una) in
    let worth : is_worth_sending v.sending (allowance v) (waits_no_longer v) ≡ true =
    or_left (nat_le v.sending.smss n || ((outstanding v.sending == 0) && takes_enough v.sending (allowance v))) (waits_no_longer v)
    (or_right (nat_le v.sending.smss n) _ (both (outstanding v.sending == 0) _ (eq-eqb (outstanding v.sending) 0 out) enough)) in
    let sends : sends_new v ≡ true = both (nat_lt 0 n) _ (lt-ltb 0 n some) worth in
    new_first v sound (open_with v.sending.size v.state (length v.sending.held) (omega (arith, some)) sound.held) unmarked
    ∙ octets_due v (min n v.sending.smss) sends refl
    ∙ ap (λ o. Some (Text (record { offset = o; count = min n v.sending.smss; fin = takes_fin v (o + min n v.sending.smss) }))) out
    ∙ (let same : 0 + min n v.sending.smss ≡ min n v.sending.smss = omega arith in ap (λ end. Some (Text (record { offset = 0; count = min n v.sending.smss; fin = takes_fin v end }))) same)

pub all_goes_out : (v : View) → IsSound v → v.resend.mark ≡ None → v.sending.nxt ≡ v.sending.una → 0 < length v.sending.held → length v.sending.held ≤ v.sending.window → length v.sending.held ≤ (allowance v)
    → first_due v ≡ Some (Text (record { offset = 0; count = min (length v.sending.held) v.sending.smss; fin = takes_fin v (min (length v.sending.held) v.sending.smss) }))
all_goes_out v sound unmarked none some window cwnd =
    let n = sendable v.sending (allowance v) in
    let out : outstanding v.sending ≡ 0 = omega (arith, none, sound.una) in
    let all : n ≡ length v.sending.held = omega (arith, out, window, cwnd) in
    idle v sound unmarked none (omega (arith, all, some)) (or_left (nat_le (unsent v.sending) (usable v.sending (allowance v))) _ (le-leb (unsent v.sending) (usable v.sending (allowance v)) (omega (arith, out, window, cwnd))))
    ∙ ap (λ m. Some (Text (record { offset = 0; count = min m v.sending.smss; fin = takes_fin v (min m v.sending.smss) }))) all

pub half_goes_out : (v : View) → IsSound v → v.resend.mark ≡ None → v.sending.nxt ≡ v.sending.una
    → (let n = min (length v.sending.held) (min v.sending.window (allowance v)) in 0 < n → v.sending.max_window ≤ 2 * n → first_due v ≡ Some (Text (record { offset = 0; count = min n v.sending.smss; fin = takes_fin v (min n v.sending.smss) })))
half_goes_out v sound unmarked none some half =
    let n = sendable v.sending (allowance v) in
    let m = min (length v.sending.held) (min v.sending.window (allowance v)) in
    let out : outstanding v.sending ≡ 0 = omega (arith, none, sound.una) in
    let all : n ≡ m = omega (arith, out) in
    idle v sound unmarked none (omega (arith, all, some)) (or_right (nat_le (unsent v.sending) (usable v.sending (allowance v))) _ (le-leb v.sending.max_window (2 * n) (omega (arith, all, half))))
    ∙ ap (λ k. Some (Text (record { offset = 0; count = min k v.sending.smss; fin = takes_fin v (min k v.sending.smss) }))) all

-- what is held goes out whatever is outstanding, where it need not wait for more
unwaiting : (v : View) → IsSound v → waits_no_longer v ≡ true → v.resend.mark ≡ None → outstanding v.sending < length v.sending.held → length v.sending.held ≤ v.sending.window → length v.sending.held ≤ (allowance v)
    → first_due v ≡ Some (Text (rest_of v))
unwaiting v sound waits_not unmarked some window cwnd =
    let n = sendable v.sending (allowance v) in
    let all : n ≡ length v.sending.held - outstanding v.sending = omega (arith, window, cwnd) in
    let worth : is_worth_sending v.sending (allowance v) (waits_no_longer v) ≡ true =
    or_right (nat_le v.sending.smss n || ((outstanding v.sending == 0) && takes_enough v.sending (allowance v))) (waits_no_longer v) waits_not in
    let sends : sends_new v ≡ true = both (nat_lt 0 n) _ (lt-ltb 0 n (omega (arith, all, some))) worth in
    new_first v sound (open_with v.sending.size v.state (length v.sending.held) (omega (arith, some)) sound.held) unmarked
    ∙ octets_due v (min n v.sending.smss) sends refl
    ∙ ap (λ m. Some (Text (record { offset = outstanding v.sending; count = min m v.sending.smss; fin = takes_fin v (outstanding v.sending + min m v.sending.smss) }))) all

enough_fits : (v : View) → length v.sending.held ≤ v.sending.window → length v.sending.held ≤ (allowance v) → outstanding v.sending < length v.sending.held → takes_all v.sending (allowance v) ≡ true
enough_fits v window cwnd some = le-leb (unsent v.sending) (usable v.sending (allowance v)) (omega (arith, window, cwnd))

-- without delay
pub small_goes_out : (v : View) → IsSound v → v.nodelay ≡ true → v.resend.mark ≡ None → outstanding v.sending < length v.sending.held → length v.sending.held ≤ v.sending.window → length v.sending.held ≤ (allowance v)
    → first_due v ≡ Some (Text (rest_of v))
small_goes_out v sound undelayed unmarked some window cwnd =
    let enough : takes_enough v.sending (allowance v) ≡ true = or_left (takes_all v.sending (allowance v)) _ (enough_fits v window cwnd some) in
    unwaiting v sound (or_left ((v.nodelay && takes_enough v.sending (allowance v)) || passes_full v) v.resend.overridden
    (or_left (v.nodelay && takes_enough v.sending (allowance v)) (passes_full v) (both v.nodelay _ undelayed enough))) unmarked some window cwnd

-- or where small segments wait for small ones only: where none of these is outstanding, or our side is closed
pub passing_goes_out : (v : View) → IsSound v → v.minshall ≡ true → (v.resend.small ≡ 0) ⊎ (awaits_fin_ack v.state ≡ true) → v.resend.mark ≡ None → outstanding v.sending < length v.sending.held
    → length v.sending.held ≤ v.sending.window → length v.sending.held ≤ (allowance v) → first_due v ≡ Some (Text (rest_of v))
passing_goes_out v sound on why unmarked some window cwnd =
    let all = enough_fits v window cwnd some in
    let enough : takes_enough v.sending (allowance v) ≡ true = or_left (takes_all v.sending (allowance v)) _ all in
    let passes : ((v.resend.small == 0) || takes_last v) ≡ true = elim why [
      | inl none ↦ or_left (v.resend.small == 0) (takes_last v) (eq-eqb v.resend.small 0 none)
      | inr waits ↦ or_right (v.resend.small == 0) (takes_last v) (both (awaits_fin_ack v.state) _ waits all)
    ] in
    unwaiting v sound (or_left ((v.nodelay && takes_enough v.sending (allowance v)) || passes_full v) v.resend.overridden
    (or_right (v.nodelay && takes_enough v.sending (allowance v)) (passes_full v)
    (both (v.minshall && takes_enough v.sending (allowance v)) ((v.resend.small == 0) || takes_last v) (both v.minshall _ on enough) passes))) unmarked some window cwnd

-- the FIN goes with the last octets
pub last_goes_out : (v : View) → IsSound v → v.minshall ≡ true → awaits_fin_ack v.state ≡ true → v.resend.mark ≡ None → outstanding v.sending < length v.sending.held → length v.sending.held - outstanding v.sending ≤ v.sending.smss
    → length v.sending.held < v.sending.window → length v.sending.held < (allowance v)
    → first_due v ≡ Some (Text (record { offset = outstanding v.sending; count = length v.sending.held - outstanding v.sending; fin = true }))
last_goes_out v sound on waits unmarked some short window cwnd =
    let o = outstanding v.sending in
    let held = length v.sending.held in
    let count : min (held - o) v.sending.smss ≡ held - o = omega (arith, short) in
    let end : o + (held - o) ≡ held = omega (arith, some) in
    let goes : takes_fin v held ≡ true = both (v.minshall && awaits_fin_ack v.state && (held == held)) (nat_lt held (open_window v.sending (allowance v)))
    (both (v.minshall && awaits_fin_ack v.state) (held == held) (both v.minshall (awaits_fin_ack v.state) on waits) (eq-eqb held held refl)) (lt-ltb held (open_window v.sending (allowance v)) (omega (arith, window, cwnd))) in
    passing_goes_out v sound on (inr waits) unmarked some (omega (arith, window)) (omega (arith, cwnd))
    ∙ ap (λ n. Some (Text (record { offset = o; count = n; fin = takes_fin v (o + n) }))) count
    ∙ ap (λ n. Some (Text (record { offset = o; count = held - o; fin = takes_fin v n }))) end
    ∙ ap (λ b. Some (Text (record { offset = o; count = held - o; fin = b }))) goes

-- The FIN.

pub fin_goes_out : (v : View) → IsSound v → v.resend.mark ≡ None → awaits_fin_ack v.state ≡ true → outstanding v.sending ≡ length v.sending.held → outstanding v.sending < v.sending.window
    → first_due v ≡ Some (Text (record { offset = length v.sending.held; count = 0; fin = true }))
fin_goes_out v sound unmarked waits all room =
    let none : sendable v.sending (allowance v) ≡ 0 = omega (arith, all) in
    let none_new : sends_new v ≡ false = ap (λ n. nat_lt 0 n && is_worth_sending v.sending (allowance v) (waits_no_longer v)) none in
    let one = awaits_fin_ack v.state && (outstanding v.sending == length v.sending.held) in
    let sends : sends_fin v ≡ true = both one (nat_lt (outstanding v.sending) v.sending.window)
    (both (awaits_fin_ack v.state) (outstanding v.sending == length v.sending.held) waits (eq-eqb (outstanding v.sending) (length v.sending.held) all)) (lt-ltb (outstanding v.sending) v.sending.window room) in
    new_first v sound (open_until v.state waits) unmarked
    ∙ ap₂ (λ a b. if a then Some (Text (new_octets v)) else if b then Some (Text (fin_alone v)) else if v.resend.owes_probe && probes v then Some Probe else ack_due v) none_new sends
    ∙ ap (λ n. Some (Text (record { offset = n; count = 0; fin = true }))) all

-- A probe.

pub probe_goes_out : (v : View) → IsSound v → v.resend.mark ≡ None → v.resend.owes_probe ≡ true → v.sending.window ≡ 0 → (0 < length v.sending.held) ⊎ (awaits_fin_ack v.state ≡ true) → first_due v ≡ Some Probe
probe_goes_out v sound unmarked owes shut has =
    let open_yet : IsOpen v.state = elim has [ inl some ↦ open_with v.sending.size v.state (length v.sending.held) some sound.held | inr waits ↦ open_until v.state waits ] in
    let none : sendable v.sending (allowance v) ≡ 0 = omega (arith, shut) in
    let none_new : sends_new v ≡ false = ap (λ n. nat_lt 0 n && is_worth_sending v.sending (allowance v) (waits_no_longer v)) none in
    let one = awaits_fin_ack v.state && (outstanding v.sending == length v.sending.held) in
    let no_fin : sends_fin v ≡ false = ap (λ b. one && b) (le-ltb (outstanding v.sending) v.sending.window (omega (arith, shut))) ∙ and_false one in
    let unacknowledged : has_unacknowledged v ≡ true = elim has [
      | inl some ↦ or_left (not (length v.sending.held == 0)) (awaits_fin_ack v.state) (elim (eqb_tells (length v.sending.held) 0) [ inl t ↦ let zero = t.1 in absurd (omega (arith, some, zero)) | inr t ↦ ap not t.0 ])
      | inr waits ↦ or_right (not (length v.sending.held == 0)) (awaits_fin_ack v.state) waits
    ] in
    let goes : probes v ≡ true = both (not (is_opening v.state) && (v.sending.window == 0)) (has_unacknowledged v)
    (both (not (is_opening v.state)) (v.sending.window == 0) (ap not open_yet.opened) (eq-eqb v.sending.window 0 shut)) unacknowledged in
    new_first v sound open_yet unmarked
    ∙ ap₂ (λ a b. if a then Some (Text (new_octets v)) else if b then Some (Text (fin_alone v)) else if v.resend.owes_probe && probes v then Some Probe else ack_due v) none_new no_fin
    ∙ ap₂ (λ a b. if a && b then Some Probe else ack_due v) owes goes

-- What was lost.

opening_lives : (t : State) → is_opening t ≡ true → is_closed t ≡ false
opening_lives SynSent e = refl
opening_lives SynReceived e = refl
opening_lives _ e = cc

pub syn_goes_out : (v : View) → IsSound v → is_opening v.state ≡ true → (v.sending.nxt ≡ v.sending.una) ⊎ (is_some v.resend.mark ≡ true) → first_due v ≡ Some Syn
syn_goes_out v sound opening why =
    let goes : ((outstanding v.sending == 0) || is_some v.resend.mark) ≡ true = elim why [
      | inl none ↦ or_left (outstanding v.sending == 0) (is_some v.resend.mark) (eq-eqb (outstanding v.sending) 0 (omega (arith, none, sound.una)))
      | inr marked ↦ or_right (outstanding v.sending == 0) (is_some v.resend.mark) marked
    ] in
    ap₂ (λ a b. if a then Some Rst else if b then (if (outstanding v.sending == 0) || is_some v.resend.mark then Some Syn else ack_due v) else option_or (again_from v v.resend.mark) (new_due v))
    (unowed v.owes_reset (is_closed v.state) v.released (opening_lives v.state opening) sound.reset) opening
    ∙ ap (λ b. if b then Some Syn else ack_due v) goes

marked_goes : (v : View) (mark : ℕ) → IsSound v → is_opening v.state ≡ false → v.resend.mark ≡ Some mark → goes_again v (again_at v mark) ≡ true
    → (stretch : Stretch) × (first_due v ≡ Some (Text stretch)) × (stretch.offset ≡ again_at v mark)
marked_goes v mark sound opened is goes =
    let below = sound.mark mark is in (
      again v (again_at v mark),
      ap₂ (λ a b. if a then Some Rst else if b then (if (outstanding v.sending == 0) || is_some v.resend.mark then Some Syn else ack_due v) else option_or (again_from v v.resend.mark) (new_due v))
          (unowed v.owes_reset (is_closed v.state) v.released (flies_open v sound (omega (arith, below))) sound.reset) opened
          ∙ ap (λ m. option_or (again_from v m) (new_due v)) is
          ∙ ap (λ b. option_or (if b then Some (Text (again v (again_at v mark))) else None) (new_due v)) goes,
      refl,
    )

-- within both windows
pub lost_goes_out : (v : View) (mark : ℕ) → IsSound v → is_opening v.state ≡ false → v.resend.mark ≡ Some mark → again_at v mark < outstanding v.sending → (repairs_gaps v && not v.resend.once) ≡ false
    → (again_at v mark ≡ 0) ⊎ ((again_at v mark < v.sending.window) × (again_at v mark < v.congestion.cwnd))
    → (stretch : Stretch) × (first_due v ≡ Some (Text stretch)) × (stretch.offset ≡ again_at v mark)
lost_goes_out v mark sound opened is out plain within =
    let place = again_at v mark in
    let window = open_window v.sending v.congestion.cwnd in
    let goes : goes_by_windows v place ≡ true = elim within [
      | inl first ↦ or_left (place == 0) (nat_lt place window) (eq-eqb place 0 first)
      | inr both_take ↦ or_right (place == 0) (nat_lt place window) (lt-ltb place window (omega (arith, both_take.0, both_take.1)))
    ] in
    marked_goes v mark sound opened is (goes_plainly v place plain out goes)

-- by reports
pub missing_goes_out : (v : View) (mark : ℕ) → IsSound v → is_opening v.state ≡ false → v.resend.mark ≡ Some mark → again_at v mark < outstanding v.sending → repairs_gaps v ≡ true → v.resend.once ≡ false
    → is_missing v (again_at v mark) ≡ true → again_at v mark < v.sending.window → pipe v + v.sending.smss ≤ v.congestion.cwnd
    → (stretch : Stretch) × (first_due v ≡ Some (Text stretch)) × (stretch.offset ≡ again_at v mark)
missing_goes_out v mark sound opened is out rules all missing inside room =
    let place = again_at v mark in
    let by_rule : goes_by_reports v place ≡ true =
    both (is_missing v place && nat_lt place v.sending.window) (nat_le (pipe v + v.sending.smss) v.congestion.cwnd)
    (both (is_missing v place) (nat_lt place v.sending.window) missing (lt-ltb place v.sending.window inside)) (le-leb (pipe v + v.sending.smss) v.congestion.cwnd room) in
    marked_goes v mark sound opened is
    (both (nat_lt place (outstanding v.sending)) (if repairs_gaps v && not v.resend.once then goes_by_reports v place else goes_by_windows v place) (lt-ltb place (outstanding v.sending) out)
    (ap₂ (λ a b. if a && not b then goes_by_reports v place else goes_by_windows v place) rules all ∙ by_rule))

-- nothing is reported
pub unreported_marks : (v : View) (mark : ℕ) → v.resend.reported ≡ [] → again_at v mark ≡ mark
unreported_marks v mark none = ap (λ rs. first_gap rs mark) none
