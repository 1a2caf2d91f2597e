-- Why new octets go past the congestion window at the first two duplicate ACKs alone, and never past the peer's window.
use Rattle.std.proofs.Common.{◌≡◌, ℕ, ◌+◌, ◌*◌, ◌^◌, ◌<◌, ◌≤◌, ◌==◌, ◌&&◌, ◌||◌, not, nat_le, nat_lt, min, true, false, if◌then◌else◌, length, Some, None, is_some, inl, inr, arith, ◌∙◌, ap, ap₂, subst}
use Rattle.std.specs.Option.{option_or}
use Rattle.std.proofs.lemmas.Bool.{lt-ltb, le-leb}
use Rattle.std.proofs.lemmas.Bool.Decides.{eqb_tells, leb_tells}
use Rattle.tcp_segment.specs.Segment.{Segment}
use Rattle.tcp_segment.specs.Wire.{past}
use Rattle.clock.specs.declared.moment.Moment.{Moment}
use Rattle.congestion.specs.Control.{repairs}
use Rattle.congestion.specs.Window.{Window, is_recovering, goes_on, third_is_next, allowed, after_third, after_duplicate}
use Rattle.tcp_state.specs.declared.emission.Due.TheVariants.{Rst, Syn, Text, Probe}
use Rattle.tcp_state.specs.declared.emission.Stretch.{Stretch}
use Rattle.tcp_halves.specs.Stream.{outstanding}
use Rattle.tcp_halves.specs.Windows.{sendable, next_count, takes_enough, is_worth_sending}
use Rattle.tcp_halves.proofs.Choices.{either, clash, and_left, and_right, and_false, both, not_true, or_left, unowed}
use Rattle.tcp_state.specs.View.{View, IsSound, is_opening, is_closed}
use Rattle.tcp_state.specs.Congestion.{KeepsCongestion}
use Rattle.tcp_state.specs.Timing.{probes}
use Rattle.tcp_state.specs.New.{waits_no_longer, sends_new, takes_fin, sends_fin}
use Rattle.tcp_state.specs.Arrival.{after_window, is_duplicate, counts_duplicates, is_counted_duplicate, before, timed_by, reports_loss, after_segment_at}
use Rattle.tcp_state.specs.Due.{first_due, end_of, ack_due, again_from, new_octets, fin_alone, new_due}
use Rattle.congestion.specs.Control.{is_selective}
use Rattle.tcp_state.specs.declared.reporting.Reporting.{Reporting}
use Rattle.tcp_state.specs.Edges.{Hears}
use Rattle.tcp_state.specs.Selective.{selects, counts_pipe, allowance}
use Rattle.tcp_state.proofs.Allowance.{allowance_plain}
use Rattle.tcp_state.proofs.Clocked.{open_reopens_none}
use Rattle.tcp_state.proofs.Selects.{counted_selects_none}
use Rattle.tcp_state.proofs.SetUp.{control_stays}
use Rattle.tcp_state.proofs.Duplicates.{window_stays, comes_alone}
use Rattle.tcp_state.proofs.Losses.{others_resend_none}
use Rattle.tcp_state.proofs.NewNumbers.{keeps_window, keeps_cwnd}
use Rattle.tcp_state.proofs.Signals.{duplicates_are, counts_duplicate}

-- Past the congestion window.

-- more than the window may be in flight only by limited transmit
allowed_past : (c : Window) (end : ℕ) → end ≤ allowed c → c.cwnd < end → (end ≤ c.cwnd + c.duplicates * c.smss) × (c.duplicates ≤ 2) × (repairs c.control ≡ true)
allowed_past c end within past =
    let test = repairs c.control && not (is_recovering c) in
    let G : Type 0 = (end ≤ c.cwnd + c.duplicates * c.smss) × (c.duplicates ≤ 2) × (repairs c.control ≡ true) in
    either ℕ (λ n. end ≤ n → G) test (c.cwnd + c.duplicates * c.smss) c.cwnd
    (λ limited few.
    let runs = not_true (is_recovering c) (and_right (repairs c.control) (not (is_recovering c)) limited) in
    let below : c.duplicates ≤ 2 = elim (leb_tells 3 c.duplicates) [ inl three ↦ clash (is_recovering c) three.0 runs | inr fewer ↦ let less = fewer.1 in omega (arith, less) ] in
    (few, below, and_left (repairs c.control) (not (is_recovering c)) limited))
    (λ plain few. absurd (omega (arith, few, past))) within

pub limited_within : (v : View) (stretch : Stretch) → IsSound v → counts_pipe v ≡ false → first_due v ≡ Some (Text stretch) → outstanding v.sending ≤ stretch.offset → 0 < stretch.count → v.congestion.cwnd < end_of stretch
    → (end_of stretch ≤ v.congestion.cwnd + v.congestion.duplicates * v.congestion.smss) × (v.congestion.duplicates ≤ 2) × (end_of stretch ≤ v.sending.window) × (repairs v.congestion.control ≡ true)
limited_within v stretch sound plain first new some past =
    let k = allowed_past v.congestion (end_of stretch) (subst (λ n. end_of stretch ≤ n) (allowance_plain v plain) (keeps_cwnd v stretch sound first new some)) past in
    (k.0, k.1, (keeps_window v stretch sound first new).1, k.2)

-- The first two duplicate ACKs.

below_third : (c : Window) → c.duplicates < 2 → is_recovering c ≡ false
below_third c few = elim (leb_tells 3 c.duplicates) [ inl three ↦ let most = three.1 in absurd (omega (arith, most, few)) | inr fewer ↦ fewer.0 ]

before_third : (c : Window) → c.duplicates < 2 → third_is_next c ≡ false
before_third c few = elim (eqb_tells c.duplicates 2) [ inl two ↦ let is = two.1 in absurd (omega (arith, is, few)) | inr other ↦ other.0 ]

-- one more lets a segment more be in flight
one_more : (c : Window) (flight : ℕ) → repairs c.control ≡ true → c.duplicates < 2 → let x = after_duplicate c flight in allowed x ≡ c.cwnd + (c.duplicates + 1) * c.smss
one_more c flight on few =
    let next : nat_le 3 (c.duplicates + 1) ≡ false = elim (leb_tells 3 (c.duplicates + 1)) [ inl three ↦ let most = three.1 in absurd (omega (arith, most, few)) | inr fewer ↦ fewer.0 ] in
    let counted : Window = record c { duplicates = c.duplicates + 1 } in
    let recovers : Window = record c { cwnd = min (c.cwnd + c.smss) (2 ^ 30) } in
    ap₂ (λ a b. allowed (if a then recovers else if b then after_third c flight else counted)) (below_third c few) (before_third c few)
    ∙ ap₂ (λ a b. if a && not b then c.cwnd + (c.duplicates + 1) * c.smss else c.cwnd) on next

segment_more : (count size : ℕ) → (count + 1) * size ≡ count * size + size
segment_more count size = omega arith

-- a full segment is due that may be in flight
full_due : (w : View) → is_opening w.state ≡ false → w.owes_reset ≡ false → w.resend.mark ≡ None → 0 < w.sending.smss → outstanding w.sending + w.sending.smss ≤ length w.sending.held → outstanding w.sending + w.sending.smss ≤ w.sending.window
    → outstanding w.sending + w.sending.smss ≤ allowance w → first_due w ≡ Some (Text (record { offset = outstanding w.sending; count = w.sending.smss; fin = takes_fin w (outstanding w.sending + w.sending.smss) }))
full_due w opened owes unmarked some held window cwnd =
    let n = sendable w.sending (allowance w) in
    let full : w.sending.smss ≤ n = omega (arith, held, window, cwnd) in
    let worth : is_worth_sending w.sending (allowance w) (waits_no_longer w) ≡ true =
    or_left (nat_le w.sending.smss n || ((outstanding w.sending == 0) && takes_enough w.sending (allowance w))) (waits_no_longer w)
    (or_left (nat_le w.sending.smss n) _ (le-leb w.sending.smss n full)) in
    let sends : sends_new w ≡ true = both (nat_lt 0 n) _ (lt-ltb 0 n (omega (arith, full, some))) worth in
    let count : next_count w.sending (allowance w) ≡ w.sending.smss = omega (arith, full) in
    ap₂ (λ a b. if a then Some Rst else if b then (if (outstanding w.sending == 0) || is_some w.resend.mark then Some Syn else ack_due w) else option_or (again_from w w.resend.mark) (new_due w)) owes opened
    ∙ ap (λ m. option_or (again_from w m) (new_due w)) unmarked
    ∙ ap (λ b. if b then Some (Text (new_octets w)) else if sends_fin w then Some (Text (fin_alone w)) else if w.resend.owes_probe && probes w then Some Probe else ack_due w) sends
    ∙ ap (λ k. Some (Text (record { offset = outstanding w.sending; count = k; fin = takes_fin w (outstanding w.sending + k) }))) count

pub limited_sends : (v : View) (s : Segment) (now : Moment) → IsSound v → KeepsCongestion v → is_closed v.state ≡ false → repairs v.congestion.control ≡ true → is_counted_duplicate v s ≡ true → reports_loss v s ≡ false → v.congestion.duplicates < 2 → v.resend.mark ≡ None
    → outstanding v.sending + v.sending.smss ≤ length v.sending.held → outstanding v.sending + v.sending.smss ≤ v.sending.window → outstanding v.sending ≤ v.congestion.cwnd + v.congestion.duplicates * v.congestion.smss
    → let w = after_segment_at v s now in first_due w ≡ Some (Text (record { offset = outstanding v.sending; count = v.sending.smss; fin = takes_fin w (outstanding v.sending + v.sending.smss) }))
limited_sends v s now sound keeps lives on is quiet few unmarked held window cwnd =
    let d = (duplicates_are v s sound).0 (and_left (is_duplicate v s) (counts_duplicates v) is) in
    let x = timed_by (before v s) (after_window v s) now in
    let w = after_segment_at v s now in
    let at : w ≡ x = comes_alone v s now sound d in
    let k = window_stays v s d in
    let out : outstanding w.sending ≡ outstanding v.sending = ap (λ (u : View). outstanding u.sending) at ∙ ap₂ past k.nxt k.una in
    let smss : w.sending.smss ≡ v.sending.smss = ap (λ (u : View). u.sending.smss) at ∙ k.smss in
    let octets : length w.sending.held ≡ length v.sending.held = ap (λ (u : View). length u.sending.held) at ∙ ap length k.held in
    let told : w.sending.window ≡ v.sending.window = ap (λ (u : View). u.sending.window) at ∙ k.window in
    let owes : w.owes_reset ≡ false = ap (λ (u : View). u.owes_reset) at ∙ unowed v.owes_reset (is_closed v.state) v.released lives sound.reset in
    let runs : goes_on v.congestion ≡ false = ap (λ b. repairs v.congestion.control && b) (below_third v.congestion few) ∙ and_false (repairs v.congestion.control) in
    let other : (is_counted_duplicate v s && third_is_next v.congestion) ≡ false = ap (λ b. is_counted_duplicate v s && b) (before_third v.congestion few) ∙ and_false (is_counted_duplicate v s) in
    let rules : selects w ≡ selects v = ap₂ (λ c (r : Reporting). is_selective c && r.sacks) (control_stays v (Hears s now)) (ap (λ (u : View). u.reporting) at) in
    let more : allowance w ≡ v.congestion.cwnd + (v.congestion.duplicates + 1) * v.congestion.smss =
    allowance_plain w (ap (λ b. b && (is_recovering w.congestion || (w.resend.recover == 0))) (rules ∙ counted_selects_none v (and_right (is_duplicate v s) (counts_duplicates v) is)))
    ∙ ap allowed (counts_duplicate v s now sound d (and_right (is_duplicate v s) (counts_duplicates v) is)) ∙ one_more v.congestion (past v.sending.nxt v.sending.una) on few in
    let segment : v.congestion.smss ≡ v.sending.smss = keeps.segment (ap₂ (λ a b. a || b) d.opened lives) in
    let room : outstanding w.sending + w.sending.smss ≤ allowance w =
    let grown = segment_more v.congestion.duplicates v.congestion.smss in omega (arith, out, smss, more, segment, cwnd, grown) in
    let due = full_due w (ap (λ (u : View). is_opening u.state) at ∙ d.opened) owes (others_resend_none v s now sound unmarked d.opened runs other quiet (open_reopens_none v s (omega (arith, window, sound.segment_least)))) (omega (arith, smss, sound.segment_least))
    (omega (arith, out, smss, octets, held)) (omega (arith, out, smss, told, window)) room in
    due ∙ ap₂ (λ o n. Some (Text (record { offset = o; count = n; fin = takes_fin w (o + n) }))) out smss
