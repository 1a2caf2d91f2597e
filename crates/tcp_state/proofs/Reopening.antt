-- Why what a probe of a closed window brought goes out again where the window opens, and is nothing to the congestion window.
use Rattle.std.proofs.Common.{◌≡◌, ◌<◌, ◌==◌, ◌&&◌, ◌||◌, ◌⊎◌, not, nat_lt, nat_le, Bool, true, false, if◌then◌else◌, length, Some, sym, arith, refl, ◌∙◌, ap, ap₂, subst, inl, inr}
use Rattle.std.proofs.lemmas.Bool.{lt-ltb, ltb-true}
use Rattle.tcp_segment.specs.Segment.{Segment}
use Rattle.tcp_segment.specs.Wire.{past}
use Rattle.clock.specs.declared.moment.Moment.{Moment}
use Rattle.congestion.specs.Control.{repairs}
use Rattle.congestion.specs.Window.{Window}
use Rattle.stream_buf.specs.Ranges.{AreApart}
use Rattle.tcp_halves.specs.Halves.{Sending}
use Rattle.tcp_halves.specs.Stream.{outstanding, is_new_ack}
use Rattle.tcp_halves.specs.Windows.{updates_window}
use Rattle.tcp_halves.proofs.Choices.{either, clash, and_left, and_false, both, unowed}
use Rattle.tcp_state.specs.declared.emission.Due.TheVariants.{Text}
use Rattle.tcp_state.specs.Resend.{Resend, mark_past, resend_acknowledged}
use Rattle.tcp_state.specs.View.{View, IsSound, is_opening, is_syn_sent, is_syn_received, is_closed}
use Rattle.tcp_state.specs.Timing.{probes, has_unacknowledged}
use Rattle.tcp_state.specs.Arrival.{is_receiving, after_ack, after_window, after_text, after_heard, answers_probe, before, is_moved, reopens, reopens_by, resend_answered, resend_heard, resend_told, resend_after, timed_by, after_segment_at}
use Rattle.tcp_state.specs.Due.{again, first_due}
use Rattle.tcp_state.proofs.AckNumbers.{probed_is_one}
use Rattle.tcp_state.proofs.Clocked.{by_signal, comes_to, unmoved, open_reopens_none}
use Rattle.tcp_state.proofs.Congestion.{window_kept}
use Rattle.tcp_state.proofs.Guarded.{kept_mark}
use Rattle.tcp_state.proofs.Losses.{past_opening}
use Rattle.tcp_state.proofs.Places.{first_at_una}
use Rattle.tcp_state.proofs.Recovering.{heard_left, goes_after, unmoved_by_probes}
use Rattle.tcp_state.proofs.Scores.{blocks_score, heard_scores}
use Rattle.tcp_state.proofs.Segments.{by_fin, by_ack, by_hearing, not_rejected}

-- what moves nothing leaves what a probe alone took
abbrev StaysProbed : View → View → Type 0
StaysProbed v w = is_closed w.state ≡ false → w.sending.una ≡ v.sending.una → w.sending.probed ≡ v.sending.probed

stays_probed : (v : View) (s : Segment) → IsSound v → is_opening v.state ≡ false → StaysProbed v (after_heard v s)
stays_probed v s sound opened =
    let P : View → Type 0 = StaysProbed v in
    let waits_not = past_opening v.state opened in
    let acked = after_ack v s.acknowledgement in
    let told = after_window acked s in
    let text = after_text told s in
    let Q : View → Type 0 = λ w. w.sending.una ≡ v.sending.una → w.sending.probed ≡ v.sending.probed in
    let stays : is_new_ack v.sending s.acknowledgement ≡ true → s.acknowledgement ≡ v.sending.una → ⊥ = λ new same.
    let gained = past s.acknowledgement v.sending.una in
    let moved = ltb-true 0 gained (and_left (nat_lt 0 gained) (nat_le gained (outstanding v.sending)) new) in
    omega (arith, moved, same, sound.una) in
    let answered : Q acked = by_ack Q v s.acknowledgement (record {
      old = λ same. refl;
      beyond = λ same. refl;
      opens = λ received new. clash (is_syn_received v.state) received waits_not.1;
      octets = λ new same. absurd (stays new same);
      fin = λ new fin same. absurd (stays new same);
    }) in
    let heard : Q told = either Sending (λ t. Q (record acked { sending = t })) (updates_window acked.sending s.number s.acknowledgement) _ acked.sending (λ newer. answered) (λ older. answered) in
    let read : Q text = either View Q ((length s.octets == 0) || not (is_receiving told.state)) told _ (λ none. heard) (λ some. heard) in
    by_hearing P v s (λ lives. cc) (record {
      dropped = λ lives same. refl;
      drawn = λ lives same. refl;
      reset = λ acts lives. cc;
      crossed = λ waits. clash (is_syn_sent v.state) waits waits_not.0;
      opened = λ waits right. clash (is_syn_sent v.state) waits waits_not.0;
      acknowledged = λ taken lives. answered;
      read = λ on lives. by_fin Q text s (λ counts. read) read read;
    })

-- No segment makes a number a probe's alone.
never_probed : (v : View) (s : Segment) → is_opening v.state ≡ false → v.sending.probed ≡ false → (after_heard v s).sending.probed ≡ false
never_probed v s opened unprobed =
    let P : View → Type 0 = λ w. w.sending.probed ≡ false in
    let waits_not = past_opening v.state opened in
    let acked = after_ack v s.acknowledgement in
    let told = after_window acked s in
    let text = after_text told s in
    let answered : P acked = by_ack P v s.acknowledgement (record { old = unprobed; beyond = unprobed; opens = λ received new. clash (is_syn_received v.state) received waits_not.1; octets = λ new. refl; fin = λ new fin. refl }) in
    let heard : P told = either Sending (λ t. P (record acked { sending = t })) (updates_window acked.sending s.number s.acknowledgement) _ acked.sending (λ newer. answered) (λ older. answered) in
    let read : P text = either View P ((length s.octets == 0) || not (is_receiving told.state)) told _ (λ none. heard) (λ some. heard) in
    by_hearing P v s heard (record {
      dropped = unprobed;
      drawn = unprobed;
      reset = λ acts. unprobed;
      crossed = λ waits. clash (is_syn_sent v.state) waits waits_not.0;
      opened = λ waits right. clash (is_syn_sent v.state) waits waits_not.0;
      acknowledged = λ taken. answered;
      read = λ on. by_fin P text s (λ counts. read) read read;
    })

-- Nothing else opens it.
pub reopened_alone : (v : View) (s : Segment) → is_opening v.state ≡ false → (repairs v.congestion.control ≡ false) ⊎ ((v.sending.probed ≡ false) ⊎ (0 < v.sending.window)) → reopens_by v s ≡ false
reopened_alone v s opened why =
    let x = after_heard v s in
    let asks = answers_probe v s in
    elim why [
      | inl plain ↦
          ap (λ b. asks && (x.sending.probed && b && nat_lt 0 x.sending.window)) (ap (λ (c : Window). repairs c.control) (window_kept v s) ∙ plain)
          ∙ ap (λ b. asks && (b && nat_lt 0 x.sending.window)) (and_false x.sending.probed)
          ∙ and_false asks
      | inr other ↦ elim other [
        | inl unprobed ↦ ap (λ b. asks && (b && repairs x.congestion.control && nat_lt 0 x.sending.window)) (never_probed v s opened unprobed) ∙ and_false asks
        | inr wide ↦ open_reopens_none v s wide
      ]
    ]

-- A closed window is probed past the opening.
probes_opened : (v : View) → probes v ≡ true → is_opening v.state ≡ false
probes_opened v asks = elim_opened (is_opening v.state) (and_left (not (is_opening v.state)) (v.sending.window == 0) (and_left (not (is_opening v.state) && (v.sending.window == 0)) (has_unacknowledged v) asks))
  where
    elim_opened : (b : Bool) → not b ≡ true → b ≡ false
    elim_opened true e = cc
    elim_opened false e = refl

pub reopened_resends : (v : View) (s : Segment) (now : Moment) → IsSound v → repairs v.congestion.control ≡ true → probes v ≡ true → v.sending.probed ≡ true → is_closed v.state ≡ false → answers_probe v s ≡ true
    → let w = after_segment_at v s now in is_closed w.state ≡ false → w.sending.una ≡ v.sending.una → 0 < w.sending.window
    → (first_due w ≡ Some (Text (again w 0))) × (outstanding w.sending ≡ 1) × (w.congestion ≡ v.congestion)
reopened_resends v s now sound on asks probed lives answers alive still wide =
    let b = before v s in
    let x = after_heard v s in
    let w = after_segment_at v s now in
    let u = timed_by b x now in
    let opened = probes_opened v asks in
    let waits_not = past_opening v.state opened in
    let at : w ≡ u = comes_to v s now lives (not_rejected v s waits_not.0 waits_not.1) in
    let alive_so : is_closed x.state ≡ false = sym (ap (λ (y : View). is_closed y.state) at) ∙ alive in
    let una : x.sending.una ≡ v.sending.una = sym (ap (λ (y : View). y.sending.una) at) ∙ still in
    let window : 0 < x.sending.window = subst (λ (y : View). 0 < y.sending.window) at wide in
    let stays : is_moved b x ≡ false = ap (λ n. not (v.sending.una == n)) una ∙ unmoved v in
    let out : outstanding x.sending ≡ 1 = ap₂ (λ nxt n. past nxt n) (heard_left v s sound).1 una ∙ probed_is_one v sound lives probed in
    let opens : reopens x ≡ true = both (x.sending.probed && repairs x.congestion.control) (nat_lt 0 x.sending.window)
    (both x.sending.probed (repairs x.congestion.control) (stays_probed v s sound opened alive_so una ∙ probed) (ap (λ (c : Window). repairs c.control) (window_kept v s) ∙ on)) (lt-ltb 0 x.sending.window window) in
    let p = resend_told b x now in
    let heard : resend_heard b x now ≡ resend_answered x =
    ap (λ t. if t then resend_acknowledged x.resend x.sending.una (is_opening b.state) now else if b.answers_probe then resend_answered x else x.resend) stays
    ∙ ap (λ t. if t then resend_answered x else x.resend) answers in
    let first : mark_past 0 (outstanding x.sending) ≡ Some 0 = ap (mark_past 0) out in
    let P : Resend → Type 0 = λ r. (r.mark ≡ Some 0) × (r.once ≡ true) × (r.reported ≡ p.reported) in
    let told : P p = (
      ap (λ (r : Resend). r.mark) heard ∙ ap (λ t. if t then mark_past 0 (outstanding x.sending) else x.resend.mark) opens ∙ first,
      ap (λ (r : Resend). r.once) heard ∙ ap (λ t. t || x.resend.once) opens,
      refl,
    ) in
    let left : P (resend_after b x now) = by_signal b x p P told (λ moves past. clash (is_moved b x) moves stays) (λ moves past goes. clash (is_moved b x) moves stays) (λ r why. (first, refl, refl)) in
    let k = goes_after v s sound opened alive_so in
    let owes : u.owes_reset ≡ false = k.reset ∙ unowed v.owes_reset (is_closed v.state) v.released lives sound.reset in
    let scores = blocks_score x.resend.reported x.sending b.blocks (heard_scores v s sound) in
    let due : first_due u ≡ Some (Text (again u 0)) = first_at_una u owes k.opened (kept_mark v s x now (inl waits_not.1) ∙ left.0) left.1 (subst (AreApart 1) (sym left.2) scores.apart) (omega (arith, out)) in (
      subst (λ y. first_due y ≡ Some (Text (again y 0))) (sym at) due,
      ap (λ (y : View). outstanding y.sending) at ∙ out,
      unmoved_by_probes v s now on asks still,
    )
