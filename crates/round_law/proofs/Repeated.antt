-- Why octets that begin before RCV.NXT draw an acknowledgement at once, whether they fit the window or not.
use Rattle.std.proofs.Common.{◌≡◌, ◌+◌, ◌%◌, ◌^◌, ◌<◌, ◌≤◌, ◌==◌, ◌||◌, ◌&&◌, not, nat_le, nat_lt, true, false, length, inl, inr, arith, refl, ◌∙◌, ap, ap₂}
use Rattle.std.proofs.lemmas.Bool.{le-leb}
use Rattle.std.proofs.lemmas.Bool.Decides.{eqb_tells}
use Rattle.stream_buf.specs.Receiving.{ranges}
use Rattle.clock.specs.declared.moment.Moment.{Moment}
use Rattle.tcp_segment.specs.Segment.{Segment}
use Rattle.tcp_halves.specs.Stream.{outstanding}
use Rattle.tcp_halves.proofs.Choices.{by, and_false, both, or_left, or_right, of_false}
use Rattle.tcp_state.specs.declared.state.State.{State}
use Rattle.tcp_state.specs.declared.state.State.TheVariants.{Established, FinWait1, FinWait2}
use Rattle.tcp_state.specs.View.{View, IsSound, is_syn_received, is_closed}
use Rattle.tcp_state.specs.Arrival.{is_acceptable_to, is_receiving, is_opening_syn, holds_back, is_silenced}
use Rattle.tcp_state.specs.Duties.{acknowledges, Places, StandsAt, is_unacceptable, is_challenged, is_another_syn, is_astray, is_aged, is_in_reach, is_used, may_bring, brings_text, hurries, draws, is_asking}
use Rattle.tcp_state.specs.Edges.{Event, after_event}
use Rattle.tcp_state.specs.Progress.{IsOrdinary}
use Rattle.tcp_state.proofs.Drawn.{owed_as_drawn}
use Rattle.tcp_state.proofs.DrawTests.{drawn_at}
use Rattle.tcp_state.proofs.Gains.{receiving_lives}

brings : (state : State) → is_receiving state ≡ true → may_bring state ≡ true
brings Established e = refl
brings FinWait1 e = refl
brings FinWait2 e = refl
brings _ e = cc

module _ (at : Places) (v : View) (s : Segment) (now : Moment) (sound : IsSound v) (stands : StandsAt at v s) (receives : is_receiving v.state ≡ true) (plain : IsOrdinary s) (sent : at.ack ≤ at.una + outstanding v.sending) (young : is_aged at v ≡ false)
    (some : 0 < length s.octets) (before : at.first < at.next) where
  -- where it is acceptable, it is used
  used : is_acceptable_to v s ≡ true → is_used at v s ≡ true
  used acceptable =
      let plain_one = not s.flags.rst && is_acceptable_to v s in
      let says : acknowledges v s ≡ true = both (plain_one && not s.flags.syn) s.flags.ack
      (both plain_one (not s.flags.syn) (both (not s.flags.rst) (is_acceptable_to v s) (of_false s.flags.rst plain.no_rst) acceptable) (of_false s.flags.syn plain.no_syn)) plain.ack in
      let within = is_in_reach at v in
      both (acknowledges v s && within) (not (is_syn_received v.state) || nat_lt at.una at.ack)
      (both (acknowledges v s) within says (both (nat_le at.ack (at.una + outstanding v.sending)) (not (is_aged at v)) (le-leb at.ack (at.una + outstanding v.sending) sent) (of_false (is_aged at v) young)))
      (or_left (not (is_syn_received v.state)) (nat_lt at.una at.ack) (of_false (is_syn_received v.state) (receiving_lives v.state receives).2))

  -- its octets don't stand next
  hurry : hurries at v s ≡ true
  hurry =
      let apart : (at.first == at.next) ≡ false = elim (eqb_tells at.first at.next) [ inl t ↦ absurd (omega (arith, t.1, before)) | inr t ↦ t.0 ] in
      let filled : (length s.octets == 0) ≡ false = elim (eqb_tells (length s.octets) 0) [ inl t ↦ absurd (omega (arith, t.1, some)) | inr t ↦ t.0 ] in
      both (not (length s.octets == 0)) (not (at.first == at.next) || not (ranges v.receiving.kept == 0) || v.delays_ack) (of_false (length s.octets == 0) filled)
      (or_left (not (at.first == at.next) || not (ranges v.receiving.kept == 0)) v.delays_ack (or_left (not (at.first == at.next)) (not (ranges v.receiving.kept == 0)) (of_false (at.first == at.next) apart)))

  drawn : drawn_at at v s ≡ true
  drawn =
      let text = brings_text at v s && (s.flags.fin || hurries at v s) in
      by (drawn_at at v s ≡ true) (is_acceptable_to v s)
      (λ acceptable. or_right (is_unacceptable v s || is_challenged at s || is_another_syn v s || is_astray at v s) text
      (both (brings_text at v s) (s.flags.fin || hurries at v s) (both (is_used at v s) (may_bring v.state) (used acceptable) (brings v.state receives)) (or_right s.flags.fin (hurries at v s) hurry)))
      (λ refused.
      let unacceptable : is_unacceptable v s ≡ true = both (not s.flags.rst) (not (is_acceptable_to v s)) (of_false s.flags.rst plain.no_rst) (of_false (is_acceptable_to v s) refused) in
      or_left (is_unacceptable v s || is_challenged at s || is_another_syn v s || is_astray at v s) text
      (or_left (is_unacceptable v s || is_challenged at s || is_another_syn v s) (is_astray at v s)
      (or_left (is_unacceptable v s || is_challenged at s) (is_another_syn v s) (or_left (is_unacceptable v s) (is_challenged at s) unacceptable))))

  pub repeats_answered : is_closed (after_event v (Event.Hears s now)).state ≡ false → holds_back v s now ≡ false → (after_event v (Event.Hears s now)).owes_ack ≡ true
  repeats_answered lives free =
      let again : is_opening_syn v s ≡ false =
      ap (λ b. v.passive && is_syn_received v.state && b && not s.flags.ack && not s.flags.rst && not (is_acceptable_to v s) && ((s.number + 1) % 2 ^ 32 == v.receiving.rnext)) plain.no_syn
      ∙ ap (λ b. b && not s.flags.ack && not s.flags.rst && not (is_acceptable_to v s) && ((s.number + 1) % 2 ^ 32 == v.receiving.rnext)) (and_false (v.passive && is_syn_received v.state)) in
      let loud : is_silenced v s now ≡ false = ap₂ (λ a b. a || b) free (ap (λ b. v.guard.on && b) again ∙ and_false v.guard.on) in
      owed_as_drawn at v s now sound (receiving_lives v.state receives).1 stands lives
      ∙ ap₂ (λ a b. a && not b) (or_right v.owes_ack (draws at v s) (or_left (drawn_at at v s) (is_asking at v s) drawn)) loud
