-- Why what opens is sound, and stays so once it has the peer's SYN.
use Rattle.std.proofs.Common.{◌≡◌, ℕ, ◌==◌, ◌+◌, ◌≤◌, ◌&&◌, ◌||◌, not, min, if◌then◌else◌, Bool, true, false, List, [], ◌∷◌, length, is_some, inl, inr, arith, refl, sym, ◌∙◌, ap, subst}
use Rattle.std.proofs.lemmas.Bool.Decides.{eqb_tells}
use Rattle.tcp_segment.specs.Segment.{Segment, scale_option_of, shift_of}
use Rattle.tcp_state.specs.declared.state.State.TheVariants.{SynSent}
use Rattle.tcp_halves.specs.Stream.{size_in, outstanding, receive_window, receiving_settled, after_syn}
use Rattle.tcp_halves.proofs.Keeping.{IsKeeping, settled_keeps, syn_keeps}
use Rattle.tcp_state.specs.View.{View, IsSound, is_opening, is_syn_sent, is_closed, is_write_finished, is_write_closed, takes_flag_number}
use Rattle.tcp_state.specs.Arrival.{scales_with, after_first_syn}
use Rattle.tcp_state.proofs.Sound.{sound_keeping}
use Rattle.tcp_state.proofs.Scales.{settled_terms}

-- what a SYN can tell, a half holds whether windows are scaled or not
pub told_is_held : (scales : Bool) (size : ℕ) → min size 65535 ≤ size_in scales size
told_is_held true size = omega arith
told_is_held false size = omega arith

none : (xs : List ℕ) → length xs ≤ 0 → xs ≡ []
none [] few = refl
none (x ∷ xs) few = absurd (omega (arith, few))

pub first_syn_sound : (v : View) (s : Segment) (advertised : ℕ) → IsSound v → v.state ≡ SynSent → advertised ≤ min v.receiving.size 65535 → IsSound (after_first_syn v s advertised)
first_syn_sound v s advertised sound waits few =
    let b = scales_with v s in
    let held : length v.sending.held ≤ 0 = subst (λ t. length v.sending.held ≤ (if is_opening t || is_write_finished t then 0 else v.sending.size)) waits sound.held in
    let unread : length v.receiving.readable ≤ 0 = subst (λ t. length v.receiving.readable ≤ (if is_opening t then 0 else v.receiving.size)) waits sound.readable in
    let shut : receive_window v.receiving ≡ 0 = untold (receive_window v.receiving) (subst (λ t. (is_syn_sent t && not (receive_window v.receiving == 0)) ≡ false) waits sound.untold) in
    let settled = settled_keeps v.receiving b (sound_keeping v sound) (none v.receiving.readable unread) shut in
    let wide = told_is_held b v.receiving.size in
    let keeps : IsKeeping (after_syn (receiving_settled v.receiving b) s.number advertised) = syn_keeps (receiving_settled v.receiving b) s.number advertised settled shut (omega (arith, unread, few, wide)) in
    record {
      una = sound.una;
      nxt = sound.nxt;
      rnext = keeps.small;
      held = held;
      readable = unread;
      window = keeps.fits;
      untold = refl;
      unsettled = refl;
      buffer = keeps.buffer;
      kept = keeps.kept;
      flight = subst (λ t. outstanding v.sending ≤ length v.sending.held + (if takes_flag_number t then 1 else 0)) waits sound.flight;
      mark = sound.mark;
      small = sound.small;
      probed = subst (λ t. (v.sending.probed && not (is_closed t) && (is_opening t || not (outstanding v.sending == 1))) ≡ false) waits sound.probed;
      recover = sound.recover;
      tail = sound.tail;
      resend = sound.resend;
      connection = refl;
      segment = omega arith;
      segment_least = omega arith;
      ack = refl;
      error = subst (λ t. (is_some v.pending_error && not (is_closed t)) ≡ false) waits sound.error;
      reset = subst (λ t. (v.owes_reset && not (is_closed t && v.released)) ≡ false) waits sound.reset;
      release = subst (λ t. (v.released && not (is_write_closed t)) ≡ false) waits sound.release;
      terms = settled_terms v.scales (is_some (scale_option_of s)) v.sending.size v.sending.unit v.receiving.size v.receiving.capacity v.receiving.unit (shift_of s) (omega arith) sound.terms;
    }
  where
    untold : (n : ℕ) → not (n == 0) ≡ false → n ≡ 0
    untold n e = elim (eqb_tells n 0) [ inl same ↦ same.1 | inr other ↦ let bad : true ≡ false = sym (ap not other.0) ∙ e in cc ]
