-- What a segment that takes no number leaves of a connection, past the opening.
use Rattle.std.proofs.Common.{◌≡◌, ◌+◌, ◌%◌, ◌^◌, ◌==◌, ◌||◌, ◌&&◌, not, if◌then◌else◌, Bool, true, false, length, arith, refl, sym, ◌∙◌, ap, subst}
use Rattle.std.proofs.lemmas.Bool.{eqb-true, eq-eqb}
use Rattle.tcp_segment.specs.Segment.{Segment, bit, span_of}
use Rattle.tcp_halves.specs.Stream.{stands_next, after_end}
use Rattle.tcp_state.specs.declared.state.State.{State}
use Rattle.tcp_state.specs.declared.state.State.TheVariants.{SynSent, SynReceived}
use Rattle.tcp_state.specs.View.{View, is_opening, is_syn_sent, is_syn_received, is_closed}
use Rattle.tcp_state.specs.Arrival.{owing_ack, is_receiving, beyond_fin, beyond_end, after_ack, after_window, after_text, after_fin, after_heard, asks}
use Rattle.tcp_halves.proofs.Choices.{either, clash, and_left, and_right, not_true}
use Rattle.tcp_state.proofs.Segments.{after_reading, by_ack, by_hearing}

-- it has neither octets nor a FIN
record HasNothing (s : Segment) : Type 0 where
  pub octets : (length s.octets == 0) ≡ true
  pub no_fin : s.flags.fin ≡ false

nothing_in : (s : Segment) → span_of s ≡ 0 → HasNothing s
nothing_in s none = by_fin_bit s.flags.fin refl
  where
    by_fin_bit : (fin : Bool) → s.flags.fin ≡ fin → HasNothing s
    by_fin_bit true fin = absurd (let one : span_of s ≡ length s.octets + bit s.flags.syn 1 + 1 = ap (λ b. length s.octets + bit s.flags.syn 1 + bit b 1) fin in omega (arith, one, none))
    by_fin_bit false fin = record { octets = eq-eqb (length s.octets) 0 (omega (arith, none)); no_fin = fin }

opened : (t : State) → is_opening t ≡ false → (is_syn_sent t ≡ false) × (is_syn_received t ≡ false)
opened SynSent e = cc
opened SynReceived e = cc
opened _ e = (refl, refl)

past_fin : (t : State) → is_syn_sent t ≡ false → is_syn_sent (beyond_fin t) ≡ false
past_fin SynSent e = cc
past_fin _ e = refl

unended : (delays closed : Bool) → closed ≡ false → (delays && not closed) ≡ delays
unended true false e = refl
unended false false e = refl
unended delays true e = cc

-- the receiving half stays, none opens again, and unless it ends the connection no acknowledgement waits that didn't
pub record Leaves (v w : View) : Type 0 where
  pub receiving : w.receiving ≡ v.receiving
  pub spoke : w.spoke ≡ v.spoke
  pub past : is_syn_sent w.state ≡ false
  pub delays : is_closed w.state ≡ false → w.delays_ack ≡ v.delays_ack

pub leaves : (v : View) (s : Segment) → is_opening v.state ≡ false → span_of s ≡ 0 → Leaves v (after_heard v s)
leaves v s past none =
    let o = opened v.state past in
    let empty = nothing_in s none in
    let same : Leaves v v = record { receiving = refl; spoke = refl; past = o.0; delays = λ lives. refl } in
    let acked : Leaves v (after_ack v s.acknowledgement) = by_ack (Leaves v) v s.acknowledgement (record {
      old = same;
      beyond = record { receiving = refl; spoke = refl; past = o.0; delays = λ lives. refl };
      opens = λ received new. clash (is_syn_received v.state) received o.1;
      octets = λ new. record { receiving = refl; spoke = refl; past = o.0; delays = λ lives. refl };
      fin = λ new fin. record { receiving = refl; spoke = refl; past = past_fin v.state o.0; delays = λ lives. unended v.delays_ack (is_closed (beyond_fin v.state)) lives };
    }) in
    let told = after_window (after_ack v s.acknowledgement) s in
    let kept : Leaves v told = record { receiving = acked.receiving; spoke = acked.spoke; past = acked.past; delays = acked.delays } in
    let text : after_text told s ≡ told = either View (λ w. w ≡ told) ((length s.octets == 0) || not (is_receiving told.state)) told _ (λ is. refl)
    (λ some. clash (length s.octets == 0) empty.octets (none_here (length s.octets == 0) (not (is_receiving told.state)) some)) in
    let read : after_reading v s ≡ told = ap (λ w. after_fin w s) text ∙ no_end told s empty.no_fin in
    by_hearing (Leaves v) v s (record { receiving = acked.receiving; spoke = acked.spoke; past = refl; delays = λ lives. cc }) (record {
      dropped = same;
      drawn = record { receiving = refl; spoke = refl; past = o.0; delays = λ lives. refl };
      reset = λ acts. record { receiving = refl; spoke = refl; past = refl; delays = λ lives. cc };
      crossed = λ waits. clash (is_syn_sent v.state) waits o.0;
      opened = λ waits right. clash (is_syn_sent v.state) waits o.0;
      acknowledged = λ taken. acked;
      read = λ on. subst (Leaves v) (sym read) kept;
    })
  where
    none_here : (a b : Bool) → (a || b) ≡ false → a ≡ false
    none_here true b e = cc
    none_here false b e = refl

    no_end : (w : View) (s : Segment) → s.flags.fin ≡ false → after_fin w s ≡ w
    no_end w s none =
        let number = (s.number + length s.octets) % 2 ^ 32 in
        ap (λ b. if b && is_receiving w.state && stands_next w.receiving number then record w { state = beyond_end w.state; receiving = after_end w.receiving; owes_ack = true }
        else if b && is_receiving w.state then owing_ack w else w) none

-- what asks for an acknowledgement is such a segment
pub record Asking (v : View) (s : Segment) : Type 0 where
  pub opened : is_opening v.state ≡ false
  pub none : span_of s ≡ 0

pub asking_tells : (v : View) (s : Segment) → asks v s ≡ true → Asking v s
asking_tells v s is =
    let one = not s.flags.rst && not (is_opening v.state) in
    let two = one && (span_of s == 0) in
    let first = and_left two _ is in record {
      opened = not_true (is_opening v.state) (and_right (not s.flags.rst) (not (is_opening v.state)) (and_left one (span_of s == 0) first));
      none = eqb-true (span_of s) 0 (and_right one (span_of s == 0) first);
    }
