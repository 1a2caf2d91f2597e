-- Why octets are acknowledged at the second segment that brings some, and soon after the first.
use Rattle.std.proofs.Common.{◌≡◌, ℕ, ◌+◌, ◌<◌, ◌==◌, ◌&&◌, ◌||◌, ◌⊎◌, not, if◌then◌else◌, Bool, true, false, length, Option, Some, None, is_some, inl, inr, arith, refl, sym, ◌∙◌, ap, subst}
use Rattle.std.proofs.lemmas.Bool.{eqb-true}
use Rattle.std.proofs.lemmas.Bool.{ne_eqb}
use Rattle.tcp_segment.specs.Segment.{Segment, span_of}
use Rattle.clock.specs.declared.moment.Moment.{Moment}
use Rattle.clock.specs.Moments.{after}
use Rattle.retransmit.specs.declared.timers.Timers.{Timers}
use Rattle.tcp_state.specs.declared.emission.Due.{Due}
use Rattle.tcp_state.specs.declared.emission.Due.TheVariants.{Syn, Text, Probe, Ack, KeepAlive}
use Rattle.tcp_state.specs.declared.state.State.{State}
use Rattle.tcp_state.specs.declared.state.State.TheVariants.{SynSent, SynReceived, Established, FinWait1, FinWait2}
use Rattle.tcp_state.specs.declared.timing.TheConstants.{DELAYED_ACK_WAIT}
use Rattle.tcp_state.specs.View.{View, IsSound, is_opening, is_syn_sent, is_syn_received, is_closed}
use Rattle.tcp_state.specs.Timing.{KeepsTime, running}
use Rattle.tcp_state.specs.Arrival.{asks, is_receiving, beyond_fin, after_ack, is_read, after_window, may_delay, after_text, after_fin, after_segment, brings_more, is_lost, after_lost, after_heard, before, timed_by, after_segment_at}
use Rattle.tcp_state.specs.Due.{first_due, again, new_octets, fin_alone, flags_of}
use Rattle.tcp_halves.proofs.Choices.{either, by, clash, or_left, or_right, or_else, not_true}
use Rattle.tcp_state.proofs.Guarded.{filled_asks_none, read_owes}
use Rattle.tcp_state.proofs.Segments.{after_reading, by_fin, by_ack, read_tells, reads, not_rejected}
use Rattle.tcp_state.proofs.Clocked.{comes_to}
use Rattle.tcp_state.proofs.Gains.{receiving_lives}
use Rattle.tcp_state.proofs.Waiting.{owed_where_closed}
use Rattle.tcp_state.proofs.Emissions.{is_ack_due, by_due}
use Rattle.tcp_state.proofs.Resends.{segment_hears}

-- What is read of a segment.

fin_goes_on : (t : State) → is_receiving t ≡ true → (is_closed (beyond_fin t) ≡ false) × (is_receiving (beyond_fin t) ≡ true)
fin_goes_on Established e = (refl, refl)
fin_goes_on FinWait1 e = (refl, refl)
fin_goes_on FinWait2 e = (refl, refl)
fin_goes_on _ e = cc

unclosed : (owes closed : Bool) → closed ≡ false → (owes && not closed) ≡ owes
unclosed true closed e = ap not e
unclosed false closed e = refl

-- its acknowledgement leaves what is owed, or owes one more, and goes on to its octets
record Reaches (v w : View) : Type 0 where
  pub receiving : is_receiving w.state ≡ true
  pub delays : w.delays_ack ≡ v.delays_ack
  pub owes : v.owes_ack ≡ true → w.owes_ack ≡ true

acked : (v : View) (ack : ℕ) → is_receiving v.state ≡ true → Reaches v (after_ack v ack)
acked v ack on = by_ack (Reaches v) v ack (record {
  old = record { receiving = on; delays = refl; owes = λ owed. owed };
  beyond = record { receiving = on; delays = refl; owes = λ owed. refl };
  opens = λ received new. record { receiving = refl; delays = refl; owes = λ owed. owed };
  octets = λ new. record { receiving = on; delays = refl; owes = λ owed. owed };
  fin = λ new fin.
      let goes = fin_goes_on v.state on in
      record { receiving = goes.1; delays = unclosed v.delays_ack (is_closed (beyond_fin v.state)) goes.0; owes = λ owed. unclosed v.owes_ack (is_closed (beyond_fin v.state)) goes.0 ∙ owed };
})

-- octets that come while an acknowledgement waits, or is owed, make one owed; others make it wait
record Answers (v w : View) : Type 0 where
  pub waits : w.delays_ack ≡ true
  pub second : v.delays_ack ≡ true → w.owes_ack ≡ true
  pub owes : v.owes_ack ≡ true → w.owes_ack ≡ true

text_answers : (v w : View) (s : Segment) → Reaches v w → 0 < length s.octets → Answers v (after_text w s)
text_answers v w s r some =
    either View (Answers v) ((length s.octets == 0) || not (is_receiving w.state)) w _
    (λ none. elim (or_else (length s.octets == 0) (not (is_receiving w.state)) none) [
      | inl empty ↦ let zero = eqb-true (length s.octets) 0 empty in absurd (omega (arith, zero, some))
      | inr deaf ↦ clash (is_receiving w.state) r.receiving (not_true (is_receiving w.state) deaf)
    ])
    (λ taken. record {
      waits = refl;
      second = λ delays. or_left (w.owes_ack || w.delays_ack) (not (may_delay w s)) (or_right w.owes_ack w.delays_ack (r.delays ∙ delays));
      owes = λ owed. or_left (w.owes_ack || w.delays_ack) (not (may_delay w s)) (or_left w.owes_ack w.delays_ack (r.owes owed));
    })

-- a FIN draws one
fin_answers : (v w : View) (s : Segment) → Answers v w → Answers v (after_fin w s)
fin_answers v w s a =
    let drawn : (x : View) → x.delays_ack ≡ w.delays_ack → x.owes_ack ≡ true → Answers v x = λ x delays owes. record { waits = delays ∙ a.waits; second = λ twice. owes; owes = λ owed. owes } in
    by_fin (Answers v) w s (λ counts. drawn _ refl refl) (drawn _ refl refl) a

read_answers : (v : View) (s : Segment) → is_receiving v.state ≡ true → 0 < length s.octets → Answers v (after_reading v s)
read_answers v s on some =
    let told = after_window (after_ack v s.acknowledgement) s in
    let r = acked v s.acknowledgement on in
    fin_answers v (after_text told s) s (text_answers v told s (record { receiving = r.receiving; delays = r.delays; owes = r.owes }) some)

-- The clock.

read_whole : (v : View) (s : Segment) → v.released ≡ false → is_receiving v.state ≡ true → is_read v s ≡ true → after_heard v s ≡ after_reading v s
read_whole v s kept on read =
    let lives = receiving_lives v.state on in
    let whole : is_lost v s ≡ false = ap (λ b. b && is_receiving v.state && is_read v s && brings_more v s) kept in
    ap (λ b. if b then after_lost v s else after_segment v s) whole ∙ reads v s lives.0 lives.1 (read_tells v s read)

hears : (v : View) (s : Segment) (now : Moment) → v.released ≡ false → is_receiving v.state ≡ true → is_read v s ≡ true → after_segment_at v s now ≡ timed_by (before v s) (after_reading v s) now
hears v s now kept on read =
    let lives = receiving_lives v.state on in
    comes_to v s now lives.0 (not_rejected v s lives.1 lives.2) ∙ ap (λ w. timed_by (before v s) w now) (read_whole v s kept on read)

-- what brings octets asks for nothing
some_asks_none : (v : View) (s : Segment) → 0 < length s.octets → asks v s ≡ false
some_asks_none v s some = filled_asks_none v s (ne_eqb (span_of s) 0 (λ none. absurd (omega (arith, none, some))))

pub second_answered : (v : View) (s : Segment) (now : Moment) → v.released ≡ false → is_receiving v.state ≡ true → is_read v s ≡ true → 0 < length s.octets → v.delays_ack ≡ true
    → (after_segment_at v s now).owes_ack ≡ true
second_answered v s now kept on read some delays = ap (λ (w : View). w.owes_ack) (hears v s now kept on read) ∙ (read_owes v s (after_reading v s) now (read_tells v s read) (some_asks_none v s some) ∙ (read_answers v s on some).second delays)

-- the timer of one that waits for a second begins
none_runs : (o : Option Moment) → is_some o ≡ false → o ≡ None
none_runs None e = refl
none_runs (Some deadline) e = cc

begun : (waits owes : Bool) (o : Option Moment) (now : Moment) → waits ≡ true → owes ≡ false → o ≡ None → (if waits && not owes then running o now DELAYED_ACK_WAIT else None) ≡ Some (after now DELAYED_ACK_WAIT)
begun true false None now w o e = refl
begun true false (Some deadline) now w o e = cc
begun true true o now w f e = cc
begun false owes o now w f e = cc

undelayed : (delays owes : Bool) → delays ≡ false → (delays && not owes) ≡ false
undelayed true owes e = cc
undelayed false owes e = refl

pub first_answered : (v : View) (s : Segment) (now : Moment) → KeepsTime v → v.released ≡ false → is_receiving v.state ≡ true → is_read v s ≡ true → 0 < length s.octets
    → ((after_segment_at v s now).owes_ack ≡ true) ⊎ ((deadline : Moment) × ((after_segment_at v s now).timers.delayed_ack ≡ Some deadline) × (deadline.0 < now.0 + 500))
first_answered v s now keeps kept on read some =
    let w = after_reading v s in
    let x = timed_by (before v s) w now in
    let a = read_answers v s on some in
    let P : View → Type 0 = λ u. (u.owes_ack ≡ true) ⊎ ((deadline : Moment) × (u.timers.delayed_ack ≡ Some deadline) × (deadline.0 < now.0 + 500)) in
    let same : x.owes_ack ≡ w.owes_ack = read_owes v s w now (read_tells v s read) (some_asks_none v s some) in
    subst P (sym (hears v s now kept on read)) (by (P x) w.owes_ack (λ owed. inl (same ∙ owed))
    (λ unowed. inr (after now DELAYED_ACK_WAIT, begun w.delays_ack x.owes_ack w.timers.delayed_ack now a.waits (same ∙ unowed) (none_before v s keeps kept on read (first v w a unowed)), omega arith)))
  where
    -- no acknowledgement waited before
    first : (v w : View) → Answers v w → w.owes_ack ≡ false → v.delays_ack ≡ false
    first v w a unowed = by (v.delays_ack ≡ false) v.delays_ack (λ delays. clash w.owes_ack (a.second delays) unowed) (λ none. none)

    none_before : (v : View) (s : Segment) → KeepsTime v → v.released ≡ false → is_receiving v.state ≡ true → is_read v s ≡ true → v.delays_ack ≡ false → (after_reading v s).timers.delayed_ack ≡ None
    none_before v s keeps kept on read undelays =
        let none : v.timers.delayed_ack ≡ None = none_runs v.timers.delayed_ack (keeps.delayed_ack ∙ undelayed v.delays_ack v.owes_ack undelays) in
        ap (λ (w : View). w.timers.delayed_ack) (sym (read_whole v s kept on read))
        ∙ elim (segment_hears v s).timers [ inl same ↦ ap (λ (t : Timers). t.delayed_ack) same ∙ none | inr stopped ↦ ap (λ (t : Timers). t.delayed_ack) stopped.0 ]

-- What is owed goes out.

received : (t : State) → is_opening t ≡ true → is_syn_sent t ≡ false → is_syn_received t ≡ true
received SynSent o e = cc
received SynReceived o e = refl
received _ o e = cc

opened : (sent closed owes delays : Bool) → owes ≡ true → ((sent || closed) && (owes || delays)) ≡ false → (sent ≡ false) × (closed ≡ false)
opened false false owes delays o e = (refl, refl)
opened true closed true delays o e = cc
opened false true true delays o e = cc
opened sent closed false delays o e = cc

pub owed_goes : (v : View) → IsSound v → v.owes_ack ≡ true → (due : Due) × (first_due v ≡ Some due) × ((let f = flags_of v due in f.ack) ≡ true)
owed_goes v sound owed =
    let lives = opened (is_syn_sent v.state) (is_closed v.state) v.owes_ack v.delays_ack owed sound.ack in
    by_due (λ o. (due : Due) × (o ≡ Some due) × ((let f = flags_of v due in f.ack) ≡ true)) v (record {
      nothing = λ quiet heard. clash (is_ack_due v) (or_left v.owes_ack _ owed) quiet;
      rst = λ owes. clash (is_closed v.state) (owed_where_closed v.owes_reset (is_closed v.state) v.released sound.reset owes) lives.1;
      syn = λ opening goes. (Syn, refl, received v.state opening lives.0);
      once_more = λ opens_not place is goes. (Text (again v place), refl, refl);
      octets = λ opens_not sends. (Text (new_octets v), refl, refl);
      fin = λ opens_not sends. (Text (fin_alone v), refl, refl);
      probe = λ opens_not owes goes. (Probe, refl, refl);
      ack = λ owes. (Ack, refl, refl);
      asks = λ quiet owes. (KeepAlive, refl, refl);
    })
