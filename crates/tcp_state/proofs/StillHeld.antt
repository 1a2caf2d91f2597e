-- Why octets are held until an acknowledgement moves SND.UNA past them.
use Rattle.std.proofs.Common.{◌≡◌, ℕ, ◌≤◌, ◌||◌, ◌⊎◌, if◌then◌else◌, Bool, true, false, List, ◌++◌, length, drop, inl, inr, arith, refl, sym, ◌∙◌, ap, subst}
use Rattle.tcp_segment.specs.Wire.{past}
use Rattle.tcp_segment.specs.Segment.{Segment}
use Rattle.clock.specs.declared.moment.Moment.{Moment}
use Rattle.tcp_state.specs.declared.state.State.{State}
use Rattle.tcp_state.specs.declared.state.State.TheVariants.{SynSent, SynReceived}
use Rattle.tcp_halves.specs.Halves.{Sending}
use Rattle.tcp_halves.specs.Stream.{is_new_ack}
use Rattle.tcp_halves.specs.Windows.{updates_window}
use Rattle.tcp_state.specs.View.{View, IsSound, is_opening, is_syn_sent, is_syn_received, is_closed, is_write_finished}
use Rattle.tcp_state.specs.Arrival.{after_ack, is_read_on, after_segment_at}
use Rattle.tcp_state.specs.Duties.{acknowledges}
use Rattle.tcp_state.specs.Edges.{Event, Hears, Sends, after_event}
use Rattle.tcp_halves.proofs.Choices.{either, clash, and_left}
use Rattle.tcp_state.proofs.Segments.{is_taken, after_reading, by_ack, reading_sends, by_hearing, by_clock}
use Rattle.tcp_state.proofs.Clocked.{ticks_keep}
use Rattle.tcp_state.proofs.StillStreams.{emissions_leave}
use Rattle.tcp_state.proofs.Events.{by_event}
use Rattle.tcp_state.proofs.Freed.{drop_none}

-- A segment.

-- what is held is what was, from where SND.UNA is now
abbrev Leaves : Sending → Sending → Type 0
Leaves s t = t.held ≡ drop (past t.una s.una) s.held

still : (v : View) → IsSound v → Leaves v.sending v.sending
still v sound = let none : past v.sending.una v.sending.una ≡ 0 = omega (arith, sound.una) in sym (ap (λ n. drop n v.sending.held) none)

-- nothing is held while the connection opens, so that nothing is freed by what acknowledges our SYN
opens : (v : View) (n : ℕ) → IsSound v → is_opening v.state ≡ true → v.sending.held ≡ drop n v.sending.held
opens v n sound opening = drop_none n v.sending.held (none_held (is_opening v.state) (is_write_finished v.state) (length v.sending.held) v.sending.size opening sound.held)
  where
    none_held : (opening finished : Bool) (held size : ℕ) → opening ≡ true → held ≤ (if opening || finished then 0 else size) → held ≡ 0
    none_held true finished held size e few = omega (arith, few)
    none_held false finished held size e few = cc

sent_opens : (t : State) → is_syn_sent t ≡ true → is_opening t ≡ true
sent_opens SynSent e = refl
sent_opens _ e = cc

received_opens : (t : State) → is_syn_received t ≡ true → is_opening t ≡ true
received_opens SynReceived e = refl
received_opens _ e = cc

ack_leaves : (v : View) (ack : ℕ) → IsSound v → Leaves v.sending (after_ack v ack).sending
ack_leaves v ack sound = by_ack (λ w. Leaves v.sending w.sending) v ack (record {
  old = still v sound;
  beyond = still v sound;
  opens = λ received new. opens v (past v.sending.nxt v.sending.una) sound (received_opens v.state received);
  octets = λ new. refl;
  fin = λ new fin. refl;
})

reading_leaves : (v : View) (s : Segment) → IsSound v → Leaves v.sending (after_reading v s).sending
reading_leaves v s sound =
    let w = after_ack v s.acknowledgement in
    let first = ack_leaves v s.acknowledgement sound in
    subst (Leaves v.sending) (sym (reading_sends v s))
    (either Sending (Leaves v.sending) (updates_window w.sending s.number s.acknowledgement) _ w.sending (λ tells. first) (λ none. first))

pub segment_leaves : (v : View) (s : Segment) (now : Moment) → IsSound v → is_closed (after_segment_at v s now).state ≡ false
    → let w = after_segment_at v s now in w.sending.held ≡ drop (past w.sending.una v.sending.una) v.sending.held
segment_leaves v s now sound =
    let P : View → Type 0 = λ w. is_closed w.state ≡ false → Leaves v.sending w.sending in
    let same : P v = λ on. still v sound in
    let heard : P (let w = after_segment_at v s now in w) = by_clock P v s now same (λ lives. by_hearing P v s (λ closed. let bad : true ≡ false = closed in cc) (record {
      dropped = same;
      drawn = same;
      reset = λ acts closed. let bad : true ≡ false = closed in cc;
      crossed = λ waits on. still v sound;
      opened = λ waits right on. opens v (past v.sending.nxt v.sending.una) sound (sent_opens v.state waits);
      acknowledged = λ taken on. ack_leaves v s.acknowledgement sound;
      read = λ read on. reading_leaves v s sound;
    })) in
    heard

pub unmoved_leaves : (v : View) (s : Segment) (now : Moment) → IsSound v → let w = after_event v (Hears s now) in w.sending.una ≡ v.sending.una → is_closed w.state ≡ false → w.sending.held ≡ v.sending.held
unmoved_leaves v s now sound same on =
    segment_leaves v s now sound on ∙ ap (λ n. drop (past n v.sending.una) v.sending.held) same ∙ sym (still v sound)

-- SND.UNA moves to an acknowledgement of what is outstanding.

abbrev MovesTo : View → ℕ → View → Type 0
MovesTo v ack w = (w.sending.una ≡ v.sending.una) ⊎ ((is_new_ack v.sending ack ≡ true) × (w.sending.una ≡ ack))

ack_moves : (v : View) (ack : ℕ) → is_opening v.state ≡ false → MovesTo v ack (after_ack v ack)
ack_moves v ack opened = by_ack (MovesTo v ack) v ack (record {
  old = inl refl;
  beyond = inl refl;
  opens = λ received new. clash (is_opening v.state) (received_opens v.state received) opened;
  octets = λ new. inr (new, refl);
  fin = λ new fin. inr (new, refl);
})

reading_moves : (v : View) (s : Segment) → is_opening v.state ≡ false → MovesTo v s.acknowledgement (after_reading v s)
reading_moves v s opened =
    let w = after_ack v s.acknowledgement in
    let P : Sending → Type 0 = λ t. (t.una ≡ v.sending.una) ⊎ ((is_new_ack v.sending s.acknowledgement ≡ true) × (t.una ≡ s.acknowledgement)) in
    let first : P w.sending = ack_moves v s.acknowledgement opened in
    subst P (sym (reading_sends v s)) (either Sending P (updates_window w.sending s.number s.acknowledgement) _ w.sending (λ tells. first) (λ none. first))

-- by a segment whose acknowledgement is looked at
abbrev MovesBy : View → Segment → View → Type 0
MovesBy v s w = (w.sending.una ≡ v.sending.una) ⊎ ((acknowledges v s ≡ true) × (is_new_ack v.sending s.acknowledgement ≡ true) × (w.sending.una ≡ s.acknowledgement))

taken_moves : (v w : View) (s : Segment) → is_taken v s ≡ true → MovesTo v s.acknowledgement w → MovesBy v s w
taken_moves v w s taken moves = elim moves [ inl same ↦ inl same | inr to ↦ inr (taken, to.0, to.1) ]

pub segment_moves : (v : View) (s : Segment) (now : Moment) → is_opening v.state ≡ false → is_closed (after_segment_at v s now).state ≡ false
    → let w = after_segment_at v s now in (w.sending.una ≡ v.sending.una) ⊎ ((acknowledges v s ≡ true) × (is_new_ack v.sending s.acknowledgement ≡ true) × (w.sending.una ≡ s.acknowledgement))
segment_moves v s now opened =
    let P : View → Type 0 = λ w. is_closed w.state ≡ false → MovesBy v s w in
    let same : P v = λ on. inl refl in
    let heard : P (let w = after_segment_at v s now in w) = by_clock P v s now same (λ lives. by_hearing P v s (λ closed. let bad : true ≡ false = closed in cc) (record {
      dropped = same;
      drawn = same;
      reset = λ acts closed. let bad : true ≡ false = closed in cc;
      crossed = λ waits on. inl refl;
      opened = λ waits right on. clash (is_opening v.state) (sent_opens v.state waits) opened;
      acknowledged = λ taken on. taken_moves v (after_ack v s.acknowledgement) s taken (ack_moves v s.acknowledgement opened);
      read = λ read on. taken_moves v (after_reading v s) s (and_left (is_taken v s) (is_read_on v s.acknowledgement) read) (reading_moves v s opened);
    })) in
    heard

-- Anything else.

abbrev LeavesBy : View → Event → View → Type 0
LeavesBy v e w = ((s : Segment) × (now : Moment) × (e ≡ Hears s now))
    ⊎ ((w.sending.una ≡ v.sending.una) × ((w.sending.held ≡ v.sending.held) ⊎ ((octets : List ℕ) × (more : List ℕ) × (now : Moment) × (e ≡ Sends octets now) × (w.sending.held ≡ v.sending.held ++ more))))

pub others_leave : (v : View) (e : Event) → is_closed (after_event v e).state ≡ false → ((s : Segment) × (now : Moment) × (e ≡ Hears s now))
    ⊎ (((after_event v e).sending.una ≡ v.sending.una) × (((after_event v e).sending.held ≡ v.sending.held) ⊎ ((octets : List ℕ) × (more : List ℕ) × (now : Moment) × (e ≡ Sends octets now) × ((after_event v e).sending.held ≡ v.sending.held ++ more))))
others_leave v e = by_event (λ e w. is_closed w.state ≡ false → LeavesBy v e w) v (record {
  same = λ e on. inr (refl, inl refl);
  asks = λ e alive on. inr (refl, inl refl);
  silent = λ now on. inr (refl, inl refl);
  heard = λ s now lives on. inl (s, now, refl);
  over = λ now ends closed. let bad : true ≡ false = closed in cc;
  given_up = λ now waits expired closed. let bad : true ≡ false = closed in cc;
  acts = λ now on. let kept = ticks_keep v now in inr (ap (λ (w : View). w.sending.una) kept, inl (ap (λ (w : View). w.sending.held) kept));
  emits = λ now on. let kept = (emissions_leave v now).0 in inr (ap (λ (t : Sending). t.una) kept, inl (ap (λ (t : Sending). t.held) kept));
  sends = λ octets taken now takes on. inr (refl, inr (octets, taken, now, refl, refl));
  reads = λ len on. inr (refl, inl refl);
  shuts = λ now on. inr (refl, inl refl);
  delays = λ on now lives. inr (refl, inl refl);
  leaves = λ now lives on. inr (refl, inl refl);
  aborts = λ e now at cause lives closed. let bad : true ≡ false = closed in cc;
  refused = λ number hit closed. let bad : true ≡ false = closed in cc;
  hopless = λ now gone closed. let bad : true ≡ false = closed in cc;
}) e
