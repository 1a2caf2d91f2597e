-- What a reset that acts tells the caller.
use Rattle.std.proofs.Common.{◌≡◌, ◌≢◌, ◌^◌, ◌<◌, ◌≤◌, ◌==◌, ◌&&◌, ◌||◌, ◌⊎◌, not, nat_lt, nat_le, if◌then◌else◌, Bool, true, false, length, Option, Some, None, is_some, Result, Err, inl, inr, arith, refl, sym, ◌∙◌, ap}
use Rattle.std.proofs.lemmas.Bool.{eqb-true, eq-eqb, lt-ltb, ltb-true, leb-true, le-leb}
use Rattle.tcp_segment.specs.Wire.{past}
use Rattle.tcp_segment.specs.Segment.{Segment}
use Rattle.clock.specs.declared.moment.Moment.{Moment}
use Rattle.tcp_state.specs.declared.calls.Refusal.{Refusal}
use Rattle.tcp_state.specs.declared.calls.Refusal.TheVariants.{ECONNREFUSED, ECONNRESET}
use Rattle.tcp_state.specs.declared.connection.Fate.TheVariants.{Stays, Removed, Rejected}
use Rattle.tcp_state.specs.declared.state.State.{State}
use Rattle.tcp_state.specs.declared.state.State.TheVariants.{Closed, Listen, SynSent, SynReceived, Established, FinWait1, FinWait2, CloseWait, Closing, LastAck, TimeWait}
use Rattle.tcp_halves.specs.Stream.{outstanding, is_new_ack, is_in_window}
use Rattle.tcp_halves.proofs.Choices.{either, by, and_left, and_right, and_false, both, of_false}
use Rattle.tcp_state.specs.View.{View, IsSound, is_opening, is_syn_sent, is_syn_received, is_closed, is_over, after_reset}
use Rattle.std.specs.Option.{option_or}
use Rattle.tcp_state.specs.Calls.{unless_pending}
use Rattle.tcp_state.specs.Arrival.{owing_ack, reset_error, is_acceptable_to, is_acting_reset, ends_by_reset, ends_opening, after_rst_in_syn_sent, after_rst, after_segment, ends_by_syn, is_simultaneous_syn, after_simultaneous_syn, after_syn_ack, after_acceptable_segment, after_fin, is_lost, after_lost, after_heard, is_rejected, after_ack, after_window, is_receiving, after_text}
use Rattle.tcp_state.specs.Edges.{Hears, after_event, is_removed, left_by, state_after}
use Rattle.tcp_state.specs.Said.{IsResetAtNext, IsResetOfSyn, IsClosedBy, MayLose, AreBothShut}
use Rattle.tcp_state.proofs.Clocked.{comes_to}
use Rattle.tcp_state.proofs.Segments.{IsReset, by_fin, by_ack, by_hearing, by_clock}
use Rattle.tcp_state.proofs.Resets.{one_out, rst_not_lost, rst_not_refused}

-- a segment without RST
abbrev unreset : View → Segment → View
unreset v s =
    if is_syn_sent v.state then (if is_simultaneous_syn v s then after_simultaneous_syn v s else after_syn_ack v s)
    else if is_acceptable_to v s then after_acceptable_segment v s
    else owing_ack v

-- The calls of what is closed by an error.

answered : {T : Type 0} (pending : Option Refusal) (error : Refusal) (answer : Result T Refusal) → pending ≡ Some error → unless_pending pending answer ≡ Err error
answered (Some raised) error answer e = let same : raised ≡ error = cc in ap Err same
answered None error answer e = cc

refused : (pending : Option Refusal) (error : Refusal) (otherwise : Option Refusal) → pending ≡ Some error → option_or pending otherwise ≡ Some error
refused (Some raised) error otherwise e = e
refused None error otherwise e = cc

closed_by : (error : Refusal) (w : View) → w.state ≡ Closed → w.pending_error ≡ Some error → IsClosedBy error w
closed_by error w closed pending = record {
  closed = closed;
  send = λ octets. answered w.pending_error error _ pending;
  recv = λ len. answered w.pending_error error _ pending;
  shutdown = refused w.pending_error error _ pending;
}

-- A reset that acts closes the connection, with the error of the state.

acted : (v : View) (s : Segment) (now : Moment) → is_closed v.state ≡ false → s.flags.rst ≡ true → after_segment v s ≡ after_reset v (reset_error v.state)
    → ((after_event v (Hears s now)).state ≡ Closed) × ((after_event v (Hears s now)).pending_error ≡ reset_error v.state)
acted v s now lives rst is =
    let at = comes_to v s now lives (rst_not_refused v s rst) in
    let heard : after_heard v s ≡ after_reset v (reset_error v.state) = ap (λ b. if b then after_lost v s else after_segment v s) (rst_not_lost v s rst) ∙ is in
    (ap (λ (w : View). w.state) at ∙ ap (λ (w : View). w.state) heard, ap (λ (w : View). w.pending_error) at ∙ ap (λ (w : View). w.pending_error) heard)

of_syn : (v : View) (s : Segment) → IsSound v → v.state ≡ SynSent → IsResetOfSyn v s → after_segment v s ≡ after_reset v (reset_error v.state)
of_syn v s sound waits r =
    let last = after_reset v (reset_error v.state) in
    let apart = r.sent in
    let gap : 0 < past s.acknowledgement v.sending.una = omega (arith, r.all, sound.una, sound.nxt, apart) in
    let new : is_new_ack v.sending s.acknowledgement ≡ true = both (nat_lt 0 (past s.acknowledgement v.sending.una)) (nat_le (past s.acknowledgement v.sending.una) (outstanding v.sending))
    (lt-ltb 0 (past s.acknowledgement v.sending.una) gap) (le-leb (past s.acknowledgement v.sending.una) (outstanding v.sending) (omega (arith, r.all))) in
    ap (λ b. if b then v else if s.flags.rst then (if is_syn_sent v.state then after_rst_in_syn_sent v s else after_rst v s) else unreset v s) (ap is_closed waits)
    ∙ ap (λ b. if b then (if is_syn_sent v.state then after_rst_in_syn_sent v s else after_rst v s) else unreset v s) r.rst
    ∙ ap (λ b. if b then after_rst_in_syn_sent v s else after_rst v s) (ap is_syn_sent waits)
    ∙ ap (λ b. if b && is_new_ack v.sending s.acknowledgement then last else v) r.ack
    ∙ ap (λ b. if b then last else v) new

acts_at_next : (v : View) (s : Segment) → IsResetAtNext v s → is_acting_reset v s ≡ true
acts_at_next v s r = both (is_acceptable_to v s) (s.number == v.receiving.rnext) r.acceptable (eq-eqb s.number v.receiving.rnext r.next)

at_next : (v : View) (s : Segment) → is_closed v.state ≡ false → is_syn_sent v.state ≡ false → (v.passive && is_syn_received v.state) ≡ false → IsResetAtNext v s
    → after_segment v s ≡ after_reset v (reset_error v.state)
at_next v s lives past_opening established r =
    let last = after_reset v (reset_error v.state) in
    let acts = acts_at_next v s r in
    let stays : ends_by_reset v s ≡ false = by_tests (is_acting_reset v s) v.passive (is_syn_received v.state) established in
    ap (λ b. if b then v else if s.flags.rst then (if is_syn_sent v.state then after_rst_in_syn_sent v s else after_rst v s) else unreset v s) lives
    ∙ ap (λ b. if b then (if is_syn_sent v.state then after_rst_in_syn_sent v s else after_rst v s) else unreset v s) r.rst
    ∙ ap (λ b. if b then after_rst_in_syn_sent v s else after_rst v s) past_opening
    ∙ ap (λ b. if b then (if ends_by_reset v s then v else last) else if is_in_window v.receiving s.number then owing_ack v else v) acts
    ∙ ap (λ b. if b then v else last) stays
  where
    by_tests : (acts passive received : Bool) → (passive && received) ≡ false → (acts && passive && received) ≡ false
    by_tests true passive received e = e
    by_tests false passive received e = refl

pub refused_in_syn_sent : (v : View) (s : Segment) (now : Moment) → IsSound v → v.state ≡ SynSent → IsResetOfSyn v s → IsClosedBy ECONNREFUSED (after_event v (Hears s now))
refused_in_syn_sent v s now sound waits r =
    let ends = acted v s now (ap is_closed waits) r.rst (of_syn v s sound waits r) in
    closed_by ECONNREFUSED (after_event v (Hears s now)) ends.0 (ends.1 ∙ ap reset_error waits)

pub refused_in_syn_received : (v : View) (s : Segment) (now : Moment) → v.state ≡ SynReceived → v.passive ≡ false → IsResetAtNext v s → IsClosedBy ECONNREFUSED (after_event v (Hears s now))
refused_in_syn_received v s now received active r =
    let ends = acted v s now (ap is_closed received) r.rst (at_next v s (ap is_closed received) (ap is_syn_sent received) (ap (λ b. b && is_syn_received v.state) active) r) in
    closed_by ECONNREFUSED (after_event v (Hears s now)) ends.0 (ends.1 ∙ ap reset_error received)

-- past the opening the error is that of the state
closed_in : (v : View) (s : Segment) (now : Moment) (t : State) → v.state ≡ t → is_closed t ≡ false → is_opening t ≡ false → IsResetAtNext v s
    → ((after_event v (Hears s now)).state ≡ Closed) × ((after_event v (Hears s now)).pending_error ≡ reset_error t)
closed_in v s now t is lives opened r =
    let past = past_opening t opened in
    let ends = acted v s now (ap is_closed is ∙ lives) r.rst (at_next v s (ap is_closed is ∙ lives) (ap is_syn_sent is ∙ past.0) (ap (λ b. v.passive && b) (ap is_syn_received is ∙ past.1) ∙ and_false v.passive) r) in
    (ends.0, ends.1 ∙ ap reset_error is)
  where
    past_opening : (t : State) → is_opening t ≡ false → (is_syn_sent t ≡ false) × (is_syn_received t ≡ false)
    past_opening SynSent e = cc
    past_opening SynReceived e = cc
    past_opening _ e = (refl, refl)

pub reset_where_open : (v : View) (s : Segment) (now : Moment) → MayLose v.state → IsResetAtNext v s → IsClosedBy ECONNRESET (after_event v (Hears s now))
reset_where_open v s now may r =
    let w = after_event v (Hears s now) in
    let told : (t : State) → v.state ≡ t → is_closed t ≡ false → is_opening t ≡ false → reset_error t ≡ Some ECONNRESET → IsClosedBy ECONNRESET w = λ t is lives opened error.
    let ends = closed_in v s now t is lives opened r in closed_by ECONNRESET w ends.0 (ends.1 ∙ error) in
    elim may [
      | inl is ↦ told Established is refl refl refl
      | inr (inl is) ↦ told FinWait1 is refl refl refl
      | inr (inr (inl is)) ↦ told FinWait2 is refl refl refl
      | inr (inr (inr is)) ↦ told CloseWait is refl refl refl
    ]

pub untold_where_shut : (v : View) (s : Segment) (now : Moment) → AreBothShut v.state → IsResetAtNext v s
    → ((after_event v (Hears s now)).state ≡ Closed) × ((after_event v (Hears s now)).pending_error ≡ None)
untold_where_shut v s now shut r = elim shut [
  | inl is ↦ closed_in v s now Closing is refl refl r
  | inr (inl is) ↦ closed_in v s now LastAck is refl refl r
  | inr (inr is) ↦ closed_in v s now TimeWait is refl refl r
]

-- What a listener opened is taken out.

pub taken_out : (closed lost over refused opening : Bool) → closed ≡ false → lost ≡ false → refused ≡ false → opening ≡ true
    → is_removed (if closed || lost then Stays else if over then Removed else if refused then Rejected else if opening then Removed else Stays) ≡ true
taken_out false false true refused opening a b c d = refl
taken_out false false false false true a b c d = refl
taken_out true lost over refused opening a b c d = cc
taken_out false true over refused opening a b c d = cc
taken_out false false false true opening a b c d = cc
taken_out false false false false false a b c d = cc

pub back_to_listen : (v : View) (s : Segment) (now : Moment) → v.state ≡ SynReceived → v.passive ≡ true → IsResetAtNext v s → state_after v (Hears s now) ≡ Listen
back_to_listen v s now received passive r =
    let listens : (v.passive && is_syn_received v.state) ≡ true = both v.passive (is_syn_received v.state) passive (ap is_syn_received received) in
    let ends : ends_by_reset v s ≡ true = both (is_acting_reset v s && v.passive) (is_syn_received v.state) (both (is_acting_reset v s) v.passive (acts_at_next v s r) passive) (ap is_syn_received received) in
    let opening : ends_opening v s ≡ true = both (not (is_syn_sent v.state)) _ (of_false (is_syn_sent v.state) (ap is_syn_sent received)) (ap (λ b. if b then ends_by_reset v s else ends_by_syn v s) r.rst ∙ ends) in
    let out = taken_out (is_closed v.state) (is_lost v s) (is_over (after_segment v s)) (is_rejected v s) (ends_opening v s) (ap is_closed received) (rst_not_lost v s r.rst) (rst_not_refused v s r.rst) opening in
    ap (λ b. if b then left_by v else (after_event v (Hears s now)).state) out ∙ ap (λ b. if b then Listen else Closed) listens

-- No other segment tells an error.

abbrev Acts : View → Segment → Type 0
Acts v s = ((v.state ≡ SynSent) × IsResetOfSyn v s) ⊎ (((v.state ≡ SynReceived) ⊎ MayLose v.state) × IsResetAtNext v s)

pub is_sent : (t : State) → is_syn_sent t ≡ true → t ≡ SynSent
is_sent SynSent e = refl
is_sent _ e = cc

-- past SYN-SENT there are states with an error and some without
errs : (t : State) → is_syn_sent t ≡ false → (reset_error t ≡ None) ⊎ ((t ≡ SynReceived) ⊎ MayLose t)
errs SynSent e = cc
errs SynReceived e = inr (inl refl)
errs Established e = inr (inr (inl refl))
errs FinWait1 e = inr (inr (inr (inl refl)))
errs FinWait2 e = inr (inr (inr (inr (inl refl))))
errs CloseWait e = inr (inr (inr (inr (inr refl))))
errs _ e = inl refl

-- no error is pending before the end
pub none_pending : (pending : Option Refusal) (closed : Bool) → closed ≡ false → (is_some pending && not closed) ≡ false → pending ≡ None
none_pending None closed lives e = refl
none_pending (Some error) true lives e = cc
none_pending (Some error) false lives e = cc

acting : (v : View) (s : Segment) → IsSound v → s.acknowledgement < 2 ^ 32 → IsReset v s → (reset_error v.state ≡ v.pending_error) ⊎ Acts v s
acting v s sound fits r =
    let confirms = s.flags.ack && is_new_ack v.sending s.acknowledgement in
    let rst = and_left s.flags.rst _ r.acts in
    let chosen : (if is_syn_sent v.state then confirms else is_acting_reset v s) ≡ true = and_right s.flags.rst _ r.acts in
    by ((reset_error v.state ≡ v.pending_error) ⊎ Acts v s) (is_syn_sent v.state)
    (λ waits.
    let both_hold : confirms ≡ true = sym (ap (λ b. if b then confirms else is_acting_reset v s) waits) ∙ chosen in
    let far = past s.acknowledgement v.sending.una in
    let new = and_right s.flags.ack (is_new_ack v.sending s.acknowledgement) both_hold in
    let one : outstanding v.sending ≤ 1 = one_out v.sending.size v.state (length v.sending.held) (outstanding v.sending) waits sound.held sound.flight in
    let some : 0 < far = ltb-true 0 far (and_left (nat_lt 0 far) _ new) in
    let most : far ≤ outstanding v.sending = leb-true far (outstanding v.sending) (and_right (nat_lt 0 far) _ new) in
    inr (inl (
      is_sent v.state waits,
      record {
        rst = rst;
        ack = and_left s.flags.ack (is_new_ack v.sending s.acknowledgement) both_hold;
        sent = λ same. omega (arith, same, some, most, sound.una);
        all = omega (arith, one, some, most, fits, sound.una, sound.nxt);
      },
    )))
    (λ past_opening.
    let acts : is_acting_reset v s ≡ true = sym (ap (λ b. if b then confirms else is_acting_reset v s) past_opening) ∙ chosen in
    elim (errs v.state past_opening) [
      | inl none ↦ inl (none ∙ sym (none_pending v.pending_error (is_closed v.state) r.lives sound.error))
      | inr state ↦ inr (inr (
        state,
        record {
          rst = rst;
          acceptable = and_left (is_acceptable_to v s) (s.number == v.receiving.rnext) acts;
          next = eqb-true s.number v.receiving.rnext (and_right (is_acceptable_to v s) (s.number == v.receiving.rnext) acts);
        },
      ))
    ])

pub others_tell_none : (v : View) (s : Segment) (now : Moment) → IsSound v → s.acknowledgement < 2 ^ 32 → (after_event v (Hears s now)).pending_error ≢ v.pending_error → Acts v s
others_tell_none v s now sound fits changes =
    let P : View → Type 0 = λ w. w.pending_error ≢ v.pending_error → Acts v s in
    let kept : P v = λ changed. absurd (changed refl) in
    let Same : View → Type 0 = λ w. w.pending_error ≡ v.pending_error in
    let acked : Same (after_ack v s.acknowledgement) = by_ack Same v s.acknowledgement (record { old = refl; beyond = refl; opens = λ received new. refl; octets = λ new. refl; fin = λ new fin. refl }) in
    let told = after_window (after_ack v s.acknowledgement) s in
    let text : Same (after_text told s) = either View Same ((length s.octets == 0) || not (is_receiving told.state)) told _ (λ none. acked) (λ some. acked) in
    let read : Same (after_fin (after_text told s) s) = by_fin Same (after_text told s) s (λ counts. text) text text in
    by_clock P v s now kept (λ lives. by_hearing P v s (λ changed. absurd (changed acked)) (record {
      dropped = kept;
      drawn = kept;
      reset = λ r changed. elim (acting v s sound fits r) [ inl same ↦ absurd (changed same) | inr acts ↦ acts ];
      crossed = λ waits changed. absurd (changed refl);
      opened = λ waits right changed. absurd (changed refl);
      acknowledged = λ taken changed. absurd (changed acked);
      read = λ on changed. absurd (changed read);
    })) changes
