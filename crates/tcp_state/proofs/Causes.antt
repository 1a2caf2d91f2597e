-- Why a connection ends only by a cause, and an error is told only by a reset.
use Rattle.std.proofs.Common.{◌≡◌, ℕ, ◌==◌, ◌||◌, ◌&&◌, ◌⊎◌, not, if◌then◌else◌, Bool, true, false, length, Option, Some, inl, inr, refl, sym, ◌∙◌, ap}
use Rattle.tcp_segment.specs.Segment.{Segment}
use Rattle.clock.specs.declared.moment.Moment.{Moment}
use Rattle.tcp_state.specs.declared.connection.Fate.TheVariants.{Stays, Removed, Rejected}
use Rattle.tcp_state.specs.declared.calls.Refusal.TheVariants.{ECONNREFUSED}
use Rattle.tcp_state.specs.declared.emission.Due.{Due}
use Rattle.tcp_state.specs.declared.state.State.{State}
use Rattle.tcp_state.specs.declared.state.State.TheVariants.{Closed, Established, FinWait1, FinWait2, Closing, LastAck}
use Rattle.tcp_halves.specs.Stream.{is_new_ack}
use Rattle.tcp_state.specs.View.{View, is_syn_sent, is_syn_received, is_closed, is_over, awaits_fin_ack, is_at_end, after_reset}
use Rattle.tcp_state.specs.Alive.{after_silence}
use Rattle.tcp_state.specs.Timing.{gives_up}
use Rattle.tcp_state.specs.Calls.{beyond_shutdown, is_removed_by_close, is_aborted_by_close}
use Rattle.tcp_state.specs.Arrival.{is_receiving, beyond_fin, beyond_end, is_of_fin, is_off, after_ack, is_read, after_window, after_text, after_fin, ends_by_syn, ends_by_reset, ends_opening, is_acting_reset, after_segment, is_lost, after_lost, after_heard, is_rejected}
use Rattle.tcp_state.specs.Due.{first_due}
use Rattle.tcp_state.specs.Unreachable.{is_unreachable, after_unreachable}
use Rattle.clock.specs.Moments.{has_come}
use Rattle.tcp_state.specs.Hop.{unheard_until}
use Rattle.tcp_state.specs.Edges.{Event, Hears, Ticks, Emits, Sends, Receives, Shuts, SetsNoDelay, SetsKeepAlive, Closes, Aborts, Unreachable, LosesHop, after_first, after_event, fate_by, is_removed, is_reset_by, is_last_ack, ends_by_ack, is_cause, ends_by}
use Rattle.tcp_state.proofs.Clocked.{timers_keep, emission_keeps}
pub use Rattle.tcp_halves.proofs.Choices.{both, or_left, or_right, or_else, not_true, of_false}
use Rattle.tcp_halves.proofs.Choices.{either, by, clash, and_left, and_right, else_chosen}
use Rattle.tcp_state.proofs.Segments.{is_taken, after_reading, by_fin, by_ack, by_segment, by_clock}
use Rattle.tcp_state.proofs.Events.{by_event}
use Rattle.tcp_state.proofs.Edges.{emitted-state}

-- Segments.

-- octets that are taken and a FIN that counts close nothing by themselves
pub end_closes_none : (t : State) → is_receiving t ≡ true → is_closed (beyond_end t) ≡ false
end_closes_none Established e = refl
end_closes_none FinWait1 e = refl
end_closes_none FinWait2 e = refl
end_closes_none _ e = cc

closed_before_fin : (w : View) (s : Segment) → is_closed (after_fin w s).state ≡ true → is_closed w.state ≡ true
closed_before_fin w s =
    by_fin (λ x. is_closed x.state ≡ true → is_closed w.state ≡ true) w s
    (λ counts closed. let none = end_closes_none w.state (and_right s.flags.fin (is_receiving w.state) (and_left (s.flags.fin && is_receiving w.state) _ counts)) in
    let bad : true ≡ false = sym closed ∙ none in cc)
    (λ closed. closed) (λ closed. closed)

closed_before_text : (w : View) (s : Segment) → is_closed (after_text w s).state ≡ true → is_closed w.state ≡ true
closed_before_text w s =
    either View (λ x. is_closed x.state ≡ true → is_closed w.state ≡ true) ((length s.octets == 0) || not (is_receiving w.state)) w _ (λ none closed. closed) (λ some closed. closed)

last_fin : (t : State) → awaits_fin_ack t ≡ true → is_closed (beyond_fin t) ≡ true → is_last_ack t ≡ true
last_fin LastAck e closed = refl
last_fin FinWait1 e closed = cc
last_fin Closing e closed = cc
last_fin _ e closed = cc

-- an acknowledgement closes by our FIN in LAST-ACK alone
pub closed_by_ack : (v : View) (ack : ℕ) → is_closed v.state ≡ false → is_closed (after_ack v ack).state ≡ true → (is_last_ack v.state && is_new_ack v.sending ack && is_of_fin v ack) ≡ true
closed_by_ack v ack lives =
    let last = is_last_ack v.state && is_new_ack v.sending ack in
    let none : is_closed v.state ≡ true → (last && is_of_fin v ack) ≡ true = λ closed. clash (is_closed v.state) closed lives in
    by_ack (λ w. is_closed w.state ≡ true → (last && is_of_fin v ack) ≡ true) v ack (record {
      old = none;
      beyond = none;
      opens = λ received new closed. cc;
      octets = λ new. none;
      fin = λ new fin closed. both last (is_of_fin v ack) (both (is_last_ack v.state) (is_new_ack v.sending ack) (last_fin v.state (and_left (awaits_fin_ack v.state) _ fin) closed) new) fin;
    })

read_by_new : (received new behind : Bool) → new ≡ true → (if received then new else new || not behind) ≡ true
read_by_new true new behind e = e
read_by_new false true behind e = refl
read_by_new false false behind e = cc

pub closed_by_reading : (v : View) (s : Segment) → is_closed v.state ≡ false → is_closed (after_reading v s).state ≡ true
    → (is_last_ack v.state && is_new_ack v.sending s.acknowledgement && is_of_fin v s.acknowledgement) ≡ true
closed_by_reading v s lives closed =
    let told = after_window (after_ack v s.acknowledgement) s in
    closed_by_ack v s.acknowledgement lives (closed_before_text told s (closed_before_fin (after_text told s) s closed))

-- a segment that closes is a reset that acts, or acknowledges our FIN in LAST-ACK
closed_by_segment : (v : View) (s : Segment) → is_closed v.state ≡ false → is_closed (after_segment v s).state ≡ true → (is_reset_by v s ≡ true) ⊎ (ends_by_ack v s ≡ true)
closed_by_segment v s lives =
    let C : Type 0 = (is_reset_by v s ≡ true) ⊎ (ends_by_ack v s ≡ true) in
    let none : is_closed v.state ≡ true → C = λ closed. clash (is_closed v.state) closed lives in
    let last = is_last_ack v.state in
    let new = is_new_ack v.sending s.acknowledgement in
    let fin = is_of_fin v s.acknowledgement in
    let acks : is_taken v s ≡ true → (last && new && fin) ≡ true → C = λ taken three.
    let two = and_left (last && new) fin three in
    let is_new = and_right last new two in
    let read : is_read v s ≡ true = both (is_taken v s) _ taken (read_by_new (is_syn_received v.state) new (is_off v s.acknowledgement) is_new) in
    inr (both (last && is_read v s && new) fin (both (last && is_read v s) new (both last (is_read v s) (and_left last new two) read) is_new) (and_right (last && new) fin three)) in
    by_segment (λ w. is_closed w.state ≡ true → C) v s (record {
      dropped = none;
      drawn = none;
      reset = λ r closed. inl r.acts;
      crossed = λ waits closed. cc;
      opened = λ waits right closed. cc;
      acknowledged = λ taken closed. acks taken (closed_by_ack v s.acknowledgement lives closed);
      read = λ on closed. acks (and_left (is_taken v s) _ on) (closed_by_reading v s lives closed);
    })

-- why a segment takes a connection out, by the tests of its fate
record Removes (closed lost over refused opening : Bool) : Type 0 where
  pub lives : closed ≡ false
  pub ends : (over ≡ true) ⊎ (opening ≡ true)

removes : (closed lost over refused opening : Bool) → is_removed (if closed || lost then Stays else if over then Removed else if refused then Rejected else if opening then Removed else Stays) ≡ true
    → Removes closed lost over refused opening
removes true lost over refused opening e = cc
removes false true over refused opening e = cc
removes false false true refused opening e = record { lives = refl; ends = inl refl }
removes false false false true opening e = cc
removes false false false false true e = record { lives = refl; ends = inr refl }
removes false false false false false e = cc

-- the four causes that a segment can be
caused_by : (v : View) (s : Segment) → (is_reset_by v s ≡ true) ⊎ (ends_by_ack v s ≡ true) → (is_reset_by v s || (not s.flags.rst && ends_by_syn v s) || is_lost v s || ends_by_ack v s) ≡ true
caused_by v s (inl reset) = or_left (is_reset_by v s || (not s.flags.rst && ends_by_syn v s) || is_lost v s) _ (or_left (is_reset_by v s || (not s.flags.rst && ends_by_syn v s)) _ (or_left (is_reset_by v s) _ reset))
caused_by v s (inr ack) = or_right (is_reset_by v s || (not s.flags.rst && ends_by_syn v s) || is_lost v s) (ends_by_ack v s) ack

caused_by_loss : (v : View) (s : Segment) → is_lost v s ≡ true → (is_reset_by v s || (not s.flags.rst && ends_by_syn v s) || is_lost v s || ends_by_ack v s) ≡ true
caused_by_loss v s lost = or_left (is_reset_by v s || (not s.flags.rst && ends_by_syn v s) || is_lost v s) (ends_by_ack v s) (or_right (is_reset_by v s || (not s.flags.rst && ends_by_syn v s)) (is_lost v s) lost)

caused_by_opening : (v : View) (s : Segment) → ends_opening v s ≡ true → (is_reset_by v s || (not s.flags.rst && ends_by_syn v s) || is_lost v s || ends_by_ack v s) ≡ true
caused_by_opening v s e =
    let past = not_true (is_syn_sent v.state) (and_left (not (is_syn_sent v.state)) _ e) in
    let chosen : (if s.flags.rst then ends_by_reset v s else ends_by_syn v s) ≡ true = and_right (not (is_syn_sent v.state)) _ e in
    let C : Type 0 = (is_reset_by v s || (not s.flags.rst && ends_by_syn v s) || is_lost v s || ends_by_ack v s) ≡ true in
    by C s.flags.rst
    (λ rst.
    let ends : ends_by_reset v s ≡ true = sym (ap (λ b. if b then ends_by_reset v s else ends_by_syn v s) rst) ∙ chosen in
    let acts = and_left (is_acting_reset v s) v.passive (and_left (is_acting_reset v s && v.passive) (is_syn_received v.state) ends) in
    caused_by v s (inl (both s.flags.rst _ rst (else_chosen (is_syn_sent v.state) (s.flags.ack && is_new_ack v.sending s.acknowledgement) (is_acting_reset v s) past acts))))
    (λ no_rst.
    let ends : ends_by_syn v s ≡ true = sym (ap (λ b. if b then ends_by_reset v s else ends_by_syn v s) no_rst) ∙ chosen in
    or_left (is_reset_by v s || (not s.flags.rst && ends_by_syn v s) || is_lost v s) (ends_by_ack v s) (or_left (is_reset_by v s || (not s.flags.rst && ends_by_syn v s)) (is_lost v s) (or_right (is_reset_by v s) (not s.flags.rst && ends_by_syn v s) (both (not s.flags.rst) (ends_by_syn v s) (of_false s.flags.rst no_rst) ends))))

-- a segment closes by octets that are lost, or by itself
heard_caused : (v : View) (s : Segment) (now : Moment) → is_closed v.state ≡ false → is_closed (after_heard v s).state ≡ true → is_cause v (Hears s now) ≡ true
heard_caused v s now lives =
    either View (λ w. is_closed w.state ≡ true → is_cause v (Hears s now) ≡ true) (is_lost v s) (after_lost v s) (after_segment v s)
    (λ lost closed. caused_by_loss v s lost) (λ kept closed. caused_by v s (closed_by_segment v s lives closed))

pub segment-cause : (v : View) (s : Segment) (now : Moment) → ends_by v (Hears s now) ≡ true → is_cause v (Hears s now) ≡ true
segment-cause v s now e = elim (or_else (is_removed (fate_by v (Hears s now))) _ e) [
  | inl removed ↦
      let r = removes (is_closed v.state) (is_lost v s) (is_over (after_segment v s)) (is_rejected v s) (ends_opening v s) removed in
      elim r.ends [
        | inl over ↦ caused_by v s (closed_by_segment v s r.lives (and_left (is_closed (after_segment v s).state) (after_segment v s).released (and_left (is_closed (after_segment v s).state && (after_segment v s).released) _ over)))
        | inr opening ↦ caused_by_opening v s opening
      ]
  | inr ended ↦
      let lives = not_true (is_closed v.state) (and_left (not (is_closed v.state)) _ ended) in
      by_clock (λ w. is_closed w.state ≡ true → is_cause v (Hears s now) ≡ true) v s now (λ closed. clash (is_closed v.state) closed lives) (λ comes. heard_caused v s now lives) (and_right (not (is_closed v.state)) _ ended)
]

-- Every event.

pub shut_closes_none : (t : State) → is_closed t ≡ false → is_closed (beyond_shutdown t) ≡ false
shut_closes_none Closed e = cc
shut_closes_none _ e = refl

emitted-released : (v : View) (due : Option Due) (now : Moment) → (after_first v due now).released ≡ v.released
emitted-released v due now = ap (λ (w : View). w.released) (emission_keeps v due now)

-- what is over after an emission, and was not before, owed a reset
owed_before : (closed released owed : Bool) → closed ≡ true → released ≡ true → (closed && released && not owed) ≡ false → owed ≡ true
owed_before true true true c r e = refl
owed_before true true false c r e = cc
owed_before true false owed c r e = cc
owed_before false released owed c r e = cc

removed_where_over : (over : Bool) → is_removed (if over then Removed else Stays) ≡ true → over ≡ true
removed_where_over true e = refl
removed_where_over false e = cc

-- what is over after an emission owed a reset before it
emission-cause : (v : View) (now : Moment) → is_over v ≡ false → is_over (after_first v (first_due v) now) ≡ true → v.owes_reset ≡ true
emission-cause v now lives over =
    let w = after_first v (first_due v) now in
    let two = and_left (is_closed w.state && w.released) (not w.owes_reset) over in
    let closed = sym (ap is_closed (emitted-state v (first_due v) now)) ∙ and_left (is_closed w.state) w.released two in
    let released = sym (emitted-released v (first_due v) now) ∙ and_right (is_closed w.state) w.released two in
    owed_before (is_closed v.state) v.released v.owes_reset closed released lives

-- what is taken out has a cause ..
removal_caused : (v : View) (e : Event) → is_over v ≡ false → is_removed (fate_by v e) ≡ true → is_cause v e ≡ true
removal_caused v (Hears s now) lives e = segment-cause v s now (or_left (is_removed (fate_by v (Hears s now))) _ e)
removal_caused v (Ticks now) lives e = removes_at (is_at_end v now) (gives_up v now) v.released (v.passive && is_syn_received v.state) e
  where
    removes_at : (over gives released opening : Bool) → is_removed (if over then (if released then Removed else Stays) else if gives then (if released || opening then Removed else Stays) else Stays) ≡ true → (over || gives) ≡ true
    removes_at true gives released opening e = refl
    removes_at false true released opening e = refl
    removes_at false false released opening e = cc
removal_caused v (Emits now) lives e = emission-cause v now lives (removed_where_over (is_over (after_first v (first_due v) now)) e)
removal_caused v (Closes now) lives e = or_left (is_removed_by_close v) (is_aborted_by_close v) (removed_where_over (is_removed_by_close v) e)
removal_caused v (Aborts now) lives e = refl
removal_caused v (Unreachable number) lives e =
    either View (λ w. is_over w ≡ true → is_unreachable v number ≡ true) (is_unreachable v number) (after_reset v (Some ECONNREFUSED)) v (λ hit over. hit) (λ other over. clash (is_over v) over lives)
    (removed_where_over (is_over (after_unreachable v number)) e)
removal_caused v (LosesHop now) lives e =
    let over = has_come (unheard_until v) now in
    let left = v.released || (v.passive && is_syn_received v.state) in
    and_left over left (removed_where_over (over && left) e)
removal_caused v (Sends octets now) lives e = cc
removal_caused v (Receives len) lives e = cc
removal_caused v (Shuts now) lives e = cc
removal_caused v (SetsNoDelay on now) lives e = cc
removal_caused v (SetsKeepAlive every now) lives e = cc

-- .. and so has what becomes CLOSED
closing_caused : (v : View) (e : Event) → is_closed v.state ≡ false → is_closed (after_event v e).state ≡ true → is_cause v e ≡ true
closing_caused v e lives = by_event (λ e w. is_closed w.state ≡ true → is_cause v e ≡ true) v (record {
  same = λ e closed. clash (is_closed v.state) closed lives;
  asks = λ e alive closed. clash (is_closed v.state) closed lives;
  silent = λ now closed. clash (is_closed v.state) closed lives;
  heard = λ s now comes. heard_caused v s now lives;
  over = λ now ends closed. or_left (is_at_end v now) (gives_up v now) ends;
  given_up = λ now waits expired closed. or_right (is_at_end v now) (gives_up v now) expired;
  acts = λ now closed. clash (is_closed v.state) (sym (ap (λ (w : View). is_closed w.state) (timers_keep (after_silence v now) now)) ∙ closed) lives;
  emits = λ now closed. clash (is_closed v.state) (sym (ap is_closed (emitted-state v (first_due v) now)) ∙ closed) lives;
  sends = λ octets taken now opened closed. clash (is_closed v.state) closed lives;
  reads = λ len closed. clash (is_closed v.state) closed lives;
  shuts = λ now closed. clash (is_closed (beyond_shutdown v.state)) closed (shut_closes_none v.state lives);
  delays = λ on now closed. clash (is_closed v.state) closed lives;
  leaves = λ now remains closed. clash (is_closed (beyond_shutdown v.state)) closed (shut_closes_none v.state lives);
  aborts = λ e now at cause remains closed. cause;
  refused = λ number hit closed. hit;
  hopless = λ now over closed. over;
}) e

pub ends_caused : (v : View) (e : Event) → is_over v ≡ false → ends_by v e ≡ true → is_cause v e ≡ true
ends_caused v e lives ends = elim (or_else (is_removed (fate_by v e)) _ ends) [
  | inl removed ↦ removal_caused v e lives removed
  | inr closed ↦ closing_caused v e (not_true (is_closed v.state) (and_left (not (is_closed v.state)) _ closed)) (and_right (not (is_closed v.state)) _ closed)
]
