-- Why no window is told alone before a connection has spoken, and nothing waits for ever because of that.
use Rattle.std.proofs.Common.{◌≡◌, ◌⊎◌, ◌↔◌, ◌+◌, ◌≤◌, ◌==◌, ◌&&◌, ◌||◌, not, true, false, length, Option, Some, None, inl, inr, arith, refl, sym, ◌∙◌, ap}
use Rattle.std.proofs.lemmas.Bool.{leb-true}
use Rattle.clock.specs.declared.moment.Moment.{Moment}
use Rattle.tcp_segment.specs.Segment.{Segment}
use Rattle.tcp_segment.specs.Wire.{past}
use Rattle.tcp_state.specs.declared.emission.Due.{Due}
use Rattle.tcp_state.specs.declared.emission.Due.TheVariants.{Rst, Syn, Text, Probe, Ack, KeepAlive}
use Rattle.tcp_state.specs.declared.state.State.{State}
use Rattle.tcp_state.specs.declared.state.State.TheVariants.{Established, FinWait1, FinWait2}
use Rattle.tcp_halves.specs.Stream.{receive_window}
use Rattle.tcp_halves.specs.Windows.{receive_room, has_grown}
use Rattle.tcp_halves.proofs.Choices.{either, clash, and_left, and_right, both, or_else, of_false}
use Rattle.tcp_state.specs.View.{View, is_opening, is_syn_received, is_closed}
use Rattle.tcp_state.specs.Alive.{after_silence}
use Rattle.tcp_state.specs.Arrival.{beyond_fin, beyond_end, is_receiving, after_ack, after_window, after_text, after_heard}
use Rattle.tcp_state.specs.Due.{first_due, flags_of, after_syn_ack_paid, after_resent, after_first_sent, after_numbers, after_syn_out, after_emitted}
use Rattle.tcp_state.specs.Edges.{Event, Emits, after_first, after_event}
use Rattle.tcp_state.proofs.Clocked.{timers_keep, syn_out}
use Rattle.tcp_state.proofs.Emissions.{is_ack_due, by_due}
use Rattle.tcp_state.proofs.Events.{by_event}
use Rattle.tcp_state.proofs.Segments.{by_ack, by_fin, by_hearing}

-- An acknowledgement alone.

pub alone : (v : View) → first_due v ≡ Some Ack → (v.owes_ack ≡ true) ⊎ ((v.spoke ≡ true) × (past v.receiving.edge v.receiving.rnext + 1460 + length v.receiving.readable ≤ v.receiving.size))
alone v first = by_due (λ o. o ≡ Some Ack → Caused) v (record {
  nothing = λ quiet heard e. cc;
  rst = λ owes e. cc;
  syn = λ opening goes e. cc;
  once_more = λ opened place is goes e. cc;
  octets = λ opened sends e. cc;
  fin = λ opened sends e. cc;
  probe = λ opened owes goes e. cc;
  ack = λ due e. caused due;
  asks = λ quiet owes e. cc;
}) first
  where
    Caused : Type 0
    Caused = (v.owes_ack ≡ true) ⊎ ((v.spoke ≡ true) × (past v.receiving.edge v.receiving.rnext + 1460 + length v.receiving.readable ≤ v.receiving.size))

    caused : is_ack_due v ≡ true → Caused
    caused due =
        let lives = not (is_opening v.state) && not (is_closed v.state) in
        elim (or_else v.owes_ack (lives && v.spoke && has_grown v.receiving) due) [
          | inl owes ↦ inl owes
          | inr tells ↦
              let grown = leb-true (receive_window v.receiving + 1460) (receive_room v.receiving) (and_right (lives && v.spoke) (has_grown v.receiving) tells) in
              inr (and_right lives v.spoke (and_left (lives && v.spoke) (has_grown v.receiving) tells), omega (arith, grown))
        ]

-- Who speaks.

abbrev Speaks : View → Event → Type 0
Speaks v e = (now : Moment) × (due : Due) × (e ≡ Emits now) × (first_due v ≡ Some due) × ((let f = flags_of v due in f.ack) ≡ true) × ((let f = flags_of v due in f.syn) ≡ false)

-- only what goes out with ACK and without SYN makes it have spoken
abbrev Spoken : View → Event → View → Type 0
Spoken v e w = (w.spoke ≡ v.spoke) ⊎ ((w.spoke ≡ true) × Speaks v e)

heard_spoke : (v : View) (s : Segment) → (after_heard v s).spoke ≡ v.spoke
heard_spoke v s =
    let P : View → Type 0 = λ w. w.spoke ≡ v.spoke in
    let acked : P (after_ack v s.acknowledgement) = by_ack P v s.acknowledgement (record { old = refl; beyond = refl; opens = λ received new. refl; octets = λ new. refl; fin = λ new fin. refl }) in
    let told = after_window (after_ack v s.acknowledgement) s in
    let text : P (after_text told s) = either View P ((length s.octets == 0) || not (is_receiving told.state)) told _ (λ none. acked) (λ some. acked) in
    by_hearing P v s acked (record {
      dropped = refl;
      drawn = refl;
      reset = λ acts. refl;
      crossed = λ waits. refl;
      opened = λ waits right. refl;
      acknowledged = λ taken. acked;
      read = λ on. by_fin P (after_text told s) s (λ counts. text) text text;
    })

syn_spoke : (v : View) (now : Moment) → (after_emitted v Syn now).spoke ≡ v.spoke
syn_spoke v now =
    let P : View → Type 0 = λ w. w.spoke ≡ v.spoke in
    let numbers : P (after_numbers v 0 1 now) = either View P _ (after_resent v 1) (after_first_sent v 1 now) (λ again. refl) (λ first. refl) in
    let sent : P (after_syn_out v now) = syn_out v now P numbers numbers in
    either View P (is_syn_received v.state) (after_syn_ack_paid (after_syn_out v now)) (after_syn_out v now) (λ received. sent) (λ waits. sent)

emission_spoke : (v : View) (now : Moment) → Spoken v (Emits now) (after_first v (first_due v) now)
emission_spoke v now = gone (first_due v) refl
  where
    gone : (o : Option Due) → first_due v ≡ o → Spoken v (Emits now) (after_first v o now)
    gone None first = inl refl
    gone (Some Rst) first = inl refl
    gone (Some Syn) first = inl (syn_spoke v now)
    gone (Some (Text stretch)) first = inr (refl, (now, Text stretch, refl, first, refl, refl))
    gone (Some Probe) first = inr (refl, (now, Probe, refl, first, refl, refl))
    gone (Some Ack) first = inr (refl, (now, Ack, refl, first, refl, refl))
    gone (Some KeepAlive) first = inr (refl, (now, KeepAlive, refl, first, refl, refl))

spoken : (v : View) (e : Event) → Spoken v e (after_event v e)
spoken v = by_event (λ e w. Spoken v e w) v (record {
  same = λ e. inl refl;
  asks = λ e alive. inl refl;
  silent = λ now. inl refl;
  heard = λ s now lives. inl (heard_spoke v s);
  over = λ now ends. inl refl;
  given_up = λ now waits expired. inl refl;
  acts = λ now. inl (ap (λ (w : View). w.spoke) (timers_keep (after_silence v now) now));
  emits = λ now. emission_spoke v now;
  sends = λ octets taken now opened. inl refl;
  reads = λ len. inl refl;
  shuts = λ now. inl refl;
  delays = λ on now. inl refl;
  leaves = λ now lives. inl refl;
  aborts = λ e now at cause lives. inl refl;
  refused = λ number hit. inl refl;
  hopless = λ now over. inl refl;
})

-- .. and that always does
speaks_out : (v : View) (due : Due) (now : Moment) → (let f = flags_of v due in f.ack) ≡ true → (let f = flags_of v due in f.syn) ≡ false → (after_emitted v due now).spoke ≡ true
speaks_out v Rst now acks plain = cc
speaks_out v Syn now acks plain = cc
speaks_out v (Text stretch) now acks plain = refl
speaks_out v Probe now acks plain = refl
speaks_out v Ack now acks plain = refl
speaks_out v KeepAlive now acks plain = refl

pub speaking : (v : View) (e : Event) → ((after_event v e).spoke ≡ true) ↔ ((v.spoke ≡ true) ⊎ Speaks v e)
speaking v e = (
  λ spoke. elim (spoken v e) [ inl same ↦ inl (sym same ∙ spoke) | inr now ↦ inr now.1 ],
  λ cause. elim cause [
    | inl before ↦ elim (spoken v e) [ inl same ↦ same ∙ before | inr now ↦ now.0 ]
    | inr s ↦
        let now = s.0 in
        let due = s.1 in
        ap (λ (e : Event). (after_event v e).spoke) s.2 ∙ (ap (λ o. (after_first v o now).spoke) s.3 ∙ speaks_out v due now s.4 s.5)
  ],
)

-- An acknowledgement that waits.

abbrev StillWaits : View → Type 0
StillWaits w = is_closed w.state ≡ false → w.delays_ack ≡ true

still_open : (t : State) → is_closed (beyond_end t) ≡ false → is_closed t ≡ false
still_open Established e = refl
still_open FinWait1 e = refl
still_open FinWait2 e = refl
still_open _ e = e

heard_waits : (v : View) (s : Segment) → v.delays_ack ≡ true → StillWaits (after_heard v s)
heard_waits v s was =
    let acked : StillWaits (after_ack v s.acknowledgement) = by_ack StillWaits v s.acknowledgement (record {
      old = λ lives. was;
      beyond = λ lives. was;
      opens = λ received new lives. was;
      octets = λ new lives. was;
      fin = λ new fin lives. both v.delays_ack (not (is_closed (beyond_fin v.state))) was (of_false (is_closed (beyond_fin v.state)) lives);
    }) in
    let told = after_window (after_ack v s.acknowledgement) s in
    let text : StillWaits (after_text told s) = either View StillWaits ((length s.octets == 0) || not (is_receiving told.state)) told _ (λ none. acked) (λ some lives. refl) in
    by_hearing StillWaits v s (λ lives. cc) (record {
      dropped = λ lives. was;
      drawn = λ lives. was;
      reset = λ acts lives. cc;
      crossed = λ waits lives. was;
      opened = λ waits right lives. was;
      acknowledged = λ taken. acked;
      read = λ on. by_fin StillWaits (after_text told s) s (λ counts lives. text (still_open (after_text told s).state lives)) text text;
    })

-- or it has spoken
abbrev WaitsToSpeak : View → Type 0
WaitsToSpeak w = is_closed w.state ≡ false → (w.delays_ack ≡ true) ⊎ (w.spoke ≡ true)

emission_waits : (v : View) (now : Moment) → is_opening v.state ≡ false → v.delays_ack ≡ true → WaitsToSpeak (after_first v (first_due v) now)
emission_waits v now opened was = by_due (λ o. WaitsToSpeak (after_first v o now)) v (record {
  nothing = λ quiet heard lives. inl was;
  rst = λ owes lives. inl was;
  syn = λ opening goes. clash (is_opening v.state) opening opened;
  once_more = λ opened place is goes lives. inr refl;
  octets = λ opened sends lives. inr refl;
  fin = λ opened sends lives. inr refl;
  probe = λ opened owes goes lives. inr refl;
  ack = λ owes lives. inr refl;
  asks = λ quiet owes lives. inr refl;
})

pub waits_to_speak : (v : View) (e : Event) → is_opening v.state ≡ false → v.delays_ack ≡ true → is_closed (after_event v e).state ≡ false
    → ((after_event v e).delays_ack ≡ true) ⊎ ((after_event v e).spoke ≡ true)
waits_to_speak v e opened was = by_event (λ e w. WaitsToSpeak w) v (record {
  same = λ e lives. inl was;
  asks = λ e alive lives. inl was;
  silent = λ now lives. inl was;
  heard = λ s now lives after. inl (heard_waits v s was after);
  over = λ now ends lives. cc;
  given_up = λ now waits expired lives. cc;
  acts = λ now lives. inl (ap (λ (w : View). w.delays_ack) (timers_keep (after_silence v now) now) ∙ was);
  emits = λ now. emission_waits v now opened was;
  sends = λ octets taken now open_yet lives. inl was;
  reads = λ len lives. inl was;
  shuts = λ now lives. inl was;
  delays = λ on now lives. inl was;
  leaves = λ now lives after. inl was;
  aborts = λ e now at cause lives after. cc;
  refused = λ number hit lives. cc;
  hopless = λ now over lives. cc;
}) e
