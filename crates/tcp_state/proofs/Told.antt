-- Why the window is told in steps of a segment at least, less what rounding takes, and such a step with what goes out next.
use Rattle.std.proofs.Common.{◌≡◌, ◌≢◌, ℕ, ◌+◌, ◌%◌, ◌^◌, ◌<◌, ◌≤◌, ◌==◌, ◌&&◌, ◌||◌, ◌⊎◌, not, nat_le, if◌then◌else◌, true, false, length, Option, Some, None, inl, inr, arith, refl, sym, ◌∙◌, ap, subst}
use Rattle.std.proofs.lemmas.Bool.{leb-true, le-leb}
use Rattle.tcp_segment.specs.Segment.{Segment}
use Rattle.tcp_segment.specs.Wire.{past}
use Rattle.clock.specs.declared.moment.Moment.{Moment}
use Rattle.tcp_state.specs.declared.emission.Due.{Due}
use Rattle.tcp_state.specs.declared.emission.Due.TheVariants.{Rst, Syn, Text, Probe, Ack, KeepAlive}
use Rattle.tcp_state.specs.declared.emission.Stretch.{Stretch}
use Rattle.tcp_halves.specs.Halves.{Receiving}
use Rattle.tcp_halves.specs.Stream.{receive_window}
use Rattle.tcp_halves.specs.Windows.{receive_room, has_grown, whole_units, after_advertisement, syn_window, after_syn_advertisement}
use Rattle.tcp_halves.proofs.Keeping.{in_units}
use Rattle.tcp_state.specs.View.{View, IsSound, is_opening, is_syn_sent, is_syn_received, is_closed}
use Rattle.tcp_state.specs.Alive.{after_silence}
use Rattle.tcp_state.specs.Arrival.{is_receiving, after_ack, after_window, after_text, after_heard}
use Rattle.tcp_state.specs.Due.{first_due, again, new_octets, fin_alone, after_ack_paid, after_syn_ack_paid, after_syn_out, after_stretch, after_probe, after_emitted}
use Rattle.tcp_state.specs.Edges.{Event, Emits, after_first, after_event}
use Rattle.tcp_halves.proofs.Choices.{either, clash, both, or_right, neither, of_false}
use Rattle.tcp_state.proofs.AckAnswers.{opening_received}
use Rattle.tcp_state.proofs.Segments.{by_fin, ack_receives, by_hearing}
use Rattle.tcp_state.proofs.Events.{by_event}
use Rattle.tcp_state.proofs.Clocked.{timers_keep, syn_out}
use Rattle.tcp_state.proofs.Waiting.{owed_where_closed}
use Rattle.tcp_state.proofs.Emissions.{is_ack_due, by_due, numbers_receive, stretch_receives, probe_receives}

-- What goes out, but a reset and a SYN alone, advertises the window, a SYN-ACK its own.

abbrev Advertises : View → View → Type 0
Advertises v w = (w.receiving ≡ v.receiving) ⊎ ((w.receiving ≡ after_advertisement v.receiving) ⊎ ((is_opening v.state ≡ true) × (w.receiving ≡ after_syn_advertisement v.receiving)))

syn_receives : (v : View) (now : Moment) → (after_syn_out v now).receiving ≡ v.receiving
syn_receives v now = syn_out v now (λ w. w.receiving ≡ v.receiving) (numbers_receive v 0 1 now) (numbers_receive v 0 1 now)

told : (v w : View) → w.receiving ≡ v.receiving → (after_ack_paid w).receiving ≡ after_advertisement v.receiving
told v w same = ap after_advertisement same

emitted : (v : View) (due : Due) (now : Moment) → Advertises v (after_emitted v due now)
emitted v Rst now = inl refl
emitted v Syn now =
    let sent = after_syn_out v now in
    either View (Advertises v) (is_syn_received v.state) (after_syn_ack_paid sent) sent (λ received. inr (inr (opening_received v.state received, ap after_syn_advertisement (syn_receives v now)))) (λ first. inl (syn_receives v now))
emitted v (Text stretch) now = inr (inl (told v (after_stretch v stretch now) (stretch_receives v stretch now)))
emitted v Probe now = inr (inl (told v (after_probe v) (probe_receives v)))
emitted v Ack now = inr (inl refl)
emitted v KeepAlive now = inr (inl refl)

-- A step.

abbrev Steps : View → View → Type 0
Steps v w = (w.receiving.edge ≡ v.receiving.edge)
    ⊎ (((1460 < past w.receiving.edge v.receiving.edge + v.receiving.unit) × (w.receiving.edge ≡ (v.receiving.rnext + whole_units v.receiving.unit (receive_room v.receiving)) % 2 ^ 32))
    ⊎ ((is_opening v.state ≡ true) × (1460 ≤ past w.receiving.edge v.receiving.edge) × (w.receiving.edge ≡ (v.receiving.rnext + syn_window v.receiving) % 2 ^ 32)))

-- what is told ends as far past the edge as the window has grown, less than a unit short of the room
grown : (rnext edge told room unit : ℕ) → rnext < 2 ^ 32 → edge < 2 ^ 32 → room ≤ 1048576 → unit ≤ 1460 → told ≤ room → room < told + unit → past edge rnext + 1460 ≤ room
    → 1460 < past ((rnext + told) % 2 ^ 32) edge + unit
grown rnext edge told room unit r e few small within near much = omega (arith, r, e, few, small, within, near, much)

grown_by_syn : (rnext edge told : ℕ) → rnext < 2 ^ 32 → edge < 2 ^ 32 → told ≤ 1048576 → past edge rnext + 1460 ≤ told → 1460 ≤ past ((rnext + told) % 2 ^ 32) edge
grown_by_syn rnext edge told r e few much = omega (arith, r, e, few, much)

few_left : (v : View) → IsSound v → receive_room v.receiving ≤ 1048576
few_left v sound = omega (arith, sound.terms.places, sound.terms.capacity)

advertised : (v w : View) → IsSound v → v.receiving.edge < 2 ^ 32 → w.receiving ≡ after_advertisement v.receiving → Steps v w
advertised v w sound small same =
    let r = v.receiving in
    let told = whole_units r.unit (receive_room r) in
    let P : Receiving → Type 0 = λ t. w.receiving ≡ t → Steps v w in
    either Receiving P (has_grown r) _ r
    (λ has is.
    let much = leb-true (past r.edge r.rnext + 1460) (receive_room r) has in
    let filled = in_units r.unit (receive_room r) sound.terms.unit_some in
    let edge : w.receiving.edge ≡ (r.rnext + told) % 2 ^ 32 = ap (λ (t : Receiving). t.edge) is in
    let step = grown r.rnext r.edge told (receive_room r) r.unit sound.rnext small (few_left v sound) sound.terms.unit_few filled.0 filled.1 much in
    inr (inl (subst (λ n. 1460 < past n r.edge + r.unit) (sym edge) step, edge)))
    (λ keeps is. inl (ap (λ (t : Receiving). t.edge) is)) same

advertised_by_syn : (v w : View) → IsSound v → v.receiving.edge < 2 ^ 32 → is_opening v.state ≡ true → w.receiving ≡ after_syn_advertisement v.receiving → Steps v w
advertised_by_syn v w sound small opening same =
    let r = v.receiving in
    let P : Receiving → Type 0 = λ t. w.receiving ≡ t → Steps v w in
    either Receiving P (nat_le (receive_window r + 1460) (syn_window r)) _ r
    (λ has is.
    let much = leb-true (past r.edge r.rnext + 1460) (syn_window r) has in
    let edge : w.receiving.edge ≡ (r.rnext + syn_window r) % 2 ^ 32 = ap (λ (t : Receiving). t.edge) is in
    let step = grown_by_syn r.rnext r.edge (syn_window r) sound.rnext small (omega (arith, few_left v sound)) much in
    inr (inr (opening, subst (λ n. 1460 ≤ past n r.edge) (sym edge) step, edge)))
    (λ keeps is. inl (ap (λ (t : Receiving). t.edge) is)) same

-- A segment leaves the edge, past SYN-SENT.

heard_edge : (v : View) (s : Segment) → is_syn_sent v.state ≡ false → (after_heard v s).receiving.edge ≡ v.receiving.edge
heard_edge v s past_opening =
    let P : View → Type 0 = λ w. w.receiving.edge ≡ v.receiving.edge in
    let acked : P (after_ack v s.acknowledgement) = ap (λ (r : Receiving). r.edge) (ack_receives v s.acknowledgement) in
    let heard = after_window (after_ack v s.acknowledgement) s in
    let text : P (after_text heard s) = either View P ((length s.octets == 0) || not (is_receiving heard.state)) heard _ (λ none. acked) (λ some. acked) in
    by_hearing P v s acked (record {
      dropped = refl;
      drawn = refl;
      reset = λ acts. refl;
      crossed = λ waits. clash (is_syn_sent v.state) waits past_opening;
      opened = λ waits right. clash (is_syn_sent v.state) waits past_opening;
      acknowledged = λ taken. acked;
      read = λ on. by_fin P (after_text heard s) s (λ counts. text) text text;
    })

-- Every event.

emission_steps : (v : View) (o : Option Due) (now : Moment) → IsSound v → v.receiving.edge < 2 ^ 32 → Steps v (after_first v o now)
emission_steps v None now sound small = inl refl
emission_steps v (Some due) now sound small = elim (emitted v due now) [
  | inl same ↦ inl (ap (λ (r : Receiving). r.edge) same)
  | inr tells ↦ elim tells [
    | inl plain ↦ advertised v (after_emitted v due now) sound small plain
    | inr syn ↦ advertised_by_syn v (after_emitted v due now) sound small syn.0 syn.1
  ]
]

pub in_steps : (v : View) (e : Event) → IsSound v → is_syn_sent v.state ≡ false → v.receiving.edge < 2 ^ 32 → Steps v (after_event v e)
in_steps v e sound past_opening small = by_event (λ e w. Steps v w) v (record {
  same = λ e. inl refl;
  asks = λ e alive. inl refl;
  silent = λ now. inl refl;
  heard = λ s now lives. inl (heard_edge v s past_opening);
  over = λ now ends. inl refl;
  given_up = λ now waits expired. inl refl;
  acts = λ now. inl (ap (λ (w : View). w.receiving.edge) (timers_keep (after_silence v now) now));
  emits = λ now. emission_steps v (first_due v) now sound small;
  sends = λ octets taken now opened. inl refl;
  reads = λ len. inl refl;
  shuts = λ now. inl refl;
  delays = λ on now. inl refl;
  leaves = λ now lives. inl refl;
  aborts = λ e now at cause lives. inl refl;
  refused = λ number hit. inl refl;
  hopless = λ now over. inl refl;
}) e

-- A step that can be told is told with what goes out next.

pub told_next : (v : View) (now : Moment) → IsSound v → (is_opening v.state || is_closed v.state) ≡ false → (v.spoke ≡ true) ⊎ (first_due v ≢ None) → past v.receiving.edge v.receiving.rnext + 1460 + length v.receiving.readable ≤ v.receiving.size
    → (after_event v (Emits now)).receiving.edge ≡ (v.receiving.rnext + whole_units v.receiving.unit (receive_room v.receiving)) % 2 ^ 32
told_next v now sound opened goes_out much =
    let r = v.receiving in
    let lives = neither (is_opening v.state) (is_closed v.state) opened in
    let has : has_grown r ≡ true = le-leb (past r.edge r.rnext + 1460) (receive_room r) (omega (arith, much)) in
    let due : v.spoke ≡ true → is_ack_due v ≡ true = λ spoke.
    or_right v.owes_ack (not (is_opening v.state) && not (is_closed v.state) && v.spoke && has_grown r)
    (both (not (is_opening v.state) && not (is_closed v.state) && v.spoke) (has_grown r)
    (both (not (is_opening v.state) && not (is_closed v.state)) v.spoke (both (not (is_opening v.state)) (not (is_closed v.state)) (of_false (is_opening v.state) lives.0) (of_false (is_closed v.state) lives.1)) spoke) has) in
    let P : Option Due → Type 0 = λ o. (v.spoke ≡ true) ⊎ (o ≢ None) → (after_first v o now).receiving ≡ after_advertisement r in
    let text : (stretch : Stretch) → P (Some (Text stretch)) = λ stretch goes. told v (after_stretch v stretch now) (stretch_receives v stretch now) in
    let all : P (first_due v) = by_due P v (record {
      nothing = λ quiet heard goes. elim goes [ inl spoke ↦ clash (is_ack_due v) (due spoke) quiet | inr some ↦ absurd (some refl) ];
      rst = λ owes goes. clash (is_closed v.state) (owed_where_closed v.owes_reset (is_closed v.state) v.released sound.reset owes) lives.1;
      syn = λ opening waits goes. clash (is_opening v.state) opening lives.0;
      once_more = λ past mark is again_goes. text (again v mark);
      octets = λ past sends. text (new_octets v);
      fin = λ past sends. text (fin_alone v);
      probe = λ past owes probes goes. told v (after_probe v) (probe_receives v);
      ack = λ owes goes. refl;
      asks = λ quiet owes goes. refl;
    }) in
    ap (λ (t : Receiving). t.edge) (all goes_out) ∙ ap (λ b. let t = if b then record r { edge = (r.rnext + whole_units r.unit (receive_room r)) % 2 ^ 32 } else r in t.edge) has
