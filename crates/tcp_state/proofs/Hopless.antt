-- Since when a first segment waits, and how the wait for its hop ends.
use Rattle.std.proofs.Common.{◌≡◌, ◌⊎◌, ◌↔◌, ℕ, ◌+◌, ◌<◌, ◌≤◌, ◌==◌, ◌&&◌, ◌||◌, not, Bool, true, false, if◌then◌else◌, length, drop, Option, Some, None, is_some, inl, inr, arith, refl, sym, ◌∙◌, ap, subst}
use Rattle.std.proofs.lemmas.Bool.{eqb-true, le-leb, lt-leb}
use Rattle.std.proofs.lemmas.List.{length-drop, length-take}
use Rattle.std.specs.Option.{option_or}
use Rattle.clock.specs.declared.moment.Moment.{Moment}
use Rattle.clock.specs.Moments.{after, has_come}
use Rattle.tcp_segment.specs.Segment.{Segment, span_of}
use Rattle.tcp_state.specs.declared.calls.Refusal.TheVariants.{ETIMEDOUT}
use Rattle.tcp_state.specs.declared.connection.Fate.TheVariants.{Stays, Removed}
use Rattle.tcp_state.specs.declared.emission.Due.{Due}
use Rattle.tcp_state.specs.declared.emission.Due.TheVariants.{Rst, Syn, Text, Probe, Ack, KeepAlive}
use Rattle.tcp_state.specs.declared.emission.Stretch.{Stretch}
use Rattle.tcp_state.specs.declared.state.State.TheVariants.{Closed, Listen}
use Rattle.tcp_halves.specs.Stream.{outstanding}
use Rattle.tcp_halves.proofs.Choices.{either, and_left}
use Rattle.tcp_state.specs.View.{View, IsSound, is_opening, is_syn_received, is_closed, is_fin_wait_2, awaits_fin_ack, after_reset}
use Rattle.tcp_state.specs.Alive.{is_alive_due, after_silence}
use Rattle.tcp_state.specs.Resend.{stopped}
use Rattle.tcp_state.specs.New.{sends_new, sends_fin}
use Rattle.tcp_state.specs.Timing.{KeepsTime, probes, waiting_since, awaits_first, clocked, retransmission_expired, probe_expired, after_timers}
use Rattle.tcp_state.specs.Hop.{end_of_hop_wait, unheard_until, after_hopless}
use Rattle.tcp_state.specs.Calls.{told_nodelay, latest}
use Rattle.tcp_state.specs.Arrival.{is_receiving, after_ack, after_window, after_text, after_heard, is_moved, before, noted_by}
use Rattle.tcp_state.specs.Due.{MayGoOut, IsHeld, first_due, new_due, again_from, new_octets, fin_alone, probe_stretch, octets_of_stretch, after_resent, after_first_sent, after_numbers, after_new_text, brings_new_octets, after_syn_out, after_syn_ack_paid, after_going_out, end_of}
use Rattle.tcp_state.specs.Edges.{Event, LosesHop, moment_of, after_first, after_event, fate_by, is_removed, left_by, state_after}
use Rattle.tcp_state.specs.Positions.{takes_numbers}
use Rattle.tcp_state.specs.Said.{segment_of}
use Rattle.tcp_state.specs.Counted.{IsGivenUp}
use Rattle.tcp_state.proofs.Awaited.{awaits_nothing}
use Rattle.tcp_state.proofs.Clocked.{syn_out, by_others}
use Rattle.tcp_state.proofs.Emissions.{is_ack_due}
use Rattle.tcp_state.proofs.Errors.{waits_open}
use Rattle.tcp_state.proofs.Events.{holding, shut, by_event}
use Rattle.tcp_state.proofs.GoesOut.{due-may}
use Rattle.tcp_state.proofs.ResetAges.{live}
use Rattle.tcp_state.proofs.Segments.{by_fin, by_ack, by_hearing}
use Rattle.tcp_state.proofs.Unchanged.{none_below, closed_plain, closed_holds}
use Rattle.tcp_state.proofs.Unreachable.{silent}

-- What is due where nothing is outstanding.

-- of what may be due first these take numbers; where a reset is, nothing else is
numbers_due : (reset opening new fin probe ack asks : Bool) (text end : Stretch) → (reset ≡ true → (opening || new || fin || probe) ≡ false)
    → takes_numbers (if reset then Some Rst else if opening then Some Syn else if new then Some (Text text) else if fin then Some (Text end) else if probe then Some Probe else if ack then Some Ack else if asks then Some KeepAlive else None)
    ≡ (opening || new || fin || probe)
numbers_due true opening new fin probe ack asks text end alone = sym (alone refl)
numbers_due false true new fin probe ack asks text end alone = refl
numbers_due false false true fin probe ack asks text end alone = refl
numbers_due false false false true probe ack asks text end alone = refl
numbers_due false false false false true ack asks text end alone = refl
numbers_due false false false false false true asks text end alone = refl
numbers_due false false false false false false true text end alone = refl
numbers_due false false false false false false false text end alone = refl

-- a reset is owed only where all is closed
owed_where_shut : (owes closed released : Bool) → (owes && not (closed && released)) ≡ false → owes ≡ true → closed ≡ true
owed_where_shut true true released e o = refl
owed_where_shut true false released e o = cc
owed_where_shut false closed released e o = cc

takes_where_awaited : (v : View) → IsSound v → outstanding v.sending ≡ 0 → takes_numbers (first_due v) ≡ awaits_first v
takes_where_awaited v sound none =
    let opening = is_opening v.state in
    let owed = v.resend.owes_probe && probes v in
    let rest = opening || sends_new v || sends_fin v || owed in
    let unmarked : v.resend.mark ≡ None = none_below v.resend.mark (outstanding v.sending) none sound.mark in
    let waits : awaits_first v ≡ rest = ap (λ n. (n == 0) && rest) none in
    let alone : v.owes_reset ≡ true → rest ≡ false = λ owes.
    let closed = owed_where_shut v.owes_reset (is_closed v.state) v.released sound.reset owes in
    let plain = closed_plain v.state closed in
    sym waits ∙ awaits_nothing v plain.0 (closed_holds v sound closed).0 plain.1 in
    ap (λ m. takes_numbers (if v.owes_reset then Some Rst else if opening then (if (outstanding v.sending == 0) || is_some m then Some Syn else due_alone) else option_or (again_from v m) (new_due v))) unmarked
    ∙ (ap (λ n. takes_numbers (if v.owes_reset then Some Rst else if opening then (if (n == 0) || false then Some Syn else due_alone) else new_due v)) none
    ∙ (numbers_due v.owes_reset opening (sends_new v) (sends_fin v) owed (is_ack_due v) (is_alive_due v) (new_octets v) (fin_alone v) alone ∙ sym waits))
  where
    due_alone : Option Due
    due_alone = if is_ack_due v then Some Ack else if is_alive_due v then Some KeepAlive else None

-- How many numbers a segment takes.

held_spans : (v : View) (stretch : Stretch) → IsHeld v stretch → 0 < length (octets_of_stretch v stretch) + 0 + (if stretch.fin then 1 else 0)
held_spans v stretch h =
    omega (arith, h.some, h.held, length-take stretch.count (drop stretch.offset v.sending.held), length-drop stretch.offset v.sending.held)

spans : (v : View) (due : Due) → MayGoOut v due → takes_numbers (Some due) ≡ true → 0 < span_of (segment_of v due)
spans v Rst may takes = cc
spans v Syn may takes = omega arith
spans v (Text stretch) may takes = held_spans v stretch may
spans v Probe may takes = held_spans v (probe_stretch v) may
spans v Ack may takes = cc
spans v KeepAlive may takes = cc

takes : (v : View) (due : Due) → 0 < span_of (segment_of v due) → takes_numbers (Some due) ≡ true
takes v Rst some = absurd (omega (arith, some))
takes v Syn some = refl
takes v (Text stretch) some = refl
takes v Probe some = refl
takes v Ack some = absurd (omega (arith, some))
takes v KeepAlive some = absurd (omega (arith, some))

which : (o : Option Due) → takes_numbers o ≡ true → (due : Due) × (o ≡ Some due) × (takes_numbers (Some due) ≡ true)
which None e = cc
which (Some due) e = (due, refl, e)

-- where a first segment is due
abbrev FirstIsDue : View → Type 0
FirstIsDue v = (v.sending.nxt ≡ v.sending.una) × ((due : Due) × (first_due v ≡ Some due) × (0 < span_of (segment_of v due)))

waits_due : (v : View) → IsSound v → awaits_first v ≡ true → FirstIsDue v
waits_due v sound waits =
    let idle : outstanding v.sending ≡ 0 = eqb-true (outstanding v.sending) 0 (and_left (outstanding v.sending == 0) (is_opening v.state || sends_new v || sends_fin v || (v.resend.owes_probe && probes v)) waits) in
    let w = which (first_due v) (takes_where_awaited v sound idle ∙ waits) in
    (omega (arith, idle, sound.una, sound.nxt), (w.0, w.1, spans v w.0 (due-may v w.0 sound w.1) w.2))

due_waits : (v : View) → IsSound v → FirstIsDue v → awaits_first v ≡ true
due_waits v sound first =
    let idle : outstanding v.sending ≡ 0 = omega (arith, first.0, sound.una) in
    let due = first.1 in
    sym (takes_where_awaited v sound idle) ∙ (ap takes_numbers due.1 ∙ takes v due.0 due.2)

pub stands_where_due : (v : View) → IsSound v → KeepsTime v → (is_some v.unheard ≡ true) ↔ FirstIsDue v
stands_where_due v sound keeps = (λ stands. waits_due v sound (sym keeps.unheard ∙ stands), λ first. keeps.unheard ∙ due_waits v sound first)

-- Each event.

-- it stays, or ends, or begins where it did not stand
abbrev Follows : Option Moment → Option Moment → Option Moment → Type 0
Follows was now is = (is ≡ was) ⊎ ((is ≡ None) ⊎ ((was ≡ None) × (is ≡ now)))

begun : (waits : Bool) (was : Option Moment) (now : Moment) → Follows was (Some now) (if waits then Some (waiting_since was now) else None)
begun true None now = inr (inr (refl, refl))
begun true (Some since) now = inl refl
begun false was now = inr (inl refl)

-- at the end of an event that moved it not
ticked : (v x : View) (moved : Bool) (now : Moment) → x.unheard ≡ v.unheard → Follows v.unheard (Some now) (clocked moved x now).unheard
ticked v x moved now same = subst (λ was. Follows was (Some now) (clocked moved x now).unheard) same (begun (awaits_first x) x.unheard now)

-- a segment leaves it, or ends the connection
abbrev Heard : View → View → Type 0
Heard v w = (w.unheard ≡ v.unheard) ⊎ ((is_opening w.state ≡ false) × (length w.sending.held ≡ 0) × (awaits_fin_ack w.state ≡ false))

heard_leaves : (v : View) (s : Segment) → Heard v (after_heard v s)
heard_leaves v s =
    let P : View → Type 0 = λ w. w.unheard ≡ v.unheard in
    let acked : P (after_ack v s.acknowledgement) = by_ack P v s.acknowledgement (record { old = refl; beyond = refl; opens = λ received new. refl; octets = λ new. refl; fin = λ new fin. refl }) in
    let told = after_window (after_ack v s.acknowledgement) s in
    let text : P (after_text told s) = either View P ((length s.octets == 0) || not (is_receiving told.state)) told _ (λ none. acked) (λ some. acked) in
    by_hearing (Heard v) v s (inr (refl, refl, refl)) (record {
      dropped = inl refl;
      drawn = inl refl;
      reset = λ acts. inr (refl, refl, refl);
      crossed = λ waits. inl refl;
      opened = λ waits right. inl refl;
      acknowledged = λ taken. inl acked;
      read = λ on. inl (by_fin P (after_text told s) s (λ counts. text) text text);
    })

heard_follows : (v : View) (s : Segment) (now : Moment) → (let b = before v s in let w = after_heard v s in
    Follows v.unheard (Some now) (clocked (is_moved b w) (noted_by b w now) now).unheard)
heard_follows v s now =
    let b = before v s in
    let w = after_heard v s in
    let x = noted_by b w now in
    elim (heard_leaves v s) [
      | inl same ↦ ticked v x (is_moved b w) now same
      | inr ended ↦ inr (inl (ap (λ c. if c then Some (waiting_since x.unheard now) else None) (awaits_nothing x ended.0 ended.1 ended.2)))
    ]

numbers_leave : (v : View) (offset end : ℕ) (now : Moment) → (after_numbers v offset end now).unheard ≡ v.unheard
numbers_leave v offset end now =
    either View (λ w. w.unheard ≡ v.unheard) _ (after_resent v end) (after_first_sent v end now) (λ again. refl) (λ first. refl)

going_leaves : (v : View) (due : Due) (now : Moment) → (after_going_out v due now).unheard ≡ v.unheard
going_leaves v Rst now = refl
going_leaves v Syn now =
    let P : View → Type 0 = λ w. w.unheard ≡ v.unheard in
    let sent : P (after_syn_out v now) = syn_out v now P (numbers_leave v 0 1 now) (numbers_leave v 0 1 now) in
    either View P (is_syn_received v.state) (after_syn_ack_paid (after_syn_out v now)) (after_syn_out v now) (λ received. sent) (λ first. sent)
going_leaves v (Text stretch) now =
    let P : View → Type 0 = λ w. w.unheard ≡ v.unheard in
    let sent = after_numbers v stretch.offset (end_of stretch) now in
    let same = numbers_leave v stretch.offset (end_of stretch) now in
    either View P (brings_new_octets v stretch) (after_new_text sent stretch) sent (λ new. same) (λ old. same)
going_leaves v Probe now = either View (λ w. w.unheard ≡ v.unheard) (brings_new_octets v (probe_stretch v)) _ _ (λ new. refl) (λ old. refl)
going_leaves v Ack now = refl
going_leaves v KeepAlive now = refl

emission_follows : (v : View) (o : Option Due) (now : Moment) → Follows v.unheard (Some now) (after_first v o now).unheard
emission_follows v None now = inl refl
emission_follows v (Some due) now = ticked v (after_going_out v due now) false now (going_leaves v due now)

timers_leave : (v : View) (now : Moment) → (after_timers v now).unheard ≡ v.unheard
timers_leave v now =
    by_others (λ w. w.unheard ≡ v.unheard) v now
    (either View (λ w. w.unheard ≡ v.unheard) (has_come v.timers.retransmission now) (retransmission_expired v) _ (λ comes. refl)
    (λ late. either View (λ w. w.unheard ≡ v.unheard) (has_come v.timers.probe now) (probe_expired v now) v (λ probes. refl) (λ rests. refl)))
    (λ w owes same. same) (λ w same. same)

follows : (v : View) (e : Event) → Follows v.unheard (moment_of e) (after_event v e).unheard
follows v = by_event (λ e w. Follows v.unheard (moment_of e) w.unheard) v (record {
  same = λ e. inl refl;
  asks = λ e alive. inl refl;
  silent = λ now. inl refl;
  heard = λ s now lives. heard_follows v s now;
  over = λ now ends. inr (inl refl);
  given_up = λ now waits expired. inr (inl refl);
  acts = λ now. let asked = after_silence v now in ticked v (after_timers asked now) false now (timers_leave asked now);
  emits = λ now. emission_follows v (first_due v) now;
  sends = λ octets taken now opened. ticked v (holding v taken) false now refl;
  reads = λ len. inl refl;
  shuts = λ now. ticked v (shut v v.released v.since) false now refl;
  delays = λ on now. ticked v (told_nodelay v on) false now refl;
  leaves = λ now lives. ticked v (shut v true (if is_fin_wait_2 v.state then latest v.since now else v.since)) false now refl;
  aborts = λ e now at cause lives. inr (inl refl);
  refused = λ number hit. inr (inl refl);
  hopless = λ now over. inr (inl refl);
})

pub wait_begins : (v : View) (e : Event) (since : Moment) → v.unheard ≡ None → (after_event v e).unheard ≡ Some since → moment_of e ≡ Some since
wait_begins v e since none some = elim (follows v e) [
  | inl same ↦ let bad : ◌≡◌ {A = Option Moment} None (Some since) = sym none ∙ (sym same ∙ some) in cc
  | inr (inl gone) ↦ let bad : ◌≡◌ {A = Option Moment} None (Some since) = sym gone ∙ some in cc
  | inr (inr first) ↦ sym first.1 ∙ some
]

pub wait_stays : (v : View) (e : Event) (since : Moment) → v.unheard ≡ Some since → ((after_event v e).unheard ≡ Some since) ⊎ ((after_event v e).unheard ≡ None)
wait_stays v e since is = elim (follows v e) [
  | inl same ↦ inl (same ∙ is)
  | inr (inl gone) ↦ inr gone
  | inr (inr first) ↦ let bad : ◌≡◌ {A = Option Moment} None (Some since) = sym first.0 ∙ is in cc
]

-- The end of the wait.

-- the wait of one, where it stands since a moment
until : (v : View) (since : Moment) (listener : Bool) → (v.passive && is_syn_received v.state) ≡ listener → v.unheard ≡ Some since → unheard_until v ≡ Some (after since (if listener then 3000 else 483000))
until v since listener kind is = ap (λ o. end_of_hop_wait o (if v.passive && is_syn_received v.state then 3000 else 483000)) is ∙ ap (λ b. Some (after since (if b then 3000 else 483000))) kind

unhurried : (v : View) (now : Moment) → has_come (unheard_until v) now ≡ false → (after_event v (LosesHop now) ≡ v) × (fate_by v (LosesHop now) ≡ Stays)
unhurried v now early = (
  ap (λ b. if b then after_reset v (Some ETIMEDOUT) else v) early,
  ap (λ b. if b && (v.released || (v.passive && is_syn_received v.state)) then Removed else Stays) early,
)

not_come : (o : Option Moment) (end now : Moment) → o ≡ Some end → now.0 < end.0 → has_come o now ≡ false
not_come o end now is early = ap (λ x. has_come x now) is ∙ lt-leb end.0 now.0 early

come : (o : Option Moment) (end now : Moment) → o ≡ Some end → end.0 ≤ now.0 → has_come o now ≡ true
come o end now is late = ap (λ x. has_come x now) is ∙ le-leb end.0 now.0 late

pub hop_unneeded : (v : View) (now : Moment) → v.unheard ≡ None → (after_event v (LosesHop now) ≡ v) × (fate_by v (LosesHop now) ≡ Stays)
hop_unneeded v now none = unhurried v now (ap (λ o. has_come (end_of_hop_wait o (if v.passive && is_syn_received v.state then 3000 else 483000)) now) none)

pub hop_awaited : (v : View) (since now : Moment) → (v.passive && is_syn_received v.state) ≡ false → v.unheard ≡ Some since → now.0 < (after since 483000).0
    → (after_event v (LosesHop now) ≡ v) × (fate_by v (LosesHop now) ≡ Stays)
hop_awaited v since now own is early = unhurried v now (not_come (unheard_until v) (after since 483000) now (until v since false own is) early)

pub listener_awaits : (v : View) (since now : Moment) → (v.passive && is_syn_received v.state) ≡ true → v.unheard ≡ Some since → now.0 < (after since 3000).0
    → (after_event v (LosesHop now) ≡ v) × (fate_by v (LosesHop now) ≡ Stays)
listener_awaits v since now offered is early = unhurried v now (not_come (unheard_until v) (after since 3000) now (until v since true offered is) early)

given_up : (v : View) (since now : Moment) → IsSound v → KeepsTime v → v.unheard ≡ Some since → has_come (unheard_until v) now ≡ true → IsGivenUp (after_event v (LosesHop now))
given_up v since now sound keeps is over =
    let lives = waits_open v sound keeps (ap is_some is) in
    let ends : after_hopless v now ≡ after_reset v (Some ETIMEDOUT) = ap (λ b. if b then after_reset v (Some ETIMEDOUT) else v) over in
    subst IsGivenUp (sym ends) (record {
      told = record { closed = refl; send = λ octets. refl; recv = λ len. refl; shutdown = refl };
      held = refl;
      none_out = refl;
      due = silent v (stopped v.resend) (live v sound lives) refl refl;
      timer = refl;
      unheard = refl;
    })

or_neither : (b : Bool) → (b || false) ≡ b
or_neither true = refl
or_neither false = refl

pub hop_given_up : (v : View) (since now : Moment) → IsSound v → KeepsTime v → (v.passive && is_syn_received v.state) ≡ false → v.unheard ≡ Some since → (after since 483000).0 ≤ now.0
    → IsGivenUp (after_event v (LosesHop now)) × (fate_by v (LosesHop now) ≡ (if v.released then Removed else Stays))
hop_given_up v since now sound keeps own is late =
    let over = come (unheard_until v) (after since 483000) now (until v since false own is) late in (
      given_up v since now sound keeps is over,
      ap (λ b. if b && (v.released || (v.passive && is_syn_received v.state)) then Removed else Stays) over
          ∙ (ap (λ b. if v.released || b then Removed else Stays) own ∙ ap (λ b. if b then Removed else Stays) (or_neither v.released)),
    )

or_taken : (a b : Bool) → b ≡ true → (a || b) ≡ true
or_taken true b e = refl
or_taken false b e = e

pub listener_gives_up : (v : View) (since now : Moment) → IsSound v → KeepsTime v → (v.passive && is_syn_received v.state) ≡ true → v.unheard ≡ Some since → (after since 3000).0 ≤ now.0
    → IsGivenUp (after_event v (LosesHop now)) × (fate_by v (LosesHop now) ≡ Removed) × (state_after v (LosesHop now) ≡ Listen)
listener_gives_up v since now sound keeps offered is late =
    let over = come (unheard_until v) (after since 3000) now (until v since true offered is) late in
    let fate : fate_by v (LosesHop now) ≡ Removed =
    ap (λ b. if b && (v.released || (v.passive && is_syn_received v.state)) then Removed else Stays) over
    ∙ ap (λ b. if b then Removed else Stays) (or_taken v.released (v.passive && is_syn_received v.state) offered) in (
      given_up v since now sound keeps is over,
      fate,
      ap (λ f. if is_removed f then left_by v else (after_event v (LosesHop now)).state) fate ∙ ap (λ b. if b then Listen else Closed) offered,
    )
