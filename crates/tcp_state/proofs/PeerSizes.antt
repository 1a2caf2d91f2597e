-- What the peer's SYN settles: the most octets of a segment, and whether windows are scaled, with the sizes of the halves and the units of the windows; and what goes out keeps to those octets.
use Rattle.std.proofs.Common.{◌≡◌, ℕ, ◌≤◌, ◌==◌, ◌||◌, ◌&&◌, ◌⊎◌, not, min, max, if◌then◌else◌, Bool, true, false, length, drop, Some, None, unwrap_or, inl, inr, arith, refl, sym, ◌∙◌, ap, ap₂, subst}
use Rattle.std.proofs.lemmas.List.{length-take}
use Rattle.tcp_segment.specs.Options.{last_mss}
use Rattle.tcp_segment.specs.Segment.{Segment, sack_permitted_of, smss_of, shift_of}
use Rattle.clock.specs.declared.moment.Moment.{Moment}
use Rattle.tcp_state.specs.declared.emission.Due.{Due}
use Rattle.tcp_state.specs.declared.emission.Due.TheVariants.{Rst, Syn, Text, Probe, Ack, KeepAlive}
use Rattle.tcp_state.specs.declared.emission.Stretch.{Stretch}
use Rattle.tcp_state.specs.declared.state.State.{State}
use Rattle.tcp_state.specs.declared.state.State.TheVariants.{Closed, SynSent, SynReceived, Established}
use Rattle.tcp_halves.specs.Stream.{peer_unit, is_new_ack}
use Rattle.tcp_halves.specs.Windows.{updates_window}
use Rattle.tcp_halves.specs.Halves.{Sending, Receiving}
use Rattle.tcp_halves.proofs.Choices.{either, by, clash, and_left, and_right, not_true}
use Rattle.tcp_state.specs.View.{View, IsSound, is_closed, is_syn_sent, after_reset}
use Rattle.tcp_state.specs.Alive.{after_silence}
use Rattle.tcp_state.specs.Timing.{clocked, after_timers}
use Rattle.tcp_state.specs.Arrival.{owing_ack, scales_with, after_first_syn, is_receiving, reset_error, is_acceptable_to, after_rst_in_syn_sent, after_rst, is_right_syn_ack, is_simultaneous_syn, after_simultaneous_syn, after_syn_ack, after_ack, after_window, after_text, after_fin, after_acceptable_segment, after_segment, is_lost, after_lost, after_heard}
use Rattle.tcp_state.specs.Due.{first_due, octets_of, octets_of_stretch, probe_stretch, again, new_octets, fin_alone}
use Rattle.tcp_state.specs.Edges.{Event, Hears, Emits, after_event}
use Rattle.tcp_state.specs.Counted.{BringsSyn}
use Rattle.tcp_state.specs.Opening.{TakesSyn, HearsSyn}
use Rattle.tcp_state.proofs.Clocked.{timers_keep, emission_keeps}
use Rattle.tcp_state.proofs.Segments.{opened_by_syn_ack, by_ack, by_fin, by_segment, by_clock}
use Rattle.tcp_state.proofs.StillStreams.{emissions_leave}
use Rattle.tcp_state.proofs.Events.{by_event}
use Rattle.tcp_state.proofs.Places.{again_few}
use Rattle.tcp_state.proofs.Emissions.{by_due}

-- what the peer's SYN settles: the most octets of a segment, whether windows are scaled and what is kept is reported, how many octets each half holds, and the units of the windows; and beside it how
-- many places were made
record Terms : Type 0 where
  smss : ℕ
  scales : Bool
  sacks : Bool
  sending_size : ℕ
  receiving_size : ℕ
  peer_unit : ℕ
  own_unit : ℕ
  places : ℕ

abbrev terms_of : View → Terms
terms_of v = record {
  smss = v.sending.smss;
  scales = v.scales;
  sacks = v.reporting.sacks;
  sending_size = v.sending.size;
  receiving_size = v.receiving.size;
  peer_unit = v.sending.unit;
  own_unit = v.receiving.unit;
  places = v.receiving.capacity;
}

abbrev terms_by : View → Segment → Terms
terms_by v s = terms_of (after_first_syn v s 0)

-- A segment: the terms stay, and in SYN-SENT the state too where it doesn't end the connection; or it is a SYN, and settles them.

abbrev Same : View → View → Type 0
Same v w = terms_of w ≡ terms_of v

abbrev Stays : View → View → Type 0
Stays v w = Same v w × (v.state ≡ SynSent → (w.state ≡ SynSent) ⊎ (w.state ≡ Closed))

-- it leads out of SYN-SENT, and not to CLOSED
abbrev Opens : View → Type 0
Opens w = (w.state ≡ SynReceived) ⊎ (w.state ≡ Established)

-- it is the peer's SYN, and is taken
record Settles (v : View) (s : Segment) (w : View) : Type 0 where
  terms : terms_of w ≡ terms_by v s
  opens : Opens w

abbrev Settled : View → Segment → View → Type 0
Settled v s w = Stays v w ⊎ (BringsSyn v s × Settles v s w)

is_sent : (t : State) → is_syn_sent t ≡ true → t ≡ SynSent
is_sent SynSent e = refl
is_sent _ e = cc

as_it_was : (v : View) → Stays v v
as_it_was v = (refl, λ waits. inl waits)

-- past SYN-SENT the state doesn't matter
past : (v w : View) → is_syn_sent v.state ≡ false → Same v w → Stays v w
past v w past_opening same = (same, λ waits. clash (is_syn_sent v.state) (ap is_syn_sent waits) past_opening)

acked : (v : View) (ack : ℕ) → Same v (after_ack v ack)
acked v ack = by_ack (Same v) v ack (record { old = refl; beyond = refl; opens = λ received new. refl; octets = λ new. refl; fin = λ new fin. refl })

windowed : (v : View) (s : Segment) → Same v (after_window (after_ack v s.acknowledgement) s)
windowed v s =
    let w = after_ack v s.acknowledgement in
    either Sending (λ t. Same v (record w { sending = t })) (updates_window w.sending s.number s.acknowledgement) _ w.sending (λ updates. acked v s.acknowledgement) (λ stays. acked v s.acknowledgement)

texted : (v : View) (s : Segment) → Same v (after_text (after_window (after_ack v s.acknowledgement) s) s)
texted v s =
    let w = after_window (after_ack v s.acknowledgement) s in
    either View (Same v) ((length s.octets == 0) || not (is_receiving w.state)) w _ (λ none. windowed v s) (λ some. windowed v s)

-- what is read moves none
read_settled : (v : View) (s : Segment) → Same v (after_fin (after_text (after_window (after_ack v s.acknowledgement) s) s) s)
read_settled v s =
    let text = after_text (after_window (after_ack v s.acknowledgement) s) s in
    by_fin (Same v) text s (λ counts. texted v s) (texted v s) (texted v s)

past_settled : (v : View) (s : Segment) → is_syn_sent v.state ≡ false → Same v (after_segment v s)
past_settled v s past_opening = by_segment (Same v) v s (record {
  dropped = refl;
  drawn = refl;
  reset = λ acts. refl;
  crossed = λ waits. clash (is_syn_sent v.state) waits past_opening;
  opened = λ waits right. clash (is_syn_sent v.state) waits past_opening;
  acknowledged = λ taken. acked v s.acknowledgement;
  read = λ on. read_settled v s;
})

-- a reset in SYN-SENT
rst_settled : (v : View) (s : Segment) → Stays v (after_rst_in_syn_sent v s)
rst_settled v s =
    either View (Stays v) (s.flags.ack && is_new_ack v.sending s.acknowledgement) (after_reset v (reset_error v.state)) v (λ acts. (refl, λ waits. inr refl)) (λ other. as_it_was v)

-- a SYN without ACK is the peer's, and so is one that acknowledges ours

crossing_syn : (v : View) (s : Segment) → is_syn_sent v.state ≡ true → s.flags.rst ≡ false → is_simultaneous_syn v s ≡ true → BringsSyn v s
crossing_syn v s waits no_rst crosses = record {
  waits = is_sent v.state waits;
  no_rst = no_rst;
  syn = and_left s.flags.syn (not s.flags.ack) crosses;
  answers = λ ack. clash s.flags.ack ack (not_true s.flags.ack (and_right s.flags.syn (not s.flags.ack) crosses));
}

answering_syn : (v : View) (s : Segment) → is_syn_sent v.state ≡ true → s.flags.rst ≡ false → is_right_syn_ack v s ≡ true → BringsSyn v s
answering_syn v s waits no_rst right = record {
  waits = is_sent v.state waits;
  no_rst = no_rst;
  syn = and_left s.flags.syn s.flags.ack (and_left (s.flags.syn && s.flags.ack) (is_new_ack v.sending s.acknowledgement) right);
  answers = λ ack. and_right (s.flags.syn && s.flags.ack) (is_new_ack v.sending s.acknowledgement) right;
}

syn_settled : (v : View) (s : Segment) → is_syn_sent v.state ≡ true → s.flags.rst ≡ false → Settled v s (if is_simultaneous_syn v s then after_simultaneous_syn v s else after_syn_ack v s)
syn_settled v s waits no_rst =
    either View (Settled v s) (is_simultaneous_syn v s) (after_simultaneous_syn v s) (after_syn_ack v s)
    (λ crosses. inr (crossing_syn v s waits no_rst crosses, record { terms = refl; opens = inl refl }))
    (λ answers. either View (Settled v s) (is_right_syn_ack v s) (opened_by_syn_ack v s) v
    (λ right. inr (answering_syn v s waits no_rst right, record { terms = refl; opens = inr refl }))
    (λ wrong. inl (as_it_was v)))

segment_settled : (v : View) (s : Segment) → Settled v s (after_segment v s)
segment_settled v s =
    by (Settled v s (after_segment v s)) (is_syn_sent v.state)
    (λ waits. either View (Settled v s) (is_closed v.state) v _ (λ closed. inl (as_it_was v))
    (λ lives. either View (Settled v s) s.flags.rst (if is_syn_sent v.state then after_rst_in_syn_sent v s else after_rst v s) _
    (λ rst. either View (Settled v s) (is_syn_sent v.state) (after_rst_in_syn_sent v s) (after_rst v s) (λ sent. inl (rst_settled v s)) (λ not_sent. clash (is_syn_sent v.state) waits not_sent))
    (λ no_rst. either View (Settled v s) (is_syn_sent v.state) (if is_simultaneous_syn v s then after_simultaneous_syn v s else after_syn_ack v s) (if is_acceptable_to v s then after_acceptable_segment v s else owing_ack v)
    (λ sent. syn_settled v s waits no_rst) (λ not_sent. clash (is_syn_sent v.state) waits not_sent))))
    (λ past_opening. inl (past v (after_segment v s) past_opening (past_settled v s past_opening)))

heard_settled : (v : View) (s : Segment) → Settled v s (after_heard v s)
heard_settled v s =
    either View (Settled v s) (is_lost v s) (after_lost v s) (after_segment v s) (λ lost. inl (windowed v s, λ waits. inr refl)) (λ kept. segment_settled v s)

timed_settled : (v : View) (s : Segment) (now : Moment) → Settled v s (after_event v (Hears s now))
timed_settled v s now = by_clock (Settled v s) v s now (inl (as_it_was v)) (λ lives. elim (heard_settled v s) [ inl stays ↦ inl stays | inr takes ↦ inr (takes.0, record { terms = takes.1.terms; opens = takes.1.opens }) ])

-- in SYN-SENT the SYN that opens settles them
syn_settles : (v : View) (s : Segment) (now : Moment) → v.state ≡ SynSent → TakesSyn v s now → terms_of (after_event v (Hears s now)) ≡ terms_by v s
syn_settles v s now waits opens =
    let w = after_event v (Hears s now) in
    elim (timed_settled v s now) [
      | inl stays ↦ no_other w.state opens (stays.1 waits)
      | inr takes ↦ takes.1.terms
    ]
  where
    no_other : {C : Type 0} → (t : State) → (t ≡ SynReceived) ⊎ (t ≡ Established) → (t ≡ SynSent) ⊎ (t ≡ Closed) → C
    no_other SynReceived opens other = elim other [ inl e ↦ cc | inr e ↦ cc ]
    no_other Established opens other = elim other [ inl e ↦ cc | inr e ↦ cc ]
    no_other _ opens other = elim opens [ inl e ↦ cc | inr e ↦ cc ]

pub size_of_syn : (v : View) (s : Segment) (now : Moment) → v.state ≡ SynSent → TakesSyn v s now → (after_event v (Hears s now)).sending.smss ≡ smss_of s
size_of_syn v s now waits opens = ap (λ (t : Terms). t.smss) (syn_settles v s now waits opens)

pub scale_of_syn : (v : View) (s : Segment) (now : Moment) → v.state ≡ SynSent → TakesSyn v s now → (after_event v (Hears s now)).scales ≡ scales_with v s
scale_of_syn v s now waits opens = ap (λ (t : Terms). t.scales) (syn_settles v s now waits opens)

pub report_of_syn : (v : View) (s : Segment) (now : Moment) → v.state ≡ SynSent → TakesSyn v s now → (after_event v (Hears s now)).reporting.sacks ≡ (v.reporting.sacks && sack_permitted_of s)
report_of_syn v s now waits opens = ap (λ (t : Terms). t.sacks) (syn_settles v s now waits opens)

pub unit_of_syn : (v : View) (s : Segment) (now : Moment) → v.state ≡ SynSent → TakesSyn v s now
    → (after_event v (Hears s now)).sending.unit ≡ peer_unit (after_event v (Hears s now)).scales (shift_of s)
unit_of_syn v s now waits opens = let e = syn_settles v s now waits opens in
    ap (λ (t : Terms). t.peer_unit) e ∙ ap (λ (t : Terms). peer_unit t.scales (shift_of s)) (sym e)

-- Every event.

emitted_settled : (v : View) (now : Moment) → Same v (after_event v (Emits now))
emitted_settled v now =
    let w = after_event v (Emits now) in
    let k = emissions_leave v now in
    ap (λ (t : Sending). record { smss = t.smss; scales = w.scales; sacks = w.reporting.sacks; sending_size = t.size; receiving_size = w.receiving.size; peer_unit = t.unit; own_unit = w.receiving.unit; places = w.receiving.capacity }) k.0
    ∙ (ap (λ (r : Receiving). record { smss = v.sending.smss; scales = w.scales; sacks = w.reporting.sacks; sending_size = v.sending.size; receiving_size = r.size; peer_unit = v.sending.unit; own_unit = r.unit; places = r.capacity }) k.1
    ∙ ap (λ (x : View). record (terms_of v) { scales = x.scales; sacks = x.reporting.sacks }) (emission_keeps v (first_due v) now))

ticked_settled : (v : View) (now : Moment) → Same v (clocked false (after_timers v now) now)
ticked_settled v now = ap terms_of (timers_keep v now)

abbrev SettledBy : View → Event → View → Type 0
SettledBy v e w = Same v w ⊎ ((s : Segment) × (now : Moment) × (e ≡ Hears s now) × BringsSyn v s × Settles v s w)

settled_by : (v : View) (e : Event) → SettledBy v e (after_event v e)
settled_by v e = by_event (SettledBy v) v (record {
  same = λ e. inl refl;
  asks = λ e alive. inl refl;
  silent = λ now. inl refl;
  heard = λ s now lives. elim (heard_settled v s) [ inl stays ↦ inl stays.0 | inr takes ↦ inr (s, now, refl, takes.0, record { terms = takes.1.terms; opens = takes.1.opens }) ];
  over = λ now ends. inl refl;
  given_up = λ now going expired. inl refl;
  acts = λ now. inl (ticked_settled (after_silence v now) now);
  emits = λ now. inl (emitted_settled v now);
  sends = λ octets taken now opened. inl refl;
  reads = λ len. inl refl;
  shuts = λ now. inl refl;
  delays = λ on now. inl refl;
  leaves = λ now lives. inl refl;
  aborts = λ e now at cause lives. inl refl;
  refused = λ number hit. inl refl;
  hopless = λ now over. inl refl;
}) e

pub others_leave_size : (v : View) (e : Event) → ((after_event v e).sending.smss ≡ v.sending.smss) ⊎ ((s : Segment) × (now : Moment) × (e ≡ Hears s now) × BringsSyn v s × ((after_event v e).sending.smss ≡ smss_of s))
others_leave_size v e = elim (settled_by v e) [
  | inl same ↦ inl (ap (λ (t : Terms). t.smss) same)
  | inr by_syn ↦ inr (by_syn.0, by_syn.1, by_syn.2, by_syn.3, ap (λ (t : Terms). t.smss) by_syn.4.terms)
]

-- past SYN-SENT, and where it stays there, all stays
stay : (v : View) (e : Event) → (is_syn_sent v.state ≡ false) ⊎ (is_syn_sent (after_event v e).state ≡ true) → Same v (after_event v e)
stay v e either_way = elim (settled_by v e) [
  | inl same ↦ same
  | inr by_syn ↦ elim either_way [
    | inl past_opening ↦ clash (is_syn_sent v.state) (ap is_syn_sent by_syn.3.waits) past_opening
    | inr waits ↦ clash (is_syn_sent (after_event v e).state) waits (is_past (after_event v e) by_syn.4.opens)
  ]
]
  where
    is_past : (w : View) → Opens w → is_syn_sent w.state ≡ false
    is_past w opens = elim opens [ inl received ↦ ap is_syn_sent received | inr established ↦ ap is_syn_sent established ]

-- in any state all stays but where a SYN is taken in SYN-SENT
untaken : (v : View) (e : Event) → Same v (after_event v e) ⊎ HearsSyn v e
untaken v e = elim (settled_by v e) [
  | inl same ↦ inl same
  | inr by_syn ↦ inr (by_syn.0, by_syn.1, by_syn.2, by_syn.3, subst (λ x. Opens (after_event v x)) by_syn.2 by_syn.4.opens)
]

pub scale_waits : (v : View) (e : Event) → ((after_event v e).scales ≡ v.scales) ⊎ HearsSyn v e
scale_waits v e = elim (untaken v e) [ inl same ↦ inl (ap (λ (t : Terms). t.scales) same) | inr taken ↦ inr taken ]

pub report_waits : (v : View) (e : Event) → ((after_event v e).reporting.sacks ≡ v.reporting.sacks) ⊎ HearsSyn v e
report_waits v e = elim (untaken v e) [ inl same ↦ inl (ap (λ (t : Terms). t.sacks) same) | inr taken ↦ inr taken ]

pub sizes_wait : (v : View) (e : Event) → (((after_event v e).sending.size ≡ v.sending.size) × ((after_event v e).receiving.size ≡ v.receiving.size)) ⊎ HearsSyn v e
sizes_wait v e = elim (untaken v e) [ inl same ↦ inl (ap (λ (t : Terms). t.sending_size) same, ap (λ (t : Terms). t.receiving_size) same) | inr taken ↦ inr taken ]

pub units_wait : (v : View) (e : Event) → (((after_event v e).sending.unit ≡ v.sending.unit) × ((after_event v e).receiving.unit ≡ v.receiving.unit)) ⊎ HearsSyn v e
units_wait v e = elim (untaken v e) [ inl same ↦ inl (ap (λ (t : Terms). t.peer_unit) same, ap (λ (t : Terms). t.own_unit) same) | inr taken ↦ inr taken ]

pub scale_stays : (v : View) (e : Event) → (is_syn_sent v.state ≡ false) ⊎ (is_syn_sent (after_event v e).state ≡ true) → (after_event v e).scales ≡ v.scales
scale_stays v e either_way = ap (λ (t : Terms). t.scales) (stay v e either_way)

pub report_stays : (v : View) (e : Event) → (is_syn_sent v.state ≡ false) ⊎ (is_syn_sent (after_event v e).state ≡ true) → (after_event v e).reporting.sacks ≡ v.reporting.sacks
report_stays v e either_way = ap (λ (t : Terms). t.sacks) (stay v e either_way)

pub sizes_stay : (v : View) (e : Event) → is_syn_sent v.state ≡ false → ((after_event v e).sending.size ≡ v.sending.size) × ((after_event v e).receiving.size ≡ v.receiving.size)
sizes_stay v e past_opening = let same = stay v e (inl past_opening) in (ap (λ (t : Terms). t.sending_size) same, ap (λ (t : Terms). t.receiving_size) same)

pub units_stay : (v : View) (e : Event) → is_syn_sent v.state ≡ false → ((after_event v e).sending.unit ≡ v.sending.unit) × ((after_event v e).receiving.unit ≡ v.receiving.unit)
units_stay v e past_opening = let same = stay v e (inl past_opening) in (ap (λ (t : Terms). t.peer_unit) same, ap (λ (t : Terms). t.own_unit) same)

pub places_stay : (v : View) (e : Event) → (after_event v e).receiving.capacity ≡ v.receiving.capacity
places_stay v e = elim (settled_by v e) [ inl same ↦ ap (λ (t : Terms). t.places) same | inr by_syn ↦ ap (λ (t : Terms). t.places) by_syn.4.terms ]

-- What goes out keeps to it.

short : (v : View) (stretch : Stretch) (most : ℕ) → stretch.count ≤ most → length (octets_of_stretch v stretch) ≤ most
short v stretch most within = omega (arith, length-take stretch.count (drop stretch.offset v.sending.held), within)

probe_short : (v : View) → (probe_stretch v).count ≤ 1
probe_short v = either Stretch (λ t. t.count ≤ 1) (length v.sending.held == 0) (record { offset = 0; count = 0; fin = true }) (record { offset = 0; count = 1; fin = false }) (λ empty. omega arith) (λ some. omega arith)

pub keeps_to_size : (v : View) (due : Due) → IsSound v → first_due v ≡ Some due → length (octets_of v due) ≤ v.sending.smss
keeps_to_size v due sound first =
    let most = v.sending.smss in
    by_due (λ o. (d : Due) → o ≡ Some d → length (octets_of v d) ≤ most) v (record {
      nothing = λ quiet heard d e. cc;
      rst = λ owes d e. let same : Rst ≡ d = cc in subst (λ x. length (octets_of v x) ≤ most) same (omega arith);
      syn = λ opening goes d e. let same : Syn ≡ d = cc in subst (λ x. length (octets_of v x) ≤ most) same (omega arith);
      once_more = λ opened place is goes d e. let same : Text (again v place) ≡ d = cc in subst (λ x. length (octets_of v x) ≤ most) same (short v (again v place) most (let few = again_few v place in omega (arith, few)));
      octets = λ opened sends d e. let same : Text (new_octets v) ≡ d = cc in subst (λ x. length (octets_of v x) ≤ most) same (short v (new_octets v) most (omega arith));
      fin = λ opened sends d e. let same : Text (fin_alone v) ≡ d = cc in subst (λ x. length (octets_of v x) ≤ most) same (short v (fin_alone v) most (omega arith));
      probe = λ opened owes goes d e. let same : Probe ≡ d = cc in let one = probe_short v in subst (λ x. length (octets_of v x) ≤ most) same (short v (probe_stretch v) most (omega (arith, one, sound.segment_least)));
      ack = λ owes d e. let same : Ack ≡ d = cc in subst (λ x. length (octets_of v x) ≤ most) same (omega arith);
      asks = λ quiet owes d e. let same : KeepAlive ≡ d = cc in subst (λ x. length (octets_of v x) ≤ most) same (omega arith);
    }) due first

-- What a SYN says.

pub size_told : (s : Segment) (size : ℕ) → s.flags.syn ≡ true → last_mss None s.options ≡ Some size → smss_of s ≡ min (max size 64) 1460
size_told s size syn told = ap₂ (λ b o. min (max (unwrap_or (if b then o else None) 536) 64) 1460) syn told

pub size_untold : (s : Segment) → last_mss None s.options ≡ None → smss_of s ≡ 536
size_untold s none = ap (λ o. min (max (unwrap_or (if s.flags.syn then o else None) 536) 64) 1460) none ∙ neither_way s.flags.syn
  where
    neither_way : (b : Bool) → min (max (unwrap_or (if b then None else None) 536) 64) 1460 ≡ 536
    neither_way true = refl
    neither_way false = refl
