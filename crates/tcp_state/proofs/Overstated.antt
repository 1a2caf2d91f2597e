-- Why no window is overstated, and what a peer sends within any that it was told is acceptable.
use Rattle.std.proofs.Common.{◌≡◌, ℕ, ◌+◌, ◌*◌, ◌/◌, ◌^◌, ◌<◌, ◌≤◌, max, if◌then◌else◌, true, false, inr, arith, refl, sym, ◌∙◌, ap, subst}
use Rattle.clock.specs.declared.moment.Moment.{Moment}
use Rattle.tcp_segment.specs.Segment.{Segment, span_of}
use Rattle.tcp_segment.specs.Wire.{wire}
use Rattle.tcp_halves.specs.Halves.{Sending, Receiving}
use Rattle.tcp_halves.specs.Stream.{receive_window}
use Rattle.tcp_halves.specs.Windows.{window_in, has_grown, after_advertisement, window_field, after_syn_advertisement}
use Rattle.tcp_halves.proofs.Choices.{either}
use Rattle.tcp_halves.proofs.Keeping.{in_units}
use Rattle.tcp_state.specs.declared.emission.Due.{Due}
use Rattle.tcp_state.specs.declared.emission.Due.TheVariants.{Rst, Syn, Text, Probe, Ack, KeepAlive}
use Rattle.tcp_state.specs.Arrival.{is_acceptable_to}
use Rattle.tcp_state.specs.View.{View, IsSound, is_syn_sent}
use Rattle.tcp_state.specs.Due.{flags_of, window_of, after_ack_paid, after_syn_ack_paid, after_syn_out, after_stretch, after_probe, after_emitted}
use Rattle.tcp_state.specs.Positions.{ReceivesAt, IsNear, AreNear, HasNumber}
use Rattle.tcp_state.specs.Edges.{Event, after_event}
use Rattle.tcp_state.proofs.Onward.{never_back}
use Rattle.tcp_state.proofs.Clocked.{syn_out}
use Rattle.tcp_state.proofs.Emissions.{numbers_receive, stretch_receives, probe_receives}
use Rattle.tcp_state.proofs.Positions.{accepted_filled}

-- what a peer of our unit makes of a field is the window, less than a unit short of it
abbrev IsTold : Sending → Receiving → ℕ → Type 0
IsTold peer r field = (window_in peer field ≤ receive_window r) × (receive_window r < window_in peer field + peer.unit)

told_by : (peer : Sending) (r : Receiving) → 0 < r.unit → peer.unit ≡ r.unit → IsTold peer r (window_field r)
told_by peer r some same = subst (λ u. (receive_window r / r.unit * u ≤ receive_window r) × (receive_window r < receive_window r / r.unit * u + u)) (sym same) (in_units r.unit (receive_window r) some)

unit_kept : (r : Receiving) → (after_advertisement r).unit ≡ r.unit
unit_kept r = either Receiving (λ t. t.unit ≡ r.unit) (has_grown r) _ r (λ grown. refl) (λ small. refl)

told_after : (v w : View) (peer : Sending) → IsSound v → peer.unit ≡ v.receiving.unit → w.receiving ≡ v.receiving → IsTold peer (after_ack_paid w).receiving (window_field (after_advertisement v.receiving))
told_after v w peer sound same is =
    let r = after_advertisement v.receiving in
    let unit = unit_kept v.receiving in
    subst (λ t. IsTold peer (after_advertisement t) (window_field r)) (sym is) (told_by peer r (subst (λ n. 0 < n) (sym unit) sound.terms.unit_some) (same ∙ sym unit))

pub units_told : (v : View) (due : Due) (now : Moment) (peer : Sending) → IsSound v → (let f = flags_of v due in f.ack) ≡ true → (let f = flags_of v due in f.syn) ≡ false → peer.unit ≡ v.receiving.unit
    → (window_in peer (window_of v due) ≤ receive_window (after_emitted v due now).receiving) × (receive_window (after_emitted v due now).receiving < window_in peer (window_of v due) + peer.unit)
units_told v Rst now peer sound acks plain same = cc
units_told v Syn now peer sound acks plain same = cc
units_told v (Text stretch) now peer sound acks plain same = told_after v (after_stretch v stretch now) peer sound same (stretch_receives v stretch now)
units_told v Probe now peer sound acks plain same = told_after v (after_probe v) peer sound same (probe_receives v)
units_told v Ack now peer sound acks plain same = told_after v v peer sound same refl
units_told v KeepAlive now peer sound acks plain same = told_after v v peer sound same refl

pub octets_told : (v : View) (due : Due) (now : Moment) → (let f = flags_of v due in f.ack) ≡ true → (let f = flags_of v due in f.syn) ≡ true
    → window_of v due ≤ receive_window (after_emitted v due now).receiving
octets_told v Syn now acks syn =
    let sent = after_syn_out v now in
    let same : sent.receiving ≡ v.receiving = syn_out v now (λ w. w.receiving ≡ v.receiving) (numbers_receive v 0 1 now) (numbers_receive v 0 1 now) in
    let paid : (after_emitted v Syn now).receiving ≡ (after_syn_ack_paid sent).receiving = ap (λ b. let w = if b then after_syn_ack_paid sent else sent in w.receiving) acks in
    let is : receive_window (after_emitted v Syn now).receiving ≡ receive_window (after_syn_advertisement v.receiving) = ap (λ (r : Receiving). receive_window r) (paid ∙ ap after_syn_advertisement same) in
    omega (arith, is)
octets_told v Rst now acks syn = cc
octets_told v (Text stretch) now acks syn = cc
octets_told v Probe now acks syn = cc
octets_told v Ack now acks syn = cc
octets_told v KeepAlive now acks syn = cc

-- the right edge is at no earlier position after any event
pub edge_stays : (initial next edge later_next later_edge : ℕ) (v : View) (e : Event) → IsSound v → HasNumber e → is_syn_sent v.state ≡ false → ReceivesAt initial next edge v.receiving
    → ReceivesAt initial later_next later_edge (after_event v e).receiving → AreNear edge later_edge → edge ≤ later_edge
edge_stays initial next edge later_next later_edge v e sound fits opened at later near =
    let on = (never_back v e sound fits).edge opened initial edge at.edge_number in
    further_on initial edge on.0 later_edge (after_event v e).receiving.edge on.1 on.2 later.edge_number near
  where
    further_on : (initial edge further later_edge number : ℕ) → further < 2 ^ 31 → number ≡ wire initial (edge + further) → number ≡ wire initial later_edge → AreNear edge later_edge → edge ≤ later_edge
    further_on initial edge further later_edge number few on at near = omega (arith, few, on, at, near.one, near.other)

-- what lies before it is acceptable
pub stays_open : (initial next edge told first : ℕ) (v : View) (s : Segment) → ReceivesAt initial next edge v.receiving → told ≤ edge → s.number ≡ wire initial first → IsNear next first (span_of s)
    → 0 < span_of s → first + span_of s ≤ told → next < first + span_of s → is_acceptable_to v s ≡ true
stays_open initial next edge told first v s at kept number near some within new =
    (accepted_filled initial next edge first v s at number near some).1 (record {
      common = (max first next, omega arith, omega (arith, some, new), omega arith, omega (arith, kept, some, within, new));
      within = inr (omega (arith, kept, within));
    })
