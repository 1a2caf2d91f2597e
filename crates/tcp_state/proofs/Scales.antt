-- Why windows are scaled exactly where both sides' SYNs have the option, and what that makes of sizes and units.
use Rattle.std.proofs.Common.{◌≡◌, ℕ, ◌≤◌, ◌^◌, ◌==◌, ◌&&◌, ◌↔◌, not, min, take, if◌then◌else◌, Bool, true, false, ◌∷◌, Option, Some, None, is_some, inl, inr, arith, refl, sym, ◌∙◌, ap, subst}
use Rattle.std.proofs.lemmas.Bool.Decides.{eqb_tells}
use lib.Pow.{pow_mono, pow_pos}
use Rattle.ipv4.specs.declared.addr.Endpoint.{Endpoint}
use Rattle.clock.specs.declared.moment.Moment.{Moment}
use Rattle.tcp_segment.specs.Options.{HeaderOption, last_scale}
use Rattle.tcp_segment.specs.Segment.{Segment, scale_option_of, blocks_of as blocks_in}
use Rattle.tcp_segment.specs.Sent.{permission, report}
use Rattle.tcp_state.specs.declared.emission.Due.{Due}
use Rattle.tcp_state.specs.declared.state.State.TheVariants.{SynSent}
use Rattle.tcp_halves.specs.Stream.{size_in, own_unit, peer_unit}
use Rattle.tcp_halves.specs.Halves.{Room}
use Rattle.tcp_state.specs.View.{View, AreTerms, IsSound, is_syn_sent}
use Rattle.tcp_state.specs.Arrival.{opened_passively}
use Rattle.tcp_state.specs.Due.{flags_of}
use Rattle.tcp_state.specs.Said.{segment_of}
use Rattle.tcp_state.specs.Edges.{Hears, after_event}
use Rattle.tcp_state.specs.Opening.{TellsShift, TakesSyn}
use Rattle.tcp_halves.proofs.Choices.{and_false}
use Rattle.tcp_state.specs.Reporting.{blocks_of}
use Rattle.tcp_state.proofs.BlocksTold.{reported_in}
use Rattle.tcp_state.proofs.PeerSizes.{scale_of_syn}

-- our offer, and the peer's shift
pub where_both : (offers : Bool) (told : Option ℕ) → ((offers && is_some told) ≡ true) ↔ ((offers ≡ true) × ((shift : ℕ) × (told ≡ Some shift)))
where_both true (Some shift) = (λ both. (refl, (shift, refl)), λ both. refl)
where_both true None = (λ both. cc, λ both. let bad : None ≡ Some both.1.0 = both.1.1 in cc)
where_both false told = (λ both. cc, λ both. let bad : false ≡ true = both.0 in cc)

pub heard_by_both : (v : View) (s : Segment) (now : Moment) → v.state ≡ SynSent → TakesSyn v s now
    → ((after_event v (Hears s now)).scales ≡ true) ↔ ((v.scales ≡ true) × TellsShift s)
heard_by_both v s now waits takes =
    subst (λ b. (b ≡ true) ↔ ((v.scales ≡ true) × TellsShift s)) (sym (scale_of_syn v s now waits takes)) (where_both v.scales (scale_option_of s))

-- what stands in our segments
pub told_in_syns : (v : View) (due : Due) → scale_option_of (segment_of v due) ≡ (let f = flags_of v due in if f.syn && v.scales then Some 5 else None)
told_in_syns v due = let f = flags_of v due in told f.syn v.scales v.reporting.sacks
  where
    told : (syn scales sacks : Bool) → (if syn then last_scale None (if syn then HeaderOption.MaximumSegmentSize 1460 ∷ (if scales then HeaderOption.NoOperation ∷ HeaderOption.WindowScale 5 ∷ permission sacks else permission sacks)
        else report (take 4 (blocks_of v due))) else None) ≡ (if syn && scales then Some 5 else None)
    told true true true = refl
    told true true false = refl
    told true false true = refl
    told true false false = refl
    told false scales sacks = refl

-- .. and none in a SYN-ACK to who told none

untold : (v : View) (due : Due) → v.scales ≡ false → scale_option_of (segment_of v due) ≡ None
untold v due unscaled =
    let f = flags_of v due in
    told_in_syns v due ∙ (ap (λ b. if f.syn && b then Some 5 else None) unscaled ∙ ap (λ b. if b then Some 5 else None) (and_false f.syn))

offered_to_none : (offers : Bool) (told : Option ℕ) → told ≡ None → (offers && is_some told) ≡ false
offered_to_none offers told none = ap (λ o. offers && is_some o) none ∙ and_false offers

pub told_to_none : (room : Room) (local peer : Endpoint) (isn : ℕ) (syn : Segment) (now : Moment) (due : Due) → scale_option_of syn ≡ None
    → scale_option_of (segment_of (opened_passively room local peer isn syn now) due) ≡ None
told_to_none room local peer isn syn now due none = untold (opened_passively room local peer isn syn now) due (offered_to_none room.manner.scales (scale_option_of syn) none)

pub told_unasked : (v : View) (s : Segment) (now : Moment) (due : Due) → v.state ≡ SynSent → TakesSyn v s now → scale_option_of s ≡ None
    → scale_option_of (segment_of (after_event v (Hears s now)) due) ≡ None
told_unasked v s now due waits takes none = untold (after_event v (Hears s now)) due (scale_of_syn v s now waits takes ∙ offered_to_none v.scales (scale_option_of s) none)

pub plain : (v : View) (due : Due) → (let f = flags_of v due in f.syn) ≡ false → (segment_of v due).options ≡ report (blocks_in (segment_of v due))
plain v due no_syn =
    let sacks = v.reporting.sacks in
    ap (λ b. if b then HeaderOption.MaximumSegmentSize 1460 ∷ (if v.scales then HeaderOption.NoOperation ∷ HeaderOption.WindowScale 5 ∷ permission sacks else permission sacks) else report (take 4 (blocks_of v due))) no_syn
    ∙ ap report (sym (reported_in v due no_syn))

-- settled twice, sizes are as if settled once
pub settled_once : (offers told : Bool) (capacity : ℕ) → size_in (offers && told) (size_in offers capacity) ≡ size_in (offers && told) capacity
settled_once true true capacity = refl
settled_once true false capacity = refl
settled_once false told capacity = omega arith

pub sizes_are : (v : View) → IsSound v → (v.sending.size ≡ size_in v.scales v.receiving.capacity) × (v.receiving.size ≡ size_in v.scales v.receiving.capacity)
sizes_are v sound = (sound.terms.same_size ∙ sound.terms.settled_size, sound.terms.settled_size)

all_or_few : (scales : Bool) (size capacity : ℕ) → size ≡ size_in scales capacity → capacity ≡ 1048576 → (size ≡ 1048576) ↔ (scales ≡ true)
all_or_few true size capacity is made = (λ all. refl, λ scales. is ∙ made)
all_or_few false size capacity is made = (λ all. absurd (omega (arith, is, all)), λ scales. cc)

pub largest_where_scaled : (v : View) → IsSound v → v.receiving.capacity ≡ 1048576 → ((v.sending.size ≡ 1048576) ↔ (v.scales ≡ true)) × ((v.receiving.size ≡ 1048576) ↔ (v.scales ≡ true))
largest_where_scaled v sound made = let are = sizes_are v sound in (all_or_few v.scales v.sending.size v.receiving.capacity are.0 made, all_or_few v.scales v.receiving.size v.receiving.capacity are.1 made)

pub own_units : (v : View) → IsSound v → v.receiving.unit ≡ (if v.scales then 32 else 1)
own_units v sound = sound.terms.settled_unit

pub peer_units : (v : View) → IsSound v → v.scales ≡ false → v.sending.unit ≡ 1
peer_units v sound unscaled = sound.terms.settled_peer_unit unscaled

pub unsettled_units : (v : View) → IsSound v → is_syn_sent v.state ≡ true → v.sending.unit ≡ 1
unsettled_units v sound waits = one v.sending.unit (subst (λ b. (b && not (v.sending.unit == 1)) ≡ false) waits sound.unsettled)
  where
    one : (n : ℕ) → not (n == 1) ≡ false → n ≡ 1
    one n e = elim (eqb_tells n 1) [ inl same ↦ same.1 | inr other ↦ let bad : true ≡ false = sym (ap not other.0) ∙ e in cc ]

-- The terms of a connection that opens ..

pub first_terms : (scales : Bool) (capacity : ℕ) → 1460 ≤ capacity → capacity ≤ 1048576 → AreTerms scales (size_in scales capacity) 1 (size_in scales capacity) capacity (own_unit scales)
first_terms true capacity least most = record {
  send_size = most;
  receive_least = least;
  receive_size = omega (arith, most);
  places = omega arith;
  capacity = most;
  unit_some = omega arith;
  unit_few = omega arith;
  peer_unit_some = omega arith;
  peer_unit_few = omega arith;
  settled_size = refl;
  same_size = refl;
  settled_unit = refl;
  settled_peer_unit = λ unscaled. refl;
}
first_terms false capacity least most = record {
  send_size = omega arith;
  receive_least = omega (arith, least);
  receive_size = omega arith;
  places = omega arith;
  capacity = most;
  unit_some = omega arith;
  unit_few = omega arith;
  peer_unit_some = omega arith;
  peer_unit_few = omega arith;
  settled_size = refl;
  same_size = refl;
  settled_unit = refl;
  settled_peer_unit = λ unscaled. refl;
}

-- .. and once the peer's SYN settled them

scaled_terms : (sent peer size made unit shift : ℕ) → shift ≤ 14 → AreTerms true sent peer size made unit → AreTerms true sent (2 ^ shift) size made 32
scaled_terms sent peer size made unit shift few is = record {
  send_size = is.send_size;
  receive_least = is.receive_least;
  receive_size = omega (arith, is.places, is.capacity);
  places = is.places;
  capacity = is.capacity;
  unit_some = omega arith;
  unit_few = omega arith;
  peer_unit_some = pow_pos shift;
  peer_unit_few = pow_mono few;
  settled_size = is.settled_size;
  same_size = is.same_size;
  settled_unit = refl;
  settled_peer_unit = λ unscaled. cc;
}

unscaled_terms : (scales : Bool) (sent peer size made unit : ℕ) → AreTerms scales sent peer size made unit → AreTerms false (min sent 65535) 1 (min size 65535) made 1
unscaled_terms scales sent peer size made unit is = record {
  send_size = omega arith;
  receive_least = omega (arith, is.receive_least);
  receive_size = omega arith;
  places = omega (arith, is.places);
  capacity = is.capacity;
  unit_some = omega arith;
  unit_few = omega arith;
  peer_unit_some = omega arith;
  peer_unit_few = omega arith;
  settled_size = fewest scales is.settled_size;
  same_size = omega (arith, is.same_size);
  settled_unit = refl;
  settled_peer_unit = λ unscaled. refl;
}
  where
    fewest : (scales : Bool) → size ≡ size_in scales made → min size 65535 ≡ min made 65535
    fewest true e = omega (arith, e)
    fewest false e = omega (arith, e)

pub settled_terms : (scales told : Bool) (sent peer size made unit shift : ℕ) → shift ≤ 14 → AreTerms scales sent peer size made unit
    → (let both = scales && told in AreTerms both (size_in both sent) (peer_unit both shift) (size_in both size) made (own_unit both))
settled_terms true true sent peer size made unit shift few is = scaled_terms sent peer size made unit shift few is
settled_terms true false sent peer size made unit shift few is = unscaled_terms true sent peer size made unit is
settled_terms false told sent peer size made unit shift few is = unscaled_terms false sent peer size made unit is
