-- Both ends count each window in the same units: what the two SYNs say settles whether windows are scaled.
use Rattle.std.proofs.Common.{◌≡◌, ℕ, ◌&&◌, ◌⊎◌, inl, inr, min, Bool, true, false, if◌then◌else◌, Option, Some, None, is_some, refl, sym, ◌∙◌, ap, subst}
use Rattle.std.specs.Option.{unwrap_or}
use Rattle.tcp_segment.specs.Segment.{Segment, scale_option_of, shift_of}
use Rattle.tcp_halves.specs.Stream.{own_unit, peer_unit}
use Rattle.tcp_halves.proofs.Choices.{clash}
use Rattle.tcp_state.specs.declared.emission.Due.{Due}
use Rattle.tcp_state.specs.View.{View, is_syn_sent}
use Rattle.tcp_state.specs.Due.{flags_of}
use Rattle.tcp_state.specs.Said.{segment_of}
use Rattle.tcp_state.proofs.Scales.{told_in_syns}
use Rattle.stream_law.specs.Pairing.{Presence, Absent}

abbrev offer_of : Bool → Option ℕ
offer_of offer = if offer then Some 5 else None

-- an end that would scale its windows or not, and the other
pub record Scales (ours theirs : Bool) (v : View) : Type 0 where
  pub unit : v.receiving.unit ≡ own_unit v.scales
  pub waiting : is_syn_sent v.state ≡ true → v.scales ≡ ours
  pub settled : is_syn_sent v.state ≡ false → (v.scales ≡ (ours && theirs)) × (v.sending.unit ≡ own_unit v.scales)

-- a SYN of the own end offers it as its caller's host would, or as both do, once the other's came
pub record Offers (ours theirs : Bool) (peer : Presence) (s : Segment) : Type 0 where
  pub offer : Bool
  pub told : scale_option_of s ≡ offer_of offer
  pub how : (offer ≡ ours) ⊎ ((offer ≡ (ours && theirs)) × (peer ≡ Absent → ⊥))

pub both_commute : (a b : Bool) → (a && b) ≡ (b && a)
both_commute true true = refl
both_commute true false = refl
both_commute false true = refl
both_commute false false = refl

settles : (ours offer : Bool) → ((ours && is_some (offer_of offer)) ≡ (ours && offer)) × (peer_unit (ours && is_some (offer_of offer)) (min (unwrap_or (offer_of offer) 0) 14) ≡ own_unit (ours && is_some (offer_of offer)))
settles true true = (refl, refl)
settles true false = (refl, refl)
settles false true = (refl, refl)
settles false false = (refl, refl)

agree_on : (ours theirs offer : Bool) → (offer ≡ theirs) ⊎ (offer ≡ (theirs && ours)) → (ours && offer) ≡ (ours && theirs)
agree_on ours theirs offer (inl same) = ap (λ b. ours && b) same
agree_on ours theirs offer (inr both) = ap (λ b. ours && b) both ∙ twice ours theirs
  where
    twice : (a b : Bool) → (a && (b && a)) ≡ (a && b)
    twice true true = refl
    twice true false = refl
    twice false true = refl
    twice false false = refl

-- what a SYN of the other end settles for one that would scale its windows so
pub settled_by : (ours theirs scales : Bool) (peer : Presence) (s : Segment) → scales ≡ ours → Offers theirs ours peer s
    → ((scales && is_some (scale_option_of s)) ≡ (ours && theirs)) × (peer_unit (scales && is_some (scale_option_of s)) (shift_of s) ≡ own_unit (scales && is_some (scale_option_of s)))
settled_by ours theirs scales peer s is o =
    let k = settles scales o.offer in
    let how : (o.offer ≡ theirs) ⊎ (o.offer ≡ (theirs && ours)) = elim o.how [ inl plain ↦ inl plain | inr both ↦ inr both.0 ] in
    subst (λ t. ((scales && is_some t) ≡ (ours && theirs)) × (peer_unit (scales && is_some t) (min (unwrap_or t 0) 14) ≡ own_unit (scales && is_some t))) (sym o.told)
    (k.0 ∙ ap (λ b. b && o.offer) is ∙ agree_on ours theirs o.offer how, k.1)

-- our own
pub offers : (ours theirs : Bool) (peer : Presence) (v : View) (due : Due) → Scales ours theirs v → (is_syn_sent v.state ≡ false → peer ≡ Absent → ⊥) → (let f = flags_of v due in f.syn) ≡ true → Offers ours theirs peer (segment_of v due)
offers ours theirs peer v due k there syn = record {
  offer = v.scales;
  told = told_in_syns v due ∙ ap (λ b. offer_of (b && v.scales)) syn;
  how = by_state (is_syn_sent v.state) refl;
}
  where
    by_state : (b : Bool) → is_syn_sent v.state ≡ b → (v.scales ≡ ours) ⊎ ((v.scales ≡ (ours && theirs)) × (peer ≡ Absent → ⊥))
    by_state true waits = inl (k.waiting waits)
    by_state false on = inr ((k.settled on).0, there on)

-- where both have the other's SYN the units are the same
pub same_units : (ours theirs : Bool) (v w : View) → Scales ours theirs v → Scales theirs ours w → is_syn_sent v.state ≡ false → is_syn_sent w.state ≡ false → v.sending.unit ≡ w.receiving.unit
same_units ours theirs v w k there on there_on =
    let a = k.settled on in
    let b = there.settled there_on in
    a.1 ∙ ap own_unit (a.0 ∙ both_commute ours theirs ∙ sym b.0) ∙ sym there.unit

-- an end whose units and state are as they were
pub scales_stay : (ours theirs : Bool) (v x : View) → x.receiving.unit ≡ v.receiving.unit → x.sending.unit ≡ v.sending.unit → x.scales ≡ v.scales → is_syn_sent x.state ≡ is_syn_sent v.state → Scales ours theirs v → Scales ours theirs x
scales_stay ours theirs v x unit peer scales waits k = record {
  unit = unit ∙ k.unit ∙ ap own_unit (sym scales);
  waiting = λ still. scales ∙ k.waiting (sym waits ∙ still);
  settled = λ on. let s = k.settled (sym waits ∙ on) in (scales ∙ s.0, peer ∙ s.1 ∙ ap own_unit (sym scales));
}

-- one that took the SYN that it waited for
pub scales_settle : (ours theirs scales : Bool) (peer : Presence) (s : Segment) (x : View) → scales ≡ ours → Offers theirs ours peer s → x.scales ≡ (scales && is_some (scale_option_of s)) → x.receiving.unit ≡ own_unit x.scales → x.sending.unit ≡ peer_unit x.scales (shift_of s) → is_syn_sent x.state ≡ false
    → Scales ours theirs x
scales_settle ours theirs scales peer s x is o so unit peers on =
    let k = settled_by ours theirs scales peer s is o in
    record {
      unit = unit;
      waiting = λ waits. clash (is_syn_sent x.state) waits on;
      settled = λ still_on. (so ∙ k.0, peers ∙ ap (λ b. peer_unit b (shift_of s)) so ∙ k.1 ∙ ap own_unit (sym so));
    }
