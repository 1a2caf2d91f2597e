-- What becomes of a reassembly with one fragment more.
use Rattle.std.proofs.Common.{◌≡◌, ℕ, ◌+◌, ◌-◌, ◌≤◌, ◌<◌, ◌&&◌, ◌||◌, Bool, true, false, not, nat_eq, nat_lt, nat_le, cond, List, ◌++◌, length, take, drop, map, replicate, Option, Some, None, IfSome, refl, ◌∙◌, ap, length-append, arith}
use Rattle.std.proofs.lemmas.Bool.Decides.{nat_tests}
use Rattle.std.proofs.lemmas.List.{length-take-le, length-drop, length-replicate, length-map, take_all}
use Rattle.ipv4.specs.Datagram.{Datagram}
use Rattle.clock.specs.declared.moment.Moment.{Moment}
use Rattle.reassembly.specs.Fragments.{begin_of, end_of, ends_within, is_last}
use Rattle.reassembly.specs.Octets.{reaching, put, laid, is_covered, filled, whole_of}
use Rattle.reassembly.specs.Inside.{EndsWithin}
use Rattle.reassembly.specs.Reassembly.{Reassembly, conflicts, end_after, with_fragment, outcome, outcome_within, continued, quoted}
use Rattle.reassembly.specs.Reassembly.Outcome.{Waits, Completes, GivesUp}

pub outcome_given_up : (d : Datagram) (r : Reassembly) → conflicts d r.end (length r.octets) ≡ true → outcome d r ≡ GivesUp
unfolding outcome
outcome_given_up d r h = rw h refl

pub outcome_completes : (d : Datagram) (r : Reassembly) (payload : List ℕ) → conflicts d r.end (length r.octets) ≡ false
    → whole_of (with_fragment r d).end (with_fragment r d).octets ≡ Some payload → outcome d r ≡ Completes payload (quoted (with_fragment r d).quote)
unfolding outcome
outcome_completes d r payload h w = rw (h, w) refl

pub outcome_waits : (d : Datagram) (r : Reassembly) → conflicts d r.end (length r.octets) ≡ false
    → whole_of (with_fragment r d).end (with_fragment r d).octets ≡ None → outcome d r ≡ Waits (with_fragment r d)
unfolding outcome
outcome_waits d r h w = rw (h, w) refl

-- in a place with room for so many octets
abbrev pub gives_up : ℕ → Datagram → Reassembly → Bool
gives_up room d r = not (ends_within room d) || conflicts d r.end (length r.octets)

both_false : (a b : Bool) → (not a || b) ≡ false → (a ≡ true) × (b ≡ false)
both_false true false h = (refl, refl)
both_false true true h = cc
both_false false b h = cc

pub agrees : (room : ℕ) (d : Datagram) (r : Reassembly) → gives_up room d r ≡ false → (ends_within room d ≡ true) × (conflicts d r.end (length r.octets) ≡ false)
agrees room d r h = both_false (ends_within room d) (conflicts d r.end (length r.octets)) h

pub fits_in : (room : ℕ) (d : Datagram) (r : Reassembly) → ends_within room d ≡ true → outcome_within room d r ≡ outcome d r
fits_in room d r h = rw h refl

pub too_long : (room : ℕ) (d : Datagram) (r : Reassembly) → ends_within room d ≡ false → outcome_within room d r ≡ GivesUp
too_long room d r h = rw h refl

pub within_given_up : (room : ℕ) (d : Datagram) (r : Reassembly) → gives_up room d r ≡ true → outcome_within room d r ≡ GivesUp
within_given_up room d r = by_room (ends_within room d)
  where
    by_room : (fits : Bool) → (not fits || conflicts d r.end (length r.octets)) ≡ true → cond fits (outcome d r) GivesUp ≡ GivesUp
    by_room true h = outcome_given_up d r h
    by_room false h = refl

pub within_completes : (room : ℕ) (d : Datagram) (r : Reassembly) (payload : List ℕ) → gives_up room d r ≡ false
    → whole_of (with_fragment r d).end (with_fragment r d).octets ≡ Some payload → outcome_within room d r ≡ Completes payload (quoted (with_fragment r d).quote)
within_completes room d r payload h w =
    let both = agrees room d r h in
    fits_in room d r both.0 ∙ outcome_completes d r payload both.1 w

pub within_waits : (room : ℕ) (d : Datagram) (r : Reassembly) → gives_up room d r ≡ false
    → whole_of (with_fragment r d).end (with_fragment r d).octets ≡ None → outcome_within room d r ≡ Waits (with_fragment r d)
within_waits room d r h w =
    let both = agrees room d r h in
    fits_in room d r both.0 ∙ outcome_waits d r both.1 w

pub end_is_within : (room : ℕ) (d : Datagram) → ends_within room d ≡ true → end_of d ≤ room
end_is_within room d h = grind (arith, nat_tests, h)

pub within_from : (room : ℕ) (d : Datagram) → end_of d ≤ room → ends_within room d ≡ true
within_from room d h = grind (arith, nat_tests, h)

pub past_from : (room : ℕ) (d : Datagram) → room < end_of d → ends_within room d ≡ false
past_from room d h = grind (arith, nat_tests, h)

-- how far the octets reach after a fragment
pub length-laid : (at : ℕ) (new : List ℕ) (octets : List (Option ℕ)) (end : ℕ) → at + length new ≤ end → length octets ≤ end → length (laid at new octets) ≤ end
unfolding laid put reaching
length-laid at new octets end h k =
    let wide = octets ++ replicate (at + length new - length octets) None in
    let wide_length : length wide ≡ length octets + (at + length new - length octets) =
    length-append octets (replicate (at + length new - length octets) None) ∙ ap (λ n. length octets + n) (length-replicate (at + length new - length octets) None) in
    omega (
      arith,
      wide_length,
      length-append (take at wide ++ map Some new) (drop (at + length new) wide),
      length-append (take at wide) (map Some new),
      length-take-le at wide (omega arith),
      length-map {B = Option ℕ} new Some,
      length-drop (at + length new) wide,
    )

-- no octet stands past the end
pub within_continued : (now : Moment) (d : Datagram) (place : Option Reassembly) → EndsWithin place → EndsWithin (Some (continued now d place))
within_continued now d None h = h
within_continued now d (Some r) h = h

or_left : (a b : Bool) → (a || b) ≡ false → a ≡ false
or_left true b h = h
or_left false b h = refl

le_from_lt : (a b : ℕ) → nat_lt a b ≡ false → b ≤ a
le_from_lt a b h = grind (arith, nat_tests)

told_within : (more : Bool) (own reach : ℕ) (P : ℕ → Type 0) → (not more && nat_lt own reach) ≡ false → (reach ≤ own → P own)
    → IfSome (cond (not more) (Some own) None) P
told_within true own reach P h p = tt
told_within false own reach P h p = p (le_from_lt own reach h)

known_within : (d : Datagram) (octets next : List (Option ℕ)) (end : Option ℕ) → IfSome end (λ e. length octets ≤ e)
    → conflicts d end (length octets) ≡ false → ((e : ℕ) → end_of d ≤ e → length octets ≤ e → length next ≤ e)
    → IfSome (end_after d end) (λ e. length next ≤ e)
known_within d octets next None h agree p =
    told_within d.more_fragments (end_of d) (length octets) (λ e. length next ≤ e) agree (λ k. p (end_of d) (omega arith) k)
known_within d octets next (Some end) h agree p =
    p end (le_from_lt end (end_of d) (or_left (nat_lt end (end_of d)) (is_last d && not (nat_eq (end_of d) end)) agree)) h

pub stays_within : (d : Datagram) (r : Reassembly) → EndsWithin (Some r) → conflicts d r.end (length r.octets) ≡ false → EndsWithin (Some (with_fragment r d))
stays_within d r h agree = known_within d r.octets (laid (begin_of d) d.payload r.octets) r.end h agree (λ e. length-laid (begin_of d) d.payload r.octets e)

-- whether the octets below the end are there
pub whole_none : (octets : List (Option ℕ)) → whole_of None octets ≡ None
unfolding whole_of
whole_none octets = refl

pub whole_covered : (end : ℕ) (octets : List (Option ℕ)) → length octets ≡ end → is_covered octets ≡ true → whole_of (Some end) octets ≡ Some (filled octets)
unfolding whole_of
whole_covered end octets e covered =
    let there : nat_le end (length octets) ≡ true = grind (arith, nat_tests) in
    rw (there, take_all end octets (omega arith), covered) refl

pub whole_short : (end : ℕ) (octets : List (Option ℕ)) → length octets < end → whole_of (Some end) octets ≡ None
unfolding whole_of
whole_short end octets h =
    let short : nat_le end (length octets) ≡ false = grind (arith, nat_tests) in
    rw short refl

pub whole_holed : (end : ℕ) (octets : List (Option ℕ)) → length octets ≡ end → is_covered octets ≡ false → whole_of (Some end) octets ≡ None
unfolding whole_of
whole_holed end octets e holed =
    let there : nat_le end (length octets) ≡ true = grind (arith, nat_tests) in
    rw (there, take_all end octets (omega arith), holed) refl
