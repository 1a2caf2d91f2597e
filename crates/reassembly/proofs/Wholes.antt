-- A payload is whole exactly where each of its octets is known.
use Rattle.std.proofs.Common.{◌≡◌, ℕ, suc, ◌≤◌, ◌<◌, ◌&&◌, Bool, true, false, nat_le, cond, List, [], ◌∷◌, length, take, map, get_or, slice_index, Option, Some, None, refl, sym, ◌∙◌, ap, arith}
use Rattle.std.proofs.lemmas.Bool.Decides.{nat_tests}
use Rattle.std.proofs.lemmas.List.{length-take, length-take-le, length-map, get_or-map, get_or-take}
use Rattle.reassembly.specs.Octets.{whole_of, is_covered, filled}

all_some : (payload : List ℕ) → is_covered (map Some payload) ≡ true
all_some [] = refl
all_some (x ∷ xs) = all_some xs

filled_some : (payload : List ℕ) → filled (map Some payload) ≡ payload
filled_some [] = refl
filled_some (x ∷ xs) = ap (λ l. x ∷ l) (filled_some xs)

covered_are : (octets : List (Option ℕ)) → is_covered octets ≡ true → octets ≡ map Some (filled octets)
covered_are [] h = refl
covered_are (Some x ∷ octets) h = ap (λ l. Some x ∷ l) (covered_are octets h)
covered_are (None ∷ octets) h = cc

-- the octets that are known at each place
start_known : (octets : List (Option ℕ)) (payload : List ℕ) → ((i : ℕ) → i < length payload → get_or octets i None ≡ Some (slice_index payload i))
    → take (length payload) octets ≡ map Some payload
start_known octets [] h = refl
start_known [] (x ∷ payload) h = let e : None ≡ Some x = h 0 (omega arith) in cc
start_known (o ∷ octets) (x ∷ payload) h =
    let e : o ≡ Some x = h 0 (omega arith) in
    let rest : take (length payload) octets ≡ map Some payload = start_known octets payload (λ i k. h (suc i) (omega arith)) in
    cc

pub whole_where : (octets : List (Option ℕ)) (payload : List ℕ) → ((i : ℕ) → i < length payload → get_or octets i None ≡ Some (slice_index payload i))
    → whole_of (Some (length payload)) octets ≡ Some payload
unfolding whole_of
whole_where octets payload h =
    let start = start_known octets payload h in
    let so_long : length (take (length payload) octets) ≡ length payload = ap (λ l. length l) start ∙ length-map {B = Option ℕ} payload Some in
    let room : nat_le (length payload) (length octets) ≡ true =
    let k : length payload ≤ length octets = omega (arith, so_long, length-take (length payload) octets) in grind (arith, nat_tests) in
    rw (room, start, all_some payload, filled_some payload) refl

-- what is known where it is whole
pub record AreKnown (end : ℕ) (octets : List (Option ℕ)) (payload : List ℕ) : Type 0 where
  pub so_long : end ≡ length payload
  pub each : (i : ℕ) → i < length payload → get_or octets i None ≡ Some (slice_index payload i)

tested : (b c : Bool) (x y : List ℕ) → cond (b && c) (Some x) None ≡ Some y → (b ≡ true) × (c ≡ true) × (x ≡ y)
tested true true x y e = (refl, refl, cc)
tested true false x y e = cc
tested false c x y e = cc

pub known_where : (end : ℕ) (octets : List (Option ℕ)) (payload : List ℕ) → whole_of (Some end) octets ≡ Some payload → AreKnown end octets payload
unfolding whole_of
known_where end octets payload h =
    let t = tested (nat_le end (length octets)) (is_covered (take end octets)) (filled (take end octets)) payload h in
    let there : nat_le end (length octets) ≡ true = t.0 in
    let room : end ≤ length octets = grind (arith, nat_tests) in
    let starts : take end octets ≡ map Some payload = covered_are (take end octets) t.1 ∙ ap (λ l. map Some l) t.2 in
    let so_long : end ≡ length payload = sym (length-take-le end octets room) ∙ ap (λ l. length l) starts ∙ length-map {B = Option ℕ} payload Some in
    record {
      so_long = so_long;
      each = λ i k. sym (get_or-take end octets i None (omega arith)) ∙ ap (λ l. get_or l i None) starts ∙ get_or-map Some payload i 0 None k;
    }
