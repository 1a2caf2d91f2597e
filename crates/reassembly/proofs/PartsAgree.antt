-- Parts of one payload agree, and make that payload alone.
use Rattle.std.proofs.Common.{◌≡◌, ◌≢◌, ℕ, ◌+◌, ◌-◌, ◌≤◌, ◌<◌, ◌&&◌, ◌||◌, Bool, true, false, not, nat_eq, nat_lt, nat_le, cond, List, [], ◌∷◌, ◌++◌, length, drop, reverse, find, slice_index, Option, Some, None, is_some, option_map, refl, sym, ◌∙◌, ap, subst, arith}
use Rattle.std.specs.List.{list_any, AllByRecursion}
use Rattle.std.specs.Option.{option_or}
use Rattle.std.proofs.lemmas.Bool.Decides.{nat_tests}
use Rattle.std.proofs.lemmas.List.{ext_get_or, get_or-drop, get_or-take, reverse-append}
use Rattle.std.proofs.lemmas.List.Elements.{recursion_from_All}
use Rattle.std.proofs.lemmas.List.Folds.{find-append}
use Rattle.ipv4.specs.Datagram.{Datagram}
use Rattle.clock.specs.declared.moment.Moment.{Moment}
use Rattle.reassembly.specs.Fragments.{begin_of, end_of, is_last, covers, octet_for, latest, latest_quote, end_shown_by, contradicts, is_contradictory, IsPayload}
use Rattle.reassembly.specs.Octets.{whole_of}
use Rattle.reassembly.specs.Parts.{IsPartOf, ArePartsOf, CoverAll}
use Rattle.reassembly.specs.Reassembly.{Reassembly, begun, after_fragments, with_fragment, conflicts, outcome, quoted}
use Rattle.reassembly.specs.Reassembly.Outcome.{Waits, Completes, GivesUp}
use Rattle.reassembly.proofs.Contradictions.{given_up}
use Rattle.reassembly.proofs.Found.{covered_place}
use Rattle.reassembly.proofs.OneMore.{after_one_more, completes}
use Rattle.reassembly.proofs.Outcomes.{outcome_completes, outcome_waits}
use Rattle.reassembly.proofs.Together.{whole_is_payload}

-- lists of which each has something
none_passes : {X : Type 0} (P : X → Type 0) (p : X → Bool) → ((x : X) → P x → p x ≡ false) → (xs : List X) → AllByRecursion P xs → list_any p xs ≡ false
none_passes P p fails [] h = refl
none_passes P p fails (x ∷ xs) h = rw (fails x h.0, none_passes P p fails xs h.1) refl

found_has : {X : Type 0} (P : X → Type 0) (p : X → Bool) (xs : List X) → AllByRecursion P xs → (x : X) → find p xs ≡ Some x → (p x ≡ true) × P x
found_has P p [] h x e = cc
found_has P p (y ∷ ys) h x e = step (found_has P p ys h.1 x) (p y) refl h.0 e
  where
    step : (find p ys ≡ Some x → (p x ≡ true) × P x) → (b : Bool) → p y ≡ b → P y → cond b (Some y) (find p ys) ≡ Some x → (p x ≡ true) × P x
    step rest true passes has f = let same : y ≡ x = cc in (subst (λ z. p z ≡ true) same passes, subst P same has)
    step rest false passes has f = rest f

last_has : {X : Type 0} (P : X → Type 0) (p : X → Bool) (xs : List X) → AllByRecursion P xs → (x : X) → find p (reverse xs) ≡ Some x → (p x ≡ true) × P x
last_has P p [] h x e = cc
last_has {X = X} P p (y ∷ ys) h x e =
    step (last_has P p ys h.1 x) (find p (reverse ys)) refl
    (sym (ap (find p) (reverse-append (y ∷ []) ys) ∙ find-append p (reverse ys) (y ∷ [])) ∙ e)
  where
    alone : (b : Bool) → p y ≡ b → P y → cond b (Some y) None ≡ Some x → (p x ≡ true) × P x
    alone true passes has f = let same : y ≡ x = cc in (subst (λ z. p z ≡ true) same passes, subst P same has)
    alone false passes has f = cc

    step : (find p (reverse ys) ≡ Some x → (p x ≡ true) × P x) → (found : Option X) → find p (reverse ys) ≡ found
        → option_or found (cond (p y) (Some y) None) ≡ Some x → (p x ≡ true) × P x
    step rest (Some z) f k = rest (f ∙ k)
    step rest None f k = alone (p y) refl h.0 k

found_where : {X : Type 0} (p : X → Bool) (xs : List X) → find p xs ≡ None → list_any p xs ≡ true → ⊥
found_where p [] e h = cc
found_where p (x ∷ xs) e h = step (found_where p xs) (p x) e h
  where
    step : (find p xs ≡ None → list_any p xs ≡ true → ⊥) → (b : Bool) → cond b (Some x) (find p xs) ≡ None → (b || list_any p xs) ≡ true → ⊥
    step rest true f k = cc
    step rest false f k = rest f k

pub all_before : {X : Type 0} (P : X → Type 0) (xs ys : List X) → AllByRecursion P (xs ++ ys) → AllByRecursion P xs
all_before P [] ys h = tt
all_before P (x ∷ xs) ys h = (h.0, all_before P xs ys h.1)

-- two parts do not contradict each other
no_quarrel : (payload : List ℕ) (last d : Datagram) → IsPartOf payload last → IsPartOf payload d → contradicts last d ≡ false
no_quarrel payload last d l k = step (is_last last) (is_last d) refl refl
  where
    short : is_last last ≡ true → nat_lt (end_of last) (end_of d) ≡ false
    short e = let far : end_of last ≡ length payload = l.ends e in let near = k.within in grind (arith, nat_tests, far, near)

    equal : is_last last ≡ true → is_last d ≡ true → nat_eq (end_of d) (end_of last) ≡ true
    equal e f = let far : end_of last ≡ length payload = l.ends e in let same : end_of d ≡ length payload = k.ends f in grind (arith, nat_tests, far, same)

    step : (b c : Bool) → is_last last ≡ b → is_last d ≡ c → (b && (nat_lt (end_of last) (end_of d) || (c && not (nat_eq (end_of d) (end_of last))))) ≡ false
    step false c e f = refl
    step true true e f = rw (short e, equal e f) refl
    step true false e f = rw (short e) refl

agreeing : (payload : List ℕ) (fragments : List Datagram) → AllByRecursion (IsPartOf payload) fragments → is_contradictory fragments ≡ false
agreeing payload fragments h =
    none_passes (IsPartOf payload) (λ last. list_any (contradicts last) fragments)
    (λ last l. none_passes (IsPartOf payload) (contradicts last) (λ d k. no_quarrel payload last d l k) fragments h) fragments h

pub agree : (payload : List ℕ) (fragments : List Datagram) → ArePartsOf payload fragments → is_contradictory fragments ≡ false
agree payload fragments h = agreeing payload fragments (recursion_from_All (IsPartOf payload) fragments h)

-- the octet of a part is that of the payload
within_both : (d : Datagram) (i : ℕ) → covers i d ≡ true → (begin_of d ≤ i) × (i < end_of d)
within_both d i h = step (nat_le (begin_of d) i) (nat_lt i (end_of d)) refl refl h
  where
    step : (b c : Bool) → nat_le (begin_of d) i ≡ b → nat_lt i (end_of d) ≡ c → (b && c) ≡ true → (begin_of d ≤ i) × (i < end_of d)
    step true true e f k = (grind (arith, nat_tests, e), grind (arith, nat_tests, f))
    step true false e f k = cc
    step false c e f k = cc

octet_is : (payload : List ℕ) (d : Datagram) (i : ℕ) → IsPartOf payload d → covers i d ≡ true → octet_for i d ≡ slice_index payload i
octet_is payload d i k h =
    let there = within_both d i h in
    ap (λ octets. slice_index octets (i - begin_of d)) k.octets
    ∙ get_or-take (end_of d - begin_of d) (drop (begin_of d) payload) (i - begin_of d) 0 (omega (arith, there.0, there.1))
    ∙ get_or-drop (begin_of d) payload (i - begin_of d) 0
    ∙ ap (slice_index payload) (let e : begin_of d + (i - begin_of d) ≡ i = omega (arith, there.0) in e)

latest_is : (payload : List ℕ) (fragments : List Datagram) → AllByRecursion (IsPartOf payload) fragments → (i octet : ℕ)
    → latest fragments i ≡ Some octet → octet ≡ slice_index payload i
latest_is payload fragments h i octet e = step (find (covers i) (reverse fragments)) refl e
  where
    step : (found : Option Datagram) → find (covers i) (reverse fragments) ≡ found → option_map (octet_for i) found ≡ Some octet → octet ≡ slice_index payload i
    step None f k = cc
    step (Some d) f k =
        let has = last_has (IsPartOf payload) (covers i) fragments h d f in
        let same : octet_for i d ≡ octet = cc in
        sym same ∙ octet_is payload d i has.1 has.0

-- the end of a last part is that of the payload
end_is : (payload : List ℕ) (fragments : List Datagram) → AllByRecursion (IsPartOf payload) fragments → (end : ℕ) → end_shown_by fragments ≡ Some end
    → end ≡ length payload
end_is payload fragments h end e = step (find is_last fragments) refl e
  where
    step : (found : Option Datagram) → find is_last fragments ≡ found → option_map end_of found ≡ Some end → end ≡ length payload
    step None f k = cc
    step (Some d) f k =
        let has = found_has (IsPartOf payload) is_last fragments h d f in
        let same : end_of d ≡ end = cc in
        sym same ∙ has.1.ends has.0

making : (payload octets : List ℕ) (fragments : List Datagram) → AllByRecursion (IsPartOf payload) fragments → IsPayload fragments octets → octets ≡ payload
making payload octets fragments h p =
    ext_get_or 0 octets payload (end_is payload fragments h (length octets) p.ends)
    (λ i k. latest_is payload fragments h i (slice_index octets i) (p.latest_octets i k))

pub made : (payload octets : List ℕ) (fragments : List Datagram) → ArePartsOf payload fragments → IsPayload fragments octets → octets ≡ payload
made payload octets fragments h p = making payload octets fragments (recursion_from_All (IsPartOf payload) fragments h) p

-- where no part is missing
end_told : (payload : List ℕ) (fragments : List Datagram) → AllByRecursion (IsPartOf payload) fragments → list_any is_last fragments ≡ true
    → end_shown_by fragments ≡ Some (length payload)
end_told payload fragments h any = step (find is_last fragments) refl
  where
    step : (found : Option Datagram) → find is_last fragments ≡ found → option_map end_of found ≡ Some (length payload)
    step None f = absurd (found_where is_last fragments f any)
    step (Some d) f =
        let has = found_has (IsPartOf payload) is_last fragments h d f in
        ap (λ n. Some n) (has.1.ends has.0)

octet_there : (payload : List ℕ) (fragments : List Datagram) → AllByRecursion (IsPartOf payload) fragments → (i : ℕ) → list_any (covers i) fragments ≡ true
    → latest fragments i ≡ Some (slice_index payload i)
octet_there payload fragments h i any = step (latest fragments i) refl (covered_place fragments i ∙ any)
  where
    step : (found : Option ℕ) → latest fragments i ≡ found → is_some found ≡ true → found ≡ Some (slice_index payload i)
    step None f k = cc
    step (Some octet) f k = ap (λ n. Some n) (latest_is payload fragments h i octet f)

pub enough : (payload : List ℕ) (fragments : List Datagram) → ArePartsOf payload fragments → CoverAll payload fragments → IsPayload fragments payload
enough payload fragments h c =
    let each = recursion_from_All (IsPartOf payload) fragments h in
    record {
      ends = end_told payload fragments each c.last;
      latest_octets = λ i k. octet_there payload fragments each i (c.each i k);
    }

-- one more of them
before_agree : (payload : List ℕ) (fragments : List Datagram) (d : Datagram) → ArePartsOf payload (fragments ++ d ∷ []) → is_contradictory fragments ≡ false
before_agree payload fragments d h =
    agreeing payload fragments (all_before (IsPartOf payload) fragments (d ∷ []) (recursion_from_All (IsPartOf payload) (fragments ++ d ∷ []) h))

no_conflict : (now : Moment) (first : Datagram) (fragments : List Datagram) (d : Datagram) (payload : List ℕ) → ArePartsOf payload (fragments ++ d ∷ [])
    → conflicts d (after_fragments (begun now first) fragments).end (length (after_fragments (begun now first) fragments).octets) ≡ false
no_conflict now first fragments d payload h =
    given_up now first fragments d (before_agree payload fragments d h) ∙ agree payload (fragments ++ d ∷ []) h

pub kept : (now : Moment) (first : Datagram) (fragments : List Datagram) (d : Datagram) (payload : List ℕ) → ArePartsOf payload (fragments ++ d ∷ [])
    → outcome d (after_fragments (begun now first) fragments) ≢ GivesUp
kept now first fragments d payload h gone = step (whole_of next.end next.octets) refl
  where
    before : Reassembly
    before = after_fragments (begun now first) fragments

    next : Reassembly
    next = with_fragment before d

    step : (found : Option (List ℕ)) → whole_of next.end next.octets ≡ found → ⊥
    step None e = let waits : Waits next ≡ GivesUp = sym (outcome_waits d before (no_conflict now first fragments d payload h) e) ∙ gone in cc
    step (Some octets) e =
        let whole : Completes octets (quoted next.quote) ≡ GivesUp = sym (outcome_completes d before octets (no_conflict now first fragments d payload h) e) ∙ gone in cc

pub right : (now : Moment) (first : Datagram) (fragments : List Datagram) (d : Datagram) (payload octets quote : List ℕ)
    → ArePartsOf payload (fragments ++ d ∷ []) → outcome d (after_fragments (begun now first) fragments) ≡ Completes octets quote → octets ≡ payload
right now first fragments d payload octets quote h is = step (whole_of next.end next.octets) refl
  where
    before : Reassembly
    before = after_fragments (begun now first) fragments

    next : Reassembly
    next = with_fragment before d

    step : (found : Option (List ℕ)) → whole_of next.end next.octets ≡ found → octets ≡ payload
    step None e =
        let waits : Waits next ≡ Completes octets quote = sym (outcome_waits d before (no_conflict now first fragments d payload h) e) ∙ is in cc
    step (Some found) e =
        let whole : Completes found (quoted next.quote) ≡ Completes octets quote =
        sym (outcome_completes d before found (no_conflict now first fragments d payload h) e) ∙ is in
        let same : found ≡ octets = cc in
        sym same ∙ made payload found (fragments ++ d ∷ []) h (whole_is_payload now first (fragments ++ d ∷ []) found
        (ap (λ (r : Reassembly). whole_of r.end r.octets) (after_one_more (begun now first) fragments d) ∙ e))

pub whole : (now : Moment) (first : Datagram) (fragments : List Datagram) (d : Datagram) (payload quote : List ℕ) → ArePartsOf payload (fragments ++ d ∷ [])
    → CoverAll payload (fragments ++ d ∷ []) → latest_quote (fragments ++ d ∷ []) ≡ Some quote
    → outcome d (after_fragments (begun now first) fragments) ≡ Completes payload quote
whole now first fragments d payload quote h c q =
    completes now first fragments d payload quote (before_agree payload fragments d h) (agree payload (fragments ++ d ∷ []) h)
    (enough payload (fragments ++ d ∷ []) h c) q
