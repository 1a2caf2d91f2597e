-- What every list of events leaves in a pool.
use Rattle.std.proofs.Common.{◌≡◌, ◌≢◌, ◌⊎◌, ℕ, zero, suc, ◌<◌, ◌≤◌, ◌&&◌, Bool, true, false, nat_eq, nat_lt, cond, List, [], ◌∷◌, ◌++◌, length, replicate, fold, map, set, get_or, Option, Some, None, IfSome, is_none, is_some, inl, inr, refl, sym, ◌∙◌, ap, subst, append-nil, arith}
use Rattle.std.specs.List.{Any, list_any, position, position_or_len}
use Rattle.std.proofs.lemmas.Bool.{cases_lt}
use Rattle.std.proofs.lemmas.Bool.Decides.{nat_tests}
use Rattle.std.proofs.lemmas.List.{get_or-set_same, get_or-set_other, get_or_past, set_past, get_or_default}
use Rattle.std.proofs.lemmas.List.Folds.{list_any_at, Any-from_list_any}
use Rattle.std.proofs.lemmas.List.Quantifiers.{position-Some}
use Rattle.std.proofs.lemmas.List.Sums.{fails_before_first}
use Rattle.std.proofs.lemmas.Slice.Eq.{bytes_eq-Decides}
use Rattle.clock.specs.declared.moment.Moment.{Moment}
use Rattle.ipv4.specs.Addresses.{same_addr}
use Rattle.ipv4.specs.Datagram.{Datagram}
use Rattle.reassembly.specs.declared.key.Key.{Key}
use Rattle.reassembly.specs.declared.assembled.Loss.TheVariants.{NoRoom, GivenUp}
use Rattle.reassembly.specs.declared.assembled.Assembled.{Assembled}
use Rattle.reassembly.specs.declared.assembled.Assembled.TheVariants.{Waiting, Whole, Dropped}
use Rattle.reassembly.specs.Events.{Event, after_event, after_events, has_place, taken_for, gathered_after, gathered_from, gathered, IsRight, IsRightFor}
use Rattle.reassembly.specs.Events.Event.{Takes, Ages, GivesWay}
use Rattle.reassembly.specs.Fragments.{key_of, end_of, ends_within, latest_quote, is_contradictory, IsPayload}
use Rattle.reassembly.specs.Keys.{same_key}
use Rattle.reassembly.specs.Octets.{whole_of}
use Rattle.reassembly.specs.Parts.{ArePartsOf, CoverAll}
use Rattle.reassembly.specs.Places.{is_of, is_over, place_for, after_take_at, after_take, after_age, after_time, oldest, without, without_oldest, AnswersAt, AnswersTake}
use Rattle.reassembly.specs.Reassembly.{Reassembly, PoolView, begun, new_pool, after_fragments, with_fragment, conflicts, continued, outcome, outcome_within, left, Answers, quoted}
use Rattle.reassembly.specs.Reassembly.Outcome.{Completes, GivesUp}
use Rattle.reassembly.proofs.Contradictions.{given_up}
use Rattle.reassembly.proofs.OneMore.{after_one_more}
use Rattle.reassembly.proofs.Outcomes.{outcome_given_up, outcome_completes, outcome_waits, end_is_within, fits_in, past_from, too_long, within_from}
use Rattle.reassembly.proofs.Found.{wholes_are_quoted}
use Rattle.reassembly.proofs.PartsAgree.{agree, made, enough}
use Rattle.reassembly.proofs.Quotes.{quoted as latest_is_quoted}
use Rattle.reassembly.proofs.Views.{own_place, free_place, no_place}
use Rattle.reassembly.proofs.Together.{whole_is_payload, payload_is_whole}

-- keys that are the same
all_four : (a b c d : Bool) → (a && b && c && d) ≡ true → (a ≡ true) × (b ≡ true) × (c ≡ true) × (d ≡ true)
all_four true true true true h = (refl, refl, refl, refl)
all_four true true true false h = cc
all_four true true false d h = cc
all_four true false c d h = cc
all_four false b c d h = cc

four_true : (a b c d : Bool) → a ≡ true → b ≡ true → c ≡ true → d ≡ true → (a && b && c && d) ≡ true
four_true a b c d e f g h = rw (e, f, g, h) refl

nat_same : (n m : ℕ) → nat_eq n m ≡ true → n ≡ m
nat_same n m h = grind (arith, nat_tests, h)

nat_itself : (n : ℕ) → nat_eq n n ≡ true
nat_itself n = grind (arith, nat_tests)

pub same_key_is : (a b : Key) → same_key a b ≡ true → a ≡ b
same_key_is a b h =
    let four = all_four (same_addr a.source b.source) (same_addr a.destination b.destination) (nat_eq a.protocol.0 b.protocol.0) (nat_eq a.identification b.identification) h in
    let sources : a.source.0 ≡ b.source.0 = (bytes_eq-Decides a.source.0 b.source.0).0 four.0 in
    let destinations : a.destination.0 ≡ b.destination.0 = (bytes_eq-Decides a.destination.0 b.destination.0).0 four.1 in
    let protocols : a.protocol.0 ≡ b.protocol.0 = nat_same a.protocol.0 b.protocol.0 four.2 in
    let numbers : a.identification ≡ b.identification = nat_same a.identification b.identification four.3 in
    ap (λ octets. record a { source = record { 0 = octets } }) sources
    ∙ ap (λ octets. record a { source = b.source; destination = record { 0 = octets } }) destinations
    ∙ ap (λ n. record a { source = b.source; destination = b.destination; protocol = record { 0 = n } }) protocols
    ∙ ap (λ n. record b { identification = n }) numbers

pub same_key-refl : (key : Key) → same_key key key ≡ true
same_key-refl key =
    four_true (same_addr key.source key.source) (same_addr key.destination key.destination) (nat_eq key.protocol.0 key.protocol.0)
    (nat_eq key.identification key.identification) ((bytes_eq-Decides key.source.0 key.source.0).1 refl)
    ((bytes_eq-Decides key.destination.0 key.destination.0).1 refl) (nat_itself key.protocol.0) (nat_itself key.identification)

-- what stands in a place
abbrev pub at : List (Option Reassembly) → ℕ → Option Reassembly
at places i = get_or places i None

pub within : (places : List (Option Reassembly)) (i : ℕ) (r : Reassembly) → at places i ≡ Some r → i < length places
within places i r e = elim (cases_lt i (length places)) [
  | inl less ↦ less
  | inr past ↦ absurd (let none : None ≡ Some r = sym (get_or_past places i None past) ∙ e in cc)
]

pub none_at : {X : Type 0} (p : X → Bool) (xs : List X) (d : X) → position p xs ≡ None → (i : ℕ) → i < length xs → p (get_or xs i d) ≡ false
none_at p xs d e i l = step (nat_lt (position_or_len p xs) (length xs)) refl e
  where
    step : (b : Bool) → nat_lt (position_or_len p xs) (length xs) ≡ b → cond b (Some (position_or_len p xs)) None ≡ None → p (get_or xs i d) ≡ false
    step true f g = cc
    step false f g =
        let past : length xs ≤ position_or_len p xs = grind (arith, nat_tests, f) in
        fails_before_first p xs i d (omega (arith, past, l))

-- A reassembly comes from these fragments, no two of which contradict each other.
pub record Comes (r : Reassembly) (fragments : List Datagram) : Type 0 where
  pub now : Moment
  pub first : Datagram
  pub is : r ≡ after_fragments (begun now first) fragments
  pub agree : is_contradictory fragments ≡ false

-- No two places have one key, and each reassembly comes from the fragments of its key.
pub record Sound (pool : PoolView) (fragments : Key → List Datagram) : Type 0 where
  pub apart : (i j : ℕ) (a b : Reassembly) → at pool.places i ≡ Some a → at pool.places j ≡ Some b → a.key ≡ b.key → i ≡ j
  pub comes : (i : ℕ) (a : Reassembly) → at pool.places i ≡ Some a → Comes a (fragments a.key)
  pub free : (key : Key) → has_place key pool ≡ false → fragments key ≡ []

-- a key that has a place keeps its fragments
kept_for : (key : Key) (event : Event) (pool : PoolView) (fragments : List Datagram) → has_place key (after_event pool event) ≡ true
    → gathered_after key pool fragments event ≡ fragments ++ taken_for key event
kept_for key event pool fragments h = rw h refl

has_place_at : (pool : PoolView) (i : ℕ) (a : Reassembly) → at pool.places i ≡ Some a → has_place a.key pool ≡ true
has_place_at pool i a e = list_any_at (is_of a.key) pool.places i None (within pool.places i a e) (ap (is_of a.key) e ∙ same_key-refl a.key)

not_taken : (key : Key) (now : Moment) (d : Datagram) → (key_of d ≡ key → ⊥) → taken_for key (Takes now d) ≡ []
not_taken key now d other = step (same_key (key_of d) key) refl
  where
    step : (b : Bool) → same_key (key_of d) key ≡ b → cond b (d ∷ []) [] ≡ []
    step true e = absurd (other (same_key_is (key_of d) key e))
    step false e = refl

taken_itself : (now : Moment) (d : Datagram) (key : Key) → key_of d ≡ key → taken_for key (Takes now d) ≡ d ∷ []
taken_itself now d key e = rw (ap (same_key (key_of d)) (sym e) ∙ same_key-refl (key_of d)) refl

free_after : (key : Key) (event : Event) (pool : PoolView) (fragments : List Datagram) → has_place key (after_event pool event) ≡ false
    → gathered_after key pool fragments event ≡ []
free_after key event pool fragments h = rw h refl

-- what is left in a place has this key, and comes from these fragments
abbrev LeftFor : Key → List Datagram → Option Reassembly → Type 0
LeftFor key fragments next = IfSome next (λ r. (r.key ≡ key) × Comes r fragments)

left_at : (key : Key) (fragments : List Datagram) (next : Option Reassembly) (a : Reassembly) → LeftFor key fragments next → next ≡ Some a
    → (a.key ≡ key) × Comes a fragments
left_at key fragments None a h e = cc
left_at key fragments (Some r) a h e = let same : r ≡ a = cc in subst (λ (z : Reassembly). (z.key ≡ key) × Comes z fragments) same h

pub old_or_next : (places : List (Option Reassembly)) (i : ℕ) (next : Option Reassembly) (j : ℕ) (a : Reassembly) → i < length places
    → at (set places i next) j ≡ Some a → ((j ≡ i) × (next ≡ Some a)) ⊎ ((j ≡ i → ⊥) × (at places j ≡ Some a))
old_or_next places i next j a room e = step (nat_eq j i) refl
  where
    step : (b : Bool) → nat_eq j i ≡ b → ((j ≡ i) × (next ≡ Some a)) ⊎ ((j ≡ i → ⊥) × (at places j ≡ Some a))
    step true f =
        let same : j ≡ i = nat_same j i f in
        inl (same, sym (get_or-set_same places i next None room) ∙ ap (at (set places i next)) (sym same) ∙ e)
    step false f =
        let other : j ≡ i → ⊥ = λ same. (let yes : true ≡ false = sym (ap (nat_eq j) (sym same) ∙ nat_itself j) ∙ f in cc) in
        inr (other, sym (get_or-set_other places i j next None other) ∙ e)

-- A fragment goes on with what stands in its place, or begins there; no other place has its key.
record GoesOn (now : Moment) (d : Datagram) (pool : PoolView) (fragments : List Datagram) : Type 0 where
  i : ℕ
  found : place_for d pool ≡ Some i
  room : i < length pool.places
  key : (continued now d (at pool.places i)).key ≡ key_of d
  comes : Comes (continued now d (at pool.places i)) fragments
  alone : (j : ℕ) (b : Reassembly) → at pool.places j ≡ Some b → b.key ≡ key_of d → j ≡ i

-- It has no place, and no place has its key.
record HasNone (d : Datagram) (pool : PoolView) : Type 0 where
  found : place_for d pool ≡ None
  alone : (j : ℕ) (b : Reassembly) → at pool.places j ≡ Some b → b.key ≡ key_of d → ⊥

none_any : {X : Type 0} (p : X → Bool) (xs : List X) → position p xs ≡ None → list_any p xs ≡ false
none_any {X = X} p xs e = step (list_any p xs) refl
  where
    never : Any (λ x. p x ≡ true) xs → ⊥
    never (k, x, less, there, is) =
        let no : p (get_or xs k x) ≡ false = none_at p xs x e k less in
        let yes : p (get_or xs k x) ≡ true = ap p there ∙ is in
        let both : true ≡ false = sym yes ∙ no in cc

    step : (b : Bool) → list_any p xs ≡ b → b ≡ false
    step true f = absurd (never (Any-from_list_any p xs f))
    step false f = refl

goes : (now : Moment) (d : Datagram) (pool : PoolView) (fragments : Key → List Datagram) → Sound pool fragments
    → GoesOn now d pool (fragments (key_of d)) ⊎ HasNone d pool
goes now d pool fragments s = by_key (position (is_of (key_of d)) pool.places) refl
  where
    open_at : (i : ℕ) → position (is_of (key_of d)) pool.places ≡ Some i → i < length pool.places → (o : Option Reassembly) → at pool.places i ≡ o
        → is_of (key_of d) o ≡ true → GoesOn now d pool (fragments (key_of d))
    open_at i e room None f is = cc
    open_at i e room (Some r) f is =
        let key : r.key ≡ key_of d = same_key_is r.key (key_of d) is in
        let here : continued now d (at pool.places i) ≡ r = ap (continued now d) f in
        record {
          i = i;
          found = own_place d pool i e;
          room = room;
          key = ap (λ (z : Reassembly). z.key) here ∙ key;
          comes = subst (λ z. Comes z (fragments (key_of d))) (sym here) (subst (λ k. Comes r (fragments k)) key (s.comes i r f));
          alone = λ j b g same. s.apart j i b r g f (same ∙ sym key);
        }

    alone_none : position (is_of (key_of d)) pool.places ≡ None → (j : ℕ) (b : Reassembly) → at pool.places j ≡ Some b → b.key ≡ key_of d → ⊥
    alone_none e j b g same =
        let no : is_of (key_of d) (at pool.places j) ≡ false = none_at (is_of (key_of d)) pool.places None e j (within pool.places j b g) in
        let yes : is_of (key_of d) (at pool.places j) ≡ true = ap (is_of (key_of d)) g ∙ ap (same_key b.key) (sym same) ∙ same_key-refl b.key in
        let both : true ≡ false = sym yes ∙ no in cc

    free_at : (i : ℕ) → position (is_of (key_of d)) pool.places ≡ None → place_for d pool ≡ Some i → i < length pool.places → (o : Option Reassembly)
        → at pool.places i ≡ o → is_none o ≡ true → GoesOn now d pool (fragments (key_of d))
    free_at i e p room (Some r) f is = cc
    free_at i e p room None f is =
        let here : continued now d (at pool.places i) ≡ begun now d = ap (continued now d) f in
        let empty : fragments (key_of d) ≡ [] = s.free (key_of d) (none_any (is_of (key_of d)) pool.places e) in
        record {
          i = i;
          found = p;
          room = room;
          key = ap (λ (z : Reassembly). z.key) here;
          comes = record { now = now; first = d; is = here ∙ ap (after_fragments (begun now d)) (sym empty); agree = ap is_contradictory empty };
          alone = λ j b g same. absurd (alone_none e j b g same);
        }

    by_free : (found : Option ℕ) → position (is_of (key_of d)) pool.places ≡ None → ends_within pool.octets d ≡ true → position is_none pool.places ≡ found
        → GoesOn now d pool (fragments (key_of d)) ⊎ HasNone d pool
    by_free (Some i) e fit p =
        let is = position-Some is_none pool.places i None p in
        inl (free_at i e (free_place d pool e fit ∙ p) is.0 (at pool.places i) refl is.1)
    by_free None e fit p = inr (record { found = free_place d pool e fit ∙ p; alone = alone_none e })

    by_room : (fit : Bool) → position (is_of (key_of d)) pool.places ≡ None → ends_within pool.octets d ≡ fit
        → GoesOn now d pool (fragments (key_of d)) ⊎ HasNone d pool
    by_room true e fit = by_free (position is_none pool.places) e fit refl
    by_room false e fit = inr (record { found = no_place d pool e fit; alone = alone_none e })

    by_key : (found : Option ℕ) → position (is_of (key_of d)) pool.places ≡ found → GoesOn now d pool (fragments (key_of d)) ⊎ HasNone d pool
    by_key (Some i) e =
        let is = position-Some (is_of (key_of d)) pool.places i None e in
        inl (open_at i e is.0 (at pool.places i) refl is.1)
    by_key None e = by_room (ends_within pool.octets d) e refl

-- what a fragment leaves of a reassembly, and what it is answered
conflict_is : (d : Datagram) (r : Reassembly) (fragments : List Datagram) → Comes r fragments
    → conflicts d r.end (length r.octets) ≡ is_contradictory (fragments ++ d ∷ [])
conflict_is d r fragments c =
    ap (λ (z : Reassembly). conflicts d z.end (length z.octets)) c.is ∙ given_up c.now c.first fragments d c.agree

next_is : (d : Datagram) (r : Reassembly) (fragments : List Datagram) (c : Comes r fragments)
    → with_fragment r d ≡ after_fragments (begun c.now c.first) (fragments ++ d ∷ [])
next_is d r fragments c = ap (λ (z : Reassembly). with_fragment z d) c.is ∙ sym (after_one_more (begun c.now c.first) fragments d)

left_for : (d : Datagram) (r : Reassembly) (key : Key) (fragments : List Datagram) → r.key ≡ key → Comes r fragments
    → LeftFor key (fragments ++ d ∷ []) (left (outcome d r))
left_for d r key fragments same c = by_conflict (conflicts d r.end (length r.octets)) refl
  where
    by_whole : (found : Option (List ℕ)) → conflicts d r.end (length r.octets) ≡ false → whole_of (with_fragment r d).end (with_fragment r d).octets ≡ found
        → LeftFor key (fragments ++ d ∷ []) (left (outcome d r))
    by_whole None e f =
        subst (λ o. LeftFor key (fragments ++ d ∷ []) (left o)) (sym (outcome_waits d r e f))
        (same, record { now = c.now; first = c.first; is = next_is d r fragments c; agree = sym (conflict_is d r fragments c) ∙ e })
    by_whole (Some payload) e f =
        subst (λ o. LeftFor key (fragments ++ d ∷ []) (left o)) (sym (outcome_completes d r payload e f)) tt

    by_conflict : (b : Bool) → conflicts d r.end (length r.octets) ≡ b → LeftFor key (fragments ++ d ∷ []) (left (outcome d r))
    by_conflict true e = subst (λ o. LeftFor key (fragments ++ d ∷ []) (left o)) (sym (outcome_given_up d r e)) tt
    by_conflict false e = by_whole (whole_of (with_fragment r d).end (with_fragment r d).octets) e refl

left_within : (room : ℕ) (d : Datagram) (r : Reassembly) (key : Key) (fragments : List Datagram) → r.key ≡ key → Comes r fragments
    → LeftFor key (fragments ++ d ∷ []) (left (outcome_within room d r))
left_within room d r key fragments same c = by_room (ends_within room d)
  where
    by_room : (fit : Bool) → LeftFor key (fragments ++ d ∷ []) (left (cond fit (outcome d r) GivesUp))
    by_room true = left_for d r key fragments same c
    by_room false = tt

is_right : (d : Datagram) (r : Reassembly) (fragments : List Datagram) (taken : Assembled) → Comes r fragments → Answers (outcome d r) taken
    → IsRight (fragments ++ d ∷ []) taken
is_right d r fragments taken c h = by_conflict (conflicts d r.end (length r.octets)) refl
  where
    next : with_fragment r d ≡ after_fragments (begun c.now c.first) (fragments ++ d ∷ [])
    next = next_is d r fragments c

    quote_is : (payload : List ℕ) → IsPayload (fragments ++ d ∷ []) payload → (o : Option (List ℕ)) → latest_quote (fragments ++ d ∷ []) ≡ o
        → is_some o ≡ true → Some (quoted (with_fragment r d).quote) ≡ latest_quote (fragments ++ d ∷ [])
    quote_is payload p None e is = cc
    quote_is payload p (Some quote) e is =
        ap (λ (z : Reassembly). Some (quoted z.quote)) next
        ∙ ap (λ (o : Option (List ℕ)). Some (quoted o)) (latest_is_quoted c.now c.first (fragments ++ d ∷ []) ∙ e) ∙ sym e

    of_whole : (payload : List ℕ) → IsPayload (fragments ++ d ∷ []) payload → (t : Assembled) → Answers (Completes payload (quoted (with_fragment r d).quote)) t
        → IsRight (fragments ++ d ∷ []) t
    of_whole payload p (Whole whole) k = (
      subst (IsPayload (fragments ++ d ∷ [])) (sym k.0) p,
      sym (ap (λ (q : List ℕ). Some q) k.1 ∙ quote_is payload p (latest_quote (fragments ++ d ∷ [])) refl (wholes_are_quoted (fragments ++ d ∷ []) payload p)),
    )
    of_whole payload p Waiting k = absurd k
    of_whole payload p (Dropped loss) k = absurd k

    by_whole : (found : Option (List ℕ)) → conflicts d r.end (length r.octets) ≡ false → whole_of (with_fragment r d).end (with_fragment r d).octets ≡ found
        → IsRight (fragments ++ d ∷ []) taken
    by_whole None e f =
        let waits : taken ≡ Waiting = subst (λ o. Answers o taken) (outcome_waits d r e f) h in
        subst (IsRight (fragments ++ d ∷ [])) (sym waits)
        (λ payload p. (let some : None ≡ Some payload =
        sym f ∙ ap (λ (z : Reassembly). whole_of z.end z.octets) next ∙ payload_is_whole c.now c.first (fragments ++ d ∷ []) payload p in cc))
    by_whole (Some payload) e f =
        of_whole payload
        (whole_is_payload c.now c.first (fragments ++ d ∷ []) payload (sym (ap (λ (z : Reassembly). whole_of z.end z.octets) next) ∙ f))
        taken (subst (λ o. Answers o taken) (outcome_completes d r payload e f) h)

    by_conflict : (b : Bool) → conflicts d r.end (length r.octets) ≡ b → IsRight (fragments ++ d ∷ []) taken
    by_conflict true e =
        let gone : taken ≡ Dropped GivenUp = subst (λ o. Answers o taken) (outcome_given_up d r e) h in
        subst (IsRight (fragments ++ d ∷ [])) (sym gone) (sym (conflict_is d r fragments c) ∙ e)
    by_conflict false e = by_whole (whole_of (with_fragment r d).end (with_fragment r d).octets) e refl

-- one event more
abbrev FragmentsAfter : PoolView → (Key → List Datagram) → Event → Key → List Datagram
FragmentsAfter pool fragments event key = gathered_after key pool (fragments key) event

comes_after : (pool : PoolView) (fragments : Key → List Datagram) (event : Event) (a : Reassembly) (key : Key) (mine : List Datagram)
    → a.key ≡ key → has_place a.key (after_event pool event) ≡ true → fragments key ++ taken_for key event ≡ mine → Comes a mine
    → Comes a (FragmentsAfter pool fragments event a.key)
comes_after pool fragments event a key mine same there e c =
    subst (Comes a)
    (sym (kept_for a.key event pool (fragments a.key) there ∙ ap (λ k. fragments k ++ taken_for k event) same ∙ e)) c

settled : (pool : PoolView) (fragments : Key → List Datagram) (now : Moment) (d : Datagram) (i : ℕ) (next : Option Reassembly)
    → Sound pool fragments → (after_take now d pool).places ≡ set pool.places i next → i < length pool.places
    → ((j : ℕ) (b : Reassembly) → at pool.places j ≡ Some b → b.key ≡ key_of d → j ≡ i)
    → LeftFor (key_of d) (fragments (key_of d) ++ d ∷ []) next
    → Sound (after_take now d pool) (FragmentsAfter pool fragments (Takes now d))
settled pool fragments now d i next s is room alone leaves = record {
  apart = λ j k a b e f same. apart j k a b (stands j a e) (stands k b f) same;
  comes = λ j a e. comes j a e (stands j a e);
  free = λ key h. free_after key (Takes now d) pool (fragments key) h;
}
  where
    stands : (j : ℕ) (a : Reassembly) → at (after_take now d pool).places j ≡ Some a → ((j ≡ i) × (next ≡ Some a)) ⊎ ((j ≡ i → ⊥) × (at pool.places j ≡ Some a))
    stands j a e = old_or_next pool.places i next j a room (ap (λ ps. at ps j) (sym is) ∙ e)

    key_left : (a : Reassembly) → next ≡ Some a → a.key ≡ key_of d
    key_left a e = (left_at (key_of d) (fragments (key_of d) ++ d ∷ []) next a leaves e).0

    apart : (j k : ℕ) (a b : Reassembly) → ((j ≡ i) × (next ≡ Some a)) ⊎ ((j ≡ i → ⊥) × (at pool.places j ≡ Some a))
        → ((k ≡ i) × (next ≡ Some b)) ⊎ ((k ≡ i → ⊥) × (at pool.places k ≡ Some b)) → a.key ≡ b.key → j ≡ k
    apart j k a b (inl x) (inl y) same = x.0 ∙ sym y.0
    apart j k a b (inl x) (inr y) same = absurd (y.0 (alone k b y.1 (sym same ∙ key_left a x.1)))
    apart j k a b (inr x) (inl y) same = absurd (x.0 (alone j a x.1 (same ∙ key_left b y.1)))
    apart j k a b (inr x) (inr y) same = s.apart j k a b x.1 y.1 same

    comes : (j : ℕ) (a : Reassembly) → at (after_take now d pool).places j ≡ Some a → ((j ≡ i) × (next ≡ Some a)) ⊎ ((j ≡ i → ⊥) × (at pool.places j ≡ Some a))
        → Comes a (FragmentsAfter pool fragments (Takes now d) a.key)
    comes j a e (inl x) =
        let has = left_at (key_of d) (fragments (key_of d) ++ d ∷ []) next a leaves x.1 in
        comes_after pool fragments (Takes now d) a (key_of d) (fragments (key_of d) ++ d ∷ []) has.0 (has_place_at (after_take now d pool) j a e)
        (ap (λ l. fragments (key_of d) ++ l) (taken_itself now d (key_of d) refl)) has.1
    comes j a e (inr x) =
        comes_after pool fragments (Takes now d) a a.key (fragments a.key) refl (has_place_at (after_take now d pool) j a e)
        (ap (λ l. fragments a.key ++ l) (not_taken a.key now d (λ same. x.0 (alone j a x.1 (sym same)))) ∙ append-nil (fragments a.key)) (s.comes j a x.1)

sound_take : (pool : PoolView) (fragments : Key → List Datagram) (now : Moment) (d : Datagram) → Sound pool fragments
    → Sound (after_take now d pool) (FragmentsAfter pool fragments (Takes now d))
sound_take pool fragments now d s = step (goes now d pool fragments s)
  where
    step : GoesOn now d pool (fragments (key_of d)) ⊎ HasNone d pool → Sound (after_take now d pool) (FragmentsAfter pool fragments (Takes now d))
    step (inl g) =
        settled pool fragments now d g.i (left (outcome_within pool.octets d (continued now d (at pool.places g.i)))) s (ap (after_take_at now d pool) g.found) g.room g.alone
        (left_within pool.octets d (continued now d (at pool.places g.i)) (key_of d) (fragments (key_of d)) g.key g.comes)
    step (inr n) =
        let same : (after_take now d pool).places ≡ pool.places = ap (after_take_at now d pool) n.found in
        record {
          apart = λ j k a b e f alike. s.apart j k a b (ap (λ ps. at ps j) (sym same) ∙ e) (ap (λ ps. at ps k) (sym same) ∙ f) alike;
          comes = λ j a e.
              let was : at pool.places j ≡ Some a = ap (λ ps. at ps j) (sym same) ∙ e in
              comes_after pool fragments (Takes now d) a a.key (fragments a.key) refl (has_place_at (after_take now d pool) j a e)
              (ap (λ l. fragments a.key ++ l) (not_taken a.key now d (λ alike. n.alone j a was (sym alike))) ∙ append-nil (fragments a.key)) (s.comes j a was);
          free = λ key h. free_after key (Takes now d) pool (fragments key) h;
        }

pub aged : (now : Moment) (places : List (Option Reassembly)) (i : ℕ) (a : Reassembly) → at (map (after_time now) places) i ≡ Some a → at places i ≡ Some a
aged now [] i a e = e
aged now (None ∷ places) zero a e = e
aged now (Some r ∷ places) zero a e = step (is_over now r) e
  where
    step : (b : Bool) → cond b None (Some r) ≡ Some a → Some r ≡ Some a
    step true f = cc
    step false f = f
aged now (place ∷ places) (suc i) a e = aged now places i a e

-- the oldest gives way
pub same_gone : (places : List (Option Reassembly)) (found : Option ℕ) (i : ℕ) (a : Reassembly) → at (without found places) i ≡ Some a → at places i ≡ Some a
same_gone places None i a e = e
same_gone places (Some k) i a e = by_room (nat_lt k (length places)) refl
  where
    by_room : (b : Bool) → nat_lt k (length places) ≡ b → at places i ≡ Some a
    by_room true f =
        let room : k < length places = grind (arith, nat_tests, f) in
        elim (old_or_next places k None i a room e) [
          | inl next ↦ let none : None ≡ Some a = next.1 in cc
          | inr old ↦ old.1
        ]
    by_room false f =
        let past : length places ≤ k = grind (arith, nat_tests, f) in
        ap (λ ps. at ps i) (sym (set_past places k None past)) ∙ e

sound_event : (pool : PoolView) (fragments : Key → List Datagram) (event : Event) → Sound pool fragments
    → Sound (after_event pool event) (FragmentsAfter pool fragments event)
sound_event pool fragments (Takes now d) s = sound_take pool fragments now d s
sound_event pool fragments (Ages now) s = record {
  apart = λ j k a b e f same. s.apart j k a b (aged now pool.places j a e) (aged now pool.places k b f) same;
  comes = λ j a e.
      comes_after pool fragments (Ages now) a a.key (fragments a.key) refl (has_place_at (after_age now pool) j a e) (append-nil (fragments a.key))
      (s.comes j a (aged now pool.places j a e));
  free = λ key h. free_after key (Ages now) pool (fragments key) h;
}
sound_event pool fragments GivesWay s = record {
  apart = λ j k a b e f same.
      s.apart j k a b (same_gone pool.places (oldest pool.places) j a e) (same_gone pool.places (oldest pool.places) k b f) same;
  comes = λ j a e.
      comes_after pool fragments GivesWay a a.key (fragments a.key) refl (has_place_at (without_oldest pool) j a e) (append-nil (fragments a.key))
      (s.comes j a (same_gone pool.places (oldest pool.places) j a e));
  free = λ key h. free_after key GivesWay pool (fragments key) h;
}

sound_from : (events : List Event) (pool : PoolView) (fragments : Key → List Datagram) → Sound pool fragments
    → Sound (fold after_event pool events) (λ key. gathered_from key pool (fragments key) events)
sound_from [] pool fragments s = s
sound_from (event ∷ events) pool fragments s =
    sound_from events (after_event pool event) (FragmentsAfter pool fragments event) (sound_event pool fragments event s)

pub none_there : (n i : ℕ) (a : Reassembly) → at (replicate n None) i ≡ Some a → ⊥
none_there zero i a e = cc
none_there (suc n) zero a e = cc
none_there (suc n) (suc i) a e = none_there n i a e

sound : (n octets : ℕ) (events : List Event) → Sound (after_events n octets events) (λ key. gathered n octets key events)
sound n octets events = sound_from events (new_pool n octets) (λ key. []) (record {
  apart = λ i j a b e f same. absurd (none_there n i a e);
  comes = λ i a e. absurd (none_there n i a e);
  free = λ key h. refl;
})

pub one_place : (n octets : ℕ) (events : List Event) (i j : ℕ) (a b : Reassembly) → at (after_events n octets events).places i ≡ Some a
    → at (after_events n octets events).places j ≡ Some b → same_key a.key b.key ≡ true → i ≡ j
one_place n octets events i j a b e f same = (sound n octets events).apart i j a b e f (same_key_is a.key b.key same)

-- no event changes how many octets a place has room for
pub octets_kept : (event : Event) (pool : PoolView) → (after_event pool event).octets ≡ pool.octets
octets_kept (Takes now d) pool = refl
octets_kept (Ages now) pool = refl
octets_kept GivesWay pool = refl

octets_from : (events : List Event) (pool : PoolView) → (fold after_event pool events).octets ≡ pool.octets
octets_from [] pool = refl
octets_from (event ∷ events) pool = octets_from events (after_event pool event) ∙ octets_kept event pool

pub octets_after : (n octets : ℕ) (events : List Event) → (after_events n octets events).octets ≡ octets
octets_after n octets events = octets_from events (new_pool n octets)

pub answered : (n octets : ℕ) (events : List Event) (now : Moment) (d : Datagram) (taken : Assembled) → end_of d ≤ octets
    → AnswersTake now d (after_events n octets events) taken → IsRight (gathered n octets (key_of d) events ++ d ∷ []) taken
answered n octets events now d taken short h = step (goes now d (after_events n octets events) (λ key. gathered n octets key events) (sound n octets events))
  where
    fit : ends_within (after_events n octets events).octets d ≡ true
    fit = ap (λ room. ends_within room d) (octets_after n octets events) ∙ within_from octets d short

    step : GoesOn now d (after_events n octets events) (gathered n octets (key_of d) events) ⊎ HasNone d (after_events n octets events)
        → IsRight (gathered n octets (key_of d) events ++ d ∷ []) taken
    step (inl g) =
        is_right d (continued now d (at (after_events n octets events).places g.i)) (gathered n octets (key_of d) events) taken g.comes
        (subst (λ o. Answers o taken) (fits_in (after_events n octets events).octets d (continued now d (at (after_events n octets events).places g.i)) fit)
        (subst (λ o. AnswersAt now d (after_events n octets events) o taken) g.found h))
    step (inr unfound) =
        let none : taken ≡ Dropped NoRoom = subst (λ o. AnswersAt now d (after_events n octets events) o taken) unfound.found h in
        subst (IsRight (gathered n octets (key_of d) events ++ d ∷ [])) (sym none) tt

-- a fragment that is too long is refused
refused_at : (now : Moment) (d : Datagram) (pool : PoolView) (taken : Assembled) → ends_within pool.octets d ≡ false → AnswersTake now d pool taken
    → taken ≡ Dropped (cond (has_place (key_of d) pool) GivenUp NoRoom)
refused_at now d pool taken long h = by_key (position (is_of (key_of d)) pool.places) refl
  where
    by_key : (found : Option ℕ) → position (is_of (key_of d)) pool.places ≡ found → taken ≡ Dropped (cond (has_place (key_of d) pool) GivenUp NoRoom)
    by_key (Some i) e =
        let is = position-Some (is_of (key_of d)) pool.places i None e in
        let holds : has_place (key_of d) pool ≡ true = list_any_at (is_of (key_of d)) pool.places i None is.0 is.1 in
        let answer : Answers (outcome_within pool.octets d (continued now d (at pool.places i))) taken = subst (λ o. AnswersAt now d pool o taken) (own_place d pool i e) h in
        let gone : taken ≡ Dropped GivenUp = subst (λ o. Answers o taken) (too_long pool.octets d (continued now d (at pool.places i)) long) answer in
        gone ∙ ap (λ b. Dropped (cond b GivenUp NoRoom)) (sym holds)
    by_key None e =
        let none : taken ≡ Dropped NoRoom = subst (λ o. AnswersAt now d pool o taken) (no_place d pool e long) h in
        none ∙ ap (λ b. Dropped (cond b GivenUp NoRoom)) (sym (none_any (is_of (key_of d)) pool.places e))

pub refused : (now : Moment) (d : Datagram) (pool : PoolView) (taken : Assembled) → pool.octets < end_of d → AnswersTake now d pool taken
    → taken ≡ Dropped (cond (has_place (key_of d) pool) GivenUp NoRoom)
refused now d pool taken long h = refused_at now d pool taken (past_from pool.octets d long) h

-- none has this key
none_with : (key : Key) (pool : PoolView) → ((j : ℕ) (b : Reassembly) → at pool.places j ≡ Some b → b.key ≡ key → ⊥) → has_place key pool ≡ false
none_with key pool none = step (has_place key pool) refl
  where
    never : (k : ℕ) (place : Option Reassembly) → k < length pool.places → get_or pool.places k place ≡ place → is_of key place ≡ true → ⊥
    never k None less there is = cc
    never k (Some b) less there is = none k b (get_or_default pool.places k None (Some b) less ∙ there) (same_key_is b.key key is)

    held : Any (λ place. is_of key place ≡ true) pool.places → ⊥
    held (k, place, less, there, is) = never k place less there is

    step : (b : Bool) → has_place key pool ≡ b → b ≡ false
    step true f = absurd (held (Any-from_list_any (is_of key) pool.places f))
    step false f = refl

-- and its datagram leaves its place
pub leaves : (n octets : ℕ) (events : List Event) (now : Moment) (d : Datagram) → octets < end_of d
    → has_place (key_of d) (after_take now d (after_events n octets events)) ≡ false
leaves n octets events now d long = step (goes now d pool (λ key. gathered n octets key events) (sound n octets events))
  where
    pool : PoolView
    pool = after_events n octets events

    past : ends_within pool.octets d ≡ false
    past = ap (λ room. ends_within room d) (octets_after n octets events) ∙ past_from octets d long

    step : GoesOn now d pool (gathered n octets (key_of d) events) ⊎ HasNone d pool → has_place (key_of d) (after_take now d pool) ≡ false
    step (inl g) =
        let gone : (after_take now d pool).places ≡ set pool.places g.i None =
        ap (after_take_at now d pool) g.found ∙ ap (λ o. set pool.places g.i (left o)) (too_long pool.octets d (continued now d (at pool.places g.i)) past) in
        none_with (key_of d) (after_take now d pool)
        (λ j b e same. (elim (old_or_next pool.places g.i None j b g.room (ap (λ places. at places j) (sym gone) ∙ e)) [
          | inl next ↦ let none : None ≡ Some b = next.1 in cc
          | inr old ↦ old.0 (g.alone j b old.1 same)
        ]))
    step (inr unfound) =
        let same : (after_take now d pool).places ≡ pool.places = ap (after_take_at now d pool) unfound.found in
        none_with (key_of d) (after_take now d pool) (λ j b e alike. unfound.alone j b (ap (λ places. at places j) (sym same) ∙ e) alike)

-- where they are parts of one payload
pub right_for : (n octets : ℕ) (events : List Event) (now : Moment) (d : Datagram) (taken : Assembled) (payload : List ℕ) → end_of d ≤ octets
    → AnswersTake now d (after_events n octets events) taken → ArePartsOf payload (gathered n octets (key_of d) events ++ d ∷ []) → IsRightFor payload taken
right_for n octets events now d taken payload short h parts = step taken (answered n octets events now d taken short h)
  where
    step : (t : Assembled) → IsRight (gathered n octets (key_of d) events ++ d ∷ []) t → IsRightFor payload t
    step (Whole whole) k = made payload whole.octets.now (gathered n octets (key_of d) events ++ d ∷ []) parts k.0
    step Waiting k = tt
    step (Dropped GivenUp) k = let both : true ≡ false = sym k ∙ agree payload (gathered n octets (key_of d) events ++ d ∷ []) parts in cc
    step (Dropped NoRoom) k = tt

pub whole_for : (n octets : ℕ) (events : List Event) (now : Moment) (d : Datagram) (taken : Assembled) (payload : List ℕ)
    → AnswersTake now d (after_events n octets events) taken → ArePartsOf payload (gathered n octets (key_of d) events ++ d ∷ [])
    → CoverAll payload (gathered n octets (key_of d) events ++ d ∷ []) → taken ≢ Waiting
whole_for n octets events now d taken payload h parts all waits = by_room (ends_within octets d) refl
  where
    by_room : (fit : Bool) → ends_within octets d ≡ fit → ⊥
    by_room true e =
        subst (IsRight (gathered n octets (key_of d) events ++ d ∷ [])) waits (answered n octets events now d taken (end_is_within octets d e) h) payload
        (enough payload (gathered n octets (key_of d) events ++ d ∷ []) parts all)
    by_room false e =
        let gone = refused_at now d (after_events n octets events) taken (ap (λ room. ends_within room d) (octets_after n octets events) ∙ e) h in
        let both : Waiting ≡ Dropped (cond (has_place (key_of d) (after_events n octets events)) GivenUp NoRoom) = sym waits ∙ gone in
        cc
