-- Places with room for so many octets.
use Rattle.std.proofs.Common.{◌≡◌, ◌≢◌, ◌⊎◌, ◌↔◌, ℕ, ◌<◌, ◌≤◌, ◌&&◌, Bool, true, false, nat_le, nat_lt, cond, List, [], ◌∷◌, ◌++◌, length, take, fold, Option, Some, None, unwrap_or, inl, inr, refl, sym, ◌∙◌, ap, subst, arith}
use Rattle.std.proofs.lemmas.Bool.Decides.{nat_tests}
use Rattle.std.proofs.lemmas.List.{length-map, length-take-le, set_past}
use Rattle.clock.specs.declared.moment.Moment.{Moment}
use Rattle.ipv4.specs.Datagram.{Datagram, IsDatagram}
use Rattle.ipv4.specs.declared.limits.TheConstants.{MAX_PAYLOAD}
use Rattle.reassembly.specs.declared.assembled.Loss.TheVariants.{NoRoom, GivenUp}
use Rattle.reassembly.specs.declared.assembled.Assembled.{Assembled}
use Rattle.reassembly.specs.declared.assembled.Assembled.TheVariants.{Waiting, Whole, Dropped}
use Rattle.reassembly.specs.Events.{Event, after_event, after_events, LendsWithin}
use Rattle.reassembly.specs.Events.Event.{Takes, Ages, GivesWay}
use Rattle.reassembly.specs.Fragments.{begin_of, end_of, ends_within, latest_quote, is_contradictory, IsPayload}
use Rattle.reassembly.specs.Octets.{whole_of, filled, is_covered}
use Rattle.reassembly.specs.Parts.{ArePartsOf, CoverAll}
use Rattle.reassembly.specs.Places.{place_for, after_take_at, oldest, AnswersAt, AnswersTake}
use Rattle.reassembly.specs.Reassembly.{Reassembly, Outcome, PoolView, begun, new_pool, after_fragments, with_fragment, conflicts, continued, outcome, outcome_within, left, Answers, quoted}
use Rattle.reassembly.specs.Reassembly.Outcome.{Waits, Completes, GivesUp}
use Rattle.reassembly.proofs.Alone.{completes_so, alone_is_whole}
use Rattle.reassembly.proofs.Contradictions.{given_up}
use Rattle.reassembly.proofs.OneMore.{gives_up, completes, waits}
use Rattle.reassembly.proofs.Outcomes.{end_is_within, fits_in, length-laid, outcome_completes, outcome_given_up, outcome_waits, past_from, too_long, within_from}
use Rattle.reassembly.proofs.OverEvents.{at, aged, none_there, octets_after, old_or_next, same_gone}
use Rattle.reassembly.proofs.PartsAgree.{kept, right, whole}

-- the largest places have room for every fragment
pub largest : (d : Datagram) → IsDatagram d → ends_within MAX_PAYLOAD d ≡ true
largest d h = within_from MAX_PAYLOAD d h.place.reach

past_is : (octets : ℕ) (d : Datagram) → ends_within octets d ≡ false → octets < end_of d
past_is octets d h = grind (arith, nat_tests, h)

-- a datagram that is whole is so by its fragments
pub completes_in : (room : ℕ) (d : Datagram) (r : Reassembly) (payload quote : List ℕ) → outcome_within room d r ≡ Completes payload quote
    → outcome d r ≡ Completes payload quote
completes_in room d r payload quote = by_room (ends_within room d)
  where
    by_room : (fit : Bool) → cond fit (outcome d r) GivesUp ≡ Completes payload quote → outcome d r ≡ Completes payload quote
    by_room true h = h
    by_room false h = cc

pub alone_within : (room : ℕ) (now : Moment) (d : Datagram) (payload quote : List ℕ) → outcome_within room d (begun now d) ≡ Completes payload quote
    → (d.more_fragments ≡ false) × (d.offset ≡ 0)
alone_within room now d payload quote h = alone_is_whole now d payload quote (completes_in room d (begun now d) payload quote h)

-- one fragment more
pub past_room : (room : ℕ) (now : Moment) (first : Datagram) (fragments : List Datagram) (d : Datagram) → room < end_of d
    → outcome_within room d (after_fragments (begun now first) fragments) ≡ GivesUp
past_room room now first fragments d h = too_long room d (after_fragments (begun now first) fragments) (past_from room d h)

pub contrary : (room : ℕ) (now : Moment) (first : Datagram) (fragments : List Datagram) (d : Datagram) → is_contradictory fragments ≡ false
    → is_contradictory (fragments ++ d ∷ []) ≡ true → outcome_within room d (after_fragments (begun now first) fragments) ≡ GivesUp
contrary room now first fragments d h against = by_room (ends_within room d)
  where
    by_room : (fit : Bool) → cond fit (outcome d (after_fragments (begun now first) fragments)) GivesUp ≡ GivesUp
    by_room true = gives_up now first fragments d h against
    by_room false = refl

pub completes_within : (room : ℕ) (now : Moment) (first : Datagram) (fragments : List Datagram) (d : Datagram) (payload quote : List ℕ) → end_of d ≤ room
    → is_contradictory fragments ≡ false → is_contradictory (fragments ++ d ∷ []) ≡ false → IsPayload (fragments ++ d ∷ []) payload
    → latest_quote (fragments ++ d ∷ []) ≡ Some quote → outcome_within room d (after_fragments (begun now first) fragments) ≡ Completes payload quote
completes_within room now first fragments d payload quote short h agree p q =
    fits_in room d (after_fragments (begun now first) fragments) (within_from room d short) ∙ completes now first fragments d payload quote h agree p q

pub waits_within : (room : ℕ) (now : Moment) (first : Datagram) (fragments : List Datagram) (d : Datagram) → end_of d ≤ room → is_contradictory fragments ≡ false
    → is_contradictory (fragments ++ d ∷ []) ≡ false → ((payload : List ℕ) → IsPayload (fragments ++ d ∷ []) payload → ⊥)
    → outcome_within room d (after_fragments (begun now first) fragments) ≡ Waits (after_fragments (begun now first) (fragments ++ d ∷ []))
waits_within room now first fragments d short h agree none =
    fits_in room d (after_fragments (begun now first) fragments) (within_from room d short) ∙ waits now first fragments d h agree none

-- a datagram is given up exactly where the fragment is too long or contradicts
conflict_from : (d : Datagram) (r : Reassembly) → outcome d r ≡ GivesUp → conflicts d r.end (length r.octets) ≡ true
conflict_from d r h = by_conflict (conflicts d r.end (length r.octets)) refl
  where
    by_whole : (found : Option (List ℕ)) → conflicts d r.end (length r.octets) ≡ false → whole_of (with_fragment r d).end (with_fragment r d).octets ≡ found
        → conflicts d r.end (length r.octets) ≡ true
    by_whole None e f = let other : Waits (with_fragment r d) ≡ GivesUp = sym (outcome_waits d r e f) ∙ h in cc
    by_whole (Some payload) e f =
        let other : Completes payload (quoted (with_fragment r d).quote) ≡ GivesUp = sym (outcome_completes d r payload e f) ∙ h in cc

    by_conflict : (b : Bool) → conflicts d r.end (length r.octets) ≡ b → conflicts d r.end (length r.octets) ≡ true
    by_conflict true e = e
    by_conflict false e = by_whole (whole_of (with_fragment r d).end (with_fragment r d).octets) e refl

pub given_up_where : (room : ℕ) (now : Moment) (first : Datagram) (fragments : List Datagram) (d : Datagram) → is_contradictory fragments ≡ false
    → (outcome_within room d (after_fragments (begun now first) fragments) ≡ GivesUp) ↔ ((room < end_of d) ⊎ (is_contradictory (fragments ++ d ∷ []) ≡ true))
given_up_where room now first fragments d h = (
  λ gone. by_room (ends_within room d) refl gone,
  λ either. of_either either,
)
  where
    before : Reassembly
    before = after_fragments (begun now first) fragments

    by_room : (fit : Bool) → ends_within room d ≡ fit → outcome_within room d before ≡ GivesUp → (room < end_of d) ⊎ (is_contradictory (fragments ++ d ∷ []) ≡ true)
    by_room true e gone =
        inr (sym (given_up now first fragments d h) ∙ conflict_from d before (sym (fits_in room d before e) ∙ gone))
    by_room false e gone = inl (past_is room d e)

    of_either : (room < end_of d) ⊎ (is_contradictory (fragments ++ d ∷ []) ≡ true) → outcome_within room d before ≡ GivesUp
    of_either (inl long) = past_room room now first fragments d long
    of_either (inr against) = contrary room now first fragments d h against

-- parts of one payload
pub kept_within : (room : ℕ) (now : Moment) (first : Datagram) (fragments : List Datagram) (d : Datagram) (payload : List ℕ) → end_of d ≤ room
    → ArePartsOf payload (fragments ++ d ∷ []) → outcome_within room d (after_fragments (begun now first) fragments) ≢ GivesUp
kept_within room now first fragments d payload short h gone =
    kept now first fragments d payload h (sym (fits_in room d (after_fragments (begun now first) fragments) (within_from room d short)) ∙ gone)

pub right_within : (room : ℕ) (now : Moment) (first : Datagram) (fragments : List Datagram) (d : Datagram) (payload octets quote : List ℕ)
    → ArePartsOf payload (fragments ++ d ∷ []) → outcome_within room d (after_fragments (begun now first) fragments) ≡ Completes octets quote → octets ≡ payload
right_within room now first fragments d payload octets quote h is =
    right now first fragments d payload octets quote h (completes_in room d (after_fragments (begun now first) fragments) octets quote is)

pub whole_within : (room : ℕ) (now : Moment) (first : Datagram) (fragments : List Datagram) (d : Datagram) (payload quote : List ℕ) → end_of d ≤ room
    → ArePartsOf payload (fragments ++ d ∷ []) → CoverAll payload (fragments ++ d ∷ []) → latest_quote (fragments ++ d ∷ []) ≡ Some quote
    → outcome_within room d (after_fragments (begun now first) fragments) ≡ Completes payload quote
whole_within room now first fragments d payload quote short h c q =
    fits_in room d (after_fragments (begun now first) fragments) (within_from room d short) ∙ whole now first fragments d payload quote h c q

-- no octet stands past the room
abbrev pub AreShort : PoolView → Type 0
AreShort pool = (i : ℕ) (r : Reassembly) → at pool.places i ≡ Some r → length r.octets ≤ pool.octets

short_next : (room : ℕ) (d : Datagram) (r : Reassembly) → length r.octets ≤ room → ends_within room d ≡ true → length (with_fragment r d).octets ≤ room
short_next room d r h fit = length-laid (begin_of d) d.payload r.octets room (end_is_within room d fit) h

left_short : (room : ℕ) (d : Datagram) (r a : Reassembly) → length r.octets ≤ room → left (outcome_within room d r) ≡ Some a → length a.octets ≤ room
left_short room d r a h = by_room (ends_within room d) refl
  where
    by_whole : (found : Option (List ℕ)) → ends_within room d ≡ true → conflicts d r.end (length r.octets) ≡ false
        → whole_of (with_fragment r d).end (with_fragment r d).octets ≡ found → left (outcome d r) ≡ Some a → length a.octets ≤ room
    by_whole None fit e f g =
        let same : with_fragment r d ≡ a = (let some : Some (with_fragment r d) ≡ Some a = sym (ap left (outcome_waits d r e f)) ∙ g in cc) in
        subst (λ (z : Reassembly). length z.octets ≤ room) same (short_next room d r h fit)
    by_whole (Some payload) fit e f g = let none : None ≡ Some a = sym (ap left (outcome_completes d r payload e f)) ∙ g in cc

    by_conflict : (b : Bool) → ends_within room d ≡ true → conflicts d r.end (length r.octets) ≡ b → left (outcome d r) ≡ Some a → length a.octets ≤ room
    by_conflict true fit e g = let none : None ≡ Some a = sym (ap left (outcome_given_up d r e)) ∙ g in cc
    by_conflict false fit e g = by_whole (whole_of (with_fragment r d).end (with_fragment r d).octets) fit e refl g

    by_room : (fit : Bool) → ends_within room d ≡ fit → left (cond fit (outcome d r) GivesUp) ≡ Some a → length a.octets ≤ room
    by_room true e g = by_conflict (conflicts d r.end (length r.octets)) e refl g
    by_room false e g = cc

continued_short : (room : ℕ) (now : Moment) (d : Datagram) (place : Option Reassembly) → ((r : Reassembly) → place ≡ Some r → length r.octets ≤ room)
    → length (continued now d place).octets ≤ room
continued_short room now d None h = omega arith
continued_short room now d (Some r) h = h r refl

short_take : (now : Moment) (d : Datagram) (pool : PoolView) (found : Option ℕ) → AreShort pool → (j : ℕ) (a : Reassembly)
    → at (after_take_at now d pool found) j ≡ Some a → length a.octets ≤ pool.octets
short_take now d pool None s j a e = s j a e
short_take now d pool (Some i) s j a e = by_room (nat_lt i (length pool.places)) refl
  where
    next : Option Reassembly
    next = left (outcome_within pool.octets d (continued now d (at pool.places i)))

    by_room : (b : Bool) → nat_lt i (length pool.places) ≡ b → length a.octets ≤ pool.octets
    by_room true f =
        let room : i < length pool.places = grind (arith, nat_tests, f) in
        elim (old_or_next pool.places i next j a room e) [
          | inl here ↦ left_short pool.octets d (continued now d (at pool.places i)) a (continued_short pool.octets now d (at pool.places i) (s i)) here.1
          | inr old ↦ s j a old.1
        ]
    by_room false f =
        let past : length pool.places ≤ i = grind (arith, nat_tests, f) in
        s j a (ap (λ ps. at ps j) (sym (set_past pool.places i next past)) ∙ e)

pub short_event : (event : Event) (pool : PoolView) → AreShort pool → AreShort (after_event pool event)
short_event (Takes now d) pool s j a e = short_take now d pool (place_for d pool) s j a e
short_event (Ages now) pool s j a e = s j a (aged now pool.places j a e)
short_event GivesWay pool s j a e = s j a (same_gone pool.places (oldest pool.places) j a e)

short_from : (events : List Event) (pool : PoolView) → AreShort pool → AreShort (fold after_event pool events)
short_from [] pool s = s
short_from (event ∷ events) pool s = short_from events (after_event pool event) (short_event event pool s)

-- none is put together yet
pub none_short : (n octets : ℕ) → AreShort (new_pool n octets)
none_short n octets i r e = absurd (none_there n i r e)

pub short : (n octets : ℕ) (events : List Event) → AreShort (after_events n octets events)
short n octets events = short_from events (new_pool n octets) (none_short n octets)

-- so what is lent has no more octets
both_true : (a b : Bool) → (a && b) ≡ true → a ≡ true
both_true true b h = refl
both_true false b h = cc

whole_length : (end : Option ℕ) (octets : List (Option ℕ)) (payload : List ℕ) → whole_of end octets ≡ Some payload → length payload ≤ length octets
unfolding whole_of
whole_length None octets payload h = cc
whole_length (Some end) octets payload h = by_test (nat_le end (length octets) && is_covered (take end octets)) refl h
  where
    by_test : (b : Bool) → (nat_le end (length octets) && is_covered (take end octets)) ≡ b → cond b (Some (filled (take end octets))) None ≡ Some payload
        → length payload ≤ length octets
    by_test true e f =
        let same : filled (take end octets) ≡ payload = cc in
        let there : end ≤ length octets = grind (arith, nat_tests, both_true (nat_le end (length octets)) (is_covered (take end octets)) e) in
        let long : length (filled (take end octets)) ≡ end = length-map (take end octets) (λ octet. unwrap_or octet 0) ∙ length-take-le end octets there in
        omega (arith, there, long, ap (λ l. length l) same)
    by_test false e f = cc

payload_short : (room : ℕ) (d : Datagram) (r : Reassembly) (payload quote : List ℕ) → length r.octets ≤ room → outcome_within room d r ≡ Completes payload quote
    → length payload ≤ room
payload_short room d r payload quote h e = by_room (ends_within room d) refl
  where
    by_room : (fit : Bool) → ends_within room d ≡ fit → length payload ≤ room
    by_room true fit =
        let made = completes_so d r payload quote (completes_in room d r payload quote e) in
        omega (arith, whole_length (with_fragment r d).end (with_fragment r d).octets payload made, short_next room d r h fit)
    by_room false fit = let gone : GivesUp ≡ Completes payload quote = sym (too_long room d r fit) ∙ e in cc

lent_short : (room : ℕ) (d : Datagram) (r : Reassembly) (taken : Assembled) → length r.octets ≤ room → (o : Outcome) → outcome_within room d r ≡ o → Answers o taken
    → LendsWithin room taken
lent_short room d r (Whole whole) h (Completes payload quote) e k =
    subst (λ (l : List ℕ). length l ≤ room) (sym k.0) (payload_short room d r payload quote h e)
lent_short room d r (Whole whole) h (Waits s) e k = let other : Whole whole ≡ Waiting = k in cc
lent_short room d r (Whole whole) h GivesUp e k = let other : Whole whole ≡ Dropped GivenUp = k in cc
lent_short room d r Waiting h o e k = tt
lent_short room d r (Dropped loss) h o e k = tt

lent_at : (now : Moment) (d : Datagram) (pool : PoolView) (found : Option ℕ) (taken : Assembled) → AreShort pool → AnswersAt now d pool found taken
    → LendsWithin pool.octets taken
lent_at now d pool None (Whole whole) s h = let other : Whole whole ≡ Dropped NoRoom = h in cc
lent_at now d pool None Waiting s h = tt
lent_at now d pool None (Dropped loss) s h = tt
lent_at now d pool (Some i) taken s h =
    lent_short pool.octets d (continued now d (at pool.places i)) taken (continued_short pool.octets now d (at pool.places i) (s i))
    (outcome_within pool.octets d (continued now d (at pool.places i))) refl h

pub lent : (n octets : ℕ) (events : List Event) (now : Moment) (d : Datagram) (taken : Assembled) → AnswersTake now d (after_events n octets events) taken
    → LendsWithin octets taken
lent n octets events now d taken h =
    subst (λ room. LendsWithin room taken) (octets_after n octets events)
    (lent_at now d (after_events n octets events) (place_for d (after_events n octets events)) taken (short n octets events) h)
