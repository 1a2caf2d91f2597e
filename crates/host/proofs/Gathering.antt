-- What is being put together came in fragments of which each passes a test of its own, such as that it was delivered.
use Rattle.std.proofs.Common.{◌≡◌, ℕ, zero, suc, ◌==◌, ◌&&◌, Bool, true, false, cond, List, [], ◌∷◌, ◌++◌, find, get_or, length, reverse, replicate, Option, Some, None, is_none, is_some, option_map, slice_set, refl, sym, ◌∙◌, ap, subst}
use Rattle.std.specs.Prelude.{map}
use Rattle.std.specs.List.{AllByRecursion, cons_option, filter_map, position}
use Rattle.std.specs.Option.{option_map_or, option_or}
use Rattle.std.proofs.lemmas.Bool.{eqb-true}
use Rattle.std.proofs.lemmas.List.{reverse-append}
use Rattle.std.proofs.lemmas.List.Quantifiers.{position-Some}
use Rattle.ipv4.specs.declared.addr.Addr.{Addr}
use Rattle.ipv4.specs.Datagram.{Datagram}
use Rattle.clock.specs.declared.moment.Moment.{Moment}
use Rattle.reassembly.specs.declared.expired.Expired.{Expired}
use Rattle.reassembly.specs.declared.key.Key.{Key}
use Rattle.reassembly.specs.Fragments.{ends_within, key_of, latest_quote, quote_of}
use Rattle.reassembly.specs.Octets.{whole_of}
use Rattle.reassembly.specs.Places.{after_take, after_take_at, after_time, expired_of, fits, is_of, is_over, oldest, outcome_at, place_for, without, without_oldest}
use Rattle.reassembly.specs.Reassembly.{Outcome, PoolView, Reassembly, outcome_within, after_fragments, begun, conflicts, continued, left, outcome, quoted, with_fragment}
use Rattle.reassembly.specs.Reassembly.Outcome.{Waits, Completes, GivesUp}
use Rattle.reassembly.proofs.Found.{wholes_are_quoted}
use Rattle.reassembly.proofs.OneMore.{after_one_more}
use Rattle.reassembly.proofs.OverEvents.{same_key_is}
use Rattle.reassembly.proofs.Quotes.{quoted as quoted_of}
use Rattle.reassembly.proofs.Together.{whole_is_payload}
use Rattle.host.specs.Arrival.{pool_for}

-- Lists of which each element is sound.

all-behind : {X : Type 0} (P : X → Type 0) (xs : List X) (x : X) → AllByRecursion P xs → P x → AllByRecursion P (xs ++ x ∷ [])
all-behind P [] x all last = (last, tt)
all-behind P (y ∷ ys) x all last = (all.0, all-behind P ys x all.1 last)

all-reversed : {X : Type 0} (P : X → Type 0) (xs : List X) → AllByRecursion P xs → AllByRecursion P (reverse xs)
all-reversed P [] all = tt
all-reversed P (x ∷ xs) all = subst (AllByRecursion P) (sym (reverse-append (x ∷ []) xs)) (all-behind P (reverse xs) x (all-reversed P xs all.1) all.0)

all-found : {X : Type 0} (P : X → Type 0) (p : X → Bool) (xs : List X) (x : X) → AllByRecursion P xs → find p xs ≡ Some x → P x × (p x ≡ true)
all-found P p [] x all e = cc
all-found {X} P p (y ∷ ys) x all e = by_test (p y) refl (all-found P p ys x all.1) e
  where
    by_test : (b : Bool) → p y ≡ b → (find p ys ≡ Some x → P x × (p x ≡ true)) → cond b (Some y) (find p ys) ≡ Some x → P x × (p x ≡ true)
    by_test true is further e = let same : y ≡ x = cc in (subst P same all.0, ap p (sym same) ∙ is)
    by_test false is further e = further e

all-set : {X : Type 0} (P : X → Type 0) (xs : List X) (i : ℕ) (x : X) → AllByRecursion P xs → P x → AllByRecursion P (slice_set xs i x)
all-set P [] i x all new = tt
all-set P (y ∷ ys) zero x all new = (new, all.1)
all-set P (y ∷ ys) (suc i) x all new = (all.0, all-set P ys i x all.1 new)

all-read : {X : Type 0} (P : X → Type 0) (xs : List X) (i : ℕ) (d : X) → AllByRecursion P xs → P d → P (get_or xs i d)
all-read P [] i d all other = other
all-read P (x ∷ xs) zero d all other = all.0
all-read P (x ∷ xs) (suc i) d all other = all-read P xs i d all.1 other

-- What is put together.

-- a fragment from here
pub record IsFrom (P : Datagram → Type 0) (source : Addr) (d : Datagram) : Type 0 where
  pub passes : P d
  pub from : d.source ≡ source

pub record IsGathered (P : Datagram → Type 0) (r : Reassembly) : Type 0 where
  pub first : Datagram
  pub since : Moment
  pub fragments : List Datagram
  pub is : r ≡ after_fragments (begun since first) fragments
  pub each : AllByRecursion (IsFrom P r.key.source) fragments

abbrev pub IsGatheredAt : (Datagram → Type 0) → Option Reassembly → Type 0
IsGatheredAt P None = Unit {0}
IsGatheredAt P (Some r) = IsGathered P r

abbrev pub AreGathered : (Datagram → Type 0) → List (Option Reassembly) → Type 0
AreGathered P places = AllByRecursion (IsGatheredAt P) places

-- what is quoted is of a fragment zero among them
pub record IsQuoted (P : Datagram → Type 0) (source : Addr) (quote : List ℕ) : Type 0 where
  pub zero_fragment : Datagram
  pub passes : P zero_fragment
  pub from : zero_fragment.source ≡ source
  pub begins : zero_fragment.offset ≡ 0
  pub is : quote ≡ quote_of zero_fragment

quoted-zero : (P : Datagram → Type 0) (source : Addr) (fragments : List Datagram) (quote : List ℕ) → AllByRecursion (IsFrom P source) fragments → latest_quote fragments ≡ Some quote → IsQuoted P source quote
quoted-zero P source fragments quote each e = by_first (find (λ (d : Datagram). d.offset == 0) (reverse fragments)) refl e
  where
    by_first : (o : Option Datagram) → find (λ (d : Datagram). d.offset == 0) (reverse fragments) ≡ o → option_map quote_of o ≡ Some quote → IsQuoted P source quote
    by_first None found e = cc
    by_first (Some d) found e =
        let two = all-found (IsFrom P source) (λ (x : Datagram). x.offset == 0) (reverse fragments) d (all-reversed (IsFrom P source) fragments each) found in
        let same : quote_of d ≡ quote = cc in
        let from = two.0 in
        record { zero_fragment = d; passes = from.passes; from = from.from; begins = eqb-true d.offset 0 two.1; is = sym same }

pub gathered-quote : (P : Datagram → Type 0) (r : Reassembly) (quote : List ℕ) → IsGathered P r → r.quote ≡ Some quote → IsQuoted P r.key.source quote
gathered-quote P r quote g e =
    quoted-zero P r.key.source g.fragments quote g.each (sym (ap (λ (x : Reassembly). x.quote) g.is ∙ quoted_of g.since g.first g.fragments) ∙ e)

-- One fragment more.

-- what comes of it
abbrev IsNext : Datagram → Reassembly → Outcome → Type 0
IsNext d r (Waits next) = next ≡ with_fragment r d
IsNext d r (Completes payload quote) = (whole_of (with_fragment r d).end (with_fragment r d).octets ≡ Some payload) × (quote ≡ quoted (with_fragment r d).quote)
IsNext d r GivesUp = Unit {0}

is-next : (d : Datagram) (r : Reassembly) → IsNext d r (outcome d r)
unfolding outcome
is-next d r = by_conflict (conflicts d r.end (length r.octets))
  where
    next : Reassembly
    next = with_fragment r d

    by_whole : (o : Option (List ℕ)) → whole_of next.end next.octets ≡ o → IsNext d r (option_map_or (λ payload. Completes payload (quoted next.quote)) o (Waits next))
    by_whole None e = refl
    by_whole (Some payload) e = (e, refl)

    by_conflict : (b : Bool) → IsNext d r (cond b GivesUp (option_map_or (λ payload. Completes payload (quoted next.quote)) (whole_of next.end next.octets) (Waits next)))
    by_conflict true = tt
    by_conflict false = by_whole (whole_of next.end next.octets) refl

-- with it, the fragments are these
with-one-more : (P : Datagram → Type 0) (d : Datagram) (r : Reassembly) → P d → d.source ≡ r.key.source → IsGathered P r → IsGathered P (with_fragment r d)
with-one-more P d r passes from g = record {
  first = g.first;
  since = g.since;
  fragments = g.fragments ++ d ∷ [];
  is = ap (λ (x : Reassembly). with_fragment x d) g.is ∙ sym (after_one_more (begun g.since g.first) g.fragments d);
  each = all-behind (IsFrom P r.key.source) g.fragments d g.each (record { passes = passes; from = from });
}

abbrev pub IsLeft : (Datagram → Type 0) → Addr → Outcome → Type 0
IsLeft P source (Waits next) = IsGathered P next
IsLeft P source (Completes payload quote) = IsQuoted P source quote
IsLeft P source GivesUp = Unit {0}

left-so : (P : Datagram → Type 0) (d : Datagram) (r : Reassembly) → P d → d.source ≡ r.key.source → IsGathered P r → (o : Outcome) → IsNext d r o → IsLeft P d.source o
unfolding with-one-more
left-so P d r passes from g (Waits next) is = subst (IsGathered P) (sym is) (with-one-more P d r passes from g)
left-so P d r passes from g GivesUp is = tt
left-so P d r passes from g (Completes payload quote) is =
    let next : IsGathered P (with_fragment r d) = with-one-more P d r passes from g in
    let all : Reassembly = after_fragments (begun next.since next.first) next.fragments in
    let whole : whole_of all.end all.octets ≡ Some payload = ap (λ (x : Reassembly). whole_of x.end x.octets) (sym next.is) ∙ is.0 in
    let there = wholes_are_quoted next.fragments payload (whole_is_payload next.since next.first next.fragments payload whole) in
    by_quote (latest_quote next.fragments) refl there (is.1 ∙ ap (λ (x : Reassembly). quoted x.quote) next.is ∙ ap (λ (o : Option (List ℕ)). quoted o) (quoted_of next.since next.first next.fragments))
  where
    by_quote : (o : Option (List ℕ)) → latest_quote (g.fragments ++ d ∷ []) ≡ o → is_some o ≡ true → quote ≡ quoted o → IsQuoted P d.source quote
    by_quote None e there same = cc
    by_quote (Some q) e there same =
        let each = all-behind (IsFrom P r.key.source) g.fragments d g.each (record { passes = passes; from = from }) in
        subst (λ (a : Addr). IsQuoted P a quote) (sym from) (quoted-zero P r.key.source (g.fragments ++ d ∷ []) quote each (e ∙ ap Some (sym same)))

-- its place has its key, or is free
pub place-is : (d : Datagram) (pool : PoolView) (i : ℕ) → place_for d pool ≡ Some i → (r : Reassembly) → get_or pool.places i None ≡ Some r → r.key ≡ key_of d
place-is d pool i e r at = by_own (position (is_of (key_of d)) places) (ends_within pool.octets d) refl e
  where
    places : List (Option Reassembly)
    places = pool.places

    by_own : (o : Option ℕ) (room : Bool) → position (is_of (key_of d)) places ≡ o → option_or o (cond room (position is_none places) None) ≡ Some i → r.key ≡ key_of d
    by_own None true found e =
        let none = position-Some is_none places i None e in
        let no : is_none (Some r) ≡ true = ap is_none (sym at) ∙ none.1 in cc
    by_own None false found e = cc
    by_own (Some j) room found e =
        let same : j ≡ i = cc in
        let own = position-Some (is_of (key_of d)) places i None (found ∙ e) in
        same_key_is r.key (key_of d) (ap (is_of (key_of d)) (sym at) ∙ own.1)

-- one that reaches past the room gives its datagram up
left-within : (P : Datagram → Type 0) (source : Addr) (o : Outcome) (room : Bool) → IsLeft P source o → IsLeft P source (cond room o GivesUp)
left-within P source o true is = is
left-within P source o false is = tt

pub outcome-left : (P : Datagram → Type 0) (now : Moment) (d : Datagram) (pool : PoolView) (i : ℕ) → P d → AreGathered P pool.places → place_for d pool ≡ Some i → IsLeft P d.source (outcome_at now d pool i)
outcome-left P now d pool i passes all e = by_place (get_or pool.places i None) refl
  where
    at : IsGatheredAt P (get_or pool.places i None)
    at = all-read (IsGatheredAt P) pool.places i None all tt

    by_place : (o : Option Reassembly) → get_or pool.places i None ≡ o → IsLeft P d.source (outcome_within pool.octets d (continued now d o))
    by_place None is =
        left-within P d.source (outcome d (begun now d)) (ends_within pool.octets d)
        (left-so P d (begun now d) passes refl (record { first = d; since = now; fragments = []; is = refl; each = tt }) (outcome d (begun now d)) (is-next d (begun now d)))
    by_place (Some r) is =
        left-within P d.source (outcome d r) (ends_within pool.octets d)
        (left-so P d r passes (ap (λ (k : Key). k.source) (sym (place-is d pool i e r is))) (subst (IsGatheredAt P) is at) (outcome d r) (is-next d r))

-- The pool.

left-at : (P : Datagram → Type 0) (source : Addr) (o : Outcome) → IsLeft P source o → IsGatheredAt P (left o)
left-at P source (Waits r) is = is
left-at P source (Completes payload quote) is = tt
left-at P source GivesUp is = tt

pub after-taking : (P : Datagram → Type 0) (now : Moment) (d : Datagram) (pool : PoolView) → P d → AreGathered P pool.places → AreGathered P (after_take now d pool).places
after-taking P now d pool passes all = by_place (place_for d pool) refl
  where
    by_place : (o : Option ℕ) → place_for d pool ≡ o → AreGathered P (after_take_at now d pool o)
    by_place None e = all
    by_place (Some i) e = all-set (IsGatheredAt P) pool.places i (left (outcome_at now d pool i)) all (left-at P d.source (outcome_at now d pool i) (outcome-left P now d pool i passes all e))

-- the oldest gives way
after-going : (P : Datagram → Type 0) (places : List (Option Reassembly)) (o : Option ℕ) → AreGathered P places → AreGathered P (without o places)
after-going P places None all = all
after-going P places (Some i) all = all-set (IsGatheredAt P) places i None all tt

pub made-room : (P : Datagram → Type 0) (guards : Bool) (d : Datagram) (pool : PoolView) → AreGathered P pool.places → AreGathered P (pool_for guards d pool).places
made-room P guards d pool all = by_test (guards && fits pool d && is_none (place_for d pool))
  where
    by_test : (b : Bool) → AreGathered P (let left = cond b (without_oldest pool) pool in left.places)
    by_test true = after-going P pool.places (oldest pool.places) all
    by_test false = all

pub after-ageing : (P : Datagram → Type 0) (now : Moment) (places : List (Option Reassembly)) → AreGathered P places → AreGathered P (map (after_time now) places)
after-ageing P now [] all = tt
after-ageing P now (place ∷ places) all = (by_place place all.0, after-ageing P now places all.1)
  where
    by_test : (b : Bool) (r : Reassembly) → IsGathered P r → IsGatheredAt P (cond b None (Some r))
    by_test true r g = tt
    by_test false r g = g

    by_place : (o : Option Reassembly) → IsGatheredAt P o → IsGatheredAt P (after_time now o)
    by_place None g = tt
    by_place (Some r) g = by_test (is_over now r) r g

-- what is told of those whose time ran out
abbrev pub IsExpired : (Datagram → Type 0) → Expired → Type 0
IsExpired P expired = IsQuoted P expired.key.source expired.quote

pub expired-quoted : (P : Datagram → Type 0) (now : Moment) (places : List (Option Reassembly)) → AreGathered P places → AllByRecursion (IsExpired P) (filter_map (expired_of now) places)
expired-quoted P now [] all = tt
expired-quoted P now (place ∷ places) all = by_place place all.0 (expired-quoted P now places all.1)
  where
    by_quote : (r : Reassembly) → IsGathered P r → AllByRecursion (IsExpired P) (filter_map (expired_of now) places) → (o : Option (List ℕ)) → r.quote ≡ o
        → AllByRecursion (IsExpired P) (cons_option (option_map (λ quote. record { key = r.key; quote = quote }) o) (filter_map (expired_of now) places))
    by_quote r g rest None e = rest
    by_quote r g rest (Some quote) e = (gathered-quote P r quote g e, rest)

    by_test : (b : Bool) (r : Reassembly) → IsGathered P r → AllByRecursion (IsExpired P) (filter_map (expired_of now) places)
        → AllByRecursion (IsExpired P) (cons_option (cond b (option_map (λ quote. record { key = r.key; quote = quote }) r.quote) None) (filter_map (expired_of now) places))
    by_test true r g rest = by_quote r g rest r.quote refl
    by_test false r g rest = rest

    by_place : (o : Option Reassembly) → IsGatheredAt P o → AllByRecursion (IsExpired P) (filter_map (expired_of now) places) → AllByRecursion (IsExpired P) (cons_option (expired_of now o) (filter_map (expired_of now) places))
    by_place None g rest = rest
    by_place (Some r) g rest = by_test (is_over now r) r g rest

pub none-gathered : (P : Datagram → Type 0) (n : ℕ) → AreGathered P (replicate n None)
none-gathered P zero = tt
none-gathered P (suc n) = (tt, none-gathered P n)

pub gathered-more : (P Q : Datagram → Type 0) → ((d : Datagram) → P d → Q d) → (places : List (Option Reassembly)) → AreGathered P places → AreGathered Q places
gathered-more P Q more [] all = tt
gathered-more P Q more (place ∷ places) all = (by_place place all.0, gathered-more P Q more places all.1)
  where
    each-more : (source : Addr) (ds : List Datagram) → AllByRecursion (IsFrom P source) ds → AllByRecursion (IsFrom Q source) ds
    each-more source [] all = tt
    each-more source (d ∷ ds) all = let here = all.0 in (record { passes = more d here.passes; from = here.from }, each-more source ds all.1)

    by_place : (o : Option Reassembly) → IsGatheredAt P o → IsGatheredAt Q o
    by_place None g = tt
    by_place (Some r) g = record { first = g.first; since = g.since; fragments = g.fragments; is = g.is; each = each-more r.key.source g.fragments g.each }
