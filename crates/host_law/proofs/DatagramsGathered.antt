-- What is being put together came in fragments of one key, the first of them at its moment, and no tick told that its time is over.
use Rattle.std.specs.Prelude.{map}
use Rattle.host.proofs.Gathering.{place-is}
use Rattle.std.proofs.Common.{◌≡◌, ℕ, zero, suc, ◌+◌, ◌-◌, ◌<◌, ◌≤◌, ◌^◌, ◌&&◌, min, max, nat_le, Bool, true, false, cond, List, [], ◌∷◌, ◌++◌, get_or, length, replicate, Option, Some, None, is_none, slice_set, refl, sym, ◌∙◌, ap, subst, arith}
use Rattle.std.specs.List.{AllByRecursion}
use Rattle.std.specs.Option.{option_map_or}
use Rattle.std.proofs.lemmas.Bool.Decides.{nat_tests}
use Rattle.clock.specs.declared.moment.Moment.{Moment}
use Rattle.ipv4.specs.Datagram.{Datagram}
use Rattle.frames.specs.declared.meaning.Meaning.TheVariants.{UdpFragment}
use Rattle.frames.proofs.Hearers.{fragments_are_parts}
use Rattle.reassembly.specs.Fragments.{key_of, IsPayload, ends_within}
use Rattle.reassembly.specs.Octets.{whole_of}
use Rattle.reassembly.specs.Places.{after_take, after_take_at, after_time, fits, is_over, oldest, outcome_at, place_for, without, without_oldest}
use Rattle.reassembly.specs.Reassembly.{Outcome, Reassembly, after_fragments, begun, conflicts, continued, left, outcome, quoted, with_fragment, PoolView, outcome_within}
use Rattle.reassembly.specs.Reassembly.Outcome.{Waits, Completes, GivesUp}
use Rattle.reassembly.proofs.Alone.{alone_is_whole}
use Rattle.reassembly.proofs.OneMore.{after_one_more}
use Rattle.reassembly.proofs.Together.{whole_is_payload}
use Rattle.host.specs.Arrival.{pool_for}
use Rattle.host.specs.ConfigView.{ConfigView}
use Rattle.host_law.specs.Datagrams.{ticked, IsBrought, CameInTurn, begins, goes_on, waits}
use Rattle.host_law.specs.History.{Step}

-- Lists of which this holds of each.

all-behind : {X : Type 0} (P : X → Type 0) (xs : List X) (x : X) → AllByRecursion P xs → P x → AllByRecursion P (xs ++ x ∷ [])
all-behind P [] x all last = (last, tt)
all-behind P (y ∷ ys) x all last = (all.0, all-behind P ys x all.1 last)

all-set : {X : Type 0} (P : X → Type 0) (xs : List X) (i : ℕ) (x : X) → AllByRecursion P xs → P x → AllByRecursion P (slice_set xs i x)
all-set P [] i x all new = tt
all-set P (y ∷ ys) zero x all new = (new, all.1)
all-set P (y ∷ ys) (suc i) x all new = (all.0, all-set P ys i x all.1 new)

all-read : {X : Type 0} (P : X → Type 0) (xs : List X) (i : ℕ) (d : X) → AllByRecursion P xs → P d → P (get_or xs i d)
all-read P [] i d all other = other
all-read P (x ∷ xs) zero d all other = all.0
all-read P (x ∷ xs) (suc i) d all other = all-read P xs i d all.1 other

pub all-more : {X : Type 0} (P Q : X → Type 0) → ((x : X) → P x → Q x) → (xs : List X) → AllByRecursion P xs → AllByRecursion Q xs
all-more P Q more [] all = tt
all-more P Q more (x ∷ xs) all = (more x all.0, all-more P Q more xs all.1)

-- What is put together.

pub record IsGathered (c : ConfigView) (steps : List Step) (r : Reassembly) : Type 0 where
  pub first : Datagram
  pub fragments : List Datagram
  pub is : r ≡ after_fragments (begun r.since first) fragments
  pub one_key : AllByRecursion (λ (d : Datagram). key_of d ≡ r.key) fragments
  pub came : CameInTurn c r.since.0 fragments steps
  pub young : ticked steps < r.since.0 + 60000

abbrev pub IsGatheredAt : ConfigView → List Step → Option Reassembly → Type 0
IsGatheredAt c steps None = Unit {0}
IsGatheredAt c steps (Some r) = IsGathered c steps r

abbrev pub AreGathered : ConfigView → List Step → List (Option Reassembly) → Type 0
AreGathered c steps places = AllByRecursion (IsGatheredAt c steps) places

-- a payload was made of fragments and this one
pub record IsMade (c : ConfigView) (steps : List Step) (d : Datagram) (payload : List ℕ) : Type 0 where
  pub fragments : List Datagram
  pub since : ℕ
  pub came : CameInTurn c since fragments steps
  pub one_key : AllByRecursion (λ (f : Datagram). key_of f ≡ key_of d) fragments
  pub whole : IsPayload (fragments ++ d ∷ []) payload
  pub young : ticked steps < since + 60000

pub none-gathered : (c : ConfigView) (n : ℕ) → AreGathered c [] (replicate n None)
none-gathered c zero = tt
none-gathered c (suc n) = (tt, none-gathered c n)

-- a step that tells no time leaves it
gathered-on : (c : ConfigView) (step : Step) (steps : List Step) → ticked (step ∷ steps) ≡ ticked steps → (place : Option Reassembly) → IsGatheredAt c steps place → IsGatheredAt c (step ∷ steps) place
gathered-on c step steps still None g = tt
gathered-on c step steps still (Some r) g =
    record { first = g.first; fragments = g.fragments; is = g.is; one_key = g.one_key; came = waits g.fragments step steps g.came; young = omega (arith, g.young, still) }

pub stay-gathered : (c : ConfigView) (step : Step) (steps : List Step) → ticked (step ∷ steps) ≡ ticked steps → (places : List (Option Reassembly)) → AreGathered c steps places → AreGathered c (step ∷ steps) places
stay-gathered c step steps still places all = all-more (IsGatheredAt c steps) (IsGatheredAt c (step ∷ steps)) (gathered-on c step steps still) places all

-- The time.

not-over : (since now : ℕ) → nat_le (min (since + 60000) (2 ^ 64 - 1)) now ≡ false → now < since + 60000
not-over since now stays = grind (arith, nat_tests, stays)

aged-at : (c : ConfigView) (step : Step) (steps : List Step) (moment : Moment) → ticked (step ∷ steps) ≡ moment.0 → (place : Option Reassembly) → IsGatheredAt c steps place → IsGatheredAt c (step ∷ steps) (after_time moment place)
aged-at c step steps moment told None g = tt
aged-at c step steps moment told (Some r) g = by_test (is_over moment r) refl
  where
    by_test : (b : Bool) → is_over moment r ≡ b → IsGatheredAt c (step ∷ steps) (cond b None (Some r))
    by_test true over = tt
    by_test false over =
        record { first = g.first; fragments = g.fragments; is = g.is; one_key = g.one_key; came = waits g.fragments step steps g.came; young = omega (arith, not-over r.since.0 moment.0 over, told) }

pub aged : (c : ConfigView) (step : Step) (steps : List Step) (moment : Moment) → ticked (step ∷ steps) ≡ moment.0 → (places : List (Option Reassembly)) → AreGathered c steps places → AreGathered c (step ∷ steps) (map (after_time moment) places)
aged c step steps moment told [] all = tt
aged c step steps moment told (place ∷ places) all = (aged-at c step steps moment told place all.0, aged c step steps moment told places all.1)

-- The oldest gives way.

pub made-room : (c : ConfigView) (steps : List Step) (guards : Bool) (d : Datagram) (pool : PoolView) → AreGathered c steps pool.places → AreGathered c steps (pool_for guards d pool).places
made-room c steps guards d pool all = by_test (guards && fits pool d && is_none (place_for d pool))
  where
    by_place : (place : Option ℕ) → AreGathered c steps (without place pool.places)
    by_place None = all
    by_place (Some i) = all-set (IsGatheredAt c steps) pool.places i None all tt

    by_test : (b : Bool) → AreGathered c steps (let left = cond b (without_oldest pool) pool in left.places)
    by_test true = by_place (oldest pool.places)
    by_test false = all

-- A fragment comes.

-- what comes of it
abbrev IsNext : Datagram → Reassembly → Outcome → Type 0
IsNext d r (Waits next) = next ≡ with_fragment r d
IsNext d r (Completes payload quote) = whole_of (with_fragment r d).end (with_fragment r d).octets ≡ Some payload
IsNext d r GivesUp = Unit {0}

is-next : (d : Datagram) (r : Reassembly) → IsNext d r (outcome d r)
unfolding outcome
is-next d r = by_conflict (conflicts d r.end (length r.octets))
  where
    next : Reassembly
    next = with_fragment r d

    by_whole : (o : Option (List ℕ)) → whole_of next.end next.octets ≡ o → IsNext d r (option_map_or (λ payload. Completes payload (quoted next.quote)) o (Waits next))
    by_whole None e = refl
    by_whole (Some payload) e = e

    by_conflict : (b : Bool) → IsNext d r (cond b GivesUp (option_map_or (λ payload. Completes payload (quoted next.quote)) (whole_of next.end next.octets) (Waits next)))
    by_conflict true = tt
    by_conflict false = by_whole (whole_of next.end next.octets) refl

module _ (c : ConfigView) (step : Step) (steps : List Step) (moment : Moment) (d : Datagram) (brought : IsBrought c (UdpFragment d) moment.0 step steps) (still : ticked (step ∷ steps) ≡ ticked steps) where
  -- what is left of the datagram
  abbrev pub IsLeft : Outcome → Type 0
  IsLeft (Waits next) = IsGathered c (step ∷ steps) next
  IsLeft (Completes payload quote) = IsMade c steps d payload
  IsLeft GivesUp = Unit {0}

  -- it goes on
  one-more : (r : Reassembly) → r.key ≡ key_of d → (g : IsGathered c steps r) → with_fragment r d ≡ after_fragments (begun r.since g.first) (g.fragments ++ d ∷ [])
  one-more r own g = ap (λ (x : Reassembly). with_fragment x d) g.is ∙ sym (after_one_more (begun r.since g.first) g.fragments d)

  left-on : (r : Reassembly) → r.key ≡ key_of d → IsGathered c steps r → (o : Outcome) → IsNext d r o → IsLeft o
  left-on r own g (Waits next) is =
      subst (IsGathered c (step ∷ steps)) (sym is) (record {
        first = g.first;
        fragments = g.fragments ++ d ∷ [];
        is = one-more r own g;
        one_key = all-behind (λ (f : Datagram). key_of f ≡ r.key) g.fragments d g.one_key (sym own);
        came = goes_on g.fragments d moment.0 step steps g.came brought;
        young = omega (arith, g.young, still);
      })
  left-on r own g (Completes payload quote) is = record {
    fragments = g.fragments;
    since = r.since.0;
    came = g.came;
    one_key = all-more (λ (f : Datagram). key_of f ≡ r.key) (λ (f : Datagram). key_of f ≡ key_of d) (λ f same. same ∙ own) g.fragments g.one_key;
    whole = whole_is_payload r.since g.first (g.fragments ++ d ∷ []) payload (ap (λ (x : Reassembly). whole_of x.end x.octets) (sym (one-more r own g)) ∙ is);
    young = g.young;
  }
  left-on r own g GivesUp is = tt

  -- it begins
  early : ticked steps ≤ moment.0
  early = let at : moment.0 ≡ max (ticked steps) brought.frame.now.0 = brought.at in grind (arith, at)

  left-first : (o : Outcome) → outcome d (begun moment d) ≡ o → IsNext d (begun moment d) o → IsLeft o
  left-first (Waits next) is next_is =
      subst (IsGathered c (step ∷ steps)) (sym next_is)
      (record { first = d; fragments = d ∷ []; is = refl; one_key = (refl, tt); came = begins d step steps brought; young = omega (arith, early, still) })
  left-first (Completes payload quote) is next_is =
      let parts = fragments_are_parts c.mac c.addr brought.frame.octets d brought.frame.means in absurd (parts.1 (alone_is_whole moment d payload quote is))
  left-first GivesUp is next_is = tt

  -- one that reaches past the room gives its datagram up
  left-within : (o : Outcome) (fit : Bool) → IsLeft o → IsLeft (cond fit o GivesUp)
  left-within o true is = is
  left-within o false is = tt

  pub outcome-left : (pool : PoolView) (i : ℕ) → AreGathered c steps pool.places → place_for d pool ≡ Some i → IsLeft (outcome_at moment d pool i)
  outcome-left pool i all e = by_place (get_or pool.places i None) refl
    where
      at : IsGatheredAt c steps (get_or pool.places i None)
      at = all-read (IsGatheredAt c steps) pool.places i None all tt

      by_place : (o : Option Reassembly) → get_or pool.places i None ≡ o → IsLeft (outcome_within pool.octets d (continued moment d o))
      by_place None is = left-within (outcome d (begun moment d)) (ends_within pool.octets d) (left-first (outcome d (begun moment d)) refl (is-next d (begun moment d)))
      by_place (Some r) is = left-within (outcome d r) (ends_within pool.octets d) (left-on r (place-is d pool i e r is) (subst (IsGatheredAt c steps) is at) (outcome d r) (is-next d r))

  left-at : (o : Outcome) → IsLeft o → IsGatheredAt c (step ∷ steps) (left o)
  left-at (Waits r) is = is
  left-at (Completes payload quote) is = tt
  left-at GivesUp is = tt

  pub after-taking : (pool : PoolView) → AreGathered c steps pool.places → AreGathered c (step ∷ steps) (after_take moment d pool).places
  after-taking pool all = by_place (place_for d pool) refl
    where
      by_place : (o : Option ℕ) → place_for d pool ≡ o → AreGathered c (step ∷ steps) (after_take_at moment d pool o)
      by_place None e = stay-gathered c step steps still pool.places all
      by_place (Some i) e =
          all-set (IsGatheredAt c (step ∷ steps)) pool.places i (left (outcome_at moment d pool i)) (stay-gathered c step steps still pool.places all) (left-at (outcome_at moment d pool i) (outcome-left pool i all e))
