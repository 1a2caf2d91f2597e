-- What is put together in the places of a pool, as their tests see it.
use Rattle.std.proofs.Common.{◌≡◌, ℕ, zero, suc, ◌+◌, ◌<◌, ◌||◌, not, Bool, true, false, cond, is_none, option_map, List, [], ◌∷◌, length, map, replicate, get_or, Option, Some, None, refl, sym, ◌∙◌, ap}
use Rattle.std.specs.Option.{option_or}
use Rattle.std.specs.List.{list_all, list_any, position, position_or_len}
use Rattle.std.proofs.lemmas.List.{length-map, get_or-map}
use Rattle.std.proofs.lemmas.List.Folds.{list_all-map}
use Rattle.clock.specs.declared.moment.Moment.{Moment}
use Rattle.ipv4.specs.Datagram.{Datagram}
use Rattle.reassembly.specs.Fragments.{key_of, ends_within}
use Rattle.reassembly.specs.Places.{began_from, is_of, is_oldest, place_for}
use Rattle.reassembly.specs.Inside.{PlaceView, IsPool, datagrams}
use Rattle.reassembly.specs.Reassembly.{Reassembly, PoolView}

first-map : {X Y : Type 0} (p : Y → Bool) (f : X → Y) (xs : List X) → position_or_len p (map f xs) ≡ position_or_len (λ x. p (f x)) xs
first-map p f [] = refl
first-map p f (x ∷ xs) = ap (λ n. cond (not (p (f x))) (1 + n) 0) (first-map p f xs)

pub position_of : (p : Option Reassembly → Bool) (places : List PlaceView) → position (λ place. p place.datagram) places ≡ position p (datagrams places)
position_of p places = rw (first-map p (λ (place : PlaceView). place.datagram) places, length-map places (λ (place : PlaceView). place.datagram)) refl

pub any_of : (p : Option Reassembly → Bool) (places : List PlaceView) → list_any (λ place. p place.datagram) places ≡ list_any p (datagrams places)
any_of p [] = refl
any_of p (place ∷ places) = ap (λ b. p place.datagram || b) (any_of p places)

pub all_free : (n octets : ℕ) → datagrams (replicate n (record { room = octets; datagram = None })) ≡ replicate n None
all_free zero octets = refl
all_free (suc n) octets = ap (λ places. None ∷ places) (all_free n octets)

-- what a pool shows, where its places change
pub pool_shown : (octets : ℕ) (old new : List (Option Reassembly)) (pool : PoolView) → octets ≡ pool.octets → old ≡ new
    → record pool { octets = octets; places = old } ≡ record pool { places = new }
pool_shown octets old new pool e f = ap (λ n. record pool { octets = n; places = old }) e ∙ ap (λ places. record pool { places = places }) f

-- what stands in a place of a pool
pub datagram_at : (places : List PlaceView) (i : ℕ) (place : PlaceView) → i < length places → place ≡ get_or places i place
    → place.datagram ≡ get_or (datagrams places) i None
datagram_at places i place within is =
    ap (λ (p : PlaceView). p.datagram) is ∙ sym (get_or-map (λ (p : PlaceView). p.datagram) places i place None within)

pub room_at : (octets : ℕ) (places : List PlaceView) (i : ℕ) (place : PlaceView) → IsPool octets places → i < length places → place ≡ get_or places i place
    → place.room ≡ octets
room_at octets places i place pool within is = ap (λ (p : PlaceView). p.room) is ∙ pool.alike i place within

-- the place for a fragment
pub own_place : (d : Datagram) (pool : PoolView) (i : ℕ) → position (is_of (key_of d)) pool.places ≡ Some i → place_for d pool ≡ Some i
own_place d pool i own = ap (λ o. option_or o (cond (ends_within pool.octets d) (position is_none pool.places) None)) own

pub free_place : (d : Datagram) (pool : PoolView) → position (is_of (key_of d)) pool.places ≡ None → ends_within pool.octets d ≡ true
    → place_for d pool ≡ position is_none pool.places
free_place d pool own fits = rw (own, fits) refl

pub no_place : (d : Datagram) (pool : PoolView) → position (is_of (key_of d)) pool.places ≡ None → ends_within pool.octets d ≡ false → place_for d pool ≡ None
no_place d pool own long = rw (own, long) refl

-- the oldest of them
pub oldest_from : (places : List PlaceView) (datagram : Option Reassembly) (since : Moment) → option_map (λ r. r.since) datagram ≡ Some since
    → list_all (λ place. began_from since place.datagram) places ≡ is_oldest (datagrams places) datagram
oldest_from places None since e = cc
oldest_from places (Some r) since e =
    let same : r.since ≡ since = cc in
    sym (list_all-map (began_from since) (λ (p : PlaceView). p.datagram) places) ∙ ap (λ m. list_all (began_from m) (datagrams places)) (sym same)
