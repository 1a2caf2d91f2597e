-- One place more that is aged.
use Rattle.std.proofs.Common.{◌≡◌, ℕ, ◌+◌, ◌-◌, ◌<◌, ◌≤◌, List, [], ◌∷◌, ◌++◌, length, take, drop, map, get_or, All, Option, refl, sym, ◌∙◌, ap, arith, append-nil}
use Rattle.std.specs.List.{filter_map, cons_option}
use Rattle.std.proofs.lemmas.List.{length-map, length-take-le, get_or-append_right, get_or-drop, take_more, take_all, drop_all}
use Rattle.std.proofs.lemmas.List.Elements.{All-map, filter_map-append}
use Rattle.clock.specs.declared.moment.Moment.{Moment}
use Rattle.reassembly.specs.declared.expired.Expired.{Expired}
use Rattle.reassembly.specs.Inside.{PlaceView, datagrams}
use Rattle.reassembly.specs.Places.{after_time, expired_of}

-- the place that comes next is as it was
pub next_is : {X : Type 0} (f : X → X) (xs ys : List X) (i : ℕ) (x : X) → i < length xs → ys ≡ map f (take i xs) ++ drop i xs
    → x ≡ get_or ys i x → x ≡ get_or xs i x
next_is f xs ys i x within e here =
    let front : length (map f (take i xs)) ≡ i = length-map (take i xs) f ∙ length-take-le i xs (omega arith) in
    here ∙ ap (λ l. get_or l i x) e ∙ get_or-append_right (map f (take i xs)) (drop i xs) i i x front (omega arith)
    ∙ get_or-drop i xs (i - i) x ∙ ap (λ k. get_or xs k x) (let k : i + (i - i) ≡ i = omega arith in k)

-- what is told of one place more
pub one_more : {X Y : Type 0} (h : X → Option Y) (xs : List X) (i : ℕ) (x : X) → i < length xs → x ≡ get_or xs i x
    → filter_map h (take (i + 1) xs) ≡ filter_map h (take i xs) ++ cons_option (h x) []
one_more h xs i x within here =
    ap (filter_map h) (take_more xs i x within) ∙ filter_map-append h (take i xs) (get_or xs i x ∷ [])
    ∙ ap (λ y. filter_map h (take i xs) ++ cons_option (h y) []) (sym here)

-- a place is aged
abbrev pub aged_place : Moment → PlaceView → PlaceView
aged_place now place = record place { datagram = after_time now place.datagram }

-- what is told of it
abbrev pub told_of : Moment → PlaceView → Option Expired
told_of now place = expired_of now place.datagram

pub all_aged : (now : Moment) (places : List PlaceView) → datagrams (map (aged_place now) places) ≡ map (after_time now) (datagrams places)
all_aged now [] = refl
all_aged now (place ∷ places) = ap (λ rest. after_time now place.datagram ∷ rest) (all_aged now places)

pub all_told : (now : Moment) (places : List PlaceView) → filter_map (told_of now) places ≡ filter_map (expired_of now) (datagrams places)
all_told now [] = refl
all_told now (place ∷ places) = ap (λ rest. cons_option (expired_of now place.datagram) rest) (all_told now places)

pub alike_aged : (now : Moment) (octets : ℕ) (places : List PlaceView) → All (λ place. place.room ≡ octets) places
    → All (λ place. place.room ≡ octets) (map (aged_place now) places)
alike_aged now octets places alike = All-map (λ (place : PlaceView). place.room ≡ octets) (aged_place now) places alike

-- all of them are aged in the end
pub all_done : {X : Type 0} (f : X → X) (xs ys : List X) (i : ℕ) → length xs ≤ i → ys ≡ map f (take i xs) ++ drop i xs → ys ≡ map f xs
all_done f xs ys i over e =
    e ∙ ap (λ front. map f front ++ drop i xs) (take_all i xs over) ∙ ap (λ rest. map f xs ++ rest) (drop_all i xs over) ∙ append-nil (map f xs)
