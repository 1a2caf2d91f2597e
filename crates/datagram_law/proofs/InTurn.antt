-- Identifications that are drawn in turn, and what is accepted later.
use Rattle.std.proofs.Common.{◌≡◌, ◌⊎◌, ℕ, zero, suc, ◌<◌, ◌%◌, List, [], ◌∷◌, ◌++◌, length, get_or, Some, inl, inr, refl, sym, ◌∙◌, ap, subst, length-append, arith, All, Contains}
use Rattle.std.specs.List.{Any, slice_get}
use Rattle.std.proofs.lemmas.List.{get_or_append_left}
use Rattle.std.proofs.lemmas.List.Elements.{All-append}
use Rattle.std.proofs.lemmas.Option.{slice_get_within, slice_get_read}
use Rattle.ipv4.specs.declared.addr.Endpoint.{Endpoint}
use Rattle.datagram_law.specs.Accepted.{Accepted, AreInTurn, AreFew, CameFrom, IsInWidths}

pub unique : (accepted : List Accepted) (i j : ℕ) (a b : Accepted) → AreInTurn accepted → AreFew accepted → slice_get accepted i ≡ Some a
    → slice_get accepted j ≡ Some b → a.identification ≡ b.identification → i ≡ j
unique accepted i j a b turn few e f same =
    let first : a.identification ≡ i % 65536 = turn.numbered i a e in
    let second : b.identification ≡ j % 65536 = turn.numbered j b f in
    omega (arith, first, second, same, few, slice_get_within accepted i a e, slice_get_within accepted j b f)

-- two of a list, as `Any` finds them, with one identification
pub same_one : (accepted : List Accepted) (i j : ℕ) (a b : Accepted) → AreInTurn accepted → AreFew accepted → i < length accepted → get_or accepted i a ≡ a
    → j < length accepted → get_or accepted j b ≡ b → a.identification ≡ b.identification → a ≡ b
same_one accepted i j a b turn few within e within' f same =
    let first : slice_get accepted i ≡ Some a = slice_get_read accepted (length accepted) i a refl within (sym e) in
    let second : slice_get accepted j ≡ Some b = slice_get_read accepted (length accepted) j b refl within' (sym f) in
    let place : i ≡ j = unique accepted i j a b turn few first second same in
    let one : Some a ≡ Some b = sym first ∙ ap (λ (n : ℕ). slice_get accepted n) place ∙ second in
    cc

slice_get-append_left : {X : Type 0} (xs ys : List X) (n : ℕ) (x : X) → slice_get xs n ≡ Some x → slice_get (xs ++ ys) n ≡ Some x
slice_get-append_left [] ys n x e = cc
slice_get-append_left (y ∷ xs) ys zero x e = e
slice_get-append_left (y ∷ xs) ys (suc n) x e = slice_get-append_left xs ys n x e

slice_get-append_one : {X : Type 0} (xs : List X) (y x : X) (n : ℕ) → slice_get (xs ++ y ∷ []) n ≡ Some x
    → (slice_get xs n ≡ Some x) ⊎ ((n ≡ length xs) × (y ≡ x))
slice_get-append_one [] y x zero e = inr (refl, cc)
slice_get-append_one [] y x (suc n) e = cc
slice_get-append_one (z ∷ xs) y x zero e = inl e
slice_get-append_one (z ∷ xs) y x (suc n) e = step (slice_get-append_one xs y x n e)
  where
    step : (slice_get xs n ≡ Some x) ⊎ ((n ≡ length xs) × (y ≡ x)) → (slice_get xs n ≡ Some x) ⊎ ((suc n ≡ suc (length xs)) × (y ≡ x))
    step (inl f) = inl f
    step (inr f) = inr (ap (λ (k : ℕ). suc k) f.0, f.1)

pub before : (accepted more : List Accepted) → AreInTurn (accepted ++ more) → AreInTurn accepted
before accepted more turn = record {
  numbered = λ n a e. turn.numbered n a (slice_get-append_left accepted more n a e);
  widths = λ k d within.
      subst IsInWidths (get_or_append_left accepted more d k within) (turn.widths k d (omega (arith, within, length-append accepted more)));
}

pub in_turn : (accepted : List Accepted) (a : Accepted) → AreInTurn accepted → IsInWidths a → a.identification ≡ length accepted % 65536
    → AreInTurn (accepted ++ a ∷ [])
in_turn accepted a turn fits next = record {
  numbered = λ n b e. step n b (slice_get-append_one accepted a b n e);
  widths = All-append IsInWidths accepted (a ∷ []) turn.widths one;
}
  where
    one : All IsInWidths (a ∷ [])
    one zero d within = fits
    one (suc k) d within = absurd (omega (arith, within))

    step : (n : ℕ) (b : Accepted) → (slice_get accepted n ≡ Some b) ⊎ ((n ≡ length accepted) × (a ≡ b)) → b.identification ≡ n % 65536
    step n b (inl f) = turn.numbered n b f
    step n b (inr f) = sym (ap (λ (x : Accepted). x.identification) f.1) ∙ next ∙ ap (λ (k : ℕ). k % 65536) (sym f.0)

-- what is so of one stays so
pub still : {X : Type 0} (P : X → Type 0) (xs ys : List X) → Any P xs → Any P (xs ++ ys)
still P xs ys (k, x, within, there, is) = (k, x, omega (arith, within, length-append xs ys), get_or_append_left xs ys x k within ∙ there, is)

-- what came
pub none_came : (source local : Endpoint) (octets : List ℕ) → CameFrom [] source local octets → ⊥
none_came source local octets (k, a, within, there, is) = omega (arith, within)

pub one_came : (a : Accepted) (source local : Endpoint) (octets : List ℕ) → CameFrom (a ∷ []) source local octets
    → (source ≡ a.source) × (local ≡ a.peer) × (octets ≡ a.octets)
one_came a source local octets (zero, b, within, there, is) = (
  sym (ap (λ (x : Accepted). x.source) there ∙ is.0),
  sym (ap (λ (x : Accepted). x.peer) there ∙ is.1),
  sym (ap (λ (x : Accepted). x.octets) there ∙ is.2),
)
one_came a source local octets (suc k, b, within, there, is) = absurd (omega (arith, within))

pub each_came : (accepted : List Accepted) (a : Accepted) → Contains accepted a → CameFrom accepted a.source a.peer a.octets
each_came accepted a (k, within, there) = (k, a, within, there, (refl, refl, refl))
