-- Octets that are kept ahead of a gap: where those stand that a segment brings, and which of them come into order.
use Rattle.std.proofs.Common.{◌≡◌, ℕ, zero, suc, ◌+◌, ◌-◌, ◌<◌, ◌≤◌, ◌⊎◌, inl, inr, List, [], ◌∷◌, ◌++◌, length, replicate, Option, Some, None, arith, refl, sym, ◌∙◌, ap}
use mathlib.Core.Path.{fun_ext}
use Rattle.std.specs.List.{slice_get}
use Rattle.std.proofs.lemmas.Option.{slice_get-get_or}
use Rattle.std.proofs.lemmas.Bool.Decides.{leb_tells}
use Rattle.stream_buf.specs.Receiving.{front, behind_front, laid}
use Rattle.stream_buf.proofs.Inserting.{laid_none}
use Rattle.stream_buf.proofs.Standing.{at_same, laid_own, laid_before, laid_behind, at_more}
use Rattle.stream_law.specs.ChannelSteps.{nothing_kept}
use Rattle.stream_law.specs.ChannelViews.{kept_at}

-- an octet of those that stand without a gap stands at its place
pub front_stands : (places : List (Option ℕ)) (i o : ℕ) → slice_get (front places) i ≡ Some o → kept_at places i ≡ Some o
front_stands [] i o e = let bad : slice_get [] i ≡ Some o = e in cc
front_stands (None ∷ places) i o e = let bad : slice_get [] i ≡ Some o = e in cc
front_stands (Some x ∷ places) zero o e = e
front_stands (Some x ∷ places) (suc i) o e = front_stands places i o e

-- and the places behind them begin where they end
pub behind_stands : (places : List (Option ℕ)) (i : ℕ) → kept_at (behind_front places) i ≡ kept_at places (length (front places) + i)
behind_stands [] i = let place : i ≡ 0 + i = omega arith in ap (kept_at []) place
behind_stands (None ∷ places) i = let place : i ≡ 0 + i = omega arith in ap (kept_at (None ∷ places)) place
behind_stands (Some x ∷ places) i =
    let place : suc (length (front places) + i) ≡ suc (length (front places)) + i = omega arith in
    behind_stands places i ∙ ap (kept_at (Some x ∷ places)) place

-- what stands at a place once octets are laid from a distance on: what stood there, or one of them
abbrev pub IsLaid : List (Option ℕ) → ℕ → List ℕ → ℕ → ℕ → Type 0
IsLaid places distance octets i o = (kept_at places i ≡ Some o) ⊎ ((k : ℕ) × (slice_get octets k ≡ Some o) × (distance + k ≡ i))

laid_stands : (places : List (Option ℕ)) (distance : ℕ) (octets : List ℕ) (i o : ℕ) → distance + length octets ≤ length places
    → kept_at (laid places distance octets) i ≡ Some o → IsLaid places distance octets i o
laid_stands places distance octets i o within e = elim (leb_tells (suc i) distance) [
  | inl t ↦ inl (sym (laid_before places distance octets i within t.1) ∙ e)
  | inr t ↦ elim (leb_tells (suc i) (distance + length octets)) [
    | inl u ↦
        let k : ℕ = i - distance in
        let place : distance + k ≡ i = omega (arith, t.1) in
        let below : k < length octets = omega (arith, t.1, u.1) in
        inr (k, slice_get-get_or octets k 0 below ∙ (sym (laid_own places distance octets k within below) ∙ (at_same (laid places distance octets) (distance + k) i place ∙ e)), place)
    | inr u ↦ inl (sym (laid_behind places distance octets i (i - (distance + length octets)) within (omega (arith, u.1))) ∙ e)
  ]
]

-- the same where no octets at all, which change nothing, may have no place
pub laid_within : (places : List (Option ℕ)) (distance : ℕ) (octets : List ℕ) (i o : ℕ) → (0 < length octets → distance + length octets ≤ length places)
    → kept_at (laid places distance octets) i ≡ Some o → IsLaid places distance octets i o
laid_within places distance [] i o within e = inl (ap (λ (ps : List (Option ℕ)). kept_at ps i) (sym (laid_none places distance)) ∙ e)
laid_within places distance (x ∷ octets) i o within e = laid_stands places distance (x ∷ octets) i o (within (omega arith)) e

-- where no octet stands at any place, nothing is kept
pub unkept : (places : List (Option ℕ)) → ((i o : ℕ) → kept_at places i ≡ Some o → ⊥) → kept_at places ≡ nothing_kept
unkept places none = fun_ext (λ i. free i (kept_at places i) refl)
  where
    free : (i : ℕ) (there : Option ℕ) → kept_at places i ≡ there → kept_at places i ≡ None
    free i None e = e
    free i (Some o) e = absurd (none i o e)

-- free places keep nothing
pub at_free : (count i : ℕ) → kept_at (replicate count None) i ≡ None
at_free zero i = refl
at_free (suc count) zero = refl
at_free (suc count) (suc i) = at_free count i

pub keeps_nothing : (count : ℕ) → kept_at (replicate count None) ≡ nothing_kept
keeps_nothing count = fun_ext (at_free count)

-- and change nothing behind others
pub keeps_same : (places : List (Option ℕ)) (count : ℕ) → kept_at (places ++ replicate count None) ≡ kept_at places
keeps_same places count = fun_ext (at_more places count)
