-- What the last opening to be looked at makes of a pair's epoch, and of whether a pair was opened in an epoch.
use Rattle.std.proofs.Common.{◌≡◌, ℕ, suc, ◌<◌, ◌||◌, Bool, true, false, List, [], ◌∷◌, length, get_or, take, refl, ◌∙◌, ap}
use Rattle.std.specs.Prelude.{if◌then◌else◌}
use Rattle.std.specs.List.{list_any}
use Rattle.std.proofs.Math.Seq.{take-suc}
use Rattle.std.proofs.lemmas.List.Sums.{fold-append}
use Rattle.std.proofs.lemmas.List.Folds.{list_any-append}
use Rattle.ipv4.specs.declared.addr.Pair.{Pair}
use Rattle.wire_sim.specs.declared.event.Opening.{Opening}
use Rattle.wire_sim.specs.Openings.{epoch_of}
use Rattle.wire_sim.specs.Tallies.{same_pair}

epoch-step : (os : List Opening) (pair : Pair) (i : ℕ) (o : Opening) → i < length os
    → epoch_of (take (suc i) os) pair ≡ (if same_pair (get_or os i o).pair pair then (get_or os i o).epoch else epoch_of (take i os) pair)
epoch-step os pair i o below =
    ap (λ (l : List Opening). epoch_of l pair) (take-suc os i o below)
    ∙ fold-append (λ (epoch : ℕ) (x : Opening). if same_pair x.pair pair then x.epoch else epoch) 0 (take i os) (get_or os i o ∷ [])

pub epoch-here : (os : List Opening) (pair : Pair) (i : ℕ) (o : Opening) → i < length os → same_pair (get_or os i o).pair pair ≡ true → epoch_of (take (suc i) os) pair ≡ (get_or os i o).epoch
epoch-here os pair i o below is =
    epoch-step os pair i o below ∙ ap (λ (b : Bool). if b then (get_or os i o).epoch else epoch_of (take i os) pair) is

pub epoch-next : (os : List Opening) (pair : Pair) (i : ℕ) (o : Opening) → i < length os → same_pair (get_or os i o).pair pair ≡ false → epoch_of (take (suc i) os) pair ≡ epoch_of (take i os) pair
epoch-next os pair i o below is =
    epoch-step os pair i o below ∙ ap (λ (b : Bool). if b then (get_or os i o).epoch else epoch_of (take i os) pair) is

any-step : (p : Opening → Bool) (os : List Opening) (i : ℕ) (o : Opening) → i < length os → list_any p (take (suc i) os) ≡ (list_any p (take i os) || list_any p (get_or os i o ∷ []))
any-step p os i o below = ap (list_any p) (take-suc os i o below) ∙ list_any-append p (take i os) (get_or os i o ∷ [])

or_right : (b : Bool) → (b || true) ≡ true
or_right true = refl
or_right false = refl

or_none : (b : Bool) → (b || false) ≡ b
or_none true = refl
or_none false = refl

pub any-here : (p : Opening → Bool) (os : List Opening) (i : ℕ) (o : Opening) → i < length os → p (get_or os i o) ≡ true → list_any p (take (suc i) os) ≡ true
any-here p os i o below is =
    any-step p os i o below ∙ ap (λ (b : Bool). list_any p (take i os) || (b || false)) is ∙ or_right (list_any p (take i os))

pub any-next : (p : Opening → Bool) (os : List Opening) (i : ℕ) (o : Opening) → i < length os → p (get_or os i o) ≡ false → list_any p (take (suc i) os) ≡ list_any p (take i os)
any-next p os i o below is =
    any-step p os i o below ∙ ap (λ (b : Bool). list_any p (take i os) || (b || false)) is ∙ or_none (list_any p (take i os))
