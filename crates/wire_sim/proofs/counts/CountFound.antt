-- The count beside an opening, found from the back.
use Rattle.std.proofs.Common.{◌≡◌, ℕ, zero, suc, ◌<◌, true, false, List, [], ◌∷◌, length, get_or, take, refl, arith}
use Rattle.std.specs.Prelude.{if◌then◌else◌}
use Rattle.ipv4.specs.declared.addr.Pair.{Pair}
use Rattle.sides.specs.declared.side.Side.{Side}
use Rattle.wire_sim.specs.declared.event.Opening.{Opening}
use Rattle.wire_sim.specs.Tallies.{is_opening_of, written_by}

-- the count beside the first opening that is the one, and `count` where none is
abbrev pub written_or : List Opening → List ℕ → Side → Pair → ℕ → ℕ → ℕ
written_or [] ws side pair epoch count = count
written_or (o ∷ os) [] side pair epoch count = count
written_or (o ∷ os) (w ∷ ws) side pair epoch count = if is_opening_of side pair epoch o then w else written_or os ws side pair epoch count

-- all openings are to be looked at
pub written-all : (os : List Opening) (ws : List ℕ) (side : Side) (pair : Pair) (epoch : ℕ) → written_by os ws side pair epoch ≡ written_or (take (length os) os) ws side pair epoch 0
written-all [] ws side pair epoch = refl
written-all (o ∷ os) [] side pair epoch = refl
written-all (o ∷ os) (w ∷ ws) side pair epoch = rw (written-all os ws side pair epoch)

-- the last opening to be looked at is the one
pub written-here : (os : List Opening) (ws : List ℕ) (side : Side) (pair : Pair) (epoch i count : ℕ) (o : Opening) → i < length os → i < length ws → is_opening_of side pair epoch (get_or os i o) ≡ true → written_or (take (suc i) os) ws side pair epoch count ≡ written_or (take i os) ws side pair epoch (get_or ws i 0)
written-here [] ws side pair epoch i count o a b here = absurd (omega arith)
written-here (p ∷ os) [] side pair epoch i count o a b here = absurd (omega arith)
written-here (p ∷ os) (v ∷ ws) side pair epoch zero count o a b here = rw here
written-here (p ∷ os) (v ∷ ws) side pair epoch (suc i) count o a b here = rw (written-here os ws side pair epoch i count o (omega arith) (omega arith) here)

-- it is not
pub written-next : (os : List Opening) (ws : List ℕ) (side : Side) (pair : Pair) (epoch count i : ℕ) (o : Opening) → i < length os → is_opening_of side pair epoch (get_or os i o) ≡ false → written_or (take (suc i) os) ws side pair epoch count ≡ written_or (take i os) ws side pair epoch count
written-next [] ws side pair epoch count i o a other = absurd (omega arith)
written-next (p ∷ os) [] side pair epoch count zero o a other = refl
written-next (p ∷ os) [] side pair epoch count (suc i) o a other = refl
written-next (p ∷ os) (v ∷ ws) side pair epoch count zero o a other = rw other
written-next (p ∷ os) (v ∷ ws) side pair epoch count (suc i) o a other = rw (written-next os ws side pair epoch count i o (omega arith) other)
