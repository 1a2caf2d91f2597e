-- The counts of a ledger while octets are counted beside one opening after another, from the last.
use Rattle.std.proofs.Common.{◌≡◌, ℕ, zero, suc, ◌+◌, ◌<◌, true, false, List, [], ◌∷◌, ◌++◌, length, get_or, set, take, refl, ap, arith}
use Rattle.sides.specs.declared.side.Side.{Side}
use Rattle.wire_sim.specs.declared.event.Opening.{Opening}
use Rattle.sockets.specs.declared.entry.SocketId.{SocketId}
use Rattle.wire_sim.specs.Tallies.{is_opening_at, counts_after}

-- the last opening to be looked at is one of the socket
pub counted-here : (os : List Opening) (ws : List ℕ) (side : Side) (id : SocketId) (n k : ℕ) (o : Opening) → k < length os → k < length ws → is_opening_at side id (get_or os k o) ≡ true → counts_after (take (suc k) os) ws side id n ≡ counts_after (take k os) (set ws k (get_or ws k 0 + n)) side id n
counted-here [] ws side id n k o a b here = absurd (omega arith)
counted-here (p ∷ os) [] side id n k o a b here = absurd (omega arith)
counted-here (p ∷ os) (v ∷ ws) side id n zero o a b here = rw here
counted-here (p ∷ os) (v ∷ ws) side id n (suc k) o a b here =
    ap (λ (vs : List ℕ). (counts_after (p ∷ []) (v ∷ []) side id n) ++ vs) (counted-here os ws side id n k o (omega arith) (omega arith) here)

-- it is not
pub counted-next : (os : List Opening) (ws : List ℕ) (side : Side) (id : SocketId) (n k : ℕ) (o : Opening) → k < length os → is_opening_at side id (get_or os k o) ≡ false → counts_after (take (suc k) os) ws side id n ≡ counts_after (take k os) ws side id n
counted-next [] ws side id n k o a other = absurd (omega arith)
counted-next (p ∷ os) [] side id n zero o a other = refl
counted-next (p ∷ os) [] side id n (suc k) o a other = refl
counted-next (p ∷ os) (v ∷ ws) side id n zero o a other = rw other
counted-next (p ∷ os) (v ∷ ws) side id n (suc k) o a other =
    ap (λ (vs : List ℕ). (counts_after (p ∷ []) (v ∷ []) side id n) ++ vs) (counted-next os ws side id n k o (omega arith) other)
