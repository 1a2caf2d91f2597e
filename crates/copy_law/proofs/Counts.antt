-- What is counted beside openings, and which epoch they tell, after one more.
use Rattle.std.proofs.Common.{◌≡◌, ℕ, suc, zero, ◌+◌, ◌≤◌, ◌⊎◌, inl, inr, Bool, true, false, cond, List, [], ◌∷◌, ◌++◌, length, Some, fold, map, arith, refl, ◌∙◌, ap}
use Rattle.std.specs.List.{slice_get}
use Rattle.ipv4.specs.declared.addr.Pair.{Pair}
use Rattle.sockets.specs.declared.entry.SocketId.{SocketId}
use Rattle.sides.specs.declared.side.Side.{Side}
use Rattle.wire_sim.specs.declared.event.Opening.{Opening}
use Rattle.wire_sim.specs.Openings.{epoch_of}
use Rattle.wire_sim.specs.Tallies.{same_pair, is_opening_of, is_opening_at, written_by, counts_after}
use Rattle.wire_sim.proofs.tables.PairOfPorts.{same_pair-true}

-- an opening of which nothing is counted yet adds nothing
pub written_by-opened : (os : List Opening) (ws : List ℕ) (o : Opening) (side : Side) (pair : Pair) (epoch : ℕ) → length ws ≡ length os
    → written_by (os ++ o ∷ []) (ws ++ 0 ∷ []) side pair epoch ≡ written_by os ws side pair epoch
written_by-opened [] [] o side pair epoch e = both (is_opening_of side pair epoch o)
  where
    both : (b : Bool) → ◌≡◌ {A = ℕ} (cond b 0 0) 0
    both true = refl
    both false = refl
written_by-opened [] (w ∷ ws) o side pair epoch e = cc
written_by-opened (x ∷ os) [] o side pair epoch e = cc
written_by-opened (x ∷ os) (w ∷ ws) o side pair epoch e =
    let rest : length ws ≡ length os = omega (arith, e) in
    ap (cond (is_opening_of side pair epoch x) w) (written_by-opened os ws o side pair epoch rest)

-- octets that a socket took are counted once at most
pub written_by-counted : (os : List Opening) (ws : List ℕ) (at : Side) (id : SocketId) (more : ℕ) (side : Side) (pair : Pair) (epoch : ℕ)
    → written_by os (counts_after os ws at id more) side pair epoch ≤ written_by os ws side pair epoch + more
written_by-counted [] ws at id more side pair epoch = omega arith
written_by-counted (x ∷ os) [] at id more side pair epoch = omega arith
written_by-counted (x ∷ os) (w ∷ ws) at id more side pair epoch = pick (is_opening_at at id x) (is_opening_of side pair epoch x) (written_by-counted os ws at id more side pair epoch)
  where
    pick : (b c : Bool) → written_by os (counts_after os ws at id more) side pair epoch ≤ written_by os ws side pair epoch + more
        → cond c (cond b (w + more) w) (written_by os (counts_after os ws at id more) side pair epoch) ≤ cond c w (written_by os ws side pair epoch) + more
    pick true true e = omega arith
    pick false true e = omega arith
    pick b false e = e

pub length-counted : (os : List Opening) (ws : List ℕ) (at : Side) (id : SocketId) (more : ℕ) → length ws ≡ length os → length (counts_after os ws at id more) ≡ length os
length-counted [] ws at id more e = e
length-counted (x ∷ os) [] at id more e = cc
length-counted (x ∷ os) (w ∷ ws) at id more e = let rest : length ws ≡ length os = omega (arith, e) in ap suc (length-counted os ws at id more rest)

-- the epoch so far, and then one more opening
epoch_step : Pair → ℕ → Opening → ℕ
epoch_step pair epoch o = cond (same_pair o.pair pair) o.epoch epoch

fold-more : {X : Type 0} (f : ℕ → X → ℕ) (z : ℕ) (xs : List X) (x : X) → fold f z (xs ++ x ∷ []) ≡ f (fold f z xs) x
fold-more f z [] x = refl
fold-more f z (y ∷ ys) x = fold-more f (f z y) ys x

-- an opening in the epoch that its pair is in leaves every pair in its epoch
pub epoch_of-opened : (os : List Opening) (o : Opening) (pair : Pair) → o.epoch ≡ epoch_of os o.pair → epoch_of (os ++ o ∷ []) pair ≡ epoch_of os pair
epoch_of-opened os o pair is = fold-more (λ epoch (x : Opening). cond (same_pair x.pair pair) x.epoch epoch) 0 os o ∙ by_pair (same_pair o.pair pair) refl
  where
    by_pair : (b : Bool) → same_pair o.pair pair ≡ b → cond b o.epoch (epoch_of os pair) ≡ epoch_of os pair
    by_pair true same = is ∙ ap (epoch_of os) (same_pair-true o.pair pair same)
    by_pair false same = refl

-- what stands in a list that was made of another
pub slice_get-mapped : {X Y : Type 0} (f : X → Y) (xs : List X) (i : ℕ) (y : Y) → slice_get (map f xs) i ≡ Some y → (x : X) × (slice_get xs i ≡ Some x) × (f x ≡ y)
slice_get-mapped f [] i y at = cc
slice_get-mapped f (x ∷ xs) zero y at = (x, refl, (let e : Some (f x) ≡ Some y = at in cc))
slice_get-mapped f (x ∷ xs) (suc i) y at = slice_get-mapped f xs i y at

-- what stands in a list with one more stood there before, or is that one
pub slice_get-more : {X : Type 0} (xs : List X) (x y : X) (i : ℕ) → slice_get (xs ++ x ∷ []) i ≡ Some y → (slice_get xs i ≡ Some y) ⊎ ((y ≡ x) × (i ≡ length xs))
slice_get-more [] x y zero at = inr ((let e : Some x ≡ Some y = at in cc), refl)
slice_get-more [] x y (suc i) at = cc
slice_get-more (z ∷ zs) x y zero at = inl at
slice_get-more (z ∷ zs) x y (suc i) at = elim (slice_get-more zs x y i at) [ inl k ↦ inl k | inr k ↦ inr (k.0, ap suc k.1) ]

pub map-more : {X Y : Type 0} (f : X → Y) (xs : List X) (x : X) → map f (xs ++ x ∷ []) ≡ map f xs ++ f x ∷ []
map-more f [] x = refl
map-more f (y ∷ ys) x = ap (λ l. f y ∷ l) (map-more f ys x)
