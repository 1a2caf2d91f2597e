-- The pair of two endpoints.
use Rattle.std.proofs.Common.{◌≡◌, ◌⊎◌, inl, inr, Bool, true, false, IsTrue, cond, refl, ap}
use Rattle.std.specs.declared.cmp.Ordering.{Ordering}
use Rattle.std.specs.declared.cmp.Ordering.TheVariants.{Less, Equal, Greater}
use Rattle.std.specs.Ordering.{nat_cmp, ordering_then, ordering_reverse, is_le}
use Rattle.std.specs.Cmp.{IsTotalOrder}
use Rattle.std.specs.Cmp.Lexicographic.{slice_cmp, lists_total}
use Rattle.std.specs.FinMap.{nat_cmp-IsAntisymmetric, slice_cmp-IsAntisymmetric}
use Rattle.std.proofs.lemmas.Cmp.{nat_cmp_total, on_total, then_total}
use Rattle.ipv4.specs.declared.addr.Endpoint.{Endpoint}
use Rattle.ipv4.specs.declared.addr.Pair.{Pair}
use Rattle.ipv4.specs.Addresses.{endpoint_cmp, pair_of}

pub endpoints_total : IsTotalOrder endpoint_cmp
endpoints_total = then_total (on_total (λ (e : Endpoint). e.addr.0) (lists_total nat_cmp_total)) (on_total (λ (e : Endpoint). e.port) nat_cmp_total)

both_equal : (o p : Ordering) → ordering_then o p ≡ Equal → (o ≡ Equal) × (p ≡ Equal)
both_equal Less p e = cc
both_equal Equal p e = (refl, e)
both_equal Greater p e = cc

-- endpoints that compare alike are one
pub same_endpoint : (a b : Endpoint) → endpoint_cmp a b ≡ Equal → a ≡ b
same_endpoint a b e =
    let parts = both_equal (slice_cmp nat_cmp a.addr.0 b.addr.0) (nat_cmp a.port b.port) e in
    let octets : a.addr.0 ≡ b.addr.0 = slice_cmp-IsAntisymmetric nat_cmp-IsAntisymmetric a.addr.0 b.addr.0 parts.0 in
    let port : a.port ≡ b.port = nat_cmp-IsAntisymmetric a.port b.port parts.1 in
    let same : ◌≡◌ {A = Endpoint} (record { addr = record { 0 = a.addr.0 }; port = a.port }) (record { addr = record { 0 = b.addr.0 }; port = b.port }) = cc in
    same

either_way : (o p : Ordering) (a b : Endpoint) → o ≡ ordering_reverse p → (o ≡ Equal → a ≡ b)
    → ◌≡◌ {A = Pair} (cond (is_le o) (record { first = a; second = b }) (record { first = b; second = a })) (cond (is_le p) (record { first = b; second = a }) (record { first = a; second = b }))
either_way Less Less a b e same = cc
either_way Less Equal a b e same = cc
either_way Less Greater a b e same = refl
either_way Equal Less a b e same = cc
either_way Equal Equal a b e same = let is = same refl in cc
either_way Equal Greater a b e same = cc
either_way Greater Less a b e same = refl
either_way Greater Equal a b e same = cc
either_way Greater Greater a b e same = cc

-- in whichever order endpoints are named, their pair is the same
pub pair_of-swapped : (a b : Endpoint) → pair_of a b ≡ pair_of b a
pair_of-swapped a b = either_way (endpoint_cmp a b) (endpoint_cmp b a) a b (endpoints_total.antisymm a b) (same_endpoint a b)

-- endpoints that have one pair are the same two
by_order : (x y : Bool) (a b c d : Endpoint)
    → ◌≡◌ {A = Pair} (cond x (record { first = a; second = b }) (record { first = b; second = a })) (cond y (record { first = c; second = d }) (record { first = d; second = c }))
    → ((a ≡ c) × (b ≡ d)) ⊎ ((a ≡ d) × (b ≡ c))
by_order true true a b c d e = inl (ap (λ (p : Pair). p.first) e, ap (λ (p : Pair). p.second) e)
by_order true false a b c d e = inr (ap (λ (p : Pair). p.first) e, ap (λ (p : Pair). p.second) e)
by_order false true a b c d e = inr (ap (λ (p : Pair). p.second) e, ap (λ (p : Pair). p.first) e)
by_order false false a b c d e = inl (ap (λ (p : Pair). p.second) e, ap (λ (p : Pair). p.first) e)

pub same_ends : (a b c d : Endpoint) → pair_of a b ≡ pair_of c d → ((a ≡ c) × (b ≡ d)) ⊎ ((a ≡ d) × (b ≡ c))
same_ends a b c d e = by_order (is_le (endpoint_cmp a b)) (is_le (endpoint_cmp c d)) a b c d e

-- the first is the lesser one, or both are one
abbrev IsInOrder : Pair → Type 0
IsInOrder p = is_le (endpoint_cmp p.first p.second) ≡ true

in_order : (o p : Ordering) (a b : Endpoint) → endpoint_cmp a b ≡ o → endpoint_cmp b a ≡ p → o ≡ ordering_reverse p
    → IsInOrder (cond (is_le o) (record { first = a; second = b }) (record { first = b; second = a }))
in_order Less p a b e f r = ap is_le e
in_order Equal p a b e f r = ap is_le e
in_order Greater Less a b e f r = ap is_le f
in_order Greater Equal a b e f r = cc
in_order Greater Greater a b e f r = cc

pub lesser_first : (a b : Endpoint) → IsTrue (is_le (endpoint_cmp (pair_of a b).first (pair_of a b).second))
lesser_first a b = in_order (endpoint_cmp a b) (endpoint_cmp b a) a b refl refl (endpoints_total.antisymm a b)
