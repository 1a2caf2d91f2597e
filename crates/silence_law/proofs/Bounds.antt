-- A number that every step lowers: how often two ends may act, by what both lack, by what is owed and on its way, and by how much is on its way.
use Rattle.std.proofs.Common.{◌≡◌, ℕ, zero, suc, ◌+◌, ◌*◌, ◌<◌, ◌≤◌, ◌^◌, inl, inr, arith, sym, subst}
use Rattle.std.proofs.lemmas.Bool.Decides.{leb_tells}

-- how often at most once one end is CLOSED, with so many segments on their way
abbrev pub most_ended : ℕ → ℕ
most_ended way = 2 ^ 30 * (2 ^ 30 + way) + (2 ^ 30 + way)

-- how much may be owed and on its way, weighed
abbrev pub most_owed : ℕ → ℕ
most_owed way = 2 ^ 30 + 10 * way

-- While as much is lacked, each act lowers what is owed and on its way by one at least, and puts one segment on its way at most; so it is until less is lacked.
abbrev pub most_acts : ℕ → ℕ → ℕ → ℕ
most_acts zero owed way = owed + suc (most_ended (owed + way + 1))
most_acts (suc lacked) owed way = owed + suc (most_acts lacked (most_owed (owed + way + 1)) (owed + way + 1))

pub more_acts : (lacked owed way more far : ℕ) → owed ≤ more → way ≤ far → most_acts lacked owed way ≤ most_acts lacked more far
more_acts zero owed way more far a b = omega (arith, a, b)
more_acts (suc lacked) owed way more far a b =
    let ih = more_acts lacked (most_owed (owed + way + 1)) (owed + way + 1) (most_owed (more + far + 1)) (more + far + 1) (omega (arith, a, b)) (omega (arith, a, b)) in
    omega (arith, ih, a)

-- as many at least where more is lacked
one_deeper : (lacked owed way : ℕ) → most_acts lacked owed way ≤ most_acts (suc lacked) owed way
one_deeper zero owed way = omega arith
one_deeper (suc lacked) owed way = let ih = one_deeper lacked (most_owed (owed + way + 1)) (owed + way + 1) in omega (arith, ih)

deeper : (less lacked owed way : ℕ) → less ≤ lacked → most_acts less owed way ≤ most_acts lacked owed way
deeper less zero owed way e = let none : less ≡ 0 = omega (arith, e) in subst (λ n. most_acts n owed way ≤ most_acts 0 owed way) (sym none) (omega arith)
deeper less (suc lacked) owed way e = elim (leb_tells less lacked) [
  | inl within ↦ let ih = deeper less lacked owed way within.1 in let one = one_deeper lacked owed way in omega (arith, ih, one)
  | inr beyond ↦ let all : less ≡ suc lacked = omega (arith, e, beyond.1) in subst (λ n. most_acts n owed way ≤ most_acts (suc lacked) owed way) (sym all) (omega arith)
]

-- what is owed and on its way gets less
pub owed_falls : (lacked owed way less far : ℕ) → less < owed → far ≤ way + 1 → most_acts lacked less far < most_acts lacked owed way
owed_falls zero owed way less far a b = omega (arith, a, b)
owed_falls (suc lacked) owed way less far a b =
    let inner = more_acts lacked (most_owed (less + far + 1)) (less + far + 1) (most_owed (owed + way + 1)) (owed + way + 1) (omega (arith, a, b)) (omega (arith, a, b)) in
    omega (arith, inner, a)

-- less is lacked, whatever is owed then
pub lacked_falls : (less lacked owed way left far : ℕ) → less < lacked → left ≤ most_owed far → far ≤ way + 1 → most_acts less left far < most_acts lacked owed way
lacked_falls less zero owed way left far a b c = absurd (omega (arith, a))
lacked_falls less (suc lacked) owed way left far a b c =
    let one = deeper less lacked left far (omega (arith, a)) in
    let two = more_acts lacked left far (most_owed (owed + way + 1)) (owed + way + 1) (omega (arith, b, c)) (omega (arith, c)) in
    omega (arith, one, two)

-- one end is CLOSED then
pub one_ends : (lacked owed way left far : ℕ) → left ≤ most_ended far → far ≤ way + 1 → left < most_acts lacked owed way
one_ends zero owed way left far a b = omega (arith, a, b)
one_ends (suc lacked) owed way left far a b =
    let ih = one_ends lacked (most_owed (owed + way + 1)) (owed + way + 1) left far a (omega (arith, b)) in
    omega (arith, ih)
