-- Prefixes of one length that one address has are the same.
use Rattle.std.proofs.Common.{bytes_eq, nat_eq, ◌&&◌, ◌≡◌, ℕ, ◌^◌, ◌<◌, ⊎_elim, List, All, length, get_or, arith, refl, sym, ◌∙◌, ap, subst}
use Rattle.std.proofs.Props.{props}
use Rattle.std.proofs.lemmas.Bool.{cases_lt}
use Rattle.std.proofs.lemmas.Bool.Decides.{Decides-and, Decides-eqb, Decides-like}
use Rattle.std.proofs.lemmas.List.{get_or_past}
use Rattle.std.proofs.lemmas.Nat.{be_bytes_4}
use Rattle.std.proofs.lemmas.Slice.Eq.{bytes_eq-Decides}
use Rattle.std.specs.Bool.{Decides}
use Rattle.ipv4.specs.declared.addr.Addr.{Addr}
use Rattle.ipv4.specs.declared.prefix.Prefix.{Prefix}
use Rattle.ipv4.specs.Prefixes.{IsPrefix, StartAlike, number, bit}
use Rattle.ipv4.proofs.Prefixes.{same_bits}

IsPrefix-prop : (addr : Addr) (n : ℕ) → IsProp (IsPrefix addr n)
IsPrefix-prop addr n = hlevel props

abbrev made : (addr : Addr) (n : ℕ) → IsPrefix addr n → Prefix
made addr n form = record { addr = addr; length = n; form = form }

same_made : (a b : Addr) (m n : ℕ) (f : IsPrefix a m) (g : IsPrefix b n) → a ≡ b → m ≡ n → made a m f ≡ made b n g
same_made a b m n f g e d = subst (λ (x : Addr). (h : IsPrefix x n) → made a m f ≡ made x n h) e along g
  where
    along : (h : IsPrefix a n) → made a m f ≡ made a n h
    along = subst (λ (k : ℕ). (h : IsPrefix a k) → made a m f ≡ made a k h) d (λ h. ap (made a m) (IsPrefix-prop a m f h))

octet : (xs : List ℕ) → All (λ o. o < 256) xs → (i : ℕ) → get_or xs i 0 < 256
octet xs each i = ⊎_elim (λ inside. each i 0 inside) (λ past. omega (arith, get_or_past xs i 0 past)) (cases_lt i (length xs))

pub number-lt : (a : Addr) → All (λ o. o < 256) a.0 → number a < 2 ^ 32
number-lt a each =
    let h = octet a.0 each in
    omega (arith, h 0, h 1, h 2, h 3)

one_address : (a b : Addr) → length a.0 ≡ 4 → length b.0 ≡ 4 → All (λ o. o < 256) a.0 → All (λ o. o < 256) b.0 → number a ≡ number b → a ≡ b
one_address a b la lb ha hb e =
    let octets : a.0 ≡ b.0 = sym (be_bytes_4 a.0 (number a) la (octet a.0 ha) refl) ∙ be_bytes_4 b.0 (number a) lb (octet b.0 hb) e in
    let same : ◌≡◌ {A = Addr} (record { 0 = a.0 }) (record { 0 = b.0 }) = cc in
    same

-- two prefixes of one length that an address starts with are one
pub one_prefix : (p q : Prefix) (addr : Addr) → p.length ≡ q.length → StartAlike p.length p.addr addr → StartAlike q.length q.addr addr → p ≡ q
one_prefix p q addr e hp hq =
    same_made p.addr q.addr p.length q.length p.form q.form
    (one_address p.addr q.addr p.form.octets q.form.octets p.form.in_range q.form.in_range (same_bits (number p.addr) (number q.addr) (number-lt p.addr p.form.in_range) (number-lt q.addr q.form.in_range) each)) e
  where
    each : (k : ℕ) → k < 32 → bit p.addr k ≡ bit q.addr k
    each k l =
        ⊎_elim (λ inside. hp k inside ∙ sym (hq k (omega arith)))
        (λ past. p.form.no_bit_past k past l ∙ sym (q.form.no_bit_past k (omega arith) l)) (cases_lt k p.length)

-- what `==` of two prefixes answers
pub prefix_eq-Decides : (p q : Prefix) → Decides (bytes_eq p.addr.0 q.addr.0 && nat_eq p.length q.length) (p ≡ q)
prefix_eq-Decides p q =
    Decides-like (bytes_eq p.addr.0 q.addr.0 && nat_eq p.length q.length) forth (λ same. (ap (λ (x : Prefix). x.addr.0) same, ap (λ (x : Prefix). x.length) same))
    (Decides-and (bytes_eq p.addr.0 q.addr.0) (nat_eq p.length q.length) (bytes_eq-Decides p.addr.0 q.addr.0) (Decides-eqb p.length q.length))
  where
    forth : (p.addr.0 ≡ q.addr.0) × (p.length ≡ q.length) → p ≡ q
    forth both =
        let octets : p.addr.0 ≡ q.addr.0 = both.0 in
        let address : ◌≡◌ {A = Addr} (record { 0 = p.addr.0 }) (record { 0 = q.addr.0 }) = cc in
        same_made p.addr q.addr p.length q.length p.form q.form address both.1
