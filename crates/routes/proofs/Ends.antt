-- The ends of a network, bit by bit.
use Rattle.std.proofs.Common.{◌≡◌, ℕ, ◌+◌, ◌-◌, ◌*◌, ◌/◌, ◌%◌, ◌^◌, ◌<◌, ◌≤◌, ◌⊎◌, ⊎_elim, inl, inr, ◌||◌, nat_lt, nat_eq, All, length, pow_pos, arith, sym, ◌∙◌, ap}
use native.Mathlib.Nat.{div-add-mod'}
use Rattle.std.specs.Bool.{Decides}
use Rattle.std.specs.Int.{bit_at}
use Rattle.std.proofs.lemmas.Bool.{cases_lt}
use Rattle.std.proofs.lemmas.Bool.Decides.{Decides-and, Decides-or, Decides-like, Decides-eqb, Decides-ltb}
use Rattle.std.proofs.lemmas.Nat.{mod_below}
use Rattle.std.proofs.lemmas.Nat.Bits.{bit_at-zero, bit_at_above, bit_at_cat_low, bit_at_cat_high, bit_at_ones, same_from_bits, same_from_bits_below}
use Rattle.ipv4.specs.declared.addr.Addr.{Addr}
use Rattle.ipv4.specs.declared.prefix.Prefix.{Prefix}
use Rattle.ipv4.specs.Prefixes.{number, bit, StartAlike}
use Rattle.ipv4.proofs.OnePrefix.{number-lt}
use Rattle.ipv4.proofs.Prefixes.{same_bits}
use Rattle.routes.specs.Ends.{last_number, is_end_of, AllPast, IsEndOf}

-- a number whose lowest bits are zero is a multiple
rest_zero : (p m : ℕ) → ((i : ℕ) → i < m → bit_at p i ≡ 0) → p % 2 ^ m ≡ 0
rest_zero p m zeros = same_from_bits_below m (p % 2 ^ m) 0 (mod_below p (2 ^ m) (pow_pos m)) (pow_pos m) low
  where
    low : (i : ℕ) → i < m → bit_at (p % 2 ^ m) i ≡ bit_at 0 i
    low i l = sym (bit_at_cat_low (p / 2 ^ m) m (p % 2 ^ m) i l) ∙ (ap (λ n. bit_at n i) (div-add-mod' p (2 ^ m)) ∙ (zeros i l ∙ sym (bit_at-zero i)))

-- with ones in their place
filled : (p m : ℕ) → p % 2 ^ m ≡ 0 → p + (2 ^ m - 1) ≡ p / 2 ^ m * 2 ^ m + (2 ^ m - 1)
filled p m whole = omega (arith, div-add-mod' p (2 ^ m), whole)

ones_below : (p m i : ℕ) → p % 2 ^ m ≡ 0 → i < m → bit_at (p + (2 ^ m - 1)) i ≡ 1
ones_below p m i whole l = ap (λ n. bit_at n i) (filled p m whole) ∙ (bit_at_cat_low (p / 2 ^ m) m (2 ^ m - 1) i l ∙ bit_at_ones m i l)

-- the others stay
kept_above : (p m i : ℕ) → p % 2 ^ m ≡ 0 → m ≤ i → bit_at (p + (2 ^ m - 1)) i ≡ bit_at p i
kept_above p m i whole past =
    let none : p / 2 ^ m * 2 ^ m + 0 ≡ p = omega (arith, div-add-mod' p (2 ^ m), whole) in
    ap (λ n. bit_at n i) (filled p m whole)
    ∙ (bit_at_cat_high (p / 2 ^ m) m (2 ^ m - 1) i (omega (arith, pow_pos m)) past ∙ (sym (bit_at_cat_high (p / 2 ^ m) m 0 i (pow_pos m) past) ∙ ap (λ n. bit_at n i) none))

module _ (prefix : Prefix) (addr : Addr) (four : length addr.0 ≡ 4) (octets : All (λ octet. octet < 256) addr.0) where
  fits : number addr < 2 ^ 32
  fits = number-lt addr octets

  first_fits : number prefix.addr < 2 ^ 32
  first_fits = number-lt prefix.addr prefix.form.in_range

  -- no bit of the prefix is set past it
  whole : number prefix.addr % 2 ^ (32 - prefix.length) ≡ 0
  whole = rest_zero (number prefix.addr) (32 - prefix.length) zero_at
    where
      zero_at : (i : ℕ) → i < 32 - prefix.length → bit_at (number prefix.addr) i ≡ 0
      zero_at i l =
          let place : i ≡ 31 - (31 - i) = omega arith in
          ap (bit_at (number prefix.addr)) place ∙ prefix.form.no_bit_past (31 - i) (omega arith) (omega arith)

  -- the network itself
  network : number addr ≡ number prefix.addr → StartAlike prefix.length prefix.addr addr × AllPast 0 prefix addr
  network same = (λ k _. ap (λ n. bit_at n (31 - k)) (sym same), λ k from l. ap (λ n. bit_at n (31 - k)) same ∙ prefix.form.no_bit_past k from l)

  is_network : StartAlike prefix.length prefix.addr addr → AllPast 0 prefix addr → number addr ≡ number prefix.addr
  is_network alike zeros = same_bits (number addr) (number prefix.addr) fits first_fits each
    where
      each : (k : ℕ) → k < 32 → bit addr k ≡ bit prefix.addr k
      each k l = ⊎_elim (λ inside. sym (alike k inside)) (λ from. zeros k from l ∙ sym (prefix.form.no_bit_past k from l)) (cases_lt k prefix.length)

  -- all its hosts
  last_alike : (k : ℕ) → k < prefix.length → bit_at (last_number prefix) (31 - k) ≡ bit prefix.addr k
  last_alike k inside = let at_most = prefix.form.at_most in kept_above (number prefix.addr) (32 - prefix.length) (31 - k) whole (omega arith)

  last_ones : (k : ℕ) → prefix.length ≤ k → k < 32 → bit_at (last_number prefix) (31 - k) ≡ 1
  last_ones k from l = ones_below (number prefix.addr) (32 - prefix.length) (31 - k) whole (omega arith)

  all_hosts : number addr ≡ last_number prefix → StartAlike prefix.length prefix.addr addr × AllPast 1 prefix addr
  all_hosts same = (λ k inside. sym (ap (λ n. bit_at n (31 - k)) same ∙ last_alike k inside), λ k from l. ap (λ n. bit_at n (31 - k)) same ∙ last_ones k from l)

  is_all_hosts : StartAlike prefix.length prefix.addr addr → AllPast 1 prefix addr → number addr ≡ last_number prefix
  is_all_hosts alike ones = same_from_bits (number addr) (last_number prefix) each
    where
      inside : (k : ℕ) → k < 32 → bit addr k ≡ bit_at (last_number prefix) (31 - k)
      inside k l = ⊎_elim (λ below. sym (alike k below) ∙ sym (last_alike k below)) (λ from. ones k from l ∙ sym (last_ones k from l)) (cases_lt k prefix.length)

      within : (i : ℕ) → i < 32 → bit_at (number addr) i ≡ bit_at (last_number prefix) i
      within i l =
          let place : 31 - (31 - i) ≡ i = omega arith in
          rw place at (inside (31 - i) (omega arith))

      above : (i : ℕ) → 32 ≤ i → bit_at (number addr) i ≡ bit_at (last_number prefix) i
      above i from =
          bit_at_above (number addr) 32 i fits from
          ∙ sym (kept_above (number prefix.addr) (32 - prefix.length) i whole (omega arith) ∙ bit_at_above (number prefix.addr) 32 i first_fits from)

      each : (i : ℕ) → bit_at (number addr) i ≡ bit_at (last_number prefix) i
      each i = ⊎_elim (within i) (above i) (cases_lt i 32)

  pub end_decides : Decides (is_end_of addr prefix) (IsEndOf addr prefix)
  end_decides =
      Decides-like (is_end_of addr prefix) forth back
      (Decides-and (nat_lt prefix.length 31) (nat_eq (number addr) (number prefix.addr) || nat_eq (number addr) (last_number prefix)) (Decides-ltb prefix.length 31)
      (Decides-or (nat_eq (number addr) (number prefix.addr)) (nat_eq (number addr) (last_number prefix)) (Decides-eqb (number addr) (number prefix.addr)) (Decides-eqb (number addr) (last_number prefix))))
    where
      forth : (prefix.length < 31) × ((number addr ≡ number prefix.addr) ⊎ (number addr ≡ last_number prefix)) → IsEndOf addr prefix
      forth h =
          ⊎_elim (λ same. let n = network same in (h.0, n.0, inl n.1)) (λ same. let n = all_hosts same in (h.0, n.0, inr n.1)) h.1

      back : IsEndOf addr prefix → (prefix.length < 31) × ((number addr ≡ number prefix.addr) ⊎ (number addr ≡ last_number prefix))
      back h = (h.0, ⊎_elim (λ zeros. inl (is_network h.1 zeros)) (λ ones. inr (is_all_hosts h.1 ones)) h.2)
