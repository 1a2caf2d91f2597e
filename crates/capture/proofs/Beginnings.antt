-- The header at the front of octets, whole or cut.
use Rattle.std.proofs.Common.{◌≡◌, ℕ, ◌+◌, ◌-◌, ◌<◌, ◌≤◌, ◌^◌, ◌==◌, ◌&&◌, true, false, nat_lt, List, ◌++◌, length, take, drop, Some, Result, Ok, Err, arith, refl, ◌∙◌, ap, ⊎_elim, append_assoc, length-append}
use Rattle.std.proofs.lemmas.Bool.Decides.{nat_tests}
use Rattle.std.proofs.lemmas.Bool.{cases_lt}
use Rattle.std.proofs.lemmas.List.{drop_at, length-take}
use Rattle.byteorder.specs.Numbers.{little_from-take}
use Rattle.capture.specs.declared.fault.HeaderFault.{HeaderFault}
use Rattle.capture.specs.declared.fault.HeaderFault.TheVariants.{Short}
use Rattle.capture.specs.declared.format.Format.{Format}
use Rattle.capture.specs.declared.format.Fraction.{Fraction}
use Rattle.capture.specs.declared.format.Fraction.TheVariants.{Microseconds, Nanoseconds}
use Rattle.capture.specs.declared.format.Order.{Order}
use Rattle.capture.specs.declared.format.Order.TheVariants.{Big, Little}
use Rattle.capture.specs.declared.header.Header.{Header}
use Rattle.capture.specs.Capture.{header_octets, magic_of, number_in, number_octets}
use Rattle.capture.specs.Reading.{behind_header, format_of, header_in, header_of, header_with, number_at, opened}
use Rattle.capture.proofs.Numbers.{behind, length-number, number_back}
use Rattle.capture.proofs.Steps.{passed, stopped}

-- a magic number tells order and fractions
pub magic_read : (o : Order) (f : Fraction) (rest : List ℕ)
    → format_of (number_in Little 4 (number_octets o 4 (magic_of f) ++ rest)) ≡ Some (record { order = o; fraction = f })
magic_read Little Microseconds rest = refl
magic_read Little Nanoseconds rest = refl
magic_read Big Microseconds rest = refl
magic_read Big Nanoseconds rest = refl

-- the parts of a header
record Parts (h : Header) (octets rest : List ℕ) : Type 0 where
  pub format : format_of (number_in Little 4 octets) ≡ Some h.format
  pub major : number_at h.format.order 2 4 octets ≡ 2
  pub minor : number_at h.format.order 2 6 octets ≡ 4
  pub snaplen : number_at h.format.order 4 16 octets ≡ h.snaplen
  pub link_type : number_at h.format.order 4 20 octets ≡ 1
  pub left : drop 24 octets ≡ rest
  pub len : length octets ≡ 24 + length rest

parts : (h : Header) (zone accuracy : ℕ) (rest : List ℕ) → h.snaplen < 2 ^ 32 → Parts h (header_octets h zone accuracy ++ rest) rest
parts h zone accuracy rest fits =
    let o : Order = h.format.order in
    let m : List ℕ = number_octets o 4 (magic_of h.format.fraction) in
    let u : List ℕ = number_octets o 2 2 in
    let v : List ℕ = number_octets o 2 4 in
    let z : List ℕ = number_octets o 4 zone in
    let a : List ℕ = number_octets o 4 accuracy in
    let s : List ℕ = number_octets o 4 h.snaplen in
    let l : List ℕ = number_octets o 4 1 in
    let octets : List ℕ = header_octets h zone accuracy ++ rest in
    let from20 : List ℕ = l ++ rest in
    let from16 : List ℕ = s ++ from20 in
    let from12 : List ℕ = a ++ from16 in
    let from8 : List ℕ = z ++ from12 in
    let from6 : List ℕ = v ++ from8 in
    let from4 : List ℕ = u ++ from6 in
    let is : octets ≡ m ++ from4 = simp append_assoc in
    let at4 : drop 4 octets ≡ from4 = ap (drop 4) is ∙ drop_at m from4 4 (length-number o 4 (magic_of h.format.fraction)) in
    let at6 : drop 6 octets ≡ from6 = behind 4 2 octets u from6 at4 (length-number o 2 2) in
    let at8 : drop 8 octets ≡ from8 = behind 6 2 octets v from8 at6 (length-number o 2 4) in
    let at12 : drop 12 octets ≡ from12 = behind 8 4 octets z from12 at8 (length-number o 4 zone) in
    let at16 : drop 16 octets ≡ from16 = behind 12 4 octets a from16 at12 (length-number o 4 accuracy) in
    let at20 : drop 20 octets ≡ from20 = behind 16 4 octets s from20 at16 (length-number o 4 h.snaplen) in
    let at24 : drop 24 octets ≡ rest = behind 20 4 octets l rest at20 (length-number o 4 1) in
    let len : length octets ≡ 24 + length rest = ap length is
    ∙ omega (arith, length-append m from4, length-append u from6, length-append v from8, length-append z from12, length-append a from16, length-append s from20, length-append l rest, length-number o 4 (magic_of h.format.fraction), length-number o 2 2, length-number o 2 4, length-number o 4 zone, length-number o 4 accuracy, length-number o 4 h.snaplen, length-number o 4 1) in
    record {
      format = ap (λ (xs : List ℕ). format_of (number_in Little 4 xs)) is ∙ magic_read o h.format.fraction from4;
      major = ap (number_in o 2) at4 ∙ number_back o 2 2 from6 (omega arith);
      minor = ap (number_in o 2) at6 ∙ number_back o 2 4 from8 (omega arith);
      snaplen = ap (number_in o 4) at16 ∙ number_back o 4 h.snaplen from20 (omega (arith, fits));
      link_type = ap (number_in o 4) at20 ∙ number_back o 4 1 rest (omega arith);
      left = at24;
      len = len;
    }

-- a header by its parts
abbrev headed : Format → ℕ → Header
headed format snaplen = record { format = format; snaplen = snaplen }

-- octets that begin with a header are opened
pub opened_whole : (h : Header) (zone accuracy : ℕ) (rest : List ℕ) → h.snaplen < 2 ^ 32
    → opened (header_octets h zone accuracy ++ rest) ≡ Ok (record { header = h; octets = rest })
opened_whole h zone accuracy rest fits =
    let octets : List ℕ = header_octets h zone accuracy ++ rest in
    let are : Parts h octets rest = parts h zone accuracy rest fits in
    let t0 : nat_lt (length octets) 4 ≡ false = grind (arith, nat_tests, are.len) in
    let t1 : nat_lt (length octets) 24 ≡ false = grind (arith, nat_tests, are.len) in
    let t2 : (number_at h.format.order 2 4 octets == 2 && number_at h.format.order 2 6 octets == 4) ≡ true = grind (arith, nat_tests, are.major, are.minor) in
    let t3 : (number_at h.format.order 4 20 octets == 1) ≡ true = grind (arith, nat_tests, are.link_type) in
    let inside : header_of h.format octets ≡ Ok h =
    passed _ _ _ t1 ∙ (stopped _ _ _ t2 ∙ (stopped _ _ _ t3 ∙ ap (λ n. Ok (headed h.format n)) are.snaplen)) in
    let found : header_in octets ≡ Ok h = passed _ _ _ t0 ∙ (ap (λ f. header_with f octets) are.format ∙ inside) in
    ap (λ r. behind_header r octets) found ∙ ap (λ xs. Ok (record { header = h; octets = xs })) are.left

-- a fault by how many octets there are
short_of : (m n : ℕ) → m ≡ n → ◌≡◌ {A = Result Header HeaderFault} (Err (Short (24 - m))) (Err (Short (24 - n)))
short_of m n same = ap (λ k. Err (Short (24 - k))) same

-- octets that end before the magic number does, and behind it
pub cut_in_magic : (octets : List ℕ) (n : ℕ) → length octets ≡ n → n < 4 → header_in octets ≡ Err (Short (24 - n))
cut_in_magic octets n is few =
    let t0 : nat_lt (length octets) 4 ≡ true = grind (arith, nat_tests, is, few) in
    stopped _ _ _ t0 ∙ short_of (length octets) n is

pub cut_behind_magic : (octets : List ℕ) (n : ℕ) (format : Format) → length octets ≡ n → 4 ≤ n → n < 24 → format_of (number_in Little 4 octets) ≡ Some format
    → header_in octets ≡ Err (Short (24 - n))
cut_behind_magic octets n format is least fewer told =
    let t0 : nat_lt (length octets) 4 ≡ false = grind (arith, nat_tests, is, least) in
    let t1 : nat_lt (length octets) 24 ≡ true = grind (arith, nat_tests, is, fewer) in
    passed _ _ _ t0 ∙ (ap (λ f. header_with f octets) told ∙ (stopped _ _ _ t1 ∙ short_of (length octets) n is))

-- octets that end within a header are told as short
pub opened_cut : (h : Header) (zone accuracy : ℕ) (rest : List ℕ) (n : ℕ) → h.snaplen < 2 ^ 32 → n < 24
    → opened (take n (header_octets h zone accuracy ++ rest)) ≡ Err (Short (24 - n))
opened_cut h zone accuracy rest n fits fewer =
    let whole : List ℕ = header_octets h zone accuracy ++ rest in
    let octets : List ℕ = take n whole in
    let are : Parts h whole rest = parts h zone accuracy rest fits in
    let len : length octets ≡ n = omega (arith, length-take n whole, are.len, fewer) in
    ap (λ r. behind_header r octets)
    (⊎_elim (cut_in_magic octets n len)
    (λ least. cut_behind_magic octets n h.format len least fewer (ap format_of (little_from-take 0 4 n whole (omega (arith, least))) ∙ are.format))
    (cases_lt n 4))
