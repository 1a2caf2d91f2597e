-- The first fault of octets that begin with no header.
use Rattle.std.proofs.Common.{◌≡◌, ◌≢◌, ℕ, ◌+◌, ◌-◌, ◌<◌, ◌≤◌, ◌^◌, ◌==◌, ◌&&◌, Bool, true, false, nat_lt, List, ◌++◌, length, take, drop, All, Option, Some, None, Err, arith, refl, ◌∙◌, ap, append_assoc, length-append}
use Rattle.std.proofs.lemmas.Bool.Decides.{nat_tests}
use Rattle.std.proofs.lemmas.Bool.{eqb-true}
use Rattle.std.proofs.lemmas.List.{drop_at, take_at}
use Rattle.capture.specs.declared.fault.HeaderFault.{HeaderFault}
use Rattle.capture.specs.declared.fault.HeaderFault.TheVariants.{LinkType, NotACapture, Short, Version}
use Rattle.capture.specs.declared.format.Format.{Format}
use Rattle.capture.specs.declared.format.Order.{Order}
use Rattle.capture.specs.declared.format.Order.TheVariants.{Little}
use Rattle.capture.specs.Capture.{magic_of, magic_octets, number_in, number_octets, version_octets}
use Rattle.capture.specs.Reading.{behind_header, format_of, header_in, header_of, header_with, number_at, opened}
use Rattle.capture.proofs.Beginnings.{cut_behind_magic, cut_in_magic, magic_read}
use Rattle.capture.proofs.Numbers.{behind, length-number, number_back}
use Rattle.capture.proofs.Opening.{magic_spelled}
use Rattle.capture.proofs.Spelled.{all_octets, number_spelled}
use Rattle.capture.proofs.Steps.{passed, stopped}

-- octets with a fault in their header are not opened
refused : (octets : List ℕ) (fault : HeaderFault) → header_in octets ≡ Err fault → opened octets ≡ Err fault
refused octets fault is = ap (λ r. behind_header r octets) is

pub few_told : (octets : List ℕ) → length octets < 4 → opened octets ≡ Err (Short (24 - length octets))
few_told octets few = refused octets (Short (24 - length octets)) (cut_in_magic octets (length octets) refl few)

pub magic_told : (octets : List ℕ) → All (λ octet. octet < 256) octets → 4 ≤ length octets → ((f : Format) → take 4 octets ≢ magic_octets f)
    → opened octets ≡ Err (NotACapture (number_in Little 4 octets))
magic_told octets each least none = by_format (format_of (number_in Little 4 octets)) refl
  where
    by_format : (found : Option Format) → format_of (number_in Little 4 octets) ≡ found → opened octets ≡ Err (NotACapture (number_in Little 4 octets))
    by_format None is =
        let t0 : nat_lt (length octets) 4 ≡ false = grind (arith, nat_tests, least) in
        refused octets _ (passed _ _ _ t0 ∙ ap (λ f. header_with f octets) is)
    by_format (Some f) is =
        let front : List ℕ = number_octets Little 4 (number_in Little 4 octets) in
        let spelled : octets ≡ front ++ drop 4 octets = number_spelled Little octets (all_octets octets each) least in
        absurd (none f (ap (take 4) spelled ∙ take_at front (drop 4 octets) 4 (length-number Little 4 (number_in Little 4 octets)) ∙ magic_spelled (number_in Little 4 octets) f is))

pub cut_told : (f : Format) (rest : List ℕ) → length rest < 20 → opened (magic_octets f ++ rest) ≡ Err (Short (20 - length rest))
cut_told f rest few =
    let octets : List ℕ = magic_octets f ++ rest in
    let len : length octets ≡ 4 + length rest = omega (arith, length-append (magic_octets f) rest, length-number f.order 4 (magic_of f.fraction)) in
    let told : header_in octets ≡ Err (Short (24 - (4 + length rest))) =
    cut_behind_magic octets (4 + length rest) f len (omega arith) (omega (arith, few)) (magic_read f.order f.fraction rest)
    in
    let missing : 24 - (4 + length rest) ≡ 20 - length rest = omega (arith, few) in
    refused octets (Short (20 - length rest)) (told ∙ ap (λ n. Err (Short n)) missing)

-- the numbers in octets that begin with a magic number and a version, of which there are enough
record Begins (f : Format) (major minor : ℕ) (octets behind_version : List ℕ) : Type 0 where
  pub found : header_in octets ≡ header_of f octets
  pub enough : nat_lt (length octets) 24 ≡ false
  pub major_is : number_at f.order 2 4 octets ≡ major
  pub minor_is : number_at f.order 2 6 octets ≡ minor
  pub left : drop 8 octets ≡ behind_version

begins : (f : Format) (major minor : ℕ) (rest : List ℕ) → major < 2 ^ 16 → minor < 2 ^ 16 → 16 ≤ length rest → Begins f major minor (magic_octets f ++ version_octets f major minor ++ rest) rest
begins f major minor rest fits_major fits_minor room =
    let o : Order = f.order in
    let m : List ℕ = magic_octets f in
    let u : List ℕ = number_octets o 2 major in
    let v : List ℕ = number_octets o 2 minor in
    let octets : List ℕ = m ++ version_octets f major minor ++ rest in
    let from6 : List ℕ = v ++ rest in
    let from4 : List ℕ = u ++ from6 in
    let is : octets ≡ m ++ from4 = simp append_assoc in
    let at4 : drop 4 octets ≡ from4 = ap (drop 4) is ∙ drop_at m from4 4 (length-number o 4 (magic_of f.fraction)) in
    let at6 : drop 6 octets ≡ from6 = behind 4 2 octets u from6 at4 (length-number o 2 major) in
    let len : length octets ≡ 8 + length rest =
    ap length is ∙ omega (arith, length-append m from4, length-append u from6, length-append v rest, length-number o 4 (magic_of f.fraction), length-number o 2 major, length-number o 2 minor)
    in
    let t0 : nat_lt (length octets) 4 ≡ false = grind (arith, nat_tests, len) in
    let format : format_of (number_in Little 4 octets) ≡ Some f = ap (λ (xs : List ℕ). format_of (number_in Little 4 xs)) is ∙ magic_read o f.fraction from4 in
    record {
      found = passed _ _ _ t0 ∙ ap (λ g. header_with g octets) format;
      enough = grind (arith, nat_tests, len, room);
      major_is = ap (number_in o 2) at4 ∙ number_back o 2 major from6 (omega (arith, fits_major));
      minor_is = ap (number_in o 2) at6 ∙ number_back o 2 minor rest (omega (arith, fits_minor));
      left = behind 6 2 octets v rest at6 (length-number o 2 minor);
    }

-- another version
not_both : (a b : ℕ) → ((a ≡ 2) × (b ≡ 4) → ⊥) → (a == 2 && b == 4) ≡ false
not_both a b other = by_tests (a == 2) (b == 4) refl refl
  where
    by_tests : (p q : Bool) → (a == 2) ≡ p → (b == 4) ≡ q → (a == 2 && b == 4) ≡ false
    by_tests true true first second = absurd (other (eqb-true a 2 first, eqb-true b 4 second))
    by_tests true false first second = rw (first, second) refl
    by_tests false q first second = rw first refl

pub version_told : (f : Format) (major minor : ℕ) (rest : List ℕ) → major < 2 ^ 16 → minor < 2 ^ 16 → 16 ≤ length rest → ((major ≡ 2) × (minor ≡ 4) → ⊥)
    → opened (magic_octets f ++ version_octets f major minor ++ rest) ≡ Err (Version major minor)
version_told f major minor rest fits_major fits_minor room other =
    let octets : List ℕ = magic_octets f ++ version_octets f major minor ++ rest in
    let are : Begins f major minor octets rest = begins f major minor rest fits_major fits_minor room in
    let t2 : (number_at f.order 2 4 octets == 2 && number_at f.order 2 6 octets == 4) ≡ false = rw (are.major_is, are.minor_is) (not_both major minor other) in
    refused octets (Version major minor)
    (are.found ∙ (passed _ _ _ are.enough ∙ (passed _ _ _ t2 ∙ (ap (λ n. Err (Version n (number_at f.order 2 6 octets))) are.major_is ∙ ap (λ n. Err (Version major n)) are.minor_is))))

pub link_type_told : (f : Format) (passed_over rest : List ℕ) (link : ℕ) → length passed_over ≡ 12 → link < 2 ^ 32 → link ≢ 1
    → opened (magic_octets f ++ version_octets f 2 4 ++ passed_over ++ number_octets f.order 4 link ++ rest) ≡ Err (LinkType link)
link_type_told f passed_over rest link twelve fits other =
    let l : List ℕ = number_octets f.order 4 link in
    let behind_version : List ℕ = passed_over ++ (l ++ rest) in
    let octets : List ℕ = magic_octets f ++ version_octets f 2 4 ++ behind_version in
    let regrouped : magic_octets f ++ version_octets f 2 4 ++ passed_over ++ l ++ rest ≡ octets = simp append_assoc in
    let room : 16 ≤ length behind_version = omega (arith, length-append passed_over (l ++ rest), length-append l rest, length-number f.order 4 link, twelve) in
    let are : Begins f 2 4 octets behind_version = begins f 2 4 behind_version (omega arith) (omega arith) room in
    let link_is : number_at f.order 4 20 octets ≡ link =
    ap (number_in f.order 4) (behind 8 12 octets passed_over (l ++ rest) are.left twelve) ∙ number_back f.order 4 link rest (omega (arith, fits))
    in
    let t2 : (number_at f.order 2 4 octets == 2 && number_at f.order 2 6 octets == 4) ≡ true = grind (arith, nat_tests, are.major_is, are.minor_is) in
    let t3 : (number_at f.order 4 20 octets == 1) ≡ false = grind (arith, nat_tests, link_is, other) in
    ap opened regrouped ∙ refused octets (LinkType link) (are.found ∙ (passed _ _ _ are.enough ∙ (stopped _ _ _ t2 ∙ (passed _ _ _ t3 ∙ ap (λ n. Err (LinkType n)) link_is))))
