-- What is read as a header is spelled so.
use Rattle.std.proofs.Common.{◌≡◌, ℕ, ◌+◌, ◌-◌, ◌≤◌, ◌==◌, ◌&&◌, ◌⊎◌, Bool, true, false, nat_lt, cond, List, ◌∷◌, ◌++◌, length, drop, Option, Some, None, Result, Ok, Err, arith, refl, sym, ◌∙◌, ap, subst, inl, inr, ⊎_elim, append_assoc, length-drop}
use Rattle.std.proofs.lemmas.Bool.Decides.{nat_tests}
use Rattle.std.proofs.lemmas.List.{drop-drop}
use Rattle.std.specs.Int.{byte_at}
use Rattle.capture.specs.declared.fault.HeaderFault.{HeaderFault}
use Rattle.capture.specs.declared.fault.HeaderFault.TheVariants.{LinkType, Short, Version}
use Rattle.capture.specs.declared.format.Format.{Format}
use Rattle.capture.specs.declared.format.Fraction.{Fraction}
use Rattle.capture.specs.declared.format.Fraction.TheVariants.{Microseconds, Nanoseconds}
use Rattle.capture.specs.declared.format.Order.{Order}
use Rattle.capture.specs.declared.format.Order.TheVariants.{Big, Little}
use Rattle.capture.specs.declared.header.Header.{Header}
use Rattle.capture.specs.Capture.{header_octets, magic_of, number_in, number_octets}
use Rattle.capture.specs.Reading.{Unread, behind_header, format_of, header_in, header_of, header_with, number_at, opened}
use Rattle.capture.proofs.Numbers.{AreOctets}
use Rattle.capture.proofs.Spelled.{number_at_place, number_spelled, octets_behind}

-- two octets are those of the number in them
short_spelled : (o : Order) (xs : List ℕ) → AreOctets xs → 2 ≤ length xs → xs ≡ number_octets o 2 (number_in o 2 xs) ++ drop 2 xs
short_spelled Little (x0 ∷ x1 ∷ rest) each least =
    let b0 = each 0 in
    let b1 = each 1 in
    let octets : List ℕ = x0 ∷ x1 ∷ rest in
    let e0 : x0 ≡ byte_at 0 (number_in Little 2 octets) = omega arith in
    let e1 : x1 ≡ byte_at 1 (number_in Little 2 octets) = omega arith in
    cc
short_spelled Big (x0 ∷ x1 ∷ rest) each least =
    let b0 = each 0 in
    let b1 = each 1 in
    let octets : List ℕ = x0 ∷ x1 ∷ rest in
    let e0 : x0 ≡ byte_at 1 (number_in Big 2 octets) = omega arith in
    let e1 : x1 ≡ byte_at 0 (number_in Big 2 octets) = omega arith in
    cc
short_spelled o xs each least = absurd (omega (arith, least))

-- the same of two octets at a place
short_at_place : (o : Order) (n : ℕ) (xs : List ℕ) → AreOctets xs → n + 2 ≤ length xs → drop n xs ≡ number_octets o 2 (number_at o 2 n xs) ++ drop (n + 2) xs
short_at_place o n xs each least =
    short_spelled o (drop n xs) (octets_behind n xs each) (omega (arith, length-drop n xs, least))
    ∙ ap (λ ys. number_octets o 2 (number_at o 2 n xs) ++ ys) (drop-drop 2 n xs)

-- which way a test went
went : {A : Type 0} (b : Bool) (x y z : A) → cond b x y ≡ z → ((b ≡ true) × (x ≡ z)) ⊎ ((b ≡ false) × (y ≡ z))
went true x y z e = inl (refl, e)
went false x y z e = inr (refl, e)

-- no format
nothing : (f : Format) → ◌≡◌ {A = Option Format} None (Some f) → ⊥
nothing f h = cc

-- a format by its parts
abbrev format_with : Order → Fraction → Format
format_with order fraction = record { order = order; fraction = fraction }

-- a magic number that is this one
is_magic : (m k : ℕ) (o : Order) (u : Fraction) (f : Format) → number_octets Little 4 k ≡ number_octets o 4 (magic_of u) → (m == k) ≡ true → Some (format_with o u) ≡ Some f
    → number_octets Little 4 m ≡ number_octets f.order 4 (magic_of f.fraction)
is_magic m k o u f same test found =
    let number : m ≡ k = grind (arith, nat_tests, test) in
    let format : format_with o u ≡ f = cc in
    ap (number_octets Little 4) number ∙ (same ∙ ap (λ (g : Format). number_octets g.order 4 (magic_of g.fraction)) format)

-- a format that is told is that of the magic number
pub magic_spelled : (m : ℕ) (f : Format) → format_of m ≡ Some f → number_octets Little 4 m ≡ number_octets f.order 4 (magic_of f.fraction)
magic_spelled m f e =
    ⊎_elim (λ a. is_magic m 0xa1b2c3d4 Little Microseconds f refl a.0 a.1)
    (λ a. ⊎_elim (λ b. is_magic m 0xd4c3b2a1 Big Microseconds f refl b.0 b.1)
    (λ b. ⊎_elim (λ c. is_magic m 0xa1b23c4d Little Nanoseconds f refl c.0 c.1)
    (λ c. ⊎_elim (λ d. is_magic m 0x4d3cb2a1 Big Nanoseconds f refl d.0 d.1) (λ d. absurd (nothing f d.1)) (went _ _ _ _ c.1))
    (went _ _ _ _ b.1)) (went _ _ _ _ a.1)) (went _ _ _ _ e)

-- what is known where a header is read
record IsHeader (h : Header) (octets : List ℕ) : Type 0 where
  pub room : 24 ≤ length octets
  pub format : format_of (number_in Little 4 octets) ≡ Some h.format
  pub major : number_at h.format.order 2 4 octets ≡ 2
  pub minor : number_at h.format.order 2 6 octets ≡ 4
  pub snaplen : number_at h.format.order 4 16 octets ≡ h.snaplen
  pub link_type : number_at h.format.order 4 20 octets ≡ 1

-- a fault is no header
kept : (b : Bool) (fault : HeaderFault) (y : Result Header HeaderFault) (h : Header) → cond b (Err fault) y ≡ Ok h → (b ≡ false) × (y ≡ Ok h)
kept true fault y h e = cc
kept false fault y h e = (refl, e)

unless : (b : Bool) (fault : HeaderFault) (y : Result Header HeaderFault) (h : Header) → cond b y (Err fault) ≡ Ok h → (b ≡ true) × (y ≡ Ok h)
unless true fault y h e = (refl, e)
unless false fault y h e = cc

header_with_format : (f : Format) (octets : List ℕ) (h : Header) → format_of (number_in Little 4 octets) ≡ Some f → header_of f octets ≡ Ok h → IsHeader h octets
header_with_format f octets h told found =
    let major : ℕ = number_at f.order 2 4 octets in
    let minor : ℕ = number_at f.order 2 6 octets in
    let link_type : ℕ = number_at f.order 4 20 octets in
    let own : Header = record { format = f; snaplen = number_at f.order 4 16 octets } in
    let a = kept (nat_lt (length octets) 24) (Short (24 - length octets)) _ h found in
    let b = unless (major == 2 && minor == 4) (Version major minor) _ h a.1 in
    let c = unless (link_type == 1) (LinkType link_type) (Ok own) h b.1 in
    let both : (major == 2 && minor == 4) ≡ true = b.0 in
    let one : (link_type == 1) ≡ true = c.0 in
    let enough : nat_lt (length octets) 24 ≡ false = a.0 in
    let found_own : ◌≡◌ {A = Result Header HeaderFault} (Ok own) (Ok h) = c.1 in
    let same : own ≡ h = cc in
    let known : IsHeader own octets = record {
      room = grind (arith, nat_tests, enough);
      format = told;
      major = grind (arith, nat_tests, both);
      minor = grind (arith, nat_tests, both);
      snaplen = refl;
      link_type = grind (arith, nat_tests, one);
    } in
    subst (λ x. IsHeader x octets) same known

header_with_some : (f : Option Format) (octets : List ℕ) (h : Header) → format_of (number_in Little 4 octets) ≡ f → header_with f octets ≡ Ok h → IsHeader h octets
header_with_some None octets h told found = cc
header_with_some (Some f) octets h told found = header_with_format f octets h told found

header_known : (octets : List ℕ) (h : Header) → header_in octets ≡ Ok h → IsHeader h octets
header_known octets h found =
    let a = kept (nat_lt (length octets) 4) (Short (24 - length octets)) (header_with (format_of (number_in Little 4 octets)) octets) h found in
    header_with_some (format_of (number_in Little 4 octets)) octets h refl a.1

-- octets with a header are spelled by what is read of it
header_spelled : (octets : List ℕ) (h : Header) → AreOctets octets → IsHeader h octets
    → octets ≡ header_octets h (number_at h.format.order 4 8 octets) (number_at h.format.order 4 12 octets) ++ drop 24 octets
header_spelled octets h each known =
    let o : Order = h.format.order in
    let m : List ℕ = number_octets o 4 (magic_of h.format.fraction) in
    let u : List ℕ = number_octets o 2 2 in
    let v : List ℕ = number_octets o 2 4 in
    let z : List ℕ = number_octets o 4 (number_at o 4 8 octets) in
    let a : List ℕ = number_octets o 4 (number_at o 4 12 octets) in
    let s : List ℕ = number_octets o 4 h.snaplen in
    let l : List ℕ = number_octets o 4 1 in
    let room : 24 ≤ length octets = known.room in
    let at0 : octets ≡ m ++ drop 4 octets =
    number_spelled Little octets each (omega (arith, room)) ∙ ap (λ ys. ys ++ drop 4 octets) (magic_spelled (number_in Little 4 octets) h.format known.format) in
    let at4 : drop 4 octets ≡ u ++ drop 6 octets = short_at_place o 4 octets each (omega (arith, room)) ∙ ap (λ n. number_octets o 2 n ++ drop 6 octets) known.major in
    let at6 : drop 6 octets ≡ v ++ drop 8 octets = short_at_place o 6 octets each (omega (arith, room)) ∙ ap (λ n. number_octets o 2 n ++ drop 8 octets) known.minor in
    let at8 : drop 8 octets ≡ z ++ drop 12 octets = number_at_place o 8 octets each (omega (arith, room)) in
    let at12 : drop 12 octets ≡ a ++ drop 16 octets = number_at_place o 12 octets each (omega (arith, room)) in
    let at16 : drop 16 octets ≡ s ++ drop 20 octets = number_at_place o 16 octets each (omega (arith, room)) ∙ ap (λ n. number_octets o 4 n ++ drop 20 octets) known.snaplen in
    let at20 : drop 20 octets ≡ l ++ drop 24 octets = number_at_place o 20 octets each (omega (arith, room)) ∙ ap (λ n. number_octets o 4 n ++ drop 24 octets) known.link_type in
    let parts : octets ≡ m ++ (u ++ (v ++ (z ++ (a ++ (s ++ (l ++ drop 24 octets)))))) =
    at0 ∙ ap (λ ys. m ++ ys) (at4 ∙ ap (λ ys. u ++ ys) (at6 ∙ ap (λ ys. v ++ ys) (at8 ∙ ap (λ ys. z ++ ys) (at12 ∙ ap (λ ys. a ++ ys) (at16 ∙ ap (λ ys. s ++ ys) at20))))) in
    let regrouped : header_octets h (number_at o 4 8 octets) (number_at o 4 12 octets) ++ drop 24 octets ≡ m ++ (u ++ (v ++ (z ++ (a ++ (s ++ (l ++ drop 24 octets)))))) = simp append_assoc in
    parts ∙ sym regrouped

-- what a capture's octets are, if they are opened as this
abbrev IsSpelledBy : List ℕ → Unread → Type 0
IsSpelledBy octets u = (zone : ℕ) × (accuracy : ℕ) × (octets ≡ header_octets u.header zone accuracy ++ u.octets)

by_header : (r : Result Header HeaderFault) (octets : List ℕ) (u : Unread) → AreOctets octets → header_in octets ≡ r → behind_header r octets ≡ Ok u → IsSpelledBy octets u
by_header (Err fault) octets u each is found = cc
by_header (Ok h) octets u each is found =
    let own : Unread = record { header = h; octets = drop 24 octets } in
    let found_own : ◌≡◌ {A = Result Unread HeaderFault} (Ok own) (Ok u) = found in
    let same : own ≡ u = cc in
    let spelled : IsSpelledBy octets own = (number_at h.format.order 4 8 octets, number_at h.format.order 4 12 octets, header_spelled octets h each (header_known octets h is)) in
    subst (λ x. IsSpelledBy octets x) same spelled

pub opened_spelled : (octets : List ℕ) (u : Unread) → AreOctets octets → opened octets ≡ Ok u
    → (zone : ℕ) × (accuracy : ℕ) × (octets ≡ header_octets u.header zone accuracy ++ u.octets)
opened_spelled octets u each found = by_header (header_in octets) octets u each refl found
