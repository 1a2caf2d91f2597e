-- The datagram that is read is the one whose form the octets have.
use Rattle.std.proofs.Common.{◌≡◌, ℕ, zero, suc, ◌+◌, ◌-◌, ◌*◌, ◌^◌, ◌/◌, ◌%◌, ◌<◌, ◌≤◌, ◌||◌, Bool, true, false, nat_eq, nat_lt, List, [], ◌∷◌, ◌++◌, length, slice_index, drop, take, Option, Some, None, cond, refl, sym, ◌∙◌, ap, subst, length-append, append_assoc, arith}
use Rattle.std.proofs.lemmas.Bool.Decides.{nat_tests}
use Rattle.std.proofs.lemmas.List.{length-take, length-drop, take-append-drop, drop_at, take_at}
use Rattle.ipv4.specs.Datagram.{Datagram, flag, fragment_field, header_len, total_len, header_octets, spelling, HasPlace, IsDatagram, HasForm}
use Rattle.ipv4.specs.Reading.{word_at, datagram_of, AreParts, header_length_field, lengths_in}
use Rattle.ipv4.proofs.Octets.{AreOctets, take_octets, drop_octets, two_spelled}

-- the worth of a flag that is tested
flag_worth : (n p : ℕ) → n < 2 → flag (nat_eq n 1) p ≡ n * p
flag_worth zero p h = omega arith
flag_worth (suc zero) p h = omega arith
flag_worth (suc (suc n)) p h = absurd (omega arith)

-- a flag by its worth
flag_is : (b : Bool) (p : ℕ) → (flag b p ≡ p * flag b 1) × (flag b 1 ≤ 1)
flag_is true p = (omega arith, omega arith)
flag_is false p = (omega arith, omega arith)

tested_flag : (b : Bool) (m : ℕ) → m ≡ flag b 1 → nat_eq m 1 ≡ b
tested_flag true m e = rw e refl
tested_flag false m e = rw e refl

-- a header of whole words is spelled by what is read of it
cells : (x0 x1 x2 x3 x4 x5 x6 x7 x8 x9 x10 x11 x12 x13 x14 x15 x16 x17 x18 x19 : ℕ) (options payload : List ℕ)
    → AreOctets (x0 ∷ x1 ∷ x2 ∷ x3 ∷ x4 ∷ x5 ∷ x6 ∷ x7 ∷ x8 ∷ x9 ∷ x10 ∷ x11 ∷ x12 ∷ x13 ∷ x14 ∷ x15 ∷ x16 ∷ x17 ∷ x18 ∷ x19 ∷ options)
    → x0 / 16 ≡ 4 → 4 * (x0 % 16) ≡ 20 + length options → x2 * 256 + x3 ≡ 20 + length options + length payload
    → HasPlace (nat_eq ((x6 * 256 + (x7 * 1 + 0)) / 2 ^ 13 % 2) 1) ((x6 * 256 + (x7 * 1 + 0)) % 2 ^ 13) (length payload)
    → AreParts (x0 ∷ x1 ∷ x2 ∷ x3 ∷ x4 ∷ x5 ∷ x6 ∷ x7 ∷ x8 ∷ x9 ∷ x10 ∷ x11 ∷ x12 ∷ x13 ∷ x14 ∷ x15 ∷ x16 ∷ x17 ∷ x18 ∷ x19 ∷ options) payload
cells x0 x1 x2 x3 x4 x5 x6 x7 x8 x9 x10 x11 x12 x13 x14 x15 x16 x17 x18 x19 options payload b version words total place =
    let header : List ℕ = x0 ∷ x1 ∷ x2 ∷ x3 ∷ x4 ∷ x5 ∷ x6 ∷ x7 ∷ x8 ∷ x9 ∷ x10 ∷ x11 ∷ x12 ∷ x13 ∷ x14 ∷ x15 ∷ x16 ∷ x17 ∷ x18 ∷ x19 ∷ options in
    let word : ℕ = word_at header 6 in
    let reserved = flag_worth (word / 2 ^ 15 % 2) 32768 (omega arith) in
    let dont_fragment = flag_worth (word / 2 ^ 14 % 2) 16384 (omega arith) in
    let more_fragments = flag_worth (word / 2 ^ 13 % 2) 8192 (omega arith) in
    let len = two_spelled x2 x3 (drop 4 header) (b 2) (b 3) in
    let identification = two_spelled x4 x5 (drop 6 header) (b 4) (b 5) in
    let fragment = two_spelled x6 x7 (drop 8 header) (b 6) (b 7) in
    let checksum = two_spelled x10 x11 (drop 12 header) (b 10) (b 11) in
    let field : fragment_field (datagram_of header payload) ≡ word = omega (arith, reserved, dont_fragment, more_fragments, fragment.1) in
    let is_len : word_at header 2 ≡ 20 + length options + length payload = omega (arith, total) in
    let e0 : x0 ≡ 16 * 4 + (20 + length options) / 4 = omega arith in
    let e2 = len.0 in
    let e4 = identification.0 in
    let e6 = fragment.0 in
    let e10 = checksum.0 in
    let spelled : header ≡ header_octets (datagram_of header payload) = cc in
    record {
      fields = record {
        service = b 1;
        identification = identification.1;
        offset = omega arith;
        ttl = b 8;
        protocol = b 9;
        checksum = checksum.1;
        source = refl;
        destination = refl;
        words = omega arith;
        header = omega arith;
        total = omega (arith, is_len, len.1);
        place = place;
      };
      spelled = spelled;
      least = omega arith;
      total = omega (arith, is_len, len.1);
    }

-- a header and a payload of the right lengths are those of a datagram
are_parts : (header payload : List ℕ) → AreOctets header → 20 ≤ length header → slice_index header 0 / 16 ≡ 4
    → header_length_field header ≡ length header → word_at header 2 ≡ length header + length payload
    → HasPlace (nat_eq (word_at header 6 / 2 ^ 13 % 2) 1) (word_at header 6 % 2 ^ 13) (length payload) → AreParts header payload
are_parts (x0 ∷ x1 ∷ x2 ∷ x3 ∷ x4 ∷ x5 ∷ x6 ∷ x7 ∷ x8 ∷ x9 ∷ x10 ∷ x11 ∷ x12 ∷ x13 ∷ x14 ∷ x15 ∷ x16 ∷ x17 ∷ x18 ∷ x19 ∷ options) payload b least version words total place =
    cells x0 x1 x2 x3 x4 x5 x6 x7 x8 x9 x10 x11 x12 x13 x14 x15 x16 x17 x18 x19 options payload b version (omega (arith, words)) (omega (arith, total)) place
are_parts header payload b least version words total place = absurd (omega (arith, least))

-- what is read of the beginning of a list
pub same_start : (header rest : List ℕ) → 20 ≤ length header
    → (slice_index (header ++ rest) 0 ≡ slice_index header 0) × (word_at (header ++ rest) 2 ≡ word_at header 2) × (word_at (header ++ rest) 6 ≡ word_at header 6)
same_start (x0 ∷ x1 ∷ x2 ∷ x3 ∷ x4 ∷ x5 ∷ x6 ∷ x7 ∷ more) rest least = (refl, refl, refl)
same_start header rest least = absurd (omega (arith, least))

-- tests that guard a value
guarded : {A : Type 0} (b : Bool) (x : Option A) (y : A) → cond b None x ≡ Some y → (b ≡ false) × (x ≡ Some y)
guarded true x y e = cc
guarded false x y e = (refl, e)

granted : {A : Type 0} (b : Bool) (x y : A) → cond b (Some x) None ≡ Some y → (b ≡ true) × (x ≡ y)
granted true x y e = (refl, cc)
granted false x y e = cc

-- what lengths are read from
pub record AreLengths (xs : List ℕ) (header total : ℕ) : Type 0 where
  pub room : 20 ≤ length xs
  pub told : header ≡ header_length_field xs
  pub whole : total ≡ word_at xs 2
  pub least : 20 ≤ header
  pub within : header ≤ total
  pub given : total ≤ length xs
  pub version : slice_index xs 0 / 16 ≡ 4

pub lengths_facts : (xs : List ℕ) (header total : ℕ) → lengths_in xs ≡ Some (header, total) → AreLengths xs header total
lengths_facts xs header total e =
    let room = guarded (nat_lt (length xs) 20) _ (header, total) e in
    let fit = guarded (nat_lt (header_length_field xs) 20 || nat_lt (word_at xs 2) (header_length_field xs) || nat_lt (length xs) (word_at xs 2)) _ (header, total) room.1 in
    let version = granted (nat_eq (slice_index xs 0 / 16) 4) (header_length_field xs, word_at xs 2) (header, total) fit.1 in
    let told : header_length_field xs ≡ header = ap (λ (p : ℕ × ℕ). p.0) version.1 in
    let whole : word_at xs 2 ≡ total = ap (λ (p : ℕ × ℕ). p.1) version.1 in
    record {
      room = grind (arith, nat_tests, room.0);
      told = sym told;
      whole = sym whole;
      least = grind (arith, nat_tests, fit.0, told);
      within = grind (arith, nat_tests, fit.0, told, whole);
      given = grind (arith, nat_tests, fit.0, whole);
      version = grind (arith, nat_tests, version.0);
    }

-- octets whose lengths are read, and whose payload has its place, are those of a datagram and padding
pub are_read : (xs : List ℕ) (header total : ℕ) → AreOctets xs → lengths_in xs ≡ Some (header, total)
    → HasPlace (nat_eq (word_at xs 6 / 2 ^ 13 % 2) 1) (word_at xs 6 % 2 ^ 13) (total - header)
    → AreParts (take header xs) (take (total - header) (drop header xs))
are_read xs header total b e place =
    let facts = lengths_facts xs header total e in
    let front : List ℕ = take header xs in
    let payload : List ℕ = take (total - header) (drop header xs) in
    let front_len : length front ≡ header = omega (arith, length-take header xs, facts.within, facts.given) in
    let payload_len : length payload ≡ total - header = omega (arith, length-take (total - header) (drop header xs), length-drop header xs, facts.within, facts.given) in
    let starts = same_start front (drop header xs) (omega (arith, front_len, facts.least)) in
    let whole : front ++ drop header xs ≡ xs = take-append-drop header xs in
    let first : slice_index xs 0 ≡ slice_index front 0 = ap (λ (ys : List ℕ). slice_index ys 0) (sym whole) ∙ starts.0 in
    let second : word_at xs 2 ≡ word_at front 2 = ap (λ (ys : List ℕ). word_at ys 2) (sym whole) ∙ starts.1 in
    let third : word_at xs 6 ≡ word_at front 6 = ap (λ (ys : List ℕ). word_at ys 6) (sym whole) ∙ starts.2 in
    let version : slice_index front 0 / 16 ≡ 4 = omega (arith, first, facts.version) in
    let words : header_length_field front ≡ length front = omega (arith, first, facts.told, front_len) in
    let total_is : word_at front 2 ≡ length front + length payload = omega (arith, second, facts.whole, front_len, payload_len, facts.within) in
    are_parts front payload (take_octets header xs b) (omega (arith, front_len, facts.least)) version words total_is
    (subst (λ (n : ℕ). HasPlace (nat_eq (n / 2 ^ 13 % 2) 1) (n % 2 ^ 13) (length payload)) third
    (subst (λ (n : ℕ). HasPlace (nat_eq (word_at xs 6 / 2 ^ 13 % 2) 1) (word_at xs 6 % 2 ^ 13) n) (sym payload_len) place))

-- so they have its form
pub has_form : (xs : List ℕ) (header total : ℕ) → AreParts (take header xs) (take (total - header) (drop header xs))
    → HasForm (datagram_of (take header xs) (take (total - header) (drop header xs))) xs
has_form xs header total parts =
    let front : List ℕ = take header xs in
    let payload : List ℕ = take (total - header) (drop header xs) in
    let behind : List ℕ = drop (total - header) (drop header xs) in
    let split : xs ≡ front ++ (payload ++ behind) =
    sym (take-append-drop header xs) ∙ ap (λ (ys : List ℕ). front ++ ys) (sym (take-append-drop (total - header) (drop header xs))) in
    record {
      padding = behind;
      fields = parts.fields;
      spelled = split ∙ sym (append_assoc front payload behind)
          ∙ ap (λ (ys : List ℕ). (ys ++ payload) ++ behind) parts.spelled;
    }

-- what is read at a place is a number of sixteen bits
pub word_fits : (xs : List ℕ) (at : ℕ) → AreOctets xs → word_at xs at < 2 ^ 16
word_fits xs at b =
    let octets = drop_octets at xs b in
    omega (arith, octets 0, octets 1)

-- a datagram by its parts
abbrev made : ℕ → ℕ → Bool → Bool → Bool → ℕ → ℕ → ℕ → ℕ → List ℕ → List ℕ → List ℕ → List ℕ → Datagram
made service identification reserved dont_fragment more_fragments offset ttl protocol checksum source destination options payload = record {
  service = service;
  identification = identification;
  reserved = reserved;
  dont_fragment = dont_fragment;
  more_fragments = more_fragments;
  offset = offset;
  ttl = ttl;
  protocol = protocol;
  checksum = checksum;
  source = record { 0 = source };
  destination = record { 0 = destination };
  options = options;
  payload = payload;
}

-- what is read of a header that is spelled, and which lengths it tells
read_parts : (service identification : ℕ) (reserved dont_fragment more_fragments : Bool) (offset ttl protocol checksum : ℕ) (source destination options payload rest : List ℕ)
    → IsDatagram (made service identification reserved dont_fragment more_fragments offset ttl protocol checksum source destination options payload)
    → let d : Datagram = made service identification reserved dont_fragment more_fragments offset ttl protocol checksum source destination options payload in
    (datagram_of (header_octets d) payload ≡ d) × (header_length_field (header_octets d ++ rest) ≡ header_len d) × (word_at (header_octets d ++ rest) 2 ≡ total_len d)
    × (slice_index (header_octets d ++ rest) 0 / 16 ≡ 4) × (length (header_octets d) ≡ header_len d)
read_parts service identification reserved dont_fragment more_fragments offset ttl protocol checksum (s0 ∷ s1 ∷ s2 ∷ s3 ∷ []) (t0 ∷ t1 ∷ t2 ∷ t3 ∷ []) options payload rest fields =
    let d : Datagram = made service identification reserved dont_fragment more_fragments offset ttl protocol checksum (s0 ∷ s1 ∷ s2 ∷ s3 ∷ []) (t0 ∷ t1 ∷ t2 ∷ t3 ∷ []) options payload in
    let header : List ℕ = header_octets d in
    let high = flag_is reserved 32768 in
    let middle = flag_is dont_fragment 16384 in
    let low = flag_is more_fragments 8192 in
    let field : word_at header 6 ≡ 32768 * flag reserved 1 + 16384 * flag dont_fragment 1 + 8192 * flag more_fragments 1 + offset = omega (arith, high, middle, low, fields.offset) in
    let identification_is : word_at header 4 ≡ identification = omega (arith, fields.identification) in
    let checksum_is : word_at header 10 ≡ checksum = omega (arith, fields.checksum) in
    let reserved_is : nat_eq (word_at header 6 / 2 ^ 15 % 2) 1 ≡ reserved = tested_flag reserved _ (omega (arith, field, high, middle, low, fields.offset)) in
    let dont_fragment_is : nat_eq (word_at header 6 / 2 ^ 14 % 2) 1 ≡ dont_fragment = tested_flag dont_fragment _ (omega (arith, field, high, middle, low, fields.offset)) in
    let more_fragments_is : nat_eq (word_at header 6 / 2 ^ 13 % 2) 1 ≡ more_fragments = tested_flag more_fragments _ (omega (arith, field, high, middle, low, fields.offset)) in
    let offset_is : word_at header 6 % 2 ^ 13 ≡ offset = omega (arith, field, high, middle, low, fields.offset) in
    let whole : datagram_of header payload ≡ d = cc in
    (whole, omega (arith, fields.words, fields.header), omega (arith, fields.total), omega (arith, fields.header), omega arith)
read_parts service identification reserved dont_fragment more_fragments offset ttl protocol checksum source destination options payload rest fields =
    absurd (omega (arith, fields.source, fields.destination))

-- the same of a datagram
pub read_spelled : (d : Datagram) (rest : List ℕ) → IsDatagram d
    → (datagram_of (header_octets d) d.payload ≡ d) × (header_length_field (header_octets d ++ rest) ≡ header_len d) × (word_at (header_octets d ++ rest) 2 ≡ total_len d)
    × (slice_index (header_octets d ++ rest) 0 / 16 ≡ 4) × (length (header_octets d) ≡ header_len d)
read_spelled d rest fields =
    read_parts d.service d.identification d.reserved d.dont_fragment d.more_fragments d.offset d.ttl d.protocol d.checksum d.source.0 d.destination.0 d.options d.payload rest fields

passed : {A : Type 0} (b : Bool) (x : Option A) → b ≡ false → cond b None x ≡ x
passed b x e = rw e refl

taken : {A : Type 0} (b : Bool) (x : A) → b ≡ true → cond b (Some x) None ≡ Some x
taken b x e = rw e refl

-- the lengths that are read where no test fails
lengths_read : (xs : List ℕ) (header total : ℕ) → header_length_field xs ≡ header → word_at xs 2 ≡ total → nat_lt (length xs) 20 ≡ false
    → (nat_lt (header_length_field xs) 20 || nat_lt (word_at xs 2) (header_length_field xs) || nat_lt (length xs) (word_at xs 2)) ≡ false
    → nat_eq (slice_index xs 0 / 16) 4 ≡ true → lengths_in xs ≡ Some (header, total)
lengths_read xs header total told whole room fit version =
    passed _ _ room ∙ passed _ _ fit ∙ taken _ _ version ∙ ap (λ (h : ℕ). Some (h, word_at xs 2)) told ∙ ap (λ (t : ℕ). Some (header, t)) whole

-- what octets of this form are read as
pub record ReadAs (d : Datagram) (xs : List ℕ) : Type 0 where
  pub lengths : lengths_in xs ≡ Some (header_len d, total_len d)
  pub whole : datagram_of (take (header_len d) xs) (take (total_len d - header_len d) (drop (header_len d) xs)) ≡ d
  pub spelled : take (total_len d) xs ≡ spelling d

spelled_read : (d : Datagram) (padding : List ℕ) → IsDatagram d → ReadAs d (spelling d ++ padding)
spelled_read d padding fields =
    let xs : List ℕ = spelling d ++ padding in
    let rest : List ℕ = d.payload ++ padding in
    let whole : xs ≡ header_octets d ++ rest = append_assoc (header_octets d) d.payload padding in
    let read = read_spelled d rest fields in
    let told : header_length_field xs ≡ header_len d = ap header_length_field whole ∙ read.1 in
    let total : word_at xs 2 ≡ total_len d = ap (λ (ys : List ℕ). word_at ys 2) whole ∙ read.2 in
    let version : slice_index xs 0 / 16 ≡ 4 = ap (λ (ys : List ℕ). slice_index ys 0 / 16) whole ∙ read.3 in
    let len : length xs ≡ total_len d + length padding =
    omega (arith, ap length whole, length-append (header_octets d) rest, length-append d.payload padding, read.4) in
    let room : nat_lt (length xs) 20 ≡ false = grind (arith, nat_tests, len) in
    let fit : (nat_lt (header_length_field xs) 20 || nat_lt (word_at xs 2) (header_length_field xs) || nat_lt (length xs) (word_at xs 2)) ≡ false = grind (arith, nat_tests, len, told, total) in
    let four : nat_eq (slice_index xs 0 / 16) 4 ≡ true = grind (arith, nat_tests, version) in
    let front : take (header_len d) xs ≡ header_octets d = ap (λ (ys : List ℕ). take (header_len d) ys) whole ∙ take_at (header_octets d) rest (header_len d) read.4 in
    let behind : drop (header_len d) xs ≡ rest = ap (λ (ys : List ℕ). drop (header_len d) ys) whole ∙ drop_at (header_octets d) rest (header_len d) read.4 in
    let count : length d.payload ≡ total_len d - header_len d = omega arith in
    let payload : take (total_len d - header_len d) (drop (header_len d) xs) ≡ d.payload =
    ap (λ (ys : List ℕ). take (total_len d - header_len d) ys) behind ∙ take_at d.payload padding (total_len d - header_len d) count in
    let is_header : datagram_of (take (header_len d) xs) (take (total_len d - header_len d) (drop (header_len d) xs)) ≡ datagram_of (header_octets d) (take (total_len d - header_len d) (drop (header_len d) xs)) =
    ap (λ (h : List ℕ). datagram_of h (take (total_len d - header_len d) (drop (header_len d) xs))) front in
    let is_payload : datagram_of (header_octets d) (take (total_len d - header_len d) (drop (header_len d) xs)) ≡ datagram_of (header_octets d) d.payload =
    ap (λ (p : List ℕ). datagram_of (header_octets d) p) payload in
    let spelled_len : length (spelling d) ≡ total_len d = omega (arith, length-append (header_octets d) d.payload, read.4) in
    record {
      lengths = lengths_read xs (header_len d) (total_len d) told total room fit four;
      whole = is_header ∙ is_payload ∙ read.0;
      spelled = take_at (spelling d) padding (total_len d) spelled_len;
    }

-- octets that have a form are read so
pub form_read : (d : Datagram) (xs : List ℕ) → HasForm d xs → ReadAs d xs
form_read d xs form = subst (λ (ys : List ℕ). ReadAs d ys) (sym form.spelled) (spelled_read d form.padding form.fields)

same_lengths : (a b c d : ℕ) (read : Option (ℕ × ℕ)) → read ≡ Some (a, b) → read ≡ Some (c, d) → (a ≡ c) × (b ≡ d)
same_lengths a b c d read e f =
    let pair : ◌≡◌ {A = ℕ × ℕ} (a, b) (c, d) = cc in
    (ap (λ (p : ℕ × ℕ). p.0) pair, ap (λ (p : ℕ × ℕ). p.1) pair)

-- octets have the form of one datagram
pub one_form : (first second : Datagram) (xs : List ℕ) → HasForm first xs → HasForm second xs → first ≡ second
one_form first second xs f g =
    let a = form_read first xs f in
    let b = form_read second xs g in
    let same = same_lengths (header_len first) (total_len first) (header_len second) (total_len second) (lengths_in xs) a.lengths b.lengths in
    sym a.whole ∙ ap (λ (h : ℕ). datagram_of (take h xs) (take (total_len first - h) (drop h xs))) same.0
    ∙ ap (λ (t : ℕ). datagram_of (take (header_len second) xs) (take (t - header_len second) (drop (header_len second) xs))) same.1 ∙ b.whole
