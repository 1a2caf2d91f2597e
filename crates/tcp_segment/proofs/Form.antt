-- The segment that is read is the one whose form the octets have.
use Rattle.std.proofs.Common.{◌≡◌, ℕ, zero, suc, ◌+◌, ◌-◌, ◌*◌, ◌^◌, ◌/◌, ◌%◌, ◌<◌, ◌≤◌, ◌||◌, Bool, true, false, nat_eq, nat_lt, List, ◌∷◌, ◌++◌, length, slice_index, drop, take, Option, Some, None, cond, refl, sym, ◌∙◌, ap, subst, length-append, arith}
use Rattle.std.proofs.lemmas.Bool.Decides.{nat_tests}
use Rattle.std.proofs.lemmas.List.{length-take, take-append-drop, drop_at, take_at, drop-drop}
use Rattle.std.specs.Int.{byte_at}
use Rattle.byteorder.specs.Endian.{big_number}
use Rattle.tcp_segment.specs.declared.flags.Flags.{Flags}
use Rattle.tcp_segment.specs.Options.{HeaderOption, joined, AreOptions}
use Rattle.tcp_segment.specs.Segment.{Segment, bit, control_bits, spelling, FieldsFit, HasForm}
use Rattle.tcp_segment.specs.Reading.{options_behind, flags_in, segment_with, offset_in, checksum_in, header_len, header_in}
use Rattle.ipv4.proofs.Octets.{AreOctets, take_octets, drop_octets, two_spelled, four_spelled}
use Rattle.tcp_segment.proofs.OptionLists.{Walked, are_walked, are_read}

-- the worth of a bit that is tested
bit_worth : (n p : ℕ) → n < 2 → bit (nat_eq n 1) p ≡ n * p
bit_worth zero p h = omega arith
bit_worth (suc zero) p h = omega arith
bit_worth (suc (suc n)) p h = absurd (omega arith)

-- the control bits that are read are the low six bits
control_bits-flags_in : (n : ℕ) → control_bits (flags_in n) ≡ n % 64
control_bits-flags_in n =
    let fin = bit_worth (n % 2) 1 (omega arith) in
    let syn = bit_worth (n / 2 % 2) 2 (omega arith) in
    let rst = bit_worth (n / 4 % 2) 4 (omega arith) in
    let psh = bit_worth (n / 8 % 2) 8 (omega arith) in
    let ack = bit_worth (n / 16 % 2) 16 (omega arith) in
    let urg = bit_worth (n / 32 % 2) 32 (omega arith) in
    omega (arith, fin, syn, rst, psh, ack, urg)

-- octets that have room for a header have the form of what is read
cells : (x0 x1 x2 x3 x4 x5 x6 x7 x8 x9 x10 x11 x12 x13 x14 x15 x16 x17 x18 x19 : ℕ) (rest : List ℕ) (more : ℕ) (os : List HeaderOption)
    → AreOctets (x0 ∷ x1 ∷ x2 ∷ x3 ∷ x4 ∷ x5 ∷ x6 ∷ x7 ∷ x8 ∷ x9 ∷ x10 ∷ x11 ∷ x12 ∷ x13 ∷ x14 ∷ x15 ∷ x16 ∷ x17 ∷ x18 ∷ x19 ∷ rest)
    → 4 * (x12 / 16) ≡ 20 + more → more ≤ length rest → 20 + length rest < 2 ^ 16 → Walked (take more rest) os
    → HasForm
    (segment_with (x0 ∷ x1 ∷ x2 ∷ x3 ∷ x4 ∷ x5 ∷ x6 ∷ x7 ∷ x8 ∷ x9 ∷ x10 ∷ x11 ∷ x12 ∷ x13 ∷ x14 ∷ x15 ∷ x16 ∷ x17 ∷ x18 ∷ x19 ∷ rest) (20 + more) os)
    (x0 ∷ x1 ∷ x2 ∷ x3 ∷ x4 ∷ x5 ∷ x6 ∷ x7 ∷ x8 ∷ x9 ∷ x10 ∷ x11 ∷ x12 ∷ x13 ∷ x14 ∷ x15 ∷ x16 ∷ x17 ∷ x18 ∷ x19 ∷ rest)
cells x0 x1 x2 x3 x4 x5 x6 x7 x8 x9 x10 x11 x12 x13 x14 x15 x16 x17 x18 x19 rest more os b header room len w =
    let octets : List ℕ = x0 ∷ x1 ∷ x2 ∷ x3 ∷ x4 ∷ x5 ∷ x6 ∷ x7 ∷ x8 ∷ x9 ∷ x10 ∷ x11 ∷ x12 ∷ x13 ∷ x14 ∷ x15 ∷ x16 ∷ x17 ∷ x18 ∷ x19 ∷ rest in
    let source : ℕ = big_number 2 octets in
    let destination : ℕ = big_number 2 (drop 2 octets) in
    let number : ℕ = big_number 4 (drop 4 octets) in
    let acknowledgement : ℕ = big_number 4 (drop 8 octets) in
    let word : ℕ = 4096 * (x12 / 16) + 64 * (x12 % 16 * 4 + x13 / 64) + control_bits (flags_in x13) in
    let window : ℕ = big_number 2 (drop 14 octets) in
    let checksum : ℕ = big_number 2 (drop 16 octets) in
    let urgent : ℕ = big_number 2 (drop 18 octets) in
    let bits = control_bits-flags_in x13 in
    let area : length (take more rest) ≡ more = omega (arith, length-take more rest) in
    let behind : drop (20 + more) octets ≡ drop more rest = sym (drop-drop more 20 octets) in
    let is_source = two_spelled x0 x1 (drop 2 octets) (b 0) (b 1) in
    let is_destination = two_spelled x2 x3 (drop 4 octets) (b 2) (b 3) in
    let is_number = four_spelled x4 x5 x6 x7 (drop 8 octets) (b 4) (b 5) (b 6) (b 7) in
    let is_acknowledgement = four_spelled x8 x9 x10 x11 (drop 12 octets) (b 8) (b 9) (b 10) (b 11) in
    let is_window = two_spelled x14 x15 (drop 16 octets) (b 14) (b 15) in
    let is_checksum = two_spelled x16 x17 (drop 18 octets) (b 16) (b 17) in
    let is_urgent = two_spelled x18 x19 rest (b 18) (b 19) in
    let b12 : x12 < 256 = b 12 in
    let b13 : x13 < 256 = b 13 in
    let e0 = is_source.0 in
    let e2 = is_destination.0 in
    let e4 = is_number.0 in
    let e8 = is_acknowledgement.0 in
    let e12 : x12 ≡ byte_at 1 word = omega (arith, bits) in
    let e13 : x13 ≡ byte_at 0 word = omega (arith, bits) in
    let e14 = is_window.0 in
    let e16 = is_checksum.0 in
    let e18 = is_urgent.0 in
    let parts : rest ≡ (joined os ++ w.padding) ++ drop (20 + more) octets =
    sym (take-append-drop more rest) ∙ ap (λ (ys : List ℕ). ys ++ drop more rest) w.spelled ∙ ap (λ (ys : List ℕ). (joined os ++ w.padding) ++ ys) (sym behind) in
    let spelled : octets ≡ spelling (segment_with octets (20 + more) os) (x12 / 16) (x12 % 16 * 4 + x13 / 64) checksum w.padding = cc in
    record {
      offset = x12 / 16;
      reserved = x12 % 16 * 4 + x13 / 64;
      checksum = checksum;
      padding = w.padding;
      fields = record {
        source = is_source.1;
        destination = is_destination.1;
        number = is_number.1;
        acknowledgement = is_acknowledgement.1;
        window = is_window.1;
        urgent = is_urgent.1;
      };
      options = w.ends;
      offset_fits = omega arith;
      reserved_fits = omega arith;
      checksum_fits = is_checksum.1;
      header = omega (arith, area, ap length w.spelled);
      len = omega arith;
      spelled = spelled;
    }

-- tests of lengths
guarded : {A : Type 0} (b : Bool) (x : Option A) (y : A) → cond b None x ≡ Some y → (b ≡ false) × (x ≡ Some y)
guarded true x y e = cc
guarded false x y e = (refl, e)

-- what a header is read from
pub header_facts : (xs : List ℕ) (header : ℕ) → header_in xs ≡ Some header
    → (20 ≤ length xs) × (length xs < 2 ^ 16) × (20 ≤ header) × (header ≤ length xs) × (header ≡ header_len xs)
header_facts xs header e =
    let long = guarded (nat_lt (length xs) 20 || nat_lt 65535 (length xs)) (cond (nat_lt (header_len xs) 20 || nat_lt (length xs) (header_len xs)) None (Some (header_len xs))) header e in
    let whole = guarded (nat_lt (header_len xs) 20 || nat_lt (length xs) (header_len xs)) (Some (header_len xs)) header long.1 in
    let is : header_len xs ≡ header = cc in
    (grind (arith, nat_tests, long.0), grind (arith, nat_tests, long.0), grind (arith, nat_tests, whole.0, is), grind (arith, nat_tests, whole.0, is), sym is)

-- what is read has the form of the octets
pub has_form : (xs : List ℕ) (header : ℕ) (os : List HeaderOption) → AreOctets xs → header_in xs ≡ Some header
    → options_behind (take (header - 20) (drop 20 xs)) 0 ≡ Some os → HasForm (segment_with xs header os) xs
has_form (x0 ∷ x1 ∷ x2 ∷ x3 ∷ x4 ∷ x5 ∷ x6 ∷ x7 ∷ x8 ∷ x9 ∷ x10 ∷ x11 ∷ x12 ∷ x13 ∷ x14 ∷ x15 ∷ x16 ∷ x17 ∷ x18 ∷ x19 ∷ rest) header os b e reads =
    let octets : List ℕ = x0 ∷ x1 ∷ x2 ∷ x3 ∷ x4 ∷ x5 ∷ x6 ∷ x7 ∷ x8 ∷ x9 ∷ x10 ∷ x11 ∷ x12 ∷ x13 ∷ x14 ∷ x15 ∷ x16 ∷ x17 ∷ x18 ∷ x19 ∷ rest in
    let facts = header_facts octets header e in
    let more : ℕ = header - 20 in
    let whole : 20 + more ≡ header = omega (arith, facts.2) in
    let area : AreOctets (take more rest) = take_octets more rest (drop_octets 20 octets b) in
    let walked = are_walked (take more rest) 0 area os reads in
    subst (λ (h : ℕ). HasForm (segment_with octets h os) octets) whole
    (cells x0 x1 x2 x3 x4 x5 x6 x7 x8 x9 x10 x11 x12 x13 x14 x15 x16 x17 x18 x19 rest more os b (omega (arith, facts.4)) (omega (arith, facts.3)) (omega (arith, facts.1)) walked.1)
has_form xs header os b e reads = absurd (omega (arith, (header_facts xs header e).0))

-- the same, field by field
pub fields_form : (xs : List ℕ) (header source destination number acknowledgement window urgent : ℕ) (flags : Flags) (os options : List HeaderOption) (octets : List ℕ)
    → AreOctets xs → header_in xs ≡ Some header → options_behind (take (header - 20) (drop 20 xs)) 0 ≡ Some os
    → source ≡ big_number 2 (drop 0 xs) → destination ≡ big_number 2 (drop 2 xs) → number ≡ big_number 4 (drop 4 xs)
    → acknowledgement ≡ big_number 4 (drop 8 xs) → flags ≡ flags_in (slice_index xs 13) → window ≡ big_number 2 (drop 14 xs)
    → urgent ≡ big_number 2 (drop 18 xs) → options ≡ os → octets ≡ drop header xs
    → HasForm (record { source = source; destination = destination; number = number; acknowledgement = acknowledgement; flags = flags; window = window; urgent = urgent; options = options; octets = octets }) xs
fields_form xs header source destination number acknowledgement window urgent flags os options octets b is_header read is_source is_destination is_number is_acknowledgement is_flags is_window is_urgent is_options is_octets =
    let same : segment_with xs header os ≡ record { source = source; destination = destination; number = number; acknowledgement = acknowledgement; flags = flags; window = window; urgent = urgent; options = options; octets = octets } = cc in
    subst (λ (s : Segment). HasForm s xs) same (has_form xs header os b is_header read)

-- a bit by its worth
bit_is : (b : Bool) (p : ℕ) → (bit b p ≡ p * bit b 1) × (bit b 1 ≤ 1)
bit_is true p = (omega arith, omega arith)
bit_is false p = (omega arith, omega arith)

tested_bit : (b : Bool) (m : ℕ) → m ≡ bit b 1 → nat_eq m 1 ≡ b
tested_bit true m e = rw e refl
tested_bit false m e = rw e refl

-- the six bits of the control bits
control_bits_are : (flags : Flags)
    → (control_bits flags ≡ bit flags.fin 1 + 2 * bit flags.syn 1 + 4 * bit flags.rst 1 + 8 * bit flags.psh 1 + 16 * bit flags.ack 1 + 32 * bit flags.urg 1)
    × (bit flags.fin 1 ≤ 1) × (bit flags.syn 1 ≤ 1) × (bit flags.rst 1 ≤ 1) × (bit flags.psh 1 ≤ 1) × (bit flags.ack 1 ≤ 1) × (bit flags.urg 1 ≤ 1)
control_bits_are flags =
    let syn = bit_is flags.syn 2 in
    let rst = bit_is flags.rst 4 in
    let psh = bit_is flags.psh 8 in
    let ack = bit_is flags.ack 16 in
    let urg = bit_is flags.urg 32 in
    (omega (arith, syn, rst, psh, ack, urg), (bit_is flags.fin 1).1, syn.1, rst.1, psh.1, ack.1, urg.1)

-- the flags whose control bits an octet has
flags_in_of : (n : ℕ) (flags : Flags) → n % 64 ≡ control_bits flags → flags_in n ≡ flags
flags_in_of n flags e =
    let are = control_bits_are flags in
    let fin : nat_eq (n % 2) 1 ≡ flags.fin = tested_bit flags.fin _ (omega (arith, are)) in
    let syn : nat_eq (n / 2 % 2) 1 ≡ flags.syn = tested_bit flags.syn _ (omega (arith, are)) in
    let rst : nat_eq (n / 4 % 2) 1 ≡ flags.rst = tested_bit flags.rst _ (omega (arith, are)) in
    let psh : nat_eq (n / 8 % 2) 1 ≡ flags.psh = tested_bit flags.psh _ (omega (arith, are)) in
    let ack : nat_eq (n / 16 % 2) 1 ≡ flags.ack = tested_bit flags.ack _ (omega (arith, are)) in
    let urg : nat_eq (n / 32 % 2) 1 ≡ flags.urg = tested_bit flags.urg _ (omega (arith, are)) in
    let parts : flags_in n ≡ record { fin = flags.fin; syn = flags.syn; rst = flags.rst; psh = flags.psh; ack = flags.ack; urg = flags.urg } = cc in
    parts

passed : {A : Type 0} (b : Bool) (x : Option A) → b ≡ false → cond b None x ≡ x
passed b x e = rw e refl

-- what octets of this form are read as
pub record ReadAs (segment : Segment) (offset : ℕ) (xs : List ℕ) : Type 0 where
  pub header : header_in xs ≡ Some (4 * offset)
  pub options : options_behind (take (4 * offset - 20) (drop 20 xs)) 0 ≡ Some segment.options
  pub whole : segment_with xs (4 * offset) segment.options ≡ segment

spelled_read : (segment : Segment) (offset reserved checksum : ℕ) (padding : List ℕ)
    → FieldsFit segment → AreOptions segment.options padding → offset < 2 ^ 4 → reserved < 2 ^ 6
    → 4 * offset ≡ 20 + length (joined segment.options ++ padding) → length (spelling segment offset reserved checksum padding) < 2 ^ 16
    → ReadAs segment offset (spelling segment offset reserved checksum padding)
spelled_read segment offset reserved checksum padding fits ends offset_fits reserved_fits header len =
    let xs : List ℕ = spelling segment offset reserved checksum padding in
    let area : List ℕ = joined segment.options ++ padding in
    let are = control_bits_are segment.flags in
    let word : ℕ = 4096 * offset + 64 * reserved + control_bits segment.flags in
    let offset_is : byte_at 1 word / 16 ≡ offset = omega (arith, are) in
    let flags_are : byte_at 0 word % 64 ≡ control_bits segment.flags = omega (arith, are) in
    let flags : flags_in (byte_at 0 word) ≡ segment.flags = flags_in_of _ segment.flags flags_are in
    let total : length xs ≡ 20 + length (area ++ segment.octets) = omega arith in
    let parts : length (area ++ segment.octets) ≡ length area + length segment.octets = omega (arith, length-append area segment.octets) in
    let room : (nat_lt (length xs) 20 || nat_lt 65535 (length xs)) ≡ false = grind (arith, nat_tests, total, len) in
    let enough : (nat_lt (header_len xs) 20 || nat_lt (length xs) (header_len xs)) ≡ false = grind (arith, nat_tests, total, parts, header, offset_is) in
    let source : big_number 2 xs ≡ segment.source = omega (arith, fits.source) in
    let destination : big_number 2 (drop 2 xs) ≡ segment.destination = omega (arith, fits.destination) in
    let number : big_number 4 (drop 4 xs) ≡ segment.number = omega (arith, fits.number) in
    let acknowledgement : big_number 4 (drop 8 xs) ≡ segment.acknowledgement = omega (arith, fits.acknowledgement) in
    let window : big_number 2 (drop 14 xs) ≡ segment.window = omega (arith, fits.window) in
    let urgent : big_number 2 (drop 18 xs) ≡ segment.urgent = omega (arith, fits.urgent) in
    let octets : drop (4 * offset) xs ≡ segment.octets =
    ap (λ (n : ℕ). drop n xs) header ∙ sym (drop-drop (length area) 20 xs) ∙ drop_at area segment.octets _ refl in
    let whole : segment_with xs (4 * offset) segment.options ≡ record { source = segment.source; destination = segment.destination; number = segment.number; acknowledgement = segment.acknowledgement; flags = segment.flags; window = segment.window; urgent = segment.urgent; options = segment.options; octets = segment.octets } = cc in
    record {
      header = passed _ _ room ∙ passed _ _ enough ∙ ap (λ (n : ℕ). Some (4 * n)) offset_is;
      options = ap (λ (ys : List ℕ). options_behind ys 0) (take_at area segment.octets (4 * offset - 20) (omega arith)) ∙ are_read segment.options padding ends;
      whole = whole;
    }

-- octets that have a form are read so
pub form_read : (segment : Segment) (xs : List ℕ) (form : HasForm segment xs) → ReadAs segment form.offset xs
form_read segment xs form =
    let len : length (spelling segment form.offset form.reserved form.checksum form.padding) < 2 ^ 16 = omega (arith, ap length form.spelled, form.len) in
    subst (λ (ys : List ℕ). ReadAs segment form.offset ys) (sym form.spelled)
    (spelled_read segment form.offset form.reserved form.checksum form.padding form.fields form.options form.offset_fits form.reserved_fits form.header len)

-- the data offset and the checksum of a form are those that its octets tell
pub offset_read : (segment : Segment) (xs : List ℕ) (form : HasForm segment xs) → offset_in xs ≡ form.offset
offset_read segment xs form = omega (arith, (header_facts xs (4 * form.offset) (form_read segment xs form).header).4)

pub checksum_read : (segment : Segment) (xs : List ℕ) (form : HasForm segment xs) → checksum_in xs ≡ form.checksum
checksum_read segment xs form = ap checksum_in form.spelled ∙ same form.checksum form.checksum_fits
  where
    same : (checksum : ℕ) → checksum < 2 ^ 16 → checksum_in (spelling segment form.offset form.reserved checksum form.padding) ≡ checksum
    same checksum fits = omega (arith, fits)

-- octets whose header is refused have no form
pub no_header : (segment : Segment) (xs : List ℕ) → header_in xs ≡ None → HasForm segment xs → ⊥
no_header segment xs none form = let read = (form_read segment xs form).header in cc

-- octets whose options are refused have no form
pub no_options : (segment : Segment) (xs : List ℕ) (header : ℕ) → header_in xs ≡ Some header
    → options_behind (take (header - 20) (drop 20 xs)) 0 ≡ None → HasForm segment xs → ⊥
no_options segment xs header is none form =
    let read = form_read segment xs form in
    let same : 4 * form.offset ≡ header = cc in
    let found : options_behind (take (header - 20) (drop 20 xs)) 0 ≡ Some segment.options = rw (← same) read.options in
    cc

-- octets have the form of one segment
pub one_form : (first second : Segment) (xs : List ℕ) → HasForm first xs → HasForm second xs → first ≡ second
one_form first second xs f g =
    let a = form_read first xs f in
    let b = form_read second xs g in
    let header : 4 * f.offset ≡ 4 * g.offset = cc in
    let options : first.options ≡ second.options = cc in
    let whole : segment_with xs (4 * f.offset) first.options ≡ segment_with xs (4 * g.offset) second.options = cc in
    sym a.whole ∙ whole ∙ b.whole
