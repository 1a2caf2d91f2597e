-- What an error quotes is read as it was written.
use Rattle.std.proofs.Common.{◌≡◌, ◌↔◌, ℕ, ◌+◌, ◌-◌, ◌*◌, ◌/◌, ◌%◌, ◌^◌, ◌<◌, ◌≤◌, ◌||◌, Bool, true, false, nat_eq, nat_lt, List, [], ◌∷◌, ◌++◌, length, slice_index, drop, take, Option, Some, None, cond, refl, sym, ◌∙◌, ap, subst, append_assoc, length-append, arith}
use Rattle.std.proofs.lemmas.Bool.Decides.{nat_tests}
use Rattle.std.proofs.lemmas.List.{append-nil, length-take, length-drop, take-append-drop, drop-drop, drop_at}
use Rattle.std.specs.Option.{option_map}
use Rattle.byteorder.specs.Endian.{big_bytes, big_number}
use Rattle.ipv4.specs.declared.addr.Addr.{Addr}
use Rattle.ipv4.specs.Datagram.{Datagram, IsDatagram, header_octets, total_len, fragment_field}
use Rattle.ipv4.specs.Reading.{header_length_field}
use Rattle.icmp.specs.declared.quote.Quote.{Quote}
use Rattle.icmp.specs.Quotes.{Quotes, quoted, quote_of}
use Rattle.icmp.specs.Reading.{header_in, quote_at, quote_in}
use Rattle.ipv4.proofs.Octets.{AreOctets, drop_octets, two_spelled, four_spelled}

-- a quote by its parts
abbrev pub made : ℕ → List ℕ → ℕ → List ℕ → ℕ → ℕ → Quote
made protocol source source_port destination destination_port number = record {
  protocol = record { 0 = protocol };
  source = record { addr = record { 0 = source }; port = source_port };
  destination = record { addr = record { 0 = destination }; port = destination_port };
  number = number;
}

-- the quote that is read behind a header of this length
abbrev read_at : List ℕ → ℕ → Quote
read_at xs header =
    made (slice_index xs 9) (take 4 (drop 12 xs)) (big_number 2 (drop header xs))
    (take 4 (drop 16 xs)) (big_number 2 (drop (header + 2) xs)) (big_number 4 (drop (header + 4) xs))

-- tests that guard a value
guarded : {A : Type 0} (b : Bool) (x : Option A) (y : A) → cond b None x ≡ Some y → (b ≡ false) × (x ≡ Some y)
guarded true x y e = cc
guarded false x y e = (refl, e)

granted : {A : Type 0} (b : Bool) (x y : A) → cond b (Some x) None ≡ Some y → (b ≡ true) × (x ≡ y)
granted true x y e = (refl, cc)
granted false x y e = cc

-- what the length of a header is read from
record IsHeader (xs : List ℕ) (header : ℕ) : Type 0 where
  pub told : header ≡ header_length_field xs
  pub least : 20 ≤ header
  pub within : header + 8 ≤ length xs
  pub version : slice_index xs 0 / 16 ≡ 4

header_facts : (xs : List ℕ) (header : ℕ) → header_in xs ≡ Some header → IsHeader xs header
header_facts xs header e =
    let room = guarded (nat_lt (length xs) 28) _ header e in
    let fit = guarded (nat_lt (header_length_field xs) 20 || nat_lt (length xs) (header_length_field xs + 8)) _ header room.1 in
    let version = granted (nat_eq (slice_index xs 0 / 16) 4) (header_length_field xs) header fit.1 in
    let told : header_length_field xs ≡ header = version.1 in
    record {
      told = sym told;
      least = grind (arith, nat_tests, fit.0, told);
      within = grind (arith, nat_tests, fit.0, told);
      version = grind (arith, nat_tests, version.0);
    }

-- eight octets as the two ports and the number
eight : (ys : List ℕ) → AreOctets ys → 8 ≤ length ys
    → (ys ≡ (big_bytes 2 (big_number 2 ys) ++ big_bytes 2 (big_number 2 (drop 2 ys)) ++ big_bytes 4 (big_number 4 (drop 4 ys))) ++ drop 8 ys)
    × (big_number 2 ys < 2 ^ 16) × (big_number 2 (drop 2 ys) < 2 ^ 16) × (big_number 4 (drop 4 ys) < 2 ^ 32)
eight (y0 ∷ y1 ∷ y2 ∷ y3 ∷ y4 ∷ y5 ∷ y6 ∷ y7 ∷ rest) b least =
    let source = two_spelled y0 y1 (y2 ∷ y3 ∷ y4 ∷ y5 ∷ y6 ∷ y7 ∷ rest) (b 0) (b 1) in
    let destination = two_spelled y2 y3 (y4 ∷ y5 ∷ y6 ∷ y7 ∷ rest) (b 2) (b 3) in
    let number = four_spelled y4 y5 y6 y7 rest (b 4) (b 5) (b 6) (b 7) in
    let ys : List ℕ = y0 ∷ y1 ∷ y2 ∷ y3 ∷ y4 ∷ y5 ∷ y6 ∷ y7 ∷ rest in
    let whole : ys ≡ (big_bytes 2 (big_number 2 ys) ++ big_bytes 2 (big_number 2 (drop 2 ys)) ++ big_bytes 4 (big_number 4 (drop 4 ys))) ++ rest =
    source.0 ∙ ap (λ zs. big_bytes 2 (big_number 2 ys) ++ zs) (destination.0 ∙ ap (λ zs. big_bytes 2 (big_number 2 (drop 2 ys)) ++ zs) number.0) in
    (whole, source.1, destination.1, number.1)
eight ys b least = absurd (omega (arith, least))

-- the parts behind a header, one behind the other
regroup : (options source destination number rest : List ℕ)
    → options ++ ((source ++ destination ++ number) ++ rest) ≡ (((options ++ source) ++ destination) ++ number) ++ rest
regroup options source destination number rest = simp append_assoc

-- a whole header of the right length and eight octets behind it are a quote
cells : (x0 x1 x2 x3 x4 x5 x6 x7 x8 x9 x10 x11 x12 x13 x14 x15 x16 x17 x18 x19 source_port destination_port number : ℕ) (options rest tail : List ℕ)
    → AreOctets (x0 ∷ x1 ∷ x2 ∷ x3 ∷ x4 ∷ x5 ∷ x6 ∷ x7 ∷ x8 ∷ x9 ∷ x10 ∷ x11 ∷ x12 ∷ x13 ∷ x14 ∷ x15 ∷ x16 ∷ x17 ∷ x18 ∷ x19 ∷ tail)
    → x0 / 16 ≡ 4 → 4 * (x0 % 16) ≡ 20 + length options
    → tail ≡ options ++ ((big_bytes 2 source_port ++ big_bytes 2 destination_port ++ big_bytes 4 number) ++ rest)
    → source_port < 2 ^ 16 → destination_port < 2 ^ 16 → number < 2 ^ 32
    → Quotes (made x9 (x12 ∷ x13 ∷ x14 ∷ x15 ∷ []) source_port (x16 ∷ x17 ∷ x18 ∷ x19 ∷ []) destination_port number)
    (x0 ∷ x1 ∷ x2 ∷ x3 ∷ x4 ∷ x5 ∷ x6 ∷ x7 ∷ x8 ∷ x9 ∷ x10 ∷ x11 ∷ x12 ∷ x13 ∷ x14 ∷ x15 ∷ x16 ∷ x17 ∷ x18 ∷ x19 ∷ tail)
cells x0 x1 x2 x3 x4 x5 x6 x7 x8 x9 x10 x11 x12 x13 x14 x15 x16 x17 x18 x19 source_port destination_port number options rest tail b version words is source_fits destination_fits number_fits =
    let b9 = b 9 in
    let quote : Quote = made x9 (x12 ∷ x13 ∷ x14 ∷ x15 ∷ []) source_port (x16 ∷ x17 ∷ x18 ∷ x19 ∷ []) destination_port number in
    let service : List ℕ = x1 ∷ x2 ∷ x3 ∷ x4 ∷ x5 ∷ x6 ∷ x7 ∷ x8 ∷ [] in
    let checksum : List ℕ = x10 ∷ x11 ∷ [] in
    let first : x0 ≡ 16 * 4 + (20 + length options) / 4 = omega arith in
    let behind : tail ≡ (((options ++ big_bytes 2 source_port) ++ big_bytes 2 destination_port) ++ big_bytes 4 number) ++ rest =
    is ∙ regroup options (big_bytes 2 source_port) (big_bytes 2 destination_port) (big_bytes 4 number) rest in
    let spelled : x0 ∷ x1 ∷ x2 ∷ x3 ∷ x4 ∷ x5 ∷ x6 ∷ x7 ∷ x8 ∷ x9 ∷ x10 ∷ x11 ∷ x12 ∷ x13 ∷ x14 ∷ x15 ∷ x16 ∷ x17 ∷ x18 ∷ x19 ∷ tail ≡ quoted quote service checksum options ++ rest = cc in
    record {
      service = service;
      checksum = checksum;
      options = options;
      rest = rest;
      fields = record {
        protocol = omega arith;
        source_addr = refl;
        destination_addr = refl;
        source_port = source_fits;
        destination_port = destination_fits;
        number = number_fits;
      };
      service_len = refl;
      checksum_len = refl;
      words = omega arith;
      header = omega arith;
      spelled = spelled;
    }

-- the same of octets whose header has a length that is read
at_header : (xs : List ℕ) (header : ℕ) → AreOctets xs → IsHeader xs header → Quotes (read_at xs header) xs
at_header (x0 ∷ x1 ∷ x2 ∷ x3 ∷ x4 ∷ x5 ∷ x6 ∷ x7 ∷ x8 ∷ x9 ∷ x10 ∷ x11 ∷ x12 ∷ x13 ∷ x14 ∷ x15 ∷ x16 ∷ x17 ∷ x18 ∷ x19 ∷ tail) header b facts =
    let xs : List ℕ = x0 ∷ x1 ∷ x2 ∷ x3 ∷ x4 ∷ x5 ∷ x6 ∷ x7 ∷ x8 ∷ x9 ∷ x10 ∷ x11 ∷ x12 ∷ x13 ∷ x14 ∷ x15 ∷ x16 ∷ x17 ∷ x18 ∷ x19 ∷ tail in
    let n : ℕ = header - 20 in
    let options : List ℕ = take n tail in
    let behind : List ℕ = drop header xs in
    let count : 20 + n ≡ header = omega (arith, facts.least) in
    let end : drop n tail ≡ behind = drop-drop n 20 xs ∙ ap (λ (m : ℕ). drop m xs) count in
    let options_len : length options ≡ n = omega (arith, length-take n tail, facts.within, facts.least) in
    let room : 8 ≤ length behind = omega (arith, length-drop header xs, facts.within) in
    let parts = eight behind (drop_octets header xs b) room in
    let two : drop 2 behind ≡ drop (header + 2) xs = drop-drop 2 header xs in
    let four : drop 4 behind ≡ drop (header + 4) xs = drop-drop 4 header xs in
    let words : 4 * (x0 % 16) ≡ 20 + length options = omega (arith, facts.told, options_len, count) in
    let whole : tail ≡ options ++ ((big_bytes 2 (big_number 2 behind) ++ big_bytes 2 (big_number 2 (drop 2 behind)) ++ big_bytes 4 (big_number 4 (drop 4 behind))) ++ drop 8 behind) =
    sym (take-append-drop n tail) ∙ ap (λ (ys : List ℕ). options ++ ys) (end ∙ parts.0) in
    let found = cells x0 x1 x2 x3 x4 x5 x6 x7 x8 x9 x10 x11 x12 x13 x14 x15 x16 x17 x18 x19 (big_number 2 behind) (big_number 2 (drop 2 behind)) (big_number 4 (drop 4 behind)) options (drop 8 behind) tail
    b facts.version words whole parts.1 parts.2 parts.3 in
    let same : made x9 (x12 ∷ x13 ∷ x14 ∷ x15 ∷ []) (big_number 2 behind) (x16 ∷ x17 ∷ x18 ∷ x19 ∷ []) (big_number 2 (drop 2 behind)) (big_number 4 (drop 4 behind)) ≡ read_at xs header = cc in
    subst (λ (q : Quote). Quotes q xs) same found
at_header xs header b facts = absurd (omega (arith, facts.within, facts.least))

-- octets begin with the quote that is read of them
is_read : (xs : List ℕ) (header : ℕ) → AreOctets xs → header_in xs ≡ Some header → Quotes (read_at xs header) xs
is_read xs header b e = at_header xs header b (header_facts xs header e)

-- the same, field by field
pub fields_read : (xs : List ℕ) (header : ℕ) (source destination : Addr) (source_port destination_port number : ℕ)
    → AreOctets xs → header_in xs ≡ Some header
    → source.0 ≡ take 4 (drop 12 xs) → source_port ≡ big_number 2 (drop header xs)
    → destination.0 ≡ take 4 (drop 16 xs) → destination_port ≡ big_number 2 (drop (header + 2) xs) → number ≡ big_number 4 (drop (header + 4) xs)
    → Quotes (made (slice_index xs 9) source.0 source_port destination.0 destination_port number) xs
fields_read xs header source destination source_port destination_port number b e is_source is_source_port is_destination is_destination_port is_number =
    let same : read_at xs header ≡ made (slice_index xs 9) source.0 source_port destination.0 destination_port number = cc in
    subst (λ (q : Quote). Quotes q xs) same (is_read xs header b e)

passed : {A : Type 0} (b : Bool) (x : Option A) → b ≡ false → cond b None x ≡ x
passed b x e = rw e refl

taken : {A : Type 0} (b : Bool) (x : A) → b ≡ true → cond b (Some x) None ≡ Some x
taken b x e = rw e refl

-- what octets that begin with this quote are read as
record ReadAs (quote : Quote) (xs : List ℕ) : Type 0 where
  pub header : ℕ
  pub is : header_in xs ≡ Some header
  pub whole : read_at xs header ≡ quote

parts_read : (service checksum source destination options rest : List ℕ) (protocol source_port destination_port number : ℕ)
    → length service ≡ 8 → length checksum ≡ 2 → length source ≡ 4 → length destination ≡ 4 → length options % 4 ≡ 0 → 20 + length options ≤ 60
    → source_port < 2 ^ 16 → destination_port < 2 ^ 16 → number < 2 ^ 32
    → ReadAs (made protocol source source_port destination destination_port number)
    (quoted (made protocol source source_port destination destination_port number) service checksum options ++ rest)
parts_read (s1 ∷ s2 ∷ s3 ∷ s4 ∷ s5 ∷ s6 ∷ s7 ∷ s8 ∷ []) (c1 ∷ c2 ∷ []) (a ∷ b ∷ c ∷ d ∷ []) (e ∷ f ∷ g ∷ h ∷ []) options rest protocol source_port destination_port number service_len checksum_len source_len destination_len words most source_fits destination_fits number_fits =
    let quote : Quote = made protocol (a ∷ b ∷ c ∷ d ∷ []) source_port (e ∷ f ∷ g ∷ h ∷ []) destination_port number in
    let xs : List ℕ = quoted quote (s1 ∷ s2 ∷ s3 ∷ s4 ∷ s5 ∷ s6 ∷ s7 ∷ s8 ∷ []) (c1 ∷ c2 ∷ []) options ++ rest in
    let header : ℕ = 20 + length options in
    let behind : List ℕ = (big_bytes 2 source_port ++ big_bytes 2 destination_port ++ big_bytes 4 number) ++ rest in
    let tail : drop 20 xs ≡ options ++ behind = sym (regroup options (big_bytes 2 source_port) (big_bytes 2 destination_port) (big_bytes 4 number) rest) in
    let end : drop header xs ≡ behind = sym (drop-drop (length options) 20 xs) ∙ ap (λ (ys : List ℕ). drop (length options) ys) tail ∙ drop_at options behind (length options) refl in
    let two : drop (header + 2) xs ≡ drop 2 behind = sym (drop-drop 2 header xs) ∙ ap (λ (ys : List ℕ). drop 2 ys) end in
    let four : drop (header + 4) xs ≡ drop 4 behind = sym (drop-drop 4 header xs) ∙ ap (λ (ys : List ℕ). drop 4 ys) end in
    let len : length xs ≡ 28 + length options + length rest = omega (arith, ap length tail, length-append options behind) in
    let told : header_length_field xs ≡ header = omega arith in
    let version : nat_eq (slice_index xs 0 / 16) 4 ≡ true = grind (arith, nat_tests) in
    let room : nat_lt (length xs) 28 ≡ false = grind (arith, nat_tests, len) in
    let fit : (nat_lt (header_length_field xs) 20 || nat_lt (length xs) (header_length_field xs + 8)) ≡ false = grind (arith, nat_tests, len, told) in
    let port : big_number 2 (drop header xs) ≡ source_port = ap (big_number 2) end ∙ omega (arith, source_fits) in
    let port_2 : big_number 2 (drop (header + 2) xs) ≡ destination_port = ap (big_number 2) two ∙ omega (arith, destination_fits) in
    let number_is : big_number 4 (drop (header + 4) xs) ≡ number = ap (big_number 4) four ∙ omega (arith, number_fits) in
    let whole : read_at xs header ≡ quote = cc in
    record {
      header = header;
      is = passed _ _ room ∙ passed _ _ fit ∙ taken _ _ version ∙ ap Some told;
      whole = whole;
    }
parts_read service checksum source destination options rest protocol source_port destination_port number service_len checksum_len source_len destination_len words most source_fits destination_fits number_fits =
    absurd (omega (arith, service_len, checksum_len, source_len, destination_len))

quote_read : (quote : Quote) (xs : List ℕ) → Quotes quote xs → ReadAs quote xs
quote_read quote xs q =
    subst (λ (ys : List ℕ). ReadAs quote ys) (sym q.spelled)
    (parts_read q.service q.checksum quote.source.addr.0 quote.destination.addr.0 q.options q.rest quote.protocol.0 quote.source.port quote.destination.port quote.number
    q.service_len q.checksum_len q.fields.source_addr q.fields.destination_addr q.words q.header q.fields.source_port q.fields.destination_port q.fields.number)

-- octets begin with one quote
pub one_quote : (first second : Quote) (xs : List ℕ) → Quotes first xs → Quotes second xs → first ≡ second
one_quote first second xs q r =
    let a = quote_read first xs q in
    let b = quote_read second xs r in
    let some : ◌≡◌ {A = Option ℕ} (Some a.header) (Some b.header) = sym a.is ∙ b.is in
    let header : a.header ≡ b.header = cc in
    sym a.whole ∙ ap (λ (n : ℕ). read_at xs n) header ∙ b.whole

-- the quote that octets begin with is the one that is read of them
pub quote_is_read : (quote : Quote) (xs : List ℕ) → AreOctets xs → (Quotes quote xs ↔ (quote_in xs ≡ Some quote))
quote_is_read quote xs b = (forth, λ is. back (header_in xs) refl is)
  where
    forth : Quotes quote xs → quote_in xs ≡ Some quote
    forth q =
        let read = quote_read quote xs q in
        let whole : quote_at xs read.header ≡ quote = read.whole in
        ap (option_map (quote_at xs)) read.is ∙ ap Some whole

    back : (header : Option ℕ) → header_in xs ≡ header → option_map (quote_at xs) header ≡ Some quote → Quotes quote xs
    back None found is = cc
    back (Some header) found is =
        let some : ◌≡◌ {A = Option Quote} (Some (quote_at xs header)) (Some quote) = is in
        let same : quote_at xs header ≡ quote = cc in
        subst (λ (q : Quote). Quotes q xs) same (is_read xs header b found)

-- the header of a datagram and the first eight octets of its payload begin with what is quoted of it
pub cause_quoted : (d : Datagram) → IsDatagram d → AreOctets d.payload → 8 ≤ length d.payload → Quotes (quote_of d) (header_octets d ++ take 8 d.payload)
cause_quoted d fields b least =
    let parts = eight d.payload b least in
    let source_port : ℕ = big_number 2 d.payload in
    let destination_port : ℕ = big_number 2 (drop 2 d.payload) in
    let number : ℕ = big_number 4 (drop 4 d.payload) in
    let first : take 8 d.payload ≡ big_bytes 2 source_port ++ big_bytes 2 destination_port ++ big_bytes 4 number =
    ap (λ (ys : List ℕ). take 8 ys) parts.0 in
    let service : List ℕ = d.service ∷ big_bytes 2 (total_len d) ++ big_bytes 2 d.identification ++ big_bytes 2 (fragment_field d) ++ d.ttl ∷ [] in
    let addresses : List ℕ = (d.source.0 ++ d.destination.0) ++ d.options in
    let behind : addresses ++ take 8 d.payload ≡ (((addresses ++ big_bytes 2 source_port) ++ big_bytes 2 destination_port) ++ big_bytes 4 number) ++ [] =
    ap (λ (ys : List ℕ). addresses ++ ys) (first ∙ sym (append-nil (big_bytes 2 source_port ++ big_bytes 2 destination_port ++ big_bytes 4 number)))
    ∙ regroup addresses (big_bytes 2 source_port) (big_bytes 2 destination_port) (big_bytes 4 number) [] in
    let spelled : header_octets d ++ take 8 d.payload ≡ quoted (quote_of d) service (big_bytes 2 d.checksum) d.options ++ [] = cc in
    record {
      service = service;
      checksum = big_bytes 2 d.checksum;
      options = d.options;
      rest = [];
      fields = record {
        protocol = fields.protocol;
        source_addr = fields.source;
        destination_addr = fields.destination;
        source_port = parts.1;
        destination_port = parts.2;
        number = parts.3;
      };
      service_len = refl;
      checksum_len = refl;
      words = fields.words;
      header = fields.header;
      spelled = spelled;
    }
