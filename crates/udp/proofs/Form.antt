-- The UDP datagram that is read is the one whose form the octets have.
use Rattle.std.proofs.Common.{◌≡◌, ℕ, ◌+◌, ◌*◌, ◌≤◌, ◌||◌, Bool, true, false, nat_lt, List, ◌∷◌, ◌++◌, length, drop, take, Option, Some, None, cond, refl, sym, ◌∙◌, ap, subst, length-append, arith}
use Rattle.std.proofs.lemmas.Bool.Decides.{nat_tests}
use Rattle.std.proofs.lemmas.List.{length-take, take-append-drop, take_at}
use Rattle.byteorder.specs.Endian.{big_bytes}
use Rattle.ipv4.proofs.Octets.{AreOctets, take_octets, two_spelled}
use Rattle.udp.specs.Datagram.{UserDatagram, datagram_len, spelling, IsDatagram, HasForm}
use Rattle.udp.specs.Reading.{word_at, datagram_of, IsWhole, len_in}

-- eight octets and a payload are spelled by what is read of them
cells : (x0 x1 x2 x3 x4 x5 x6 x7 : ℕ) (payload : List ℕ) → AreOctets (x0 ∷ x1 ∷ x2 ∷ x3 ∷ x4 ∷ x5 ∷ x6 ∷ x7 ∷ payload)
    → x4 * 256 + x5 ≡ 8 + length payload → IsWhole (x0 ∷ x1 ∷ x2 ∷ x3 ∷ x4 ∷ x5 ∷ x6 ∷ x7 ∷ payload)
cells x0 x1 x2 x3 x4 x5 x6 x7 payload b told =
    let source = two_spelled x0 x1 (x2 ∷ x3 ∷ x4 ∷ x5 ∷ x6 ∷ x7 ∷ payload) (b 0) (b 1) in
    let destination = two_spelled x2 x3 (x4 ∷ x5 ∷ x6 ∷ x7 ∷ payload) (b 2) (b 3) in
    let len = two_spelled x4 x5 (x6 ∷ x7 ∷ payload) (b 4) (b 5) in
    let checksum = two_spelled x6 x7 payload (b 6) (b 7) in
    let octets : List ℕ = x0 ∷ x1 ∷ x2 ∷ x3 ∷ x4 ∷ x5 ∷ x6 ∷ x7 ∷ payload in
    let is_len : word_at octets 4 ≡ 8 + length payload = omega (arith, told) in
    let behind : x4 ∷ x5 ∷ x6 ∷ x7 ∷ payload ≡ big_bytes 2 (8 + length payload) ++ big_bytes 2 (word_at octets 6) ++ payload =
    len.0 ∙ ap (λ (n : ℕ). big_bytes 2 n ++ x6 ∷ x7 ∷ payload) is_len ∙ ap (λ ys. big_bytes 2 (8 + length payload) ++ ys) checksum.0 in
    let spelled : octets ≡ spelling (datagram_of octets) =
    source.0 ∙ ap (λ ys. big_bytes 2 (word_at octets 0) ++ ys) (destination.0 ∙ ap (λ ys. big_bytes 2 (word_at octets 2) ++ ys) behind) in
    record {
      fields = record { source = source.1; destination = destination.1; len = omega (arith, is_len, len.1); checksum = checksum.1 };
      spelled = spelled;
      least = omega arith;
      most = omega (arith, is_len, len.1);
    }

-- octets of the length that they tell are those of a UDP datagram
is_whole : (xs : List ℕ) → AreOctets xs → 8 ≤ length xs → word_at xs 4 ≡ length xs → IsWhole xs
is_whole (x0 ∷ x1 ∷ x2 ∷ x3 ∷ x4 ∷ x5 ∷ x6 ∷ x7 ∷ payload) b least told =
    cells x0 x1 x2 x3 x4 x5 x6 x7 payload b (omega (arith, told))
is_whole xs b least told = absurd (omega (arith, least))

-- what is read of the beginning of a list
same_start : (front rest : List ℕ) → 8 ≤ length front → word_at (front ++ rest) 4 ≡ word_at front 4
same_start (x0 ∷ x1 ∷ x2 ∷ x3 ∷ x4 ∷ x5 ∷ more) rest least = refl
same_start front rest least = absurd (omega (arith, least))

-- tests that guard a value
guarded : {A : Type 0} (b : Bool) (x : Option A) (y : A) → cond b None x ≡ Some y → (b ≡ false) × (x ≡ Some y)
guarded true x y e = cc
guarded false x y e = (refl, e)

-- what a length is read from
pub record IsLength (xs : List ℕ) (n : ℕ) : Type 0 where
  pub told : n ≡ word_at xs 4
  pub least : 8 ≤ n
  pub given : n ≤ length xs

len_facts : (xs : List ℕ) (n : ℕ) → len_in xs ≡ Some n → IsLength xs n
len_facts xs n e =
    let room = guarded (nat_lt (length xs) 8) _ n e in
    let fit = guarded (nat_lt (word_at xs 4) 8 || nat_lt (length xs) (word_at xs 4)) (Some (word_at xs 4)) n room.1 in
    let told : word_at xs 4 ≡ n = cc in
    record { told = sym told; least = grind (arith, nat_tests, fit.0, told); given = grind (arith, nat_tests, fit.0, told) }

-- octets whose length is read are those of a UDP datagram and padding
pub are_read : (xs : List ℕ) (n : ℕ) → AreOctets xs → len_in xs ≡ Some n → IsWhole (take n xs)
are_read xs n b e =
    let facts = len_facts xs n e in
    let front : List ℕ = take n xs in
    let front_len : length front ≡ n = omega (arith, length-take n xs, facts.given) in
    let start : word_at xs 4 ≡ word_at front 4 =
    ap (λ (ys : List ℕ). word_at ys 4) (sym (take-append-drop n xs)) ∙ same_start front (drop n xs) (omega (arith, front_len, facts.least)) in
    is_whole front (take_octets n xs b) (omega (arith, front_len, facts.least)) (omega (arith, start, front_len, facts.told))

-- so they have its form
pub has_form : (xs : List ℕ) (n : ℕ) → IsWhole (take n xs) → HasForm (datagram_of (take n xs)) xs
has_form xs n whole = record {
  padding = drop n xs;
  fields = whole.fields;
  spelled = sym (take-append-drop n xs) ∙ ap (λ (ys : List ℕ). ys ++ drop n xs) whole.spelled;
}

-- what is read of a UDP datagram that is spelled
pub read_spelled : (d : UserDatagram) (rest : List ℕ) → IsDatagram d
    → (datagram_of (spelling d) ≡ d) × (word_at (spelling d ++ rest) 4 ≡ datagram_len d) × (length (spelling d) ≡ datagram_len d)
read_spelled d rest fields =
    let source : word_at (spelling d) 0 ≡ d.source = omega (arith, fields.source) in
    let destination : word_at (spelling d) 2 ≡ d.destination = omega (arith, fields.destination) in
    let checksum : word_at (spelling d) 6 ≡ d.checksum = omega (arith, fields.checksum) in
    let whole : datagram_of (spelling d) ≡ record { source = d.source; destination = d.destination; checksum = d.checksum; payload = d.payload } = cc in
    (whole, omega (arith, fields.len), omega arith)

passed : {A : Type 0} (b : Bool) (x : Option A) → b ≡ false → cond b None x ≡ x
passed b x e = rw e refl

-- the length that is read where no test fails
len_read : (xs : List ℕ) (n : ℕ) → word_at xs 4 ≡ n → nat_lt (length xs) 8 ≡ false
    → (nat_lt (word_at xs 4) 8 || nat_lt (length xs) (word_at xs 4)) ≡ false → len_in xs ≡ Some n
len_read xs n told room fit = passed _ _ room ∙ passed _ _ fit ∙ ap (λ (m : ℕ). Some m) told

-- what octets of this form are read as
pub record ReadAs (d : UserDatagram) (xs : List ℕ) : Type 0 where
  pub len : len_in xs ≡ Some (datagram_len d)
  pub whole : datagram_of (take (datagram_len d) xs) ≡ d
  pub spelled : take (datagram_len d) xs ≡ spelling d

spelled_read : (d : UserDatagram) (padding : List ℕ) → IsDatagram d → ReadAs d (spelling d ++ padding)
spelled_read d padding fields =
    let xs : List ℕ = spelling d ++ padding in
    let read = read_spelled d padding fields in
    let len : length xs ≡ datagram_len d + length padding = omega (arith, length-append (spelling d) padding, read.2) in
    let room : nat_lt (length xs) 8 ≡ false = grind (arith, nat_tests, len) in
    let fit : (nat_lt (word_at xs 4) 8 || nat_lt (length xs) (word_at xs 4)) ≡ false = grind (arith, nat_tests, len, read.1) in
    let spelled : take (datagram_len d) xs ≡ spelling d = take_at (spelling d) padding (datagram_len d) read.2 in
    record {
      len = len_read xs (datagram_len d) read.1 room fit;
      whole = ap datagram_of spelled ∙ read.0;
      spelled = spelled;
    }

-- octets that have a form are read so
pub form_read : (d : UserDatagram) (xs : List ℕ) → HasForm d xs → ReadAs d xs
form_read d xs form = subst (λ (ys : List ℕ). ReadAs d ys) (sym form.spelled) (spelled_read d form.padding form.fields)

same_length : (m n : ℕ) (read : Option ℕ) → read ≡ Some m → read ≡ Some n → m ≡ n
same_length m n read e f = cc

-- octets have the form of one UDP datagram
pub one_form : (first second : UserDatagram) (xs : List ℕ) → HasForm first xs → HasForm second xs → first ≡ second
one_form first second xs f g =
    let a = form_read first xs f in
    let b = form_read second xs g in
    let same = same_length (datagram_len first) (datagram_len second) (len_in xs) a.len b.len in
    sym a.whole ∙ ap (λ (n : ℕ). datagram_of (take n xs)) same ∙ b.whole
