-- The message that is read is the one whose form the octets have.
use Rattle.std.proofs.Common.{◌≡◌, ℕ, ◌≤◌, List, ◌∷◌, ◌++◌, length, drop, arith, ap, sym, ◌∙◌}
use Rattle.byteorder.specs.Endian.{big_bytes, big_number}
use Rattle.ipv4.proofs.Octets.{AreOctets, two_spelled}
use Rattle.icmp.specs.Message.{Message, IsMessage, HasForm, spelling}
use Rattle.icmp.specs.Reading.{message_of, AreRead}

-- eight octets at least are those of a message
pub are_read : (xs : List ℕ) → AreOctets xs → 8 ≤ length xs → AreRead xs
are_read (x0 ∷ x1 ∷ x2 ∷ x3 ∷ x4 ∷ x5 ∷ x6 ∷ x7 ∷ rest) b least =
    let checksum = two_spelled x2 x3 (x4 ∷ x5 ∷ x6 ∷ x7 ∷ rest) (b 2) (b 3) in
    let identifier = two_spelled x4 x5 (x6 ∷ x7 ∷ rest) (b 4) (b 5) in
    let number = two_spelled x6 x7 rest (b 6) (b 7) in
    let octets : List ℕ = x0 ∷ x1 ∷ x2 ∷ x3 ∷ x4 ∷ x5 ∷ x6 ∷ x7 ∷ rest in
    let spelled : octets ≡ spelling (message_of octets) =
    ap (λ ys. x0 ∷ x1 ∷ ys) (checksum.0 ∙ ap (λ ys. big_bytes 2 (big_number 2 (drop 2 octets)) ++ ys) (identifier.0 ∙ ap (λ ys. big_bytes 2 (big_number 2 (drop 4 octets)) ++ ys) number.0)) in
    record {
      least = omega arith;
      form = record {
        fields = record {
          kind = b 0;
          code = b 1;
          checksum = checksum.1;
          identifier = identifier.1;
          number = number.1;
        };
        spelled = spelled;
      };
    }
are_read xs b least = absurd (omega (arith, least))

-- fewer than eight octets have the form of no message
pub form_least : (m : Message) (xs : List ℕ) → HasForm m xs → 8 ≤ length xs
form_least m xs form = omega (arith, ap length form.spelled)

spelled_read : (m : Message) → IsMessage m → message_of (spelling m) ≡ m
spelled_read m fits =
    let octets : List ℕ = spelling m in
    let checksum : big_number 2 (drop 2 octets) ≡ m.checksum = omega (arith, fits.checksum) in
    let identifier : big_number 2 (drop 4 octets) ≡ m.identifier = omega (arith, fits.identifier) in
    let number : big_number 2 (drop 6 octets) ≡ m.number = omega (arith, fits.number) in
    let whole : message_of octets ≡ record { kind = m.kind; code = m.code; checksum = m.checksum; identifier = m.identifier; number = m.number; payload = m.payload } = cc in
    whole

-- octets that have the form of a message are read as it
pub form_read : (m : Message) (xs : List ℕ) → HasForm m xs → message_of xs ≡ m
form_read m xs form = ap message_of form.spelled ∙ spelled_read m form.fields

-- octets have the form of one message
pub one_form : (first second : Message) (xs : List ℕ) → HasForm first xs → HasForm second xs → first ≡ second
one_form first second xs f g = sym (form_read first xs f) ∙ form_read second xs g
