-- Of how many frames one is meant by a text.
use Rattle.std.proofs.Common.{◌≡◌, ◌<◌, ◌≤◌, ◌^◌, ℕ, List, Some, None, Bool, true, false, ◌&&◌, nat_lt, if◌then◌else◌, refl, arith}
use Rattle.std.specs.Prelude.{nat_le}
use Rattle.std.specs.Str.Parse.{IsNumeral, digits_value, without_leading_plus}
use Rattle.clap.specs.ValueTests.{is_numeral, is_unsigned_in}
use Rattle.clap.specs.declared.builder.value_parser.ValueParser.TheVariants.{Unsigned}
use Rattle.clap.proofs.ValueTestLemmas.{accepts-Accepts, Accepts-accepts}
use Rattle.clap.proofs.WalkLemmas.{both}
use Rattle.udp_link.specs.Steps.{step_in}
use Rattle.command_line.specs.Line.{step_of}

-- a number of 64 bits is meant where it is in range
pub step_read : (text : List ℕ) (n : ℕ) → IsNumeral 10 (without_leading_plus text) → digits_value 10 (without_leading_plus text) < 2 ^ 64
    → n ≡ digits_value 10 (without_leading_plus text) → step_in n ≡ step_of text
step_read text n numeral fits is =
    let digits = without_leading_plus text in
    let least : 0 ≤ digits_value 10 digits = omega arith in
    let most : digits_value 10 digits ≤ 18446744073709551615 = omega arith in
    let within : is_unsigned_in 0 18446744073709551615 text ≡ true =
    Accepts-accepts false (Unsigned 0 18446744073709551615) text (numeral, fits, least, most) in
    let parts = both (is_numeral digits) (nat_lt (digits_value 10 digits) (2 ^ 64) && (nat_le 0 (digits_value 10 digits) && nat_le (digits_value 10 digits) 18446744073709551615)) within in
    let rest = both (nat_lt (digits_value 10 digits) (2 ^ 64)) (nat_le 0 (digits_value 10 digits) && nat_le (digits_value 10 digits) 18446744073709551615) parts.1 in
    let numeral_is : is_numeral (without_leading_plus text) ≡ true = parts.0 in
    let fits_is : nat_lt (digits_value 10 (without_leading_plus text)) (2 ^ 64) ≡ true = rest.0 in
    rw (is, numeral_is, fits_is) refl

unless : (b : Bool) (value : ℕ) → (b ≡ true → ⊥) → None ≡ (if b then Some value else None)
unless true value never = absurd (never refl)
unless false value never = refl

-- nothing is meant by what is no such number
pub step_unread : (text : List ℕ) → (IsNumeral 10 (without_leading_plus text) × (digits_value 10 (without_leading_plus text) < 2 ^ 64) → ⊥)
    → None ≡ step_of text
step_unread text never = unless (is_unsigned_in 2 1000000 text) (digits_value 10 (without_leading_plus text))
    (λ taken. let accepted = accepts-Accepts false (Unsigned 2 1000000) text taken in never (accepted.0, accepted.1))
