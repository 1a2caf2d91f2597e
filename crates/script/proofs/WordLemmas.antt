-- Decimal digits as std's `parse` reads them.
use Rattle.std.proofs.Common.{◌≡◌, ℕ, List, [], ◌∷◌, zero, suc, Result, Ok, Err, ◌^◌, length, ◌<◌, true, arith, rules}
use Rattle.std.specs.List.{list_all}
use Rattle.std.specs.Char.{is_ascii_digit}
use Rattle.std.specs.Str.{IsUtf8, IsAscii}
use Rattle.std.specs.Str.Parse.{digits_value}
use Rattle.std.specs.Option.{SomeIff}
use Rattle.std.specs.Result.{OkIff, result_ok}
use Rattle.std.specs.Str.Parse.{ParsesUnsigned}
use Rattle.std.proofs.lemmas.Str.{IsUtf8-from_ascii}
use Rattle.std.proofs.lemmas.Str.Parse.{IsDigitsTest, IsNumeralModel, numerals_by_value, parse_digits}

pub digits_test : IsDigitsTest (λ ds. list_all is_ascii_digit ds ≡ true)
digits_test = search rules

pub numerals : IsNumeralModel (λ ds. list_all is_ascii_digit ds ≡ true) (digits_value 10)
numerals = numerals_by_value _ digits_test

digits_are_ascii : (ds : List ℕ) → list_all is_ascii_digit ds ≡ true → IsAscii ds
digits_are_ascii [] all i = omega arith
digits_are_ascii (d ∷ ds) all zero = let parts = IsDigitsTest.parts digits_test d ds all in omega (arith, parts.0)
digits_are_ascii (d ∷ ds) all (suc i) = digits_are_ascii ds (IsDigitsTest.parts digits_test d ds all).1 i

pub digits_are_utf8 : (ds : List ℕ) → list_all is_ascii_digit ds ≡ true → IsUtf8 ds
digits_are_utf8 ds all = IsUtf8-from_ascii ds (digits_are_ascii ds all)

some_of_ok : {E : Type 0} (r : Result ℕ E) (P Q : Type 0) (v : ℕ) → OkIff r (P × Q) v → P → SomeIff (result_ok r) Q v
some_of_ok (Ok x) P Q v (both, is) p = (both.1, is)
some_of_ok (Err e) P Q v neither p = λ q. neither (p, q)

-- what is left of a parse of decimal digits
pub parsed_digits : {E : Type 0} (ds : List ℕ) (r : Result ℕ E) → ParsesUnsigned 64 10 ds r → 0 < length ds →
    list_all is_ascii_digit ds ≡ true → SomeIff (result_ok r) (digits_value 10 ds < 2 ^ 64) (digits_value 10 ds)
parsed_digits ds r parses some all = some_of_ok r _ _ _ (parse_digits numerals 64 ds r parses all) some
