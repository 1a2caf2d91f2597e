-- The parts of a script's line: words parted by one blank, decimal numbers, and text.
use Rattle.std.specs.Prelude.{ℕ, List, Option, Some, None, Bool, ◌&&◌, ◌==◌, nat_le, nat_lt, not, length, if◌then◌else◌}
use Rattle.std.specs.List.{slice_split, list_all}
use Rattle.std.specs.Char.{is_ascii_digit, is_ascii_graphic}
use Rattle.std.specs.Str.Parse.{digits_value}

-- the lines of a script: what stands before, between and after its newlines
abbrev pub lines_of : List ℕ → List (List ℕ)
lines_of octets = slice_split (λ octet. octet == 10) octets

-- the words of a line: what stands before, between and after its blanks
abbrev pub words_of : List ℕ → List (List ℕ)
words_of line = slice_split (λ octet. octet == 32) line

-- whether a word is decimal digits, at least one
abbrev pub is_numeral : List ℕ → Bool
is_numeral word = not (length word == 0) && list_all is_ascii_digit word

-- the number that a word of decimal digits writes, if it is at most `most`; leading zeros are digits
abbrev pub number_of : ℕ → List ℕ → Option ℕ
number_of most word =
    if is_numeral word && nat_le (digits_value 10 word) most then Some (digits_value 10 word) else None

-- whether a word is text: at least one octet, each from 0x21 to 0x7e
abbrev pub is_text : List ℕ → Bool
is_text word = not (length word == 0) && list_all is_ascii_graphic word

-- the word itself, if it is text
abbrev pub text_of : List ℕ → Option (List ℕ)
text_of word = if is_text word then Some word else None

-- whether each octet is ASCII
abbrev pub is_ascii_line : List ℕ → Bool
is_ascii_line line = list_all (λ octet. nat_lt octet 128) line
