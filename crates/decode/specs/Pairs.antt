-- The octets that a text of hexadecimal digits spells.
use Rattle.std.specs.Prelude.{ℕ, Bool, ◌==◌, ◌||◌, ◌&&◌, nat_le, List, [], ◌∷◌, ◌++◌, Option, Some, None, Result, Ok}
use Rattle.std.specs.List.{slice_split}
use Rattle.hex.specs.Hex.{decode_of}
use Rattle.hex.specs.declared.error.FromHexError.{FromHexError}

-- White space, as C's `isspace` has it (ISO/IEC 9899:2011, section 7.4.1.10): a blank, or one from 9 to 13: tab, line feed, vertical tab, form
-- feed and carriage return.
abbrev pub is_space : ℕ → Bool
is_space octet = octet == 32 || (nat_le 9 octet && nat_le octet 13)

-- the octets of a word, and then those of the words behind it, where each spells some
abbrev pub both : Result (List ℕ) FromHexError → Option (List ℕ) → Option (List ℕ)
both (Ok octets) (Some more) = Some (octets ++ more)
both first rest = None

-- the octets that words spell, each word some pairs of hexadecimal digits
unfoldable pub octets_of_words : List (List ℕ) → Option (List ℕ)
octets_of_words [] = Some []
octets_of_words (word ∷ rest) = both (decode_of word) (octets_of_words rest)

-- the octets that a text spells: its words stand before, between and after its white space
abbrev pub octets_in : List ℕ → Option (List ℕ)
octets_in text = octets_of_words (slice_split is_space text)
