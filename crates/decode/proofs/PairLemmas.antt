-- The octets of words, word by word.
use Rattle.std.proofs.Common.{◌≡◌, ◌++◌, ◌+◌, ◌<◌, ◌≤◌, length, map, drop, get_or, List, ℕ, Option, Some, None, Result, Ok, Err, IsErr, rules, refl, sym, ap, ◌∙◌, append_assoc, append-nil}
use Rattle.std.proofs.lemmas.List.{drop_more, drop_all}
use Rattle.hex.specs.Hex.{decode_of}
use Rattle.hex.specs.declared.error.FromHexError.{FromHexError}
use Rattle.decode.specs.Pairs.{both, octets_of_words}

-- the octets so far, those of a word, and those of the rest
both-onward : (front octets : List ℕ) (rest : Option (List ℕ)) → both (Ok front) (both (Ok octets) rest) ≡ both (Ok (front ++ octets)) rest
both-onward front octets (Some more) = ap Some (sym (append_assoc front octets more))
both-onward front octets None = refl

-- of the words that are left, the first is read
pub word-read : {X : Type 0} (now : X → List ℕ) (words : List X) (i : ℕ) (d : X) (items octets : List ℕ) → i < length words →
    decode_of (now (get_or words i d)) ≡ Ok octets →
    both (Ok items) (octets_of_words (map now (drop i words))) ≡ both (Ok (items ++ octets)) (octets_of_words (map now (drop (i + 1) words)))
unfolding octets_of_words
word-read now words i d items octets within read =
    let rest = octets_of_words (map now (drop (i + 1) words)) in
    ap (λ left. both (Ok items) (octets_of_words (map now left))) (drop_more words i d within)
    ∙ ap (λ first. both (Ok items) (both first rest)) read ∙ both-onward items octets rest

-- where the first of them is refused, so are all
refused-first : (read : Result (List ℕ) FromHexError) (items : List ℕ) (rest : Option (List ℕ)) → IsErr read → both (Ok items) (both read rest) ≡ None
refused-first (Err error) items rest refused = refl
refused-first (Ok octets) items rest refused = search rules

pub word-refused : {X : Type 0} (now : X → List ℕ) (words : List X) (i : ℕ) (d : X) (items : List ℕ) → i < length words →
    IsErr (decode_of (now (get_or words i d))) → both (Ok items) (octets_of_words (map now (drop i words))) ≡ None
unfolding octets_of_words
word-refused now words i d items within refused =
    let rest = octets_of_words (map now (drop (i + 1) words)) in
    ap (λ left. both (Ok items) (octets_of_words (map now left))) (drop_more words i d within)
    ∙ refused-first (decode_of (now (get_or words i d))) items rest refused

-- once no word is left, these are all octets
pub words-done : {X : Type 0} (now : X → List ℕ) (words : List X) (i : ℕ) (items : List ℕ) → length words ≤ i →
    both (Ok items) (octets_of_words (map now (drop i words))) ≡ Some items
unfolding octets_of_words
words-done now words i items done =
    ap (λ left. both (Ok items) (octets_of_words (map now left))) (drop_all i words done) ∙ ap Some (append-nil items)
