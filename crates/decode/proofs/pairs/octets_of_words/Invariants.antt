use Rattle.std.proofs.Common.{◌≡◌, Ok, map, drop}
use Rattle.decode.specs.Pairs.{both, octets_of_words}
use Rattle.decode.proofs.pairs.octets_of_words.Given as goal

abbrev pub invariant-loop-word : goal.invariant-loop-word
invariant-loop-word l =
    octets_of_words (map (λ word. word.now) l.fn.words) ≡ both (Ok l.octets.items) (octets_of_words (map (λ word. word.now) (drop l.word-index l.words)))
