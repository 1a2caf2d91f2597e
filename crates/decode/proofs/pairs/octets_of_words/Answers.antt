use Rattle.std.proofs.Common.{ap, sym, ◌∙◌, ◌≡◌, ◌++◌, map, drop, Ok, None, ◌+◌, rules}
use Rattle.decode.specs.Pairs.{both, octets_of_words}
use Rattle.decode.specs.declared.pairs.HexFault.TheVariants.{NotHex}
use Rattle.decode.proofs.PairLemmas.{word-read, word-refused, words-done}
use Rattle.decode.proofs.pairs.octets_of_words.Goals as goal

pub returns-in_err-octets_of_word-clause-err : goal.returns-in_err-octets_of_word-clause-err
returns-in_err-octets_of_word-clause-err c =
    let refused : c.in_err-octets_of_word.field-0.0 ≡ NotHex → octets_of_words (map (λ word. word.now) c.args.words.now) ≡ None =
    λ is. c.loop-word.invariant
    ∙ word-refused (λ word. word.now) c.args.words.now c.loop-word.word-index _ c.loop-word.octets.items c.loop-word-test.true (c.in_err-octets_of_word.ensures.err is) in
    search rules

pub loop-word-preserved : goal.loop-word-preserved
loop-word-preserved c =
    c.loop-word.invariant
    ∙ word-read (λ word. word.now) c.args.words.now c.loop-word.word-index _ c.loop-word.octets.items c.in_ok-octets_of_word.field-0.items c.loop-word-test.true c.in_ok-octets_of_word.ensures.ok
    ∙ ap (λ items. both (Ok (c.loop-word.octets.items ++ items)) (octets_of_words (map (λ word. word.now) (drop (c.loop-word.word-index + 1) c.args.words.now)))) (sym c.as_slice.ensures.value)
    ∙ ap (λ items. both (Ok items) (octets_of_words (map (λ word. word.now) (drop (c.loop-word.word-index + 1) c.args.words.now)))) (sym c.in_ok-extend_from_slice.ensures.items)

pub returns-clause-ok : goal.returns-clause-ok
returns-clause-ok c = c.loop-word.invariant ∙ words-done (λ word. word.now) c.args.words.now c.loop-word.word-index c.loop-word.octets.items (search rules)
