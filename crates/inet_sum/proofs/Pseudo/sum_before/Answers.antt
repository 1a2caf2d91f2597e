use Rattle.std.proofs.Common.{◌≡◌, ℕ, ◌+◌, ◌*◌, ◌/◌, ◌%◌, ◌≤◌, List, ◌++◌, ◌∷◌, [], length, arith, rules, ◌∙◌, ap, append_assoc, refl}
use Rattle.std.specs.Int.{from_be_bytes, w32}
use Rattle.inet_sum.specs.Sum.{word_sum, ones_complement, pseudo_octets}
use Rattle.inet_sum.proofs.Words.{word_sum-append, ones_complement-add}
use Rattle.inet_sum.proofs.Exchanging.{few_turns}
use Rattle.inet_sum.proofs.Pseudo.sum_before.Goals as goal

-- an address is two words, in one's complement
address : (xs : List ℕ) → length xs ≡ 4 → (high : ℕ) × (from_be_bytes w32 xs ≡ word_sum xs + 65535 * high) × (high ≤ word_sum xs)
address (a ∷ b ∷ c ∷ d ∷ []) size = (256 * a + b, omega arith, omega arith)
address [] size = absurd (omega (arith, size))
address (a ∷ []) size = absurd (omega (arith, size))
address (a ∷ b ∷ []) size = absurd (omega (arith, size))
address (a ∷ b ∷ c ∷ []) size = absurd (omega (arith, size))
address (a ∷ b ∷ c ∷ d ∷ e ∷ rest) size = absurd (omega (arith, size))

pub returns : goal.returns
returns c = λ octets is.
    let src = c.args.self.now.src in
    let dst = c.args.self.now.dst in
    let protocol = c.args.self.now.protocol in
    let size = c.args.self.now.length in
    let rest = 0 ∷ protocol ∷ size / 256 % 256 ∷ size % 256 ∷ octets in
    let from = address src (search rules) in
    let to = address dst (search rules) in
    let before : ℕ = word_sum src + word_sum dst + protocol + size in
    let joined : pseudo_octets c.args.self.now ++ octets ≡ src ++ (dst ++ rest) = simp append_assoc in
    let split : word_sum octets + before ≡ word_sum (src ++ (dst ++ rest)) =
    omega (arith, word_sum-append src 2 (dst ++ rest) (search rules), word_sum-append dst 2 rest (search rules)) in
    let total : c.from.result + c.from-2.result + (c.from-3.result + c.from-4.result) + c.args.words ≡ c.args.words + before + 65535 * (from.0 + to.0) =
    omega (arith, c.from.ensures, c.from-2.ensures, c.from-3.ensures, c.from-4.ensures, c.from_be_bytes.ensures, c.from_be_bytes-2.ensures, from.1, to.1) in
    c.fold.ensures ∙ (ap ones_complement total ∙ few_turns (c.args.words + before) (from.0 + to.0) (omega (arith, from.2, to.2))
    ∙ ones_complement-add c.args.words (word_sum octets) before is
    ∙ ap ones_complement split ∙ rw (← joined) refl)
