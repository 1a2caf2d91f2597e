use Rattle.std.proofs.Common.{◌≡◌, ◌++◌, ◌+◌, ◌-◌, List, ℕ, length, length-drop, take, drop, ◌∙◌, ap, arith}
use Rattle.std.proofs.lemmas.List.{take_all}
use Rattle.stream_buf.proofs.Copying.{in_back, from_front}
use Rattle.stream_buf.proofs.ring.copy_of_parts.Goals as goal

pub returns-then-front-at-clause-octets : goal.returns-then-front-at-clause-octets
returns-then-front-at-clause-octets c =
    let begin : ℕ = c.args.at - length c.args.front.now in
    let count : begin + length c.args.out.now - begin ≡ length c.args.out.now = omega arith in
    c.copy_sum.ensures.copied ∙ ap (λ (n : ℕ). take n (drop begin c.args.back.now)) count
    ∙ in_back c.args.front.now c.args.back.now c.args.at (length c.args.out.now) c.if-front-at.true

pub returns-else-out-front-clause-octets : goal.returns-else-out-front-clause-octets
returns-else-out-front-clause-octets c =
    let rest : List ℕ = drop c.args.at c.args.front.now in
    let all : take (length c.args.front.now - c.args.at) rest ≡ rest = take_all (length c.args.front.now - c.args.at) rest (omega (arith, length-drop c.args.at c.args.front.now)) in
    c.copy_across.ensures.octets ∙ ap (λ (xs : List ℕ). take (length c.args.out.now) (xs ++ c.args.back.now)) all
    ∙ from_front c.args.front.now c.args.back.now c.args.at (length c.args.out.now) (omega arith)
