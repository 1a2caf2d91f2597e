use Rattle.std.proofs.Common.{◌≡◌, ◌++◌, ◌-◌, List, ℕ, length, take, ◌∙◌, ap, arith}
use Rattle.stream_buf.proofs.Copying.{across}
use Rattle.stream_buf.proofs.ring.copy_across.Goals as goal

pub returns-clause-octets : goal.returns-clause-octets
returns-clause-octets c =
    let count : length c.split_at_mut-first.result.1.now ≡ length c.args.out.now - length c.args.front.now = omega (arith, c.split_at_mut-first.ensures.back_len) in
    ap (λ (xs : List ℕ). xs ++ c.copy_sum-right.new.to) c.copy_sum-left.ensures.copied
    ∙ ap (λ (xs : List ℕ). c.args.front.now ++ xs) (c.copy_sum-right.ensures.copied ∙ ap (λ (n : ℕ). take n c.args.back.now) count)
    ∙ across c.args.front.now c.args.back.now (length c.args.out.now) c.requires.front
