use Rattle.std.proofs.Common.{◌≡◌, ◌+◌, ◌%◌, ◌==◌, Bool, length, sym, ◌∙◌, ap, arith}
use Rattle.inet_sum.specs.Sum.{sum_of, ones_complement, sum_behind}
use Rattle.inet_sum.proofs.Joining.{joined}
use Rattle.inet_sum.proofs.join.Goals as goal

pub returns : goal.returns
returns c = λ a b is_left is_right is_odd.
    let shifted : c.shifted_by.result ≡ sum_behind (length a % 2 == 1) (sum_of b) =
    c.shifted_by.ensures ∙ ap (λ (odd : Bool). sum_behind odd c.args.right) is_odd ∙ ap (sum_behind (length a % 2 == 1)) is_right in
    let total : c.from.result + c.from-2.result ≡ sum_of a + sum_behind (length a % 2 == 1) (sum_of b) = omega (arith, c.from.ensures, c.from-2.ensures, is_left, shifted) in
    c.fold.ensures ∙ ap ones_complement total ∙ sym (joined a b)
