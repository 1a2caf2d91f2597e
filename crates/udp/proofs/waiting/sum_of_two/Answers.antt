use Rattle.std.proofs.Common.{◌≡◌, ℕ, ◌%◌, ◌==◌, ap, sym, ◌-◌, length, take, arith}
use Rattle.std.proofs.lemmas.List.{length-take}
use Rattle.udp.proofs.Copying.{summed_of_two}
use Rattle.udp.proofs.waiting.sum_of_two.Goals as goal

pub returns : goal.returns
returns c =
    let front = c.args.front.now in
    let back = c.args.back.now in
    let k = c.min-from_front.result in
    let size : length (take k front) ≡ k = omega (arith, length-take k front, c.min-from_front.ensures) in
    summed_of_two front back c.args.len k c.join.result c.min-from_front.ensures
    (c.join.ensures (take k front) (take (c.args.len - k) back) c.sum.ensures c.sum-2.ensures (ap (λ (n : ℕ). n % 2 == 1) (sym size)))
