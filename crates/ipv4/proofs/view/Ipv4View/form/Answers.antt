use Rattle.std.proofs.Common.{arith, sym, rules}
use Rattle.ipv4.proofs.Form.{are_read, has_form, lengths_facts, word_fits}
use Rattle.ipv4.proofs.view.Ipv4View.form.Goals as goal

pub has_place-requires-clause-len : goal.has_place-requires-clause-len
has_place-requires-clause-len c =
    let lengths = lengths_facts c.args.octets.now c.in_ok-header.header c.in_ok-header.total (sym c.in_ok-header.ensures) in
    omega (arith, lengths.whole, word_fits c.args.octets.now 2 (λ i. omega (arith, c.type_inv.octets i)))

pub invariant_of-result : goal.invariant_of-result
invariant_of-result c =
    are_read c.args.octets.now c.in_ok-header.header c.in_ok-header.total (λ i. omega (arith, c.type_inv.octets i)) (sym c.in_ok-header.ensures) (search rules)

pub returns-then-has_place-clause-some : goal.returns-then-has_place-clause-some
returns-then-has_place-clause-some c =
    has_form c.args.octets.now c.in_ok-header.header c.in_ok-header.total
    (are_read c.args.octets.now c.in_ok-header.header c.in_ok-header.total (λ i. omega (arith, c.type_inv.octets i)) (sym c.in_ok-header.ensures) (search rules))
