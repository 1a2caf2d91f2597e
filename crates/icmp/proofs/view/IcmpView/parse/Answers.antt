use Rattle.std.proofs.Common.{arith, sym, ap, ◌∙◌}
use Rattle.inet_sum.specs.Sum.{sum_of}
use Rattle.icmp.specs.Reading.{message_of}
use Rattle.icmp.proofs.Form.{are_read}
use Rattle.icmp.proofs.view.IcmpView.parse.Goals as goal

pub invariant_of-view : goal.invariant_of-view
invariant_of-view c = are_read c.args.octets.now (λ i. omega (arith, c.type_inv.octets i)) (omega arith)

pub returns-then-sum-eq65535 : goal.returns-then-sum-eq65535
returns-then-sum-eq65535 c =
    let read = are_read c.args.octets.now (λ i. omega (arith, c.type_inv.octets i)) (omega arith) in
    record { form = read.form; sum = ap sum_of (sym read.form.spelled) ∙ (sym c.sum.ensures ∙ c.if-sum-eq65535.true) }

pub returns-else-sum-eq65535 : goal.returns-else-sum-eq65535
returns-else-sum-eq65535 c =
    let read = are_read c.args.octets.now (λ i. omega (arith, c.type_inv.octets i)) (omega arith) in
    (message_of c.args.octets.now, read.form, λ right. c.if-sum-eq65535.false (c.sum.ensures ∙ (ap sum_of read.form.spelled ∙ right)))
