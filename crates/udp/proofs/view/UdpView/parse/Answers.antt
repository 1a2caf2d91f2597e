use Rattle.std.proofs.Common.{arith}
use Rattle.udp.proofs.Plain.{form_right, form_wrong, no_form}
use Rattle.udp.proofs.view.UdpView.parse.Goals as goal

pub returns-in_default-clause-read : goal.returns-in_default-clause-read
returns-in_default-clause-read c = no_form c.args.src c.args.dst c.args.octets.now (λ i. omega (arith, c.type_inv.octets i)) c.in_default.ensures.none

pub returns-then-has_right_sum-clause-read : goal.returns-then-has_right_sum-clause-read
returns-then-has_right_sum-clause-read c =
    form_right c.args.src c.args.dst c.in-Some.view c.args.octets.now c.in-Some.ensures.some (c.has_right_sum.ensures.0 c.if-has_right_sum.true)

pub returns-else-has_right_sum-clause-read : goal.returns-else-has_right_sum-clause-read
returns-else-has_right_sum-clause-read c = form_wrong c.args.src c.args.dst c.in-Some.view c.args.octets.now c.in-Some.ensures.some (λ right. let is = c.has_right_sum.ensures.1 right in cc)
