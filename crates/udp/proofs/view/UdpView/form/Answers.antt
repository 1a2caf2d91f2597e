use Rattle.std.proofs.Common.{arith, sym}
use Rattle.udp.proofs.Form.{are_read, has_form}
use Rattle.udp.proofs.view.UdpView.form.Goals as goal

pub invariant_of-result : goal.invariant_of-result
invariant_of-result c = are_read c.args.octets.now c.in_ok-len.len (λ i. omega (arith, c.type_inv.octets i)) (sym c.in_ok-len.ensures)

pub returns-clause-some : goal.returns-clause-some
returns-clause-some c =
    has_form c.args.octets.now c.in_ok-len.len (are_read c.args.octets.now c.in_ok-len.len (λ i. omega (arith, c.type_inv.octets i)) (sym c.in_ok-len.ensures))
