use Rattle.std.proofs.Common.{Some, None, Err, sym, subst, ◌∙◌, arith}
use Rattle.ether.specs.Frame.{IsParsed}
use Rattle.ether.proofs.Reading.{read_ok, read_err, is_fault}
use Rattle.frames.proofs.Layers.{all_octets}
use Rattle.frames.proofs.PairReading.{as_frame, of_ipv4, of_other}
use Rattle.frames.proofs.pairs.pair_in.Goals as goal

pub returns-in-Ok : goal.returns-in-Ok
returns-in-Ok c =
    let found = read_ok c.args.octets.now c.in-Ok.frame c.in-Ok.ensures.parsed in
    rw (c.datagram_pair.ensures, c.payload.ensures)
    (sym (as_frame c.args.octets.now (Some c.in-Ok.frame) found ∙ of_ipv4 c.in-Ok.frame (sym c.kind.ensures ∙ c.if-kind-eq-ETHERTYPE_IPV4.true)))

pub returns-in-Ok-2 : goal.returns-in-Ok-2
returns-in-Ok-2 c =
    let found = read_ok c.args.octets.now c.in-Ok.frame c.in-Ok.ensures.parsed in
    sym (as_frame c.args.octets.now (Some c.in-Ok.frame) found ∙ of_other c.in-Ok.frame (λ is. c.if-kind-eq-ETHERTYPE_IPV4.false (c.kind.ensures ∙ is)))

pub returns-in-Err : goal.returns-in-Err
returns-in-Err c =
    let each = all_octets c.args.octets.now (λ i. omega (arith, c.type_inv.octets i)) in
    sym (as_frame c.args.octets.now None (read_err c.args.octets.now each (subst (λ fault. IsParsed c.args.octets.now (Err fault)) (is_fault c.in-Err.field-0) c.in-Err.ensures.parsed)))
