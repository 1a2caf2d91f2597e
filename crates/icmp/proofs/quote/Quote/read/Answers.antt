use Rattle.std.proofs.Common.{◌+◌, arith, ap, ◌∙◌, sym}
use Rattle.std.proofs.lemmas.List.{take_rest}
use Rattle.byteorder.specs.Endian.{big_number}
use Rattle.icmp.proofs.Quoting.{fields_read}
use Rattle.icmp.proofs.quote.Quote.read.Goals as goal

pub returns-clause-some : goal.returns-clause-some
returns-clause-some c =
    let xs = c.args.octets.now in
    let header = c.in_ok-header.header in
    fields_read xs header c.at.result c.at-2.result c.read_u16.result c.read_u16-2.result c.read_u32.result
    (λ i. omega (arith, c.type_inv.octets i)) (sym c.in_ok-header.ensures)
    c.at.ensures (c.read_u16.ensures ∙ ap (big_number 2) (take_rest xs header))
    c.at-2.ensures (c.read_u16-2.ensures ∙ ap (big_number 2) (take_rest xs (header + 2)))
    (c.read_u32.ensures ∙ ap (big_number 4) (take_rest xs (header + 4)))
