use Rattle.std.proofs.Common.{◌<◌, ◌^◌}
use Rattle.ipv4.specs.Prefixes.{number}
use Rattle.ipv4.proofs.Prefixes.{contains_decides}
use Rattle.ipv4.proofs.prefix.Prefix.contains.Goals as goal

pub returns : goal.returns
returns c =
    let p = c.args.self in
    let fits : number p.addr < 2 ^ 32 = rw c.to_bits.ensures.value at c.to_bits.type_inv in
    rw c.to_bits.ensures.value (contains_decides c.first_bits.result (number p.addr) (number c.args.addr) p.length c.first_bits.ensures c.first_bits.type_inv fits p.form.at_most p.form.no_bit_past)
