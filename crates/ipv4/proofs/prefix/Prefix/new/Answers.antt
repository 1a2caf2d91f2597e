use Rattle.std.proofs.Common.{◌<◌, ◌^◌, arith, rules, sym, ◌∙◌}
use Rattle.ipv4.specs.Prefixes.{number}
use Rattle.ipv4.proofs.Prefixes.{unmasked, still}
use Rattle.ipv4.proofs.prefix.Prefix.new.Goals as goal
use Rattle.ipv4.proofs.prefix.Prefix.new.Goals.{then-length-gt-BITS-via-then-length-gt-BITS, then-length-gt-BITS-via-else-length-gt-BITS+then-first_bits-to_bits}

pub returns-then-length-gt-BITS-clause-valid : goal.returns-then-length-gt-BITS-clause-valid
returns-then-length-gt-BITS-clause-valid c =
    elim c.then-length-gt-BITS.branch [
      | then-length-gt-BITS-via-then-length-gt-BITS w ↦ (λ no. absurd cc, λ is. absurd (omega (arith, w.if-length-gt-BITS.true, is.at_most)))
      | then-length-gt-BITS-via-else-length-gt-BITS+then-first_bits-to_bits w ↦ (
        λ no. absurd cc,
        λ is.
            let fits : number c.args.addr < 2 ^ 32 = rw w.to_bits.ensures.value at w.to_bits.type_inv in
            let same = still w.first_bits.result (number c.args.addr) c.args.length w.first_bits.ensures w.first_bits.type_inv fits is.at_most is.no_bit_past in
            absurd (w.if-first_bits-to_bits.true (same ∙ sym w.to_bits.ensures.value)),
      )
    ]

pub invariant_of-result : goal.invariant_of-result
invariant_of-result c =
    let n = c.args.length in
    let same = c.if-first_bits-to_bits.false ∙ c.to_bits.ensures.value in
    record { form = record { octets = search rules; in_range = c.to_bits.ensures.octets; at_most = omega arith; no_bit_past = unmasked c.first_bits.result (number c.args.addr) n c.first_bits.ensures same } }
