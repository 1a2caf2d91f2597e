use Rattle.std.proofs.Common.{◌≡◌, ◌+◌, ◌-◌, length, take, arith, ◌∙◌}
use Rattle.std.proofs.lemmas.List.{length-take}
use Rattle.icmp.proofs.Sending.{error_written}
use Rattle.icmp.proofs.error.emit_error.Goals as goal

pub returns-clause-octets : goal.returns-clause-octets
returns-clause-octets c =
    let header = c.args.header.now in
    let quoted = take c.min.result c.args.payload.now in
    let n : 8 + length header - 8 ≡ length header = omega arith in
    let k : 8 + length header + length quoted - (8 + length header) ≡ length quoted = omega arith in
    c.emit.ensures.octets
    ∙ error_written c.args.reason header c.args.payload.now c.args.out.now c.copy_from_slice.new.self c.copy_from_slice-2.new.self c.min.result _ _ c.kind.result.0 c.code.result c.emit.result
    c.requires c.min.ensures c.copy_from_slice.ensures.after c.copy_from_slice-2.ensures.after c.kind.ensures c.code.ensures n k
    (omega (arith, c.emit.ensures.len, length-take c.min.result c.args.payload.now, c.min.ensures))
