use Rattle.std.proofs.Common.{Some, None, Err, sym, subst, ◌∙◌, arith}
use Rattle.ether.specs.Frame.{IsParsed}
use Rattle.ether.proofs.Reading.{read_ok, read_err, is_fault}
use Rattle.frames.proofs.Layers.{all_octets, as_frame, for_another, for_us, too_many}
use Rattle.frames.proofs.reading.read.Goals as goal

pub returns-then-octets-gt-FRAME_MAX : goal.returns-then-octets-gt-FRAME_MAX
returns-then-octets-gt-FRAME_MAX c = sym (too_many c.args.mac c.args.addr c.args.octets.now c.if-octets-gt-FRAME_MAX.true)

pub returns-in-Ok : goal.returns-in-Ok
returns-in-Ok c =
    let found = read_ok c.args.octets.now c.in-Ok.frame c.in-Ok.ensures.parsed in
    rw (c.read_payload.ensures, c.kind.ensures, c.payload.ensures)
    (sym (as_frame c.args.mac c.args.addr c.args.octets.now (Some c.in-Ok.frame) c.if-octets-gt-FRAME_MAX.false found
    ∙ for_us c.args.mac c.args.addr c.in-Ok.frame (sym c.is_for.ensures ∙ c.if-is_for.true)))

pub returns-in-Ok-2 : goal.returns-in-Ok-2
returns-in-Ok-2 c =
    let found = read_ok c.args.octets.now c.in-Ok.frame c.in-Ok.ensures.parsed in
    sym (as_frame c.args.mac c.args.addr c.args.octets.now (Some c.in-Ok.frame) c.if-octets-gt-FRAME_MAX.false found
    ∙ for_another c.args.mac c.args.addr c.in-Ok.frame (sym c.is_for.ensures ∙ c.if-is_for.false))

pub returns-in-Err : goal.returns-in-Err
returns-in-Err c =
    let each = all_octets c.args.octets.now (λ i. omega (arith, c.type_inv.octets i)) in
    let none = read_err c.args.octets.now each (subst (λ fault. IsParsed c.args.octets.now (Err fault)) (is_fault c.in-Err.field-0) c.in-Err.ensures.parsed) in
    sym (as_frame c.args.mac c.args.addr c.args.octets.now None c.if-octets-gt-FRAME_MAX.false none)
