use Rattle.std.proofs.Common.{sym, ◌∙◌, ap, arith}
use Rattle.ipv4.proofs.Reading.{read_ok, read_err}
use Rattle.frames.specs.Pairs.{datagram_pair}
use Rattle.frames.proofs.Layers.{all_octets}
use Rattle.frames.proofs.pairs.datagram_pair.Goals as goal

pub returns-in-Ok : goal.returns-in-Ok
returns-in-Ok c = c.parsed_pair.ensures ∙ sym (ap datagram_pair (read_ok c.args.octets.now c.in-Ok.datagram c.in-Ok.ensures))

pub returns-in-Err : goal.returns-in-Err
returns-in-Err c =
    let each = all_octets c.args.octets.now (λ i. omega (arith, c.type_inv.octets i)) in
    sym (ap datagram_pair (read_err c.args.octets.now c.in-Err.field-0 each c.in-Err.ensures))
