use Rattle.std.proofs.Common.{◌<◌, ◌^◌, rules, arith}
use Rattle.ipv4.proofs.Sending.{words_are}
use Rattle.ipv4.proofs.head.Head.words.Goals as goal

pub returns : goal.returns
returns c = λ payload is_total.
    let head = c.args.self.now in
    let field = c.fragment_field.ensures payload 0 in
    let fits : c.fragment_field.result < 2 ^ 16 = search rules in
    words_are head payload c.args.total _ (search rules) (search rules) is_total (search rules) (search rules) (omega (arith, field, fits))
    (omega (arith, field, c.from.ensures, c.from-2.ensures, c.from-3.ensures, c.from-4.ensures, c.from-5.ensures, c.from-6.ensures, c.from-control.ensures, c.from_be_bytes.ensures, c.from_be_bytes-2.ensures, c.from_be_bytes-3.ensures, c.from_be_bytes-4.ensures))
