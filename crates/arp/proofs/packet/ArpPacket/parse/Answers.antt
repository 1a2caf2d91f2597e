use Rattle.std.proofs.Common.{rules, arith, ◌∙◌, ap}
use Rattle.std.proofs.lemmas.List.{take_rest}
use Rattle.byteorder.specs.Endian.{big_number}
use Rattle.arp.proofs.Reading.{is_read}
use Rattle.arp.proofs.packet.ArpPacket.parse.Goals as goal

pub returns : goal.returns
returns c =
    is_read _ c.args.octets.now (search rules) (omega arith) (search rules) (c.in-Some.ensures.some ∙ (c.read_u16.ensures ∙ ap (big_number 2) (take_rest c.args.octets.now 6)))
    (search rules) (search rules) (search rules) (search rules)
