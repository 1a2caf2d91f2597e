use Rattle.std.proofs.Common.{rules, drop}
use Rattle.arp.proofs.Spelling.{emitted, spells}
use Rattle.arp.proofs.packet.ArpPacket.emit.Goals as goal

pub returns-clause-octets : goal.returns-clause-octets
returns-clause-octets c = emitted c.args.self.now c.args.out.now _ _ _ _ _ _ (search rules) (search rules) (search rules) (search rules) (search rules) (search rules) (search rules)

pub returns-clause-spelled : goal.returns-clause-spelled
returns-clause-spelled c = spells c.args.self.now _ (drop 28 c.args.out.now) (search rules)
    (emitted c.args.self.now c.args.out.now _ _ _ _ _ _ (search rules) (search rules) (search rules) (search rules) (search rules) (search rules) (search rules))
