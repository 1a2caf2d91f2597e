use Rattle.std.proofs.Common.{ap, take}
use Rattle.arp.proofs.OnePacket.{fields}
use Rattle.arp.proofs.laws.fields_stand_in_their_places.Goals as goal

pub returns-clause-kinds : goal.returns-clause-kinds
returns-clause-kinds c p octets s = ap (take 6) s.spelled

pub returns-clause-sender_mac : goal.returns-clause-sender_mac
returns-clause-sender_mac c p octets s = (fields p octets s).sender_mac

pub returns-clause-sender_addr : goal.returns-clause-sender_addr
returns-clause-sender_addr c p octets s = (fields p octets s).sender_addr

pub returns-clause-target_mac : goal.returns-clause-target_mac
returns-clause-target_mac c p octets s = (fields p octets s).target_mac

pub returns-clause-target_addr : goal.returns-clause-target_addr
returns-clause-target_addr c p octets s = (fields p octets s).target_addr
