use Rattle.host.proofs.FirstPlace.{datagram-first, datagrams-ordered}
use Rattle.host.proofs.laws.datagrams_to_one_address_go_out_in_order.Goals as goal

pub returns-clause-first : goal.returns-clause-first
returns-clause-first c = datagram-first

pub returns-clause-others : goal.returns-clause-others
returns-clause-others c = datagrams-ordered
