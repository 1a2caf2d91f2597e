-- The opening is filed under its numbers.
use Rattle.std.proofs.Common.{refl}
use Rattle.wire_sim.specs.Filing.{by_pair, by_epoch, by_socket}
use Rattle.wire_sim.proofs.filing.Walks.{filed-more}
use Rattle.wire_sim.proofs.world.ledger.Ledger.open.Goals as goal

pub invariant_of-self-clause-pairs_filed : goal.invariant_of-self-clause-pairs_filed
invariant_of-self-clause-pairs_filed c =
    rw (c.push_reserved.ensures.items, c.push.ensures.numbers) (filed-more by_pair c.args.self.now.openings.items c.args.self.now.pairs.numbers.items c.args.opening c.pair_number.result c.args.self.now.pairs_filed c.pair_number.ensures.value)

pub invariant_of-self-clause-connections_filed : goal.invariant_of-self-clause-connections_filed
invariant_of-self-clause-connections_filed c =
    rw (c.push_reserved.ensures.items, c.push-2.ensures.numbers) (filed-more by_epoch c.args.self.now.openings.items c.args.self.now.connections.numbers.items c.args.opening c.connection_number.result c.args.self.now.connections_filed c.connection_number.ensures)

pub invariant_of-self-clause-sockets_filed : goal.invariant_of-self-clause-sockets_filed
invariant_of-self-clause-sockets_filed c =
    rw (c.push_reserved.ensures.items, c.push-3.ensures.numbers) (filed-more by_socket c.args.self.now.openings.items c.args.self.now.sockets.numbers.items c.args.opening c.args.opening.id.0 c.args.self.now.sockets_filed refl)
