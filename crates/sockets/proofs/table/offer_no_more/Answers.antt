-- What is left is what the closure keeps.
use Rattle.std.proofs.Common.{not, rules}
use Rattle.fixed_vec.proofs.Retained.{filter-from_retain}
use Rattle.sockets.specs.declared.entry.SocketId.{SocketId}
use Rattle.sockets.specs.Entries.{is_waiting_id}
use Rattle.sockets.proofs.table.offer_no_more.Goals as goal

pub returns-clause-items : goal.returns-clause-items
returns-clause-items c = filter-from_retain _ (λ (id : SocketId). not (is_waiting_id c.args.entries.now c.args.listener id)) _ (λ x b f' y called. search rules) _ _ c.retain.ensures.filtered
