-- The write at the socket's place is the change of the first entry that the id names.
use Rattle.std.proofs.Common.{◌≡◌, get_or, refl}
use Rattle.sockets.specs.Entries.{is_socket, role_after_recvfrom}
use Rattle.sockets.specs.declared.entry.Entry.{Entry}
use Rattle.sockets.proofs.Written.{role_written, ok_from}
use Rattle.sockets.proofs.Ascending.{ascends_written}
use Rattle.sockets.proofs.Filed.{index_written}
use Rattle.sockets.proofs.KeptFiled.{filed_read, filed-recvfrom}
use Rattle.sockets.proofs.Outlooks.{outlook_written}
use Rattle.sockets.proofs.sockets.Sockets.recvfrom.Goals as goal

pub returns-clause-ok : goal.returns-clause-ok
returns-clause-ok c =
    ok_from c.recv_from.result (let z : Entry = get_or c.deref_mut.result.now c.in_ok-place.place c.index-deref_mut-place.result in c.recv_from.new.self ≡ role_after_recvfrom z.role) _
    (λ changed. role_written _ _ (is_socket c.args.id) role_after_recvfrom _ _ _ _ c.self.view_is c.in_ok-place.ensures.place c.deref_mut.ensures.value c.index-deref_mut-place.is changed) c.recv_from.ensures.ok

-- the entry keeps its id
pub invariant_of-self : goal.invariant_of-self
invariant_of-self c = (
  c.self.invariant.0,
  ascends_written _ _ _ _ _ c.index-deref_mut-place.result c.self.invariant.1 c.deref_mut.ensures.value refl,
  index_written _ _ _ _ _ c.index-deref_mut-place.result c.self.invariant.2 c.deref_mut.ensures.value (filed_read c.recv_from.result role_after_recvfrom _ _ (filed-recvfrom _) c.recv_from.ensures.ok c.recv_from.ensures.err),
  outlook_written _ _ _ _ _ _ (c.turn_to.ensures.known _ c.self.invariant.3) c.turn_to.ensures.at_hand c.deref_mut.ensures.value,
)

pub turn_to-requires-clause-known : goal.turn_to-requires-clause-known
turn_to-requires-clause-known c = (c.self.inside.sizes.entries, c.self.invariant.3)
