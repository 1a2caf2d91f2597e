-- The write at the socket's place is the change of the first entry that the id names; a refused send writes what was there.
use Rattle.std.proofs.Common.{◌∙◌, sym, ap, refl}
use Rattle.clock.specs.declared.moment.Moment.{Moment}
use Rattle.sockets.specs.Entries.{is_socket, role_after_send}
use Rattle.sockets.specs.SocketsView.{SocketsView, with_socket}
use Rattle.sockets.proofs.Written.{role_written, role_kept, on_ok, on_err}
use Rattle.sockets.proofs.Refused.{sent_refused}
use Rattle.sockets.proofs.Ascending.{ascends_written}
use Rattle.sockets.proofs.Filed.{index_written}
use Rattle.sockets.proofs.KeptFiled.{filed_role, filed-send}
use Rattle.sockets.proofs.Outlooks.{outlook_written}
use Rattle.sockets.proofs.sockets.Sockets.send.Goals as goal

pub returns-clause-ok : goal.returns-clause-ok
returns-clause-ok c =
    let h : SocketsView = c.args.self.now in
    let kept = ap (λ (w : SocketsView). w.kept) c.self.view_is in
    on_ok _ _ (role_written _ _ (is_socket c.args.id) (role_after_send c.self.inside.kept c.args.octets.now) _ _ _ _ c.self.view_is c.in_ok-place.ensures.place c.deref_mut.ensures.value c.index-deref_mut-place.is c.send.ensures.after
    ∙ ap (λ (m : Moment). with_socket h c.args.id (role_after_send m c.args.octets.now)) kept)

pub returns-clause-err : goal.returns-clause-err
returns-clause-err c =
    on_err _ _ (λ e refused. role_kept _ _ _ _ _ _ c.self.view_is c.deref_mut.ensures.value c.index-deref_mut-place.is (c.send.ensures.after ∙ sent_refused _ c.args.octets.now _ e (sym c.send.ensures.answer ∙ refused)))

-- the entry keeps its id
pub invariant_of-self : goal.invariant_of-self
invariant_of-self c = (
  c.self.invariant.0,
  ascends_written _ _ _ _ _ c.index-deref_mut-place.result c.self.invariant.1 c.deref_mut.ensures.value refl,
  index_written _ _ _ _ _ c.index-deref_mut-place.result c.self.invariant.2 c.deref_mut.ensures.value (filed_role (role_after_send c.self.inside.kept c.args.octets.now) _ _ (filed-send _ _ _) c.send.ensures.after),
  outlook_written _ _ _ _ _ _ (c.turn_to.ensures.known _ c.self.invariant.3) c.turn_to.ensures.at_hand c.deref_mut.ensures.value,
)

pub turn_to-requires-clause-known : goal.turn_to-requires-clause-known
turn_to-requires-clause-known c = (c.self.inside.sizes.entries, c.self.invariant.3)
