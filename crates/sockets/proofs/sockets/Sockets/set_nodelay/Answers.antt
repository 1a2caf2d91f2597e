-- The write at the socket's place is the change of the first entry that the id names; a refused call writes what was there.
use Rattle.std.proofs.Common.{◌∙◌, refl, sym, ap}
use Rattle.std.specs.Result.{result_err}
use Rattle.clock.specs.declared.moment.Moment.{Moment}
use Rattle.sockets.specs.Entries.{is_socket, role_after_nodelay}
use Rattle.sockets.specs.SocketsView.{SocketsView, with_socket}
use Rattle.sockets.proofs.Written.{role_written, role_kept, on_ok, on_err}
use Rattle.sockets.proofs.Refused.{nodelay-refused}
use Rattle.sockets.proofs.Ascending.{ascends_written}
use Rattle.sockets.proofs.Filed.{index_written}
use Rattle.sockets.proofs.KeptFiled.{filed_role, filed-nodelay}
use Rattle.sockets.proofs.Outlooks.{outlook_written}
use Rattle.sockets.proofs.sockets.Sockets.set_nodelay.Goals as goal

pub returns-clause-ok : goal.returns-clause-ok
returns-clause-ok c =
    let h : SocketsView = c.args.self.now in
    let kept = ap (λ (w : SocketsView). w.kept) c.self.view_is in
    on_ok _ _ (role_written _ _ (is_socket c.args.id) (role_after_nodelay c.args.on c.self.inside.kept) _ _ _ _ c.self.view_is c.in_ok-place.ensures.place c.deref_mut.ensures.value c.index-deref_mut-place.is c.set_nodelay.ensures.after
    ∙ ap (λ (m : Moment). with_socket h c.args.id (role_after_nodelay c.args.on m)) kept)

pub returns-clause-err : goal.returns-clause-err
returns-clause-err c =
    on_err _ _ (λ e refused. role_kept _ _ _ _ _ _ c.self.view_is c.deref_mut.ensures.value c.index-deref_mut-place.is (c.set_nodelay.ensures.after ∙ nodelay-refused _ _ _ e (sym c.set_nodelay.ensures.refused ∙ ap result_err refused)))

-- the entry keeps its id
pub invariant_of-self : goal.invariant_of-self
invariant_of-self c = (
  c.self.invariant.0,
  ascends_written _ _ _ _ _ c.index-deref_mut-place.result c.self.invariant.1 c.deref_mut.ensures.value refl,
  index_written _ _ _ _ _ c.index-deref_mut-place.result c.self.invariant.2 c.deref_mut.ensures.value (filed_role (role_after_nodelay c.args.on c.self.inside.kept) _ _ (filed-nodelay _ _ _) c.set_nodelay.ensures.after),
  outlook_written _ _ _ _ _ _ (c.turn_to.ensures.known _ c.self.invariant.3) c.turn_to.ensures.at_hand c.deref_mut.ensures.value,
)

pub turn_to-requires-clause-known : goal.turn_to-requires-clause-known
turn_to-requires-clause-known c = (c.self.inside.sizes.entries, c.self.invariant.3)
