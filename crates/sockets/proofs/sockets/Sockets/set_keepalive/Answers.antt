-- The write at the socket's place is the change of the first entry that the id names; a refused call writes what was there.
use Rattle.std.proofs.Common.{rules, ◌≡◌, ◌∙◌, if◌then◌else◌, false, Option, Some, option_map, refl, sym, ap}
use Rattle.std.specs.Result.{result_err}
use Rattle.clock.specs.declared.moment.Moment.{Moment}
use Rattle.sockets.specs.Entries.{is_socket, role_after_keepalive}
use Rattle.sockets.specs.SocketsView.{SocketsView, with_socket}
use Rattle.sockets.specs.declared.entry.Entry.{Entry}
use Rattle.sockets.specs.declared.refusal.Refusal.TheVariants.{EBADF, EINVAL}
use Rattle.sockets.specs.Calls.{of_socket, may_ask_after, role_nodelay_refusal}
use Rattle.sockets.proofs.Firsts.{found_by_place}
use Rattle.sockets.proofs.Written.{role_written, role_kept, on_ok, on_err}
use Rattle.sockets.proofs.Refused.{keepalive-refused}
use Rattle.sockets.proofs.Ascending.{ascends_written}
use Rattle.sockets.proofs.Filed.{index_written}
use Rattle.sockets.proofs.KeptFiled.{filed_role, filed-keepalive}
use Rattle.sockets.proofs.Outlooks.{outlook_written}
use Rattle.sockets.proofs.sockets.Sockets.set_keepalive.Goals as goal

pub returns-then-not-may_ask_after-clause-refused : goal.returns-then-not-may_ask_after-clause-refused
returns-then-not-may_ask_after-clause-refused c =
    let h : SocketsView = c.args.self.now in
    let found = found_by_place (is_socket c.args.id) h.entries c.in_ok-place.place c.in_ok-place.ensures.place in
    let off : may_ask_after c.args.every ≡ false = search rules in
    sym (ap (λ (o : Option Entry). of_socket (Some EBADF) (λ role. if may_ask_after c.args.every then role_nodelay_refusal role else Some EINVAL) (option_map (λ (e : Entry). e.role) o)) found.1
    ∙ ap (λ b. if b then role_nodelay_refusal (let x = found.0 in x.role) else Some EINVAL) off)

pub returns-clause-ok : goal.returns-clause-ok
returns-clause-ok c =
    let h : SocketsView = c.args.self.now in
    let kept = ap (λ (w : SocketsView). w.kept) c.self.view_is in
    on_ok _ _ (role_written _ _ (is_socket c.args.id) (role_after_keepalive c.args.every c.self.inside.kept) _ _ _ _ c.self.view_is c.in_ok-place.ensures.place c.deref_mut.ensures.value c.index-deref_mut-place.is c.set_keepalive.ensures.after
    ∙ ap (λ (m : Moment). with_socket h c.args.id (role_after_keepalive c.args.every m)) kept)

pub returns-clause-err : goal.returns-clause-err
returns-clause-err c =
    on_err _ _ (λ e refused. role_kept _ _ _ _ _ _ c.self.view_is c.deref_mut.ensures.value c.index-deref_mut-place.is (c.set_keepalive.ensures.after ∙ keepalive-refused _ _ _ e (sym c.set_keepalive.ensures.refused ∙ ap result_err refused)))

-- the entry keeps its id
pub invariant_of-self : goal.invariant_of-self
invariant_of-self c = (
  c.self.invariant.0,
  ascends_written _ _ _ _ _ c.index-deref_mut-place.result c.self.invariant.1 c.deref_mut.ensures.value refl,
  index_written _ _ _ _ _ c.index-deref_mut-place.result c.self.invariant.2 c.deref_mut.ensures.value (filed_role (role_after_keepalive c.args.every c.self.inside.kept) _ _ (filed-keepalive _ _ _) c.set_keepalive.ensures.after),
  outlook_written _ _ _ _ _ _ (c.turn_to.ensures.known _ c.self.invariant.3) c.turn_to.ensures.at_hand c.deref_mut.ensures.value,
)

pub turn_to-requires-clause-known : goal.turn_to-requires-clause-known
turn_to-requires-clause-known c = (c.self.inside.sizes.entries, c.self.invariant.3)
