-- The write at the socket's place is the change of the first entry that the id names, from the port that is given.
use Rattle.std.proofs.Common.{◌≡◌, ◌∙◌, ◌≤◌, ℕ, List, length, Some, None, Ok, refl, ap, sym, arith}
use Rattle.std.specs.List.{find}
use Rattle.ipv4.specs.declared.addr.Addr.{Addr}
use Rattle.clock.specs.declared.moment.Moment.{Moment}
use Rattle.sockets.specs.declared.entry.Entry.{Entry}
use Rattle.sockets.specs.Entries.{is_socket, role_after_connect}
use Rattle.sockets.specs.SocketsView.{SocketsView, with_socket}
use Rattle.sockets.specs.Calls.{open_answer, reach_refusal, port_for, last_port_after}
use Rattle.sockets.proofs.Roomy.{places_stay}
use Rattle.sockets.proofs.Filed.{may_refile, index_refiled}
use Rattle.sockets.proofs.Connected.{after_connect-accepted, some_from_ok}
use Rattle.sockets.proofs.Written.{found_lent, role_written, place_within}
use Rattle.sockets.proofs.Ascending.{ascends_written}
use Rattle.sockets.proofs.Outlooks.{outlook_written}
use Rattle.sockets.proofs.sockets.Sockets.connect.Goals as goal

pub returns-clause-ok : goal.returns-clause-ok
returns-clause-ok c =
    let h : SocketsView = c.args.self.now in
    let place = c.in_ok-place.ensures.place in
    let addr = ap (λ (w : SocketsView). w.addr) c.self.view_is in
    let x : Entry = c.index-deref-place.result in
    let found : find (is_socket c.args.id) h.entries ≡ Some x = found_lent _ h (is_socket c.args.id) _ _ x c.self.view_is place c.deref.ensures.0 c.index-deref-place.is in
    let opens : open_answer x.role ≡ Ok c.in_ok-bound.bound = ap (λ (e : Entry). open_answer e.role) c.index-deref-place.is ∙ sym c.in_ok-bound.ensures in
    let given : port_for h c.in_ok-bound.bound c.args.peer ≡ Some c.in_ok-port.port = some_from_ok _ _ _ c.in_ok-port.ensures.value in
    let reached : reach_refusal h c.args.peer c.args.is_routed ≡ None = sym c.in_ok-may_reach.ensures in
    let counted : c.last_port_after-self-inside.result ≡ last_port_after h c.in_ok-bound.bound c.in_ok-port.port = c.last_port_after-self-inside.ensures.value in
    let moved =
    ap (λ (w : SocketsView). let r : SocketsView = record w { last_port = c.last_port_after-self-inside.result } in r) c.self.view_is
    ∙ ap (λ (p : ℕ). let r : SocketsView = record h { last_port = p } in r) counted
    in
    role_written _ _ (is_socket c.args.id) (role_after_connect (record { addr = c.self.inside.addr; port = c.in_ok-port.port }) c.args.peer c.args.isn.0 c.later_moment-now.result) _ _ _ _ moved place c.deref_mut.ensures.value c.index-deref_mut-place.is c.connect.ensures
    ∙ ap (λ (a : Addr). with_socket (record h { last_port = last_port_after h c.in_ok-bound.bound c.in_ok-port.port }) c.args.id (role_after_connect (record { addr = a; port = c.in_ok-port.port }) c.args.peer c.args.isn.0 c.later_moment-now.result)) addr
    ∙ ap (λ (m : Moment). with_socket (record h { last_port = last_port_after h c.in_ok-bound.bound c.in_ok-port.port }) c.args.id (role_after_connect (record { addr = h.addr; port = c.in_ok-port.port }) c.args.peer c.args.isn.0 m)) c.later_moment-now.ensures
    ∙ sym (after_connect-accepted h c.args.now c.args.isn.0 c.args.id c.args.peer c.args.is_routed x c.in_ok-bound.bound c.in_ok-port.port found opens reached given)

-- the entry keeps its id, and its connection is filed
pub invariant_of-self : goal.invariant_of-self
invariant_of-self c =
    let x : Entry = c.index-deref_mut-place.result in (
      (c.last_port_after-self-inside.ensures.dynamic, places_stay refl c.refile.ensures.most refl c.self.invariant.0.1),
      ascends_written _ _ _ _ _ x c.self.invariant.1 c.deref_mut.ensures.value refl,
      index_refiled _ c.deref_mut.result.now c.in_ok-place.place x c.filing-before.result _ c.self.invariant.2 c.deref_mut.ensures.value (place_within _ c.args.self.now (is_socket c.args.id) _ c.self.view_is c.in_ok-place.ensures.place) c.filing-before.ensures
          _ _ c.refile.ensures.items,
      outlook_written _ _ _ _ _ _ (c.turn_to.ensures.known _ c.self.invariant.3) c.turn_to.ensures.at_hand c.deref_mut.ensures.value,
    )

-- there is room for that
pub refile-requires : goal.refile-requires
refile-requires c =
    let xs : List Entry = c.self.inside.entries.items in
    let lent : length c.deref_mut.result.now ≡ length xs = ap length c.deref_mut.ensures.value in
    let room : length xs ≤ c.self.inside.ends.most = omega (arith, c.deref_mut.ensures.fits, c.self.invariant.0.1.entries, c.self.invariant.0.1.ends) in
    may_refile _ c.deref_mut.result.now c.in_ok-place.place c.index-deref_mut-place.result c.filing-before.result _ c.self.invariant.2 c.deref_mut.ensures.value (place_within _ c.args.self.now (is_socket c.args.id) _ c.self.view_is c.in_ok-place.ensures.place) c.filing-before.ensures _ room

pub turn_to-requires-clause-known : goal.turn_to-requires-clause-known
turn_to-requires-clause-known c = (c.self.inside.sizes.entries, c.self.invariant.3)
