-- The write at the socket's place is the change of the first entry that the id names, at the port that is given.
use Rattle.std.proofs.Common.{◌≡◌, ◌∙◌, ◌≤◌, ℕ, List, length, ap, sym, refl, arith}
use Rattle.sockets.specs.declared.entry.Entry.{Entry}
use Rattle.sockets.specs.Entries.{is_socket, role_after_bind}
use Rattle.sockets.specs.SocketsView.{SocketsView}
use Rattle.sockets.specs.Calls.{last_port_bound}
use Rattle.sockets.proofs.Bound.{bind-given}
use Rattle.sockets.proofs.Roomy.{places_stay}
use Rattle.sockets.proofs.Written.{role_written, place_within}
use Rattle.sockets.proofs.Ascending.{ascends_written}
use Rattle.sockets.proofs.Filed.{may_refile, index_refiled}
use Rattle.sockets.proofs.Outlooks.{outlook_written}
use Rattle.sockets.proofs.sockets.Sockets.bind.Goals as goal

pub returns-clause-ok : goal.returns-clause-ok
returns-clause-ok c =
    let h : SocketsView = c.args.self.now in
    let port : ℕ = c.in_ok-place.port in
    let counted : c.last_port_bound-self-inside.result ≡ last_port_bound h c.args.local port = c.last_port_bound-self-inside.ensures.value in
    let moved =
    ap (λ (w : SocketsView). let r : SocketsView = record w { last_port = c.last_port_bound-self-inside.result } in r) c.self.view_is
    ∙ ap (λ (p : ℕ). let r : SocketsView = record h { last_port = p } in r) counted
    in
    role_written _ _ (is_socket c.args.id) (role_after_bind (record { addr = c.args.local.addr; port = port })) _ _ _ _ moved c.in_ok-place.ensures.place c.deref_mut.ensures.value c.index-deref_mut-place.is c.bind.ensures
    ∙ sym (bind-given h c.args.id c.args.local port c.in_ok-place.ensures.port)

-- the entry keeps its id, and is filed as what it is
pub invariant_of-self : goal.invariant_of-self
invariant_of-self c =
    let x : Entry = c.index-deref_mut-place.result in (
      (c.last_port_bound-self-inside.ensures.dynamic, places_stay refl c.refile.ensures.most refl c.self.invariant.0.1),
      ascends_written _ _ _ _ _ x c.self.invariant.1 c.deref_mut.ensures.value refl,
      index_refiled _ c.deref_mut.result.now c.in_ok-place.place x c.filing-before.result _ c.self.invariant.2 c.deref_mut.ensures.value (place_within _ c.args.self.now (is_socket c.args.id) _ c.self.view_is c.in_ok-place.ensures.place) c.filing-before.ensures
          _ _ c.refile.ensures.items,
      outlook_written _ _ _ _ _ _ (c.turn_to.ensures.known _ c.self.invariant.3) c.turn_to.ensures.at_hand c.deref_mut.ensures.value,
    )

-- there is room for that
pub refile-requires : goal.refile-requires
refile-requires c =
    let xs : List Entry = c.self.inside.entries.items in
    let lent : length c.deref_mut.result.now ≡ length xs = ap length c.deref_mut.ensures.value in
    let room : length xs ≤ c.self.inside.ends.most = omega (arith, c.deref_mut.ensures.fits, c.self.invariant.0.1.entries, c.self.invariant.0.1.ends) in
    may_refile _ c.deref_mut.result.now c.in_ok-place.place c.index-deref_mut-place.result c.filing-before.result _ c.self.invariant.2 c.deref_mut.ensures.value (place_within _ c.args.self.now (is_socket c.args.id) _ c.self.view_is c.in_ok-place.ensures.place) c.filing-before.ensures _ room

pub turn_to-requires-clause-known : goal.turn_to-requires-clause-known
turn_to-requires-clause-known c = (c.self.inside.sizes.entries, c.self.invariant.3)
