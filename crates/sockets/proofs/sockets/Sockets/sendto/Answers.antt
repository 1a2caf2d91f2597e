-- The write at the socket's place is the change of the first entry that the id names, from the port that is given.
use Rattle.std.proofs.Common.{◌≡◌, ◌∙◌, ℕ, Bool, true, false, if◌then◌else◌, ◌≤◌, nat_lt, List, length, get_or, Option, Some, None, Ok, arith, refl, ap, sym}
use Rattle.std.specs.List.{find}
use Rattle.std.proofs.lemmas.Bool.Decides.{nat_tests}
use Rattle.ipv4.specs.declared.addr.Endpoint.{Endpoint}
use Rattle.udp_socket.specs.declared.socket.TheConstants.{MOST_OCTETS}
use Rattle.sockets.specs.declared.entry.Entry.{Entry}
use Rattle.sockets.specs.declared.role.Role.{Role}
use Rattle.sockets.specs.Entries.{is_socket, has_room_to_send, role_after_sendto}
use Rattle.sockets.specs.SocketsView.{SocketsView, with_socket}
use Rattle.sockets.specs.Calls.{reach_refusal, last_port_after}
use Rattle.sockets.specs.Datagrams.{datagrams_bound, sending_end, end_sent_from, next_identification}
use Rattle.sockets.proofs.Followed.{some_same}
use Rattle.sockets.proofs.Connected.{some_from_ok}
use Rattle.sockets.proofs.Queues.{end_given, bound_found, sendto-given}
use Rattle.sockets.proofs.Roomy.{places_stay}
use Rattle.sockets.proofs.Written.{found_lent, role_written, place_within}
use Rattle.sockets.proofs.Ascending.{ascends_written}
use Rattle.sockets.proofs.Filed.{index_written, may_refile, index_refiled}
use Rattle.sockets.proofs.KeptFiled.{filed_same}
use Rattle.sockets.proofs.Outlooks.{outlook_written}
use Rattle.sockets.proofs.sockets.Sockets.sendto.Goals as goal

pub returns-clause-ok : goal.returns-clause-ok
returns-clause-ok c =
    let h : SocketsView = c.args.self.now in
    let octets : List ℕ = c.args.octets.now in
    let local : Endpoint = c.in_ok-local.local in
    let bound : Option Endpoint = c.in_ok-bound.bound in
    let place = c.in_ok-place.ensures.place in
    let first : Entry = c.index-deref-place.result in
    let x : Entry = c.index-deref_mut-place.result in
    let found : find (is_socket c.args.id) h.entries ≡ Some x = found_lent _ h (is_socket c.args.id) _ _ x c.self.view_is place c.deref_mut.ensures.value c.index-deref_mut-place.is in
    let first_found : find (is_socket c.args.id) h.entries ≡ Some first = found_lent _ h (is_socket c.args.id) _ _ first c.self.view_is place c.deref.ensures.0 c.index-deref-place.is in
    let same : first ≡ x = some_same _ first x first_found found in
    let bound_is : datagrams_bound x.role ≡ Ok bound = ap (λ (e : Entry). datagrams_bound e.role) (sym same ∙ c.index-deref-place.is) ∙ sym c.in_ok-bound.ensures in
    let short : nat_lt MOST_OCTETS (length octets) ≡ false = grind (arith, nat_tests, c.if-octets-gt-MOST_OCTETS.false) in
    let reached : reach_refusal h c.args.peer c.args.is_routed ≡ None = sym c.in_ok-may_reach.ensures in
    let sends : sending_end h bound ≡ Some local = some_from_ok _ _ _ c.in_ok-local.ensures.value in
    let sent : c.send_to.result ≡ true = c.if-not-send_to.false in
    let room : has_room_to_send (length octets) x.role ≡ true = ap (λ (e : Entry). has_room_to_send (length octets) e.role) c.index-deref_mut-place.is ∙ sym c.send_to.ensures.room ∙ sent in
    let given : end_sent_from h c.args.id c.args.peer octets c.args.is_routed ≡ Ok local = end_given h c.args.id c.args.peer octets c.args.is_routed x bound local found bound_is short reached sends room in
    let counted : c.last_port_after-last_port.result ≡ last_port_after h bound local.port = c.last_port_after-last_port.ensures.value in
    let moved =
    ap (λ (w : SocketsView). let r : SocketsView = record w { last_port = c.last_port_after-last_port.result; identification = next_identification w.identification } in r) c.self.view_is
    ∙ ap (λ (p : ℕ). let r : SocketsView = record h { last_port = p; identification = next_identification h.identification } in r) counted
    in
    let change : Role → Role = role_after_sendto local c.self.inside.kept c.args.peer c.self.inside.identification octets in
    let there : Entry = get_or c.deref_mut.result.now c.in_ok-place.place x in
    role_written _ _ (is_socket c.args.id) change _ _ _ _ moved place c.deref_mut.ensures.value c.index-deref_mut-place.is (c.send_to.ensures.after ∙ ap (λ (b : Bool). if b then change there.role else there.role) sent)
    ∙ ap (λ (w : SocketsView). with_socket (record h { last_port = last_port_after h bound local.port; identification = next_identification h.identification }) c.args.id (role_after_sendto local w.kept c.args.peer w.identification octets)) c.self.view_is
    ∙ ap (λ (b : Option Endpoint). with_socket (record h { last_port = last_port_after h b local.port; identification = next_identification h.identification }) c.args.id (role_after_sendto local h.kept c.args.peer h.identification octets)) (sym (bound_found h c.args.id x bound found bound_is))
    ∙ sym (sendto-given h c.args.id c.args.peer octets c.args.is_routed local given)

-- the entry keeps its id, and is filed as what it is
pub invariant_of-self-2 : goal.invariant_of-self-2
invariant_of-self-2 c =
    let x : Entry = c.index-deref_mut-place.result in (
      (c.last_port_after-last_port.ensures.dynamic, places_stay refl c.refile.ensures.most refl c.self.invariant.0.1),
      ascends_written _ _ _ _ _ x c.self.invariant.1 c.deref_mut.ensures.value refl,
      index_refiled _ c.deref_mut.result.now c.in_ok-place.place x c.filing-before.result _ c.self.invariant.2 c.deref_mut.ensures.value (place_within _ c.args.self.now (is_socket c.args.id) _ c.self.view_is c.in_ok-place.ensures.place) c.filing-before.ensures
          _ _ c.refile.ensures.items,
      outlook_written _ _ _ _ _ _ (c.turn_to.ensures.known _ c.self.invariant.3) c.turn_to.ensures.at_hand c.deref_mut.ensures.value,
    )

-- there is room for that
pub refile-requires : goal.refile-requires
refile-requires c =
    let xs : List Entry = c.self.inside.entries.items in
    let lent : length c.deref_mut.result.now ≡ length xs = ap length c.deref_mut.ensures.value in
    let room : length xs ≤ c.self.inside.ends.most = omega (arith, c.deref_mut.ensures.fits, c.self.invariant.0.1.entries, c.self.invariant.0.1.ends) in
    may_refile _ c.deref_mut.result.now c.in_ok-place.place c.index-deref_mut-place.result c.filing-before.result _ c.self.invariant.2 c.deref_mut.ensures.value (place_within _ c.args.self.now (is_socket c.args.id) _ c.self.view_is c.in_ok-place.ensures.place) c.filing-before.ensures _ room

-- and where it is refused
pub invariant_of-self : goal.invariant_of-self
invariant_of-self c =
    let change : Role → Role = role_after_sendto c.in_ok-local.local c.self.inside.kept c.args.peer c.self.inside.identification c.args.octets.now in
    let x : Entry = c.index-deref_mut-place.result in
    let there : Entry = get_or c.deref_mut.result.now c.in_ok-place.place x in (
      c.self.invariant.0,
      ascends_written _ _ _ _ _ x c.self.invariant.1 c.deref_mut.ensures.value refl,
      index_written _ _ _ _ _ x c.self.invariant.2 c.deref_mut.ensures.value (filed_same c.send_to.result (change there.role) there _ c.if-not-send_to.true c.send_to.ensures.after),
      outlook_written _ _ _ _ _ _ (c.turn_to.ensures.known _ c.self.invariant.3) c.turn_to.ensures.at_hand c.deref_mut.ensures.value,
    )

pub turn_to-requires-clause-known : goal.turn_to-requires-clause-known
turn_to-requires-clause-known c = (c.self.inside.sizes.entries, c.self.invariant.3)
