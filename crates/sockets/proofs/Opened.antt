-- What is opened is what was foreseen.
use Rattle.std.proofs.Common.{◌≡◌, ℕ, ◌==◌, Bool, true, cond, List, [], ◌∷◌, Option, Some, None, option_map, option_and_then, Result, Ok, Err, refl, sym, ◌∙◌, ap, subst}
use Rattle.std.specs.List.{find}
use Rattle.std.proofs.lemmas.Bool.{and_parts, and_from}
use Rattle.clock.specs.declared.moment.Moment.{Moment}
use Rattle.clock.specs.Moments.{after}
use Rattle.ipv4.specs.declared.addr.Endpoint.{Endpoint}
use Rattle.ipv4.specs.declared.addr.Pair.{Pair}
use Rattle.ipv4.specs.Addresses.{pair_of}
use Rattle.tcp_state.specs.declared.state.State.TheVariants.{SynSent}
use Rattle.tcp_state.specs.View.{View, opened_actively}
use Rattle.tcp_state.specs.Hop.{unheard_until}
use Rattle.sockets.specs.declared.entry.SocketId.{SocketId}
use Rattle.sockets.specs.declared.entry.Entry.{Entry}
use Rattle.sockets.specs.declared.role.Role.{Role}
use Rattle.sockets.specs.declared.role.Role.TheVariants.{Idle, Connected}
use Rattle.sockets.specs.declared.refusal.Refusal.{Refusal}
use Rattle.sockets.specs.Entries.{is_socket, has_socket, role_after_connect, with_role}
use Rattle.sockets.specs.SocketsView.{SocketsView, role_of, with_socket, later_moment}
use Rattle.sockets.specs.Lists.{change_first}
use Rattle.sockets.specs.Pairs.{pair_in, socket_pair}
use Rattle.sockets.specs.Calls.{open_answer, last_port_after, port_connected, connect_refusal, after_connect, pair_connected}
use Rattle.sockets.proofs.Connected.{had_opens_none, after_connect-given, connecting}
use Rattle.sockets.proofs.Followed.{by_test}

-- the first that passes is found changed, where it passes still
pub found_changed : {X : Type 0} (test : X → Bool) (change : X → X) (xs : List X) (x : X) → find test xs ≡ Some x → test (change x) ≡ true → find test (change_first test change xs) ≡ Some (change x)
found_changed test change [] x found passes = cc
found_changed test change (y ∷ ys) x found passes =
    by_test (test y)
    (λ here. let same : y ≡ x = (let some : Some y ≡ Some x = ap (λ b. cond b (Some y) (find test ys)) (sym here) ∙ found in cc) in
    let still : test (change y) ≡ true = ap (λ z. test (change z)) same ∙ passes in
    rw (here, still) (ap (λ z. Some (change z)) same))
    (λ not_here. let rest : find test ys ≡ Some x = ap (λ b. cond b (Some y) (find test ys)) (sym not_here) ∙ found in
    rw (not_here, not_here) (found_changed test change ys x rest passes))

-- what is found passes
pub found_passes : {X : Type 0} (test : X → Bool) (xs : List X) (x : X) → find test xs ≡ Some x → test x ≡ true
found_passes test [] x found = cc
found_passes test (y ∷ ys) x found =
    by_test (test y)
    (λ here. let same : y ≡ x = (let some : Some y ≡ Some x = ap (λ b. cond b (Some y) (find test ys)) (sym here) ∙ found in cc) in ap test (sym same) ∙ here)
    (λ not_here. found_passes test ys x (ap (λ b. cond b (Some y) (find test ys)) (sym not_here) ∙ found))

-- a role that may open a connection opens it
opens_pair : (role : Role) (bound : Option Endpoint) (local peer : Endpoint) (isn : ℕ) (now : Moment) → open_answer role ≡ Ok bound
    → (has_socket (role_after_connect local peer isn now role) ≡ true) × (pair_in (role_after_connect local peer isn now role) ≡ Some (pair_of local peer))
opens_pair (Idle buffers b) bound local peer isn now e = (refl, refl)
opens_pair (Connected c l) bound local peer isn now e = absurd (had_opens_none c.state c.pending_error bound e)
opens_pair _ bound local peer isn now e = cc

-- a socket that stays one has the role that it was given
pub socket_changed : (h : SocketsView) (id : SocketId) (change : Role → Role) (role : Role) → role_of h id ≡ Some role → has_socket (change role) ≡ true → role_of (with_socket h id change) id ≡ Some (change role)
socket_changed h id change role is socket = by_entry (find (is_socket id) h.entries) refl is
  where
    by_entry : (o : Option Entry) → find (is_socket id) h.entries ≡ o → option_map (λ (e : Entry). e.role) o ≡ Some role → role_of (with_socket h id change) id ≡ Some (change role)
    by_entry None found there = cc
    by_entry (Some x) found there =
        let same : x.role ≡ role = cc in
        let named = and_parts (x.id.0 == id.0) (has_socket x.role) (found_passes (is_socket id) h.entries x found) in
        let still : is_socket id (with_role change x) ≡ true = and_from (x.id.0 == id.0) (has_socket (change x.role)) named.0 (ap (λ (r : Role). has_socket (change r)) same ∙ socket) in
        ap (λ (o : Option Entry). option_map (λ (e : Entry). e.role) o) (found_changed (is_socket id) (with_role change) h.entries x found still) ∙ ap (λ (r : Role). Some (change r)) same

pub connect_opens : (h : SocketsView) (now : Moment) (isn : ℕ) (id : SocketId) (peer : Endpoint) (routed : Bool) (pair : Pair) → pair_connected h id peer routed ≡ Some pair → socket_pair (after_connect h now isn id peer routed) id ≡ Some pair
connect_opens h now isn id peer routed pair foreseen = by_port (port_connected h id peer routed) refl
  where
    by_port : (r : Result ℕ Refusal) → port_connected h id peer routed ≡ r → socket_pair (after_connect h now isn id peer routed) id ≡ Some pair
    by_port (Err refusal) given = let none : pair_connected h id peer routed ≡ None = rw given in cc
    by_port (Ok port) given =
        let local : Endpoint = record { addr = h.addr; port = port } in
        let c = connecting h id peer routed port given in
        let parts = opens_pair c.role c.bound local peer isn (later_moment h now) c.opens in
        let told : pair_connected h id peer routed ≡ Some (pair_of local peer) = rw given in
        ap (λ (w : SocketsView). socket_pair w id) (after_connect-given h now isn id peer routed c.role c.bound port c.is c.opens c.reached c.given)
        ∙ ap (λ (o : Option Role). option_and_then pair_in o) (socket_changed (record h { last_port = last_port_after h c.bound port }) id (role_after_connect local peer isn (later_moment h now)) c.role c.is parts.0)
        ∙ parts.1 ∙ sym told ∙ foreseen

-- in SYN-SENT, at this moment, from which its SYN waits for the hop
abbrev IsOpenedAt : Moment → Option Role → Type 0
IsOpenedAt now o = (c : View) × (o ≡ Some (Connected c None)) × (c.state ≡ SynSent) × (c.unheard ≡ Some now) × (unheard_until c ≡ Some (after now 483000))

opens_at : (role : Role) (bound : Option Endpoint) (local peer : Endpoint) (isn : ℕ) (now : Moment) → open_answer role ≡ Ok bound → IsOpenedAt now (Some (role_after_connect local peer isn now role))
opens_at (Idle buffers b) bound local peer isn now e = (opened_actively buffers local peer isn now, refl, refl, refl, refl)
opens_at (Connected c l) bound local peer isn now e = absurd (had_opens_none c.state c.pending_error bound e)
opens_at _ bound local peer isn now e = cc

pub connect_opens_at : (h : SocketsView) (now : Moment) (isn : ℕ) (id : SocketId) (peer : Endpoint) (routed : Bool) → connect_refusal h id peer routed ≡ None → IsOpenedAt (later_moment h now) (role_of (after_connect h now isn id peer routed) id)
connect_opens_at h now isn id peer routed allowed = by_port (port_connected h id peer routed) refl
  where
    by_port : (r : Result ℕ Refusal) → port_connected h id peer routed ≡ r → IsOpenedAt (later_moment h now) (role_of (after_connect h now isn id peer routed) id)
    by_port (Err refusal) given = let told : connect_refusal h id peer routed ≡ Some refusal = rw given in cc
    by_port (Ok port) given =
        let local : Endpoint = record { addr = h.addr; port = port } in
        let c = connecting h id peer routed port given in
        let parts = opens_pair c.role c.bound local peer isn (later_moment h now) c.opens in
        subst (IsOpenedAt (later_moment h now))
        (sym (ap (λ (w : SocketsView). role_of w id) (after_connect-given h now isn id peer routed c.role c.bound port c.is c.opens c.reached c.given)
        ∙ socket_changed (record h { last_port = last_port_after h c.bound port }) id (role_after_connect local peer isn (later_moment h now)) c.role c.is parts.0))
        (opens_at c.role c.bound local peer isn (later_moment h now) c.opens)
