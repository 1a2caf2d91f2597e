-- Whom an accept answers.
use Rattle.std.proofs.Common.{◌≡◌, ℕ, Bool, true, Some, Ok, is_ok, refl, ◌∙◌, ap}
use Rattle.std.specs.List.{find, list_any}
use Rattle.std.proofs.lemmas.Bool.{and_from}
use Rattle.ipv4.specs.declared.addr.Endpoint.{Endpoint}
use Rattle.sockets.specs.declared.entry.SocketId.{SocketId}
use Rattle.sockets.specs.declared.entry.Entry.{Entry}
use Rattle.sockets.specs.declared.role.Role.{Role}
use Rattle.sockets.specs.declared.role.Role.TheVariants.{Listener, Connected}
use Rattle.sockets.specs.Entries.{waits_at, is_waiting_as, is_waiting_id, peer_of}
use Rattle.sockets.specs.SocketsView.{SocketsView, role_of}
use Rattle.sockets.specs.Calls.{is_next_at, accept_answer}
use Rattle.sockets.specs.Offered.{IsReached, is_ready_at, is_id}
use Rattle.sockets.proofs.Offered.{next-test}
use Rattle.sockets.proofs.Opened.{found_passes}
use Rattle.sockets.proofs.OfferCounts.{count-found, any-counted, any-found, same-id}
use Rattle.sockets.proofs.OfferHeld.{next-ready, reached-holds}
use Rattle.sockets.proofs.OfferOrder.{accepted-next, waits-offered}

-- what waits at a listener is a connection, which has a peer
pub has-peer : (l : SocketId) (r : Role) → waits_at l r ≡ true → (p : Endpoint) × (peer_of r ≡ Some p)
has-peer l (Connected c listener) waits = (c.peer, refl)
has-peer l r waits = cc

-- a listener that finds one answers it
pub answers : (h : SocketsView) (l : SocketId) (b : Endpoint) (n : ℕ) (e : Entry) (p : Endpoint) → role_of h l ≡ Some (Listener b n) → find (is_next_at h l) h.entries ≡ Some e → peer_of e.role ≡ Some p → is_ok (accept_answer h l) ≡ true
answers h l b n e p is found peer = rw (is, found, peer)

pub some-accepted : (h : SocketsView) (listener x : SocketId) (bound : Endpoint) (backlog : ℕ) → IsReached h → role_of h listener ≡ Some (Listener bound backlog) → list_any (is_ready_at listener x) h.entries ≡ true → is_ok (accept_answer h listener) ≡ true
some-accepted h listener x bound backlog reached listens ready =
    let holds = reached-holds h reached in
    let waits : SocketId → Bool = is_waiting_id h.entries listener in
    let its = waits-offered h holds listener x ready in
    let stands = any-found (is_id x) h.offered its.1 in
    let it : stands.0 ≡ x = same-id stands.0 x (found_passes (is_id x) h.offered stands.0 stands.1) in
    let next = any-found waits h.offered (count-found (is_id x) waits h.offered stands.0 stands.1 (ap waits it ∙ its.0)) in
    let z : SocketId = next.0 in
    let n = next-ready h holds listener z next.1 in
    let peer = has-peer listener n.e.role n.waits in
    answers h listener bound backlog n.e peer.0 listens (ap (λ (t : Entry → Bool). find t h.entries) (next-test h listener z next.1) ∙ n.found) peer.1

pub accepted-ready : (h : SocketsView) (listener y : SocketId) (peer : Endpoint) → IsReached h → accept_answer h listener ≡ Ok (y, peer) → list_any (is_ready_at listener y) h.entries ≡ true
accepted-ready h listener y peer reached accepts =
    let n = next-ready h (reached-holds h reached) listener y (accepted-next h listener y peer accepts) in
    any-counted (is_ready_at listener y) h.entries (count-found (is_waiting_as listener y) (is_ready_at listener y) h.entries n.e n.found (and_from _ _ (and_from _ _ n.named n.ready) n.waits))
