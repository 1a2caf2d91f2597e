-- Why what is told of a socket foretells its calls.
use Rattle.std.proofs.Common.{◌≡◌, ℕ, ◌<◌, ◌==◌, Bool, true, List, Option, Some, None, is_some, Result, Ok, Err, is_ok, refl, sym, ◌∙◌, ap, arith}
use Rattle.std.specs.List.{find}
use Rattle.std.proofs.lemmas.Bool.{and_parts}
use Rattle.std.proofs.lemmas.Bool.Decides.{nat_tests}
use Rattle.ipv4.specs.declared.addr.Endpoint.{Endpoint}
use Rattle.tcp_state.specs.declared.calls.Refusal.{Refusal as Error}
use Rattle.tcp_state.specs.View.{View}
use Rattle.sockets.specs.declared.entry.SocketId.{SocketId}
use Rattle.sockets.specs.declared.entry.Entry.{Entry}
use Rattle.sockets.specs.declared.ready.Ready.{Ready}
use Rattle.sockets.specs.declared.refusal.Refusal.{Refusal}
use Rattle.sockets.specs.declared.refusal.Refusal.TheVariants.{EBADF, EAGAIN}
use Rattle.sockets.specs.declared.role.Role.{Role}
use Rattle.sockets.specs.declared.role.Role.TheVariants.{Idle, Listener, Connected, Datagrams}
use Rattle.sockets.specs.Calls.{of_socket, refusal_of, next_offered, accept_answer, connect_refusal, recv_answer, send_answer, shutdown_refusal}
use Rattle.sockets.specs.Entries.{is_waiting_as, is_waiting_id, waits_at}
use Rattle.sockets.specs.SocketsView.{SocketsView, role_of}
use Rattle.sockets.specs.Ready.{error_of, offers, ready_of, readiness}
use Rattle.sockets.proofs.ErrorsFirst.{connect_told, send_told, recv_told, shutdown_told}
use Rattle.sockets.proofs.Offered.{next-none, next-test}
use Rattle.sockets.proofs.OfferAccepted.{answers, has-peer}
use Rattle.sockets.proofs.OfferCounts.{any-found, by_option, count-any}
use Rattle.sockets.proofs.Opened.{found_passes}

-- what is told of a socket is told of its role
pub record Told (h : SocketsView) (id : SocketId) (ready : Ready) : Type 0 where
  pub role : Role
  pub there : role_of h id ≡ Some role
  pub is : ready_of h id role ≡ ready

pub told : (h : SocketsView) (id : SocketId) (ready : Ready) → readiness h id ≡ Ok ready → Told h id ready
told h id ready is = by_role (role_of h id) refl is
  where
    by_role : (o : Option Role) → role_of h id ≡ o → of_socket (Err EBADF) (λ role. Ok (ready_of h id role)) o ≡ Ok ready → Told h id ready
    by_role None there is = cc
    by_role (Some role) there is = record { role = role; there = there; is = cc }

-- Accepting.

accept_of : (h : SocketsView) (id : SocketId) (role : Role) → role_of h id ≡ Some role → offers h id role ≡ is_ok (accept_answer h id)
accept_of h id (Listener bound backlog) there =
    by_option (next_offered h id)
    (λ none. let refused : accept_answer h id ≡ Err EAGAIN = rw (there, next-none h id none) refl in ap (λ (o : Option SocketId). is_some o) none ∙ sym (ap (λ (r : Result (SocketId × Endpoint) Refusal). is_ok r) refused))
    (λ x next.
    let some = any-found (is_waiting_as id x) h.entries (count-any (is_waiting_as id x) h.entries (found_passes (is_waiting_id h.entries id) h.offered x next)) in
    let e : Entry = some.0 in
    let parts = and_parts (e.id.0 == x.0) (waits_at id e.role) (found_passes (is_waiting_as id x) h.entries e some.1) in
    let peer = has-peer id e.role parts.1 in
    ap (λ (o : Option SocketId). is_some o) next
    ∙ sym (answers h id bound backlog e peer.0 there (ap (λ (t : Entry → Bool). find t h.entries) (next-test h id x next) ∙ some.1) peer.1))
accept_of h id (Idle buffers bound) there = rw there refl
accept_of h id (Connected c listener) there = rw there refl
accept_of h id (Datagrams bound socket) there = rw there refl

pub accept_told : (h : SocketsView) (id : SocketId) (ready : Ready) → readiness h id ≡ Ok ready → ready.accept ≡ is_ok (accept_answer h id)
accept_told h id ready is = let t = told h id ready is in ap (λ (r : Ready). r.accept) (sym t.is) ∙ accept_of h id t.role t.there

-- Errors.

record Failure (h : SocketsView) (id : SocketId) : Type 0 where
  c : View
  listener : Option SocketId
  error : Error
  there : role_of h id ≡ Some (Connected c listener)
  is : c.pending_error ≡ Some error

failure : (h : SocketsView) (id : SocketId) (role : Role) → role_of h id ≡ Some role → is_some (error_of role) ≡ true → Failure h id
failure h id (Connected c listener) there fails = by_error c.pending_error refl fails
  where
    by_error : (o : Option Error) → c.pending_error ≡ o → is_some o ≡ true → Failure h id
    by_error None none some = cc
    by_error (Some error) at some = record { c = c; listener = listener; error = error; there = there; is = at }
failure h id (Idle buffers bound) there fails = cc
failure h id (Listener local backlog) there fails = cc
failure h id (Datagrams bound socket) there fails = cc

pub failed_told : (h : SocketsView) (id : SocketId) (ready : Ready) (len : ℕ) (octets : List ℕ) (peer : Endpoint) (routed : Bool) → readiness h id ≡ Ok ready → 0 < len → ready.failed ≡ true
    → (error : Refusal) × (recv_answer h id len ≡ Err error) × (send_answer h id octets ≡ Err error) × (shutdown_refusal h id ≡ Some error) × (connect_refusal h id peer routed ≡ Some error)
failed_told h id ready len octets peer routed is some fails =
    let t = told h id ready is in
    let f = failure h id t.role t.there (ap (λ (r : Ready). r.failed) t.is ∙ fails) in (
      refusal_of f.error,
      recv_told h id f.c f.listener f.error len f.there f.is (grind (arith, nat_tests, some)),
      send_told h id f.c f.listener f.error octets f.there f.is,
      shutdown_told h id f.c f.listener f.error f.there f.is,
      connect_told h id f.c f.listener f.error peer routed f.there f.is,
    )
