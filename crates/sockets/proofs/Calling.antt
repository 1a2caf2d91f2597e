-- What the calls of a socket answer, and what they move.
use Rattle.std.proofs.Common.{◌≡◌, ℕ, ◌-◌, ◌==◌, ◌&&◌, ◌||◌, not, nat_lt, min, if◌then◌else◌, Bool, true, false, cond, List, [], ◌∷◌, ◌++◌, length, take, drop, Some, None, Ok, Err, refl, sym, ◌∙◌, ap, subst, arith}
use Rattle.std.specs.List.{find, list_any}
use Rattle.sockets.specs.Ids.{has_id}
use Rattle.sockets.specs.Lists.{change_first}
use Rattle.sockets.specs.Closing.{entry_of}
use Rattle.std.proofs.lemmas.Bool.{eqb-true}
use Rattle.std.proofs.lemmas.List.{append-nil}
use Rattle.ipv4.specs.declared.addr.Endpoint.{Endpoint}
use Rattle.ipv4.specs.Addresses.{same_addr}
use Rattle.tcp_halves.specs.declared.buffers.Buffers.{Buffers}
use Rattle.tcp_state.specs.declared.calls.Received.TheVariants.{Octets}
use Rattle.tcp_state.specs.View.{View, is_opening, is_write_closed}
use Rattle.tcp_state.specs.Calls.{with_octets, after_send, after_recv}
use Rattle.udp_socket.specs.SocketView.{SocketView as Queues}
use Rattle.sockets.specs.declared.entry.SocketId.{SocketId}
use Rattle.sockets.specs.declared.entry.Entry.{Entry}
use Rattle.sockets.specs.declared.role.Role.{Role}
use Rattle.sockets.specs.declared.role.Role.TheVariants.{Idle, Listener, Connected, Datagrams}
use Rattle.sockets.specs.declared.refusal.Refusal.TheVariants.{EINVAL, EADDRINUSE, EAGAIN}
use Rattle.sockets.specs.Entries.{is_socket, has_socket, uses_port, uses_datagram_port, has_port, is_datagrams_at, role_after_listen, role_after_send, role_after_recv, with_role}
use Rattle.sockets.specs.SocketsView.{SocketsView, role_of, with_socket}
use Rattle.sockets.specs.Calls as call
use Rattle.sockets.specs.Calls.{any_addr, bind_refusal, listen_refusal, send_answer, recv_answer, recv_front}
use Rattle.sockets.specs.Moved.{HoldsMore, HasRead, IsSameBesides}
use Rattle.sockets.specs.Ports.{tcp_port, udp_port, is_port}
use Rattle.sockets.proofs.Followed.{by_test}
use Rattle.sockets.proofs.Opened.{found_passes, socket_changed}
use Rattle.sockets.proofs.Telling.{role_found}
use Rattle.tcp_state.proofs.Edges.{and_right}

-- Bind and listen.

ours_open : (a b : Bool) → (a || b) ≡ true → (not a && not b) ≡ false
ours_open true b ours = refl
ours_open false true ours = refl
ours_open false false ours = cc

-- an entry has a port by the tests of the table exactly where it has it by its role
any_alike : (p q : Entry → Bool) → ((e : Entry) → p e ≡ q e) → (xs : List Entry) → list_any p xs ≡ list_any q xs
any_alike p q alike [] = refl
any_alike p q alike (x ∷ xs) = ap (λ b. b || list_any p xs) (alike x) ∙ ap (λ b. q x || b) (any_alike p q alike xs)

has_tcp_port : (port : ℕ) (r : Role) → uses_port port r ≡ is_port port (tcp_port r)
has_tcp_port port (Connected c listener) = refl
has_tcp_port port (Listener local backlog) = refl
has_tcp_port port (Idle buffers (Some local)) = refl
has_tcp_port port (Idle buffers None) = refl
has_tcp_port port (Datagrams bound socket) = refl

has_udp_port : (port : ℕ) (r : Role) → uses_datagram_port port r ≡ is_port port (udp_port r)
has_udp_port port (Datagrams (Some local) socket) = refl
has_udp_port port (Datagrams None socket) = refl
has_udp_port port (Connected c listener) = refl
has_udp_port port (Listener local backlog) = refl
has_udp_port port (Idle buffers bound) = refl

module _ (h : SocketsView) (id : SocketId) (local : Endpoint) where
  pub bind_used : (buffers : Buffers) → role_of h id ≡ Some (Idle buffers None) → (same_addr local.addr h.addr || same_addr local.addr any_addr) ≡ true → (local.port == 0) ≡ false
      → bind_refusal h id local ≡ (if list_any (λ e. is_port local.port (tcp_port e.role)) h.entries then Some EADDRINUSE else None)
  bind_used buffers is ours asked =
      let here = ours_open (same_addr local.addr h.addr) (same_addr local.addr any_addr) ours in
      let same = any_alike (has_port local.port) (λ e. is_port local.port (tcp_port e.role)) (λ e. has_tcp_port local.port e.role) h.entries in
      by_test (list_any (has_port local.port) h.entries) (λ taken. rw (is, here, asked, taken, sym same ∙ taken) refl) (λ free. rw (is, here, asked, free, sym same ∙ free) refl)

  pub bind_used_datagrams : (queues : Queues) → role_of h id ≡ Some (Datagrams None queues) → (same_addr local.addr h.addr || same_addr local.addr any_addr) ≡ true → (local.port == 0) ≡ false
      → bind_refusal h id local ≡ (if list_any (λ e. is_port local.port (udp_port e.role)) h.entries then Some EADDRINUSE else None)
  bind_used_datagrams queues is ours asked =
      let here = ours_open (same_addr local.addr h.addr) (same_addr local.addr any_addr) ours in
      let same = any_alike (is_datagrams_at local.port) (λ e. is_port local.port (udp_port e.role)) (λ e. has_udp_port local.port e.role) h.entries in
      by_test (list_any (is_datagrams_at local.port) h.entries) (λ taken. rw (is, here, asked, taken, sym same ∙ taken) refl) (λ free. rw (is, here, asked, free, sym same ∙ free) refl)

module _ (h : SocketsView) (id : SocketId) where
  pub backlog_tested : (backlog : ℕ) (buffers : Buffers) (bound : Endpoint) → role_of h id ≡ Some (Idle buffers (Some bound)) → listen_refusal h id backlog ≡ (if (backlog == 0) || nat_lt 8 backlog then Some EINVAL else None)
  backlog_tested backlog buffers bound is = rw is refl

  pub listens_then : (backlog : ℕ) (buffers : Buffers) (bound : Endpoint) → role_of h id ≡ Some (Idle buffers (Some bound)) → role_of (call.after_listen h id backlog) id ≡ Some (Listener bound backlog)
  listens_then backlog buffers bound is = socket_changed h id (role_after_listen backlog) (Idle buffers (Some bound)) is refl

-- Octets.

none_left : (xs : List ℕ) → (length xs == 0) ≡ true → xs ≡ []
none_left [] none = refl
none_left (x ∷ xs) none = absurd (omega (arith, eqb-true (length (x ∷ xs)) 0 none))

module _ (h : SocketsView) (id : SocketId) (c : View) (is : role_of h id ≡ Some (Connected c None)) where
  -- a socket's connection is one that its caller has not left
  owned : (d : View) → d.released ≡ c.released → has_socket (Connected d None) ≡ true
  owned d same =
      let there = role_found h id (Connected c None) is in
      let held : has_socket (Connected c None) ≡ true = ap has_socket (sym there.2) ∙ and_right (there.0.id.0 == id.0) _ (found_passes (is_socket id) h.entries there.0 there.1) in
      ap (λ b. not (false || b)) same ∙ held

  pub send_answered : (octets : List ℕ) → c.pending_error ≡ None → is_opening c.state ≡ false → is_write_closed c.state ≡ false
      → (let room = c.sending.size - length c.sending.held in send_answer h id octets ≡ (if (room == 0) && not (length octets == 0) then Err EAGAIN else Ok (min (length octets) room)))
  send_answered octets told opened writes =
      by_test ((c.sending.size - length c.sending.held == 0) && not (length octets == 0)) (λ full. rw (is, told, opened, writes, full) refl) (λ room. rw (is, told, opened, writes, room) refl)

  pub send_moved : (octets : List ℕ) → c.pending_error ≡ None → is_opening c.state ≡ false → is_write_closed c.state ≡ false
      → (d : View) × (role_of (call.after_send h id octets) id ≡ Some (Connected d None)) × HoldsMore (take (min (length octets) (c.sending.size - length c.sending.held)) octets) c d
  send_moved octets told opened writes =
      let taken : List ℕ = take (min (length octets) (c.sending.size - length c.sending.held)) octets in
      let after : after_send c octets h.kept ≡ with_octets c taken h.kept = rw (told, opened, writes) refl in
      let moved : HoldsMore taken c (after_send c octets h.kept) = subst (HoldsMore taken c) (sym after) (holds taken) in
      (after_send c octets h.kept, socket_changed h id (role_after_send h.kept octets) (Connected c None) is (owned (after_send c octets h.kept) moved.left), moved)
    where
      holds : (taken : List ℕ) → HoldsMore taken c (with_octets c taken h.kept)
      holds taken =
          by_test (length taken == 0)
          (λ none. let same : with_octets c taken h.kept ≡ c = rw none refl in
          let nothing : c.sending.held ≡ c.sending.held ++ taken = sym (ap (λ xs. c.sending.held ++ xs) (none_left taken none) ∙ append-nil c.sending.held) in
          subst (HoldsMore taken c) (sym same) (record { held = nothing; una = refl; nxt = refl; receiving = refl; state = refl; told = refl; left = refl }))
          (λ some. rw some (record { held = refl; una = refl; nxt = refl; receiving = refl; state = refl; told = refl; left = refl }))

  pub recv_answered : (len : ℕ) → c.pending_error ≡ None → is_opening c.state ≡ false → (length c.receiving.readable == 0) ≡ false → (len == 0) ≡ false → recv_answer h id len ≡ Ok (Octets (min len (length c.receiving.readable)))
  recv_answered len told opened some room = rw (is, room, told, opened, some) refl

  pub recv_read : (buffer : List ℕ) → c.pending_error ≡ None → is_opening c.state ≡ false → (length c.receiving.readable == 0) ≡ false → (length buffer == 0) ≡ false
      → (let n = min (length buffer) (length c.receiving.readable) in recv_front h id buffer ≡ take n c.receiving.readable ++ drop n buffer)
  recv_read buffer told opened some room = rw (is, room, told, opened, some) refl

  pub recv_moved : (len : ℕ) → c.pending_error ≡ None → is_opening c.state ≡ false → (length c.receiving.readable == 0) ≡ false → (len == 0) ≡ false
      → (d : View) × (role_of (call.after_recv h id len) id ≡ Some (Connected d None)) × HasRead (min len (length c.receiving.readable)) c d
  recv_moved len told opened some room =
      let d : View = after_recv c len in
      let after : role_after_recv len (Connected c None) ≡ Connected d None = rw room refl in
      let reads : HasRead (min len (length c.receiving.readable)) c d = rw (told, opened, some) (record { readable = refl; rnext = refl; sending = refl; state = refl; told = refl; left = refl }) in
      (d, socket_changed h id (role_after_recv len) (Connected c None) is (ap has_socket after ∙ owned d reads.left) ∙ ap (λ (r : Role). Some r) after, reads)

-- What a call leaves alone.

-- what the first that passes is not stays under its id
found_still : (id other : SocketId) (change : Role → Role) (xs : List Entry) (x : Entry) → find (has_id other) xs ≡ Some x → is_socket id x ≡ false → find (has_id other) (change_first (is_socket id) (with_role change) xs) ≡ Some x
found_still id other change [] x found apart = found
found_still id other change (y ∷ ys) x found apart =
    by_test (has_id other y)
    (λ here.
    let same : y ≡ x = (let one : Some y ≡ Some x = ap (λ b. cond b (Some y) (find (has_id other) ys)) (sym here) ∙ found in cc) in
    let fails : is_socket id y ≡ false = ap (is_socket id) same ∙ apart in
    rw (fails, here) (ap (λ (e : Entry). Some e) same))
    (λ there.
    let behind : find (has_id other) ys ≡ Some x = ap (λ b. cond b (Some y) (find (has_id other) ys)) (sym there) ∙ found in
    by_test (is_socket id y) (λ named. rw (named, there) behind) (λ passed. rw (passed, there) (found_still id other change ys x behind apart)))

pub others_still : (h : SocketsView) (id other : SocketId) (change : Role → Role) (x : Entry) → entry_of h other ≡ Some x → is_socket id x ≡ false → entry_of (with_socket h id change) other ≡ Some x
others_still h id other change x found apart = found_still id other change h.entries x found apart

pub same_besides : (h : SocketsView) (id : SocketId) (change : Role → Role) → IsSameBesides h (with_socket h id change)
same_besides h id change = record { addr = refl; kept = refl; last_port = refl; last_id = refl; identification = refl; manner = refl; sizes = refl; offered = refl }
