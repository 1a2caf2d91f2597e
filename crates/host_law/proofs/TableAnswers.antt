-- What a call that is not refused tells of the connection of the socket that it names.
use Rattle.std.proofs.Common.{◌≡◌, ℕ, ◌==◌, ◌||◌, ◌&&◌, not, Bool, true, false, if◌then◌else◌, List, length, Option, Some, None, is_some, Result, Ok, Err, is_ok, refl, sym, ◌∙◌, ap}
use Rattle.tcp_state.specs.declared.calls.Received.{Received}
use Rattle.tcp_state.specs.declared.calls.Received.TheVariants.{Octets, EndOfStream}
use Rattle.tcp_state.specs.declared.calls.Refusal as error
use Rattle.tcp_state.specs.Calls.{send_count, recv_count}
use Rattle.tcp_state.specs.Calls as calls
use Rattle.tcp_state.specs.View.{View, is_opening, is_read_closed, is_write_closed}
use Rattle.tcp_halves.specs.Stream.{send_room}
use Rattle.sockets.specs.declared.entry.SocketId.{SocketId}
use Rattle.sockets.specs.declared.entry.Entry.{Entry}
use Rattle.sockets.specs.declared.refusal.Refusal.{Refusal}
use Rattle.sockets.specs.declared.role.Role.{Role}
use Rattle.sockets.specs.declared.role.Role.TheVariants.{Idle, Listener, Connected, Datagrams}
use Rattle.sockets.specs.Calls.{role_send_answer, role_recv_answer, role_shutdown_refusal, of_connection, send_answer, recv_answer, shutdown_refusal}
use Rattle.sockets.specs.Closing.{entry_of}
use Rattle.sockets.specs.Entries.{is_socket}
use Rattle.sockets.specs.Order.{IsOrdered}
use Rattle.sockets.specs.SocketsView.{SocketsView, role_of}
use Rattle.sockets.proofs.ByIds.{socket_found}
use Rattle.sockets.proofs.Followed.{by_test}
use Rattle.sockets.proofs.OfferCounts.{by_option}
use Rattle.sockets.proofs.Opened.{found_passes}
use Rattle.sockets.proofs.Telling.{role_found}

-- The socket that an id names, by its entry.
pub record IsNamed (h : SocketsView) (id : SocketId) (role : Role) : Type 0 where
  pub entry : Entry
  pub found : entry_of h id ≡ Some entry
  pub is : entry.role ≡ role
  pub socket : is_socket id entry ≡ true
  pub by_role : role_of h id ≡ Some role

socket_named : (h : SocketsView) (id : SocketId) (role : Role) → IsOrdered h → role_of h id ≡ Some role → IsNamed h id role
socket_named h id role o is =
    let there = role_found h id role is in
    record { entry = there.0; found = socket_found id 0 h.last_id h.entries there.0 o.ids there.1; is = there.2; socket = found_passes (is_socket id) h.entries there.0 there.1; by_role = is }

-- a connection takes octets
record Takes (v : View) (octets : List ℕ) : Type 0 where
  pub may : (is_some v.pending_error || is_opening v.state || is_write_closed v.state) ≡ false
  pub answer : calls.send_answer v octets ≡ Ok (send_count v octets)

takes : (v : View) (octets : List ℕ) → is_ok (calls.send_answer v octets) ≡ true → Takes v octets
takes v octets fine =
    by_option v.pending_error
    (λ none. by_test (is_opening v.state)
    (λ opens. let bad : is_ok (calls.send_answer v octets) ≡ false = rw (none, opens) refl in cc)
    (λ opened. by_test (is_write_closed v.state)
    (λ closed. let bad : is_ok (calls.send_answer v octets) ≡ false = rw (none, opened, closed) refl in cc)
    (λ writes. by_test ((send_room v.sending == 0) && not (length octets == 0))
    (λ full. let bad : is_ok (calls.send_answer v octets) ≡ false = rw (none, opened, writes, full) refl in cc)
    (λ room. record { may = rw (none, opened, writes) refl; answer = rw (none, opened, writes, room) refl }))))
    (λ e some. let bad : is_ok (calls.send_answer v octets) ≡ false = rw some refl in cc)

-- it gives octets, or tells the end
pub record Gives (v : View) (len : ℕ) : Type 0 where
  pub may : (is_some v.pending_error || is_opening v.state) ≡ false
  pub answer : calls.recv_answer v len ≡ (if not (length v.receiving.readable == 0) then Ok (Octets (recv_count v len)) else Ok EndOfStream)
  pub ends : length v.receiving.readable ≡ 0 → is_read_closed v.state ≡ true

gives : (v : View) (len : ℕ) → is_ok (calls.recv_answer v len) ≡ true → Gives v len
gives v len fine =
    by_option v.pending_error
    (λ none. by_test (is_opening v.state)
    (λ opens. let bad : is_ok (calls.recv_answer v len) ≡ false = rw (none, opens) refl in cc)
    (λ opened. by_test (length v.receiving.readable == 0)
    (λ empty. by_test (is_read_closed v.state)
    (λ closed. record { may = rw (none, opened) refl; answer = rw (none, opened, empty, closed) refl; ends = λ is. closed })
    (λ more. let bad : is_ok (calls.recv_answer v len) ≡ false = rw (none, opened, empty, more) refl in cc))
    (λ some. record { may = rw (none, opened) refl; answer = rw (none, opened, some) refl; ends = λ is. let bad : (length v.receiving.readable == 0) ≡ true = rw is refl in cc })))
    (λ e some. let bad : is_ok (calls.recv_answer v len) ≡ false = rw some refl in cc)

ok_of : {T : Type 0} (r : Result T error.Refusal) → is_ok (of_connection r) ≡ true → is_ok r ≡ true
ok_of (Ok value) fine = refl
ok_of (Err e) fine = cc

-- Of the table.

pub record TakesAt (h : SocketsView) (id : SocketId) (octets : List ℕ) : Type 0 where
  pub v : View
  pub listener : Option SocketId
  pub named : IsNamed h id (Connected v listener)
  pub may : (is_some v.pending_error || is_opening v.state || is_write_closed v.state) ≡ false
  pub answer : send_answer h id octets ≡ Ok (send_count v octets)

pub takes_at : (h : SocketsView) (id : SocketId) (octets : List ℕ) → IsOrdered h → is_ok (send_answer h id octets) ≡ true → TakesAt h id octets
takes_at h id octets o fine =
    by_option (role_of h id)
    (λ none. let bad : is_ok (send_answer h id octets) ≡ false = rw none refl in cc)
    (λ r is. by_role r is (let same : send_answer h id octets ≡ role_send_answer r octets = rw is refl in ap is_ok (sym same) ∙ fine))
  where
    by_role : (r : Role) → role_of h id ≡ Some r → is_ok (role_send_answer r octets) ≡ true → TakesAt h id octets
    by_role (Connected v l) is fine =
        let so = takes v octets (ok_of (calls.send_answer v octets) fine) in
        let same : send_answer h id octets ≡ of_connection (calls.send_answer v octets) = rw is refl in
        record { v = v; listener = l; named = socket_named h id (Connected v l) o is; may = so.may; answer = same ∙ ap of_connection so.answer }
    by_role (Idle buffers bound) is fine = cc
    by_role (Listener local backlog) is fine = cc
    by_role (Datagrams bound socket) is fine = cc

pub record GivesAt (h : SocketsView) (id : SocketId) (len : ℕ) : Type 0 where
  pub v : View
  pub listener : Option SocketId
  pub named : IsNamed h id (Connected v listener)
  pub some : (len == 0) ≡ false
  pub gives : Gives v len
  pub answer : recv_answer h id len ≡ (if not (length v.receiving.readable == 0) then Ok (Octets (recv_count v len)) else Ok EndOfStream)

pub gives_at : (h : SocketsView) (id : SocketId) (len : ℕ) → IsOrdered h → is_ok (recv_answer h id len) ≡ true → GivesAt h id len
gives_at h id len o fine =
    by_option (role_of h id)
    (λ none. let bad : is_ok (recv_answer h id len) ≡ false = rw none refl in cc)
    (λ r is. by_role r is (let same : recv_answer h id len ≡ role_recv_answer r len = rw is refl in ap is_ok (sym same) ∙ fine))
  where
    told : (b : Bool) (count : ℕ) → ◌≡◌ {A = Result Received Refusal} (of_connection (if not b then Ok (Octets count) else Ok EndOfStream)) (if not b then Ok (Octets count) else Ok EndOfStream)
    told true count = refl
    told false count = refl

    by_len : (v : View) (l : Option SocketId) → role_of h id ≡ Some (Connected v l) → (len == 0) ≡ false → is_ok (role_recv_answer (Connected v l) len) ≡ true → GivesAt h id len
    by_len v l is some fine =
        let so = gives v len (ok_of (calls.recv_answer v len) (rw some at fine)) in
        let same : recv_answer h id len ≡ of_connection (calls.recv_answer v len) = rw (is, some) refl in
        record { v = v; listener = l; named = socket_named h id (Connected v l) o is; some = some; gives = so; answer = same ∙ ap of_connection so.answer ∙ told (length v.receiving.readable == 0) (recv_count v len) }

    by_role : (r : Role) → role_of h id ≡ Some r → is_ok (role_recv_answer r len) ≡ true → GivesAt h id len
    by_role (Connected v l) is fine = by_test (len == 0) (λ none. let bad : is_ok (role_recv_answer (Connected v l) len) ≡ false = rw none refl in cc) (λ some. by_len v l is some fine)
    by_role (Idle buffers bound) is fine = by_test (len == 0) (λ none. let bad : is_ok (role_recv_answer (Idle buffers bound) len) ≡ false = rw none refl in cc) (λ some. let bad : is_ok (role_recv_answer (Idle buffers bound) len) ≡ false = rw some refl in cc)
    by_role (Listener local backlog) is fine = cc
    by_role (Datagrams bound socket) is fine = cc

pub record ShutsAt (h : SocketsView) (id : SocketId) : Type 0 where
  pub v : View
  pub listener : Option SocketId
  pub named : IsNamed h id (Connected v listener)
  pub unrefused : calls.shutdown_refusal v ≡ None

pub shuts_at : (h : SocketsView) (id : SocketId) → IsOrdered h → shutdown_refusal h id ≡ None → ShutsAt h id
shuts_at h id o fine =
    by_option (role_of h id)
    (λ none. let bad : is_some (shutdown_refusal h id) ≡ true = rw none refl in let none_is : is_some (shutdown_refusal h id) ≡ false = ap (λ (r : Option Refusal). is_some r) fine in cc)
    (λ r is. by_role r is (let same : shutdown_refusal h id ≡ role_shutdown_refusal r = rw is refl in sym same ∙ fine))
  where
    by_role : (r : Role) → role_of h id ≡ Some r → role_shutdown_refusal r ≡ None → ShutsAt h id
    by_role (Connected v l) is none = record { v = v; listener = l; named = socket_named h id (Connected v l) o is; unrefused = by_option (calls.shutdown_refusal v) (λ n. n) (λ e some. let bad : is_some (role_shutdown_refusal (Connected v l)) ≡ true = rw some refl in let none_is : is_some (role_shutdown_refusal (Connected v l)) ≡ false = ap (λ (r : Option Refusal). is_some r) none in cc) }
    by_role (Idle buffers bound) is none = cc
    by_role (Listener local backlog) is none = cc
    by_role (Datagrams bound socket) is none = cc
