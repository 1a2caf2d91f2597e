-- Whatever happens to a role, it is filed as before, unless it is bound or begins a connection.
use Rattle.std.proofs.Common.{◌≡◌, ◌⊎◌, inl, inr, ℕ, Bool, true, false, if◌then◌else◌, List, Option, Some, Result, Ok, Err, refl, ◌∙◌, ap}
use Rattle.std.specs.Result.{OnOk, OnErr}
use Rattle.ipv4.specs.declared.addr.Endpoint.{Endpoint}
use Rattle.clock.specs.declared.moment.Moment.{Moment}
use Rattle.tcp_segment.specs.Segment.{Segment}
use Rattle.tcp_state.specs.View.{View}
use Rattle.udp_socket.specs.SocketView.{SocketView as Queues}
use Rattle.sockets.specs.declared.entry.SocketId.{SocketId}
use Rattle.sockets.specs.declared.entry.Entry.{Entry}
use Rattle.sockets.specs.declared.emission.Outgoing.{Outgoing}
use Rattle.sockets.specs.declared.index.Filed.{Filed}
use Rattle.sockets.specs.declared.role.Leave.{Leave}
use Rattle.sockets.specs.declared.role.Role.{Role}
use Rattle.sockets.specs.declared.role.Role.TheVariants.{Idle, Connected, Datagrams}
use Rattle.tcp_state.specs.Edges as edge
use Rattle.sockets.specs.Entries.{on_connection, on_datagrams, waits_at, with_role, role_after_listen, role_after_accept, role_after_send, role_after_recv, role_after_shutdown, role_after_nodelay, role_after_keepalive, role_after_recvfrom, role_after_reception, role_after_tick, role_after_segment, role_after_unreachable, leaving_event, role_after_leaving, role_after_listener_close, role_after_emission}
use Rattle.sockets.specs.Index.{filed_at, filed_as, filed}
use Rattle.sockets.proofs.Written.{role_changed}
use Rattle.sockets.proofs.Followed.{by_test}
use Rattle.sockets.proofs.KeptEnds.{KeepsEnds, keeps-event}
use Rattle.sockets.proofs.Steps.{read_either, shut_either}

-- one role is filed as another
abbrev pub IsFiledAs : Role → Role → Type 0
IsFiledAs before after = (id : SocketId) → filed_as id after ≡ filed_as id before

filed-kept : (c d : View) (l k : Option SocketId) → KeepsEnds c d → IsFiledAs (Connected c l) (Connected d k)
filed-kept c d l k keeps id = ap (λ (e : Endpoint). Some (filed_at id e.port d.peer)) keeps.local ∙ ap (λ (e : Endpoint). Some (filed_at id c.local.port e)) keeps.peer

-- what changes a connection as an event does, or leaves it
filed-changed : (change : View → View) (e : edge.Event) → ((c : View) → (change c ≡ c) ⊎ (change c ≡ edge.after_event c e)) → (r : Role) → IsFiledAs r (on_connection change r)
filed-changed change e either (Connected c l) id =
    let filed_so : View → Option Filed = λ d. filed_as id (Connected d l) in
    elim (either c) [ inl same ↦ ap filed_so same | inr is ↦ ap filed_so is ∙ filed-kept c (edge.after_event c e) l l (keeps-event c e) id ]
filed-changed change e either _ id = refl

pub filed-send : (now : Moment) (octets : List ℕ) (r : Role) → IsFiledAs r (role_after_send now octets r)
filed-send now octets r = filed-changed _ (edge.Sends octets now) (λ c. inr refl) r

pub filed-recv : (len : ℕ) (r : Role) → IsFiledAs r (role_after_recv len r)
filed-recv len r = filed-changed _ (edge.Receives len) (λ c. read_either c len) r

pub filed-shutdown : (now : Moment) (r : Role) → IsFiledAs r (role_after_shutdown now r)
filed-shutdown now r = filed-changed _ (edge.Shuts now) (λ c. shut_either c now) r

pub filed-nodelay : (on : Bool) (now : Moment) (r : Role) → IsFiledAs r (role_after_nodelay on now r)
filed-nodelay on now r = filed-changed _ (edge.SetsNoDelay on now) (λ c. inr refl) r

pub filed-keepalive : (every : Option ℕ) (now : Moment) (r : Role) → IsFiledAs r (role_after_keepalive every now r)
filed-keepalive every now r = filed-changed _ (edge.SetsKeepAlive every now) (λ c. inr refl) r

pub filed-tick : (now : Moment) (r : Role) → IsFiledAs r (role_after_tick now r)
filed-tick now r = filed-changed _ (edge.Ticks now) (λ c. inr refl) r

pub filed-segment : (now : Moment) (s : Segment) (r : Role) → IsFiledAs r (role_after_segment now s r)
filed-segment now s r = filed-changed _ (edge.Hears s now) (λ c. inr refl) r

pub filed-unreachable : (number : ℕ) (r : Role) → IsFiledAs r (role_after_unreachable number r)
filed-unreachable number r = filed-changed _ (edge.Unreachable number) (λ c. inr refl) r

pub filed-leaving : (how : Leave) (now : Moment) (r : Role) → IsFiledAs r (role_after_leaving how now r)
filed-leaving how now (Connected c l) id = filed-kept c (edge.after_event c (leaving_event how now c)) l l (keeps-event c (leaving_event how now c)) id
filed-leaving how now _ id = refl

pub filed-listener_close : (now : Moment) (listener : SocketId) (r : Role) → IsFiledAs r (role_after_listener_close now listener r)
filed-listener_close now listener r id = by_test (waits_at listener r) (λ waits. rw waits (filed-changed _ (edge.Aborts now) (λ c. inr refl) r id)) (λ other. rw other refl)

pub filed-emission : (now : Moment) (what : Outgoing) (r : Role) → IsFiledAs r (role_after_emission now what r)
filed-emission now what (Connected c l) id = filed-kept c _ l l (keeps-event c (edge.Emits now)) id
filed-emission now what _ id = refl

pub filed-listen : (backlog : ℕ) (r : Role) → IsFiledAs r (role_after_listen backlog r)
filed-listen backlog (Idle buffers (Some local)) id = refl
filed-listen backlog _ id = refl

pub filed-accept : (r : Role) → IsFiledAs r (role_after_accept r)
filed-accept (Connected c l) id = refl
filed-accept _ id = refl

filed-queues : (change : Queues → Queues) (r : Role) → IsFiledAs r (on_datagrams (λ bound. bound) change r)
filed-queues change (Datagrams bound socket) id = refl
filed-queues change _ id = refl

pub filed-recvfrom : (r : Role) → IsFiledAs r (role_after_recvfrom r)
filed-recvfrom r = filed-queues _ r

pub filed-reception : (from : Endpoint) (octets : List ℕ) (r : Role) → IsFiledAs r (role_after_reception from octets r)
filed-reception from octets r = filed-queues _ r

-- An entry is left so.

pub filed_after : (change : Role → Role) (x y : Entry) → IsFiledAs x.role (change x.role) → y ≡ with_role change x → filed y ≡ filed x
filed_after change x y kept is = ap (λ (e : Entry). filed e) is ∙ kept x.id

-- Its role is left so.
pub filed_role : (change : Role → Role) (x : Entry) (r : Role) → IsFiledAs x.role (change x.role) → r ≡ change x.role → filed (record x { role = r }) ≡ filed x
filed_role change x r kept is = filed_after change x (record x { role = r }) kept (role_changed change x r is)

pub filed_or_not : (b : Bool) (change : Role → Role) (x : Entry) (r : Role) → IsFiledAs x.role (change x.role) → r ≡ (if b then change x.role else x.role) → filed (record x { role = r }) ≡ filed x
filed_or_not true change x r kept is = filed_role change x r kept is
filed_or_not false change x r kept is = ap (λ (role : Role). filed_as x.id role) is

-- It is left as it was.
pub filed_same : (b : Bool) (after : Role) (x : Entry) (r : Role) → b ≡ false → r ≡ (if b then after else x.role) → filed (record x { role = r }) ≡ filed x
filed_same true after x r fails is = cc
filed_same false after x r fails is = ap (λ (role : Role). filed_as x.id role) is

pub filed_read : {T E : Type 0} (answer : Result T E) (change : Role → Role) (x : Entry) (r : Role) → IsFiledAs x.role (change x.role) → OnOk answer (r ≡ change x.role) → OnErr answer (r ≡ x.role) → filed (record x { role = r }) ≡ filed x
filed_read (Ok value) change x r kept changed same = filed_role change x r kept changed
filed_read (Err refusal) change x r kept changed same = ap (λ (role : Role). filed_as x.id role) same
