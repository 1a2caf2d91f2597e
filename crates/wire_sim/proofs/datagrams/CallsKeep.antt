-- What a call makes of a table that keeps to what was accepted.
use Rattle.std.proofs.Common.{◌≡◌, inl, inr, Bool, List, [], ◌++◌, length, append-nil, refl, sym, subst}
use Rattle.ipv4.specs.declared.addr.Addr.{Addr}
use Rattle.clock.specs.declared.moment.Moment.{Moment}
use Rattle.sockets.specs.Info.{info_answer}
use Rattle.sockets.specs.Ready.{readiness}
use Rattle.sockets.specs.declared.role.Leave.TheVariants.{Close, Abort}
use Rattle.sockets.specs.Calls.{unless_refused, bind_refusal, after_bind, listen_refusal, after_listen, accept_answer, after_accept, connect_refusal, after_connect, send_answer, after_send, after_recv, shutdown_refusal, after_shutdown, nodelay_refusal, after_nodelay, keepalive_refusal, after_keepalive, close_refusal, after_close, after_abort, state_answer, sockname_answer, peername_answer}
use Rattle.sockets.specs.Datagrams.{sendto_answer, after_sendto, recvfrom_answer, after_recvfrom}
use Rattle.sockets.specs.GiveWay.{after_giving_way}
use Rattle.sockets.specs.Ids.{has_id}
use Rattle.sockets.specs.SocketsView.{SocketsView}
use Rattle.datagram_law.specs.Accepted.{Accepted}
use Rattle.wire_sim.specs.declared.event.Call.{Call}
use Rattle.wire_sim.specs.declared.event.Call.TheVariants as call
use Rattle.wire_sim.specs.declared.event.Answer.{Answer}
use Rattle.wire_sim.specs.declared.event.Answer.TheVariants as reply
use Rattle.wire_sim.specs.Datagrams.{accepted_by_call}
use Rattle.wire_sim.specs.Runs.{IsNumberedCall}
use Rattle.wire_sim.specs.Steps.{MeetsCall, recv_len}
use Rattle.wire_sim.proofs.tables.CallsOnTable.{outcome}
use Rattle.wire_sim.proofs.pairing.CallsAreMoves.{socket_outcome, recv_outcome, recvfrom_outcome}
use Rattle.wire_sim.proofs.datagrams.TablesKeepToAccepted.{IsTableOf}
use Rattle.wire_sim.proofs.datagrams.TablesOfCalls.{kept-made, kept-bind, kept-listen, kept-accept, kept-connect, kept-send, kept-recv, kept-shutdown, kept-nodelay, kept-keepalive, kept-leaving, kept-giving_way}
use Rattle.wire_sim.proofs.datagrams.TablesOfDatagrams.{kept-sendto, kept-recvfrom}

-- the table keeps to what was accepted with the call
abbrev pub StaysOf : List Accepted → List Accepted → Call → Answer → SocketsView → SocketsView → Type 0
StaysOf own other c answer old new = IsTableOf (own ++ accepted_by_call c answer old new) other new

-- nothing was accepted with it
unadded : (own other : List Accepted) (old new : SocketsView) → IsTableOf own other old → new ≡ old → IsTableOf (own ++ []) other new
unadded own other old new t same = subst (λ xs. IsTableOf xs other new) (sym (append-nil own)) (subst (IsTableOf own other) (sym same) t)

-- every call
pub call-kept : (own other : List Accepted) (routed : Addr → Bool) (now : Moment) (c : Call) (old new : SocketsView) (answer : Answer) → length old.addr.0 ≡ 4 → IsNumberedCall c → MeetsCall routed now c old answer new → IsTableOf own other old → StaysOf own other c answer old new
call-kept own other routed now (call.Socket kind) old new answer width numbered m t =
    elim (socket_outcome kind old answer new m) [
      | inl made ↦ unadded own other new new (kept-made own other kind old new made t) refl
      | inr same ↦ unadded own other old new t same
    ]
call-kept own other routed now (call.Bind id local) old new answer width numbered m t =
    elim (outcome (unless_refused (bind_refusal old id local) (tt {0})) (λ _. reply.Done) (after_bind old id local) old answer new m) [
      | inl x ↦ unadded own other (after_bind old id local) new (kept-bind own other old id local numbered.port t) x.3
      | inr x ↦ unadded own other old new t x.3
    ]
call-kept own other routed now (call.Listen id backlog) old new answer width numbered m t =
    elim (outcome (unless_refused (listen_refusal old id backlog) (tt {0})) (λ _. reply.Done) (after_listen old id backlog) old answer new m) [
      | inl x ↦ unadded own other (after_listen old id backlog) new (kept-listen own other old id backlog t) x.3
      | inr x ↦ unadded own other old new t x.3
    ]
call-kept own other routed now (call.Accept id) old new answer width numbered m t =
    elim (outcome (accept_answer old id) (λ p. reply.Accepted p.0 p.1) (after_accept old id) old answer new m) [
      | inl x ↦ unadded own other (after_accept old id) new (kept-accept own other old id t) x.3
      | inr x ↦ unadded own other old new t x.3
    ]
call-kept own other routed now (call.Connect isn id peer) old new answer width numbered m t =
    elim (outcome (unless_refused (connect_refusal old id peer (routed peer.addr)) (tt {0})) (λ _. reply.Started) (after_connect old now isn.0 id peer (routed peer.addr)) old answer new m) [
      | inl x ↦ unadded own other (after_connect old now isn.0 id peer (routed peer.addr)) new (kept-connect own other old now isn.0 id peer (routed peer.addr) t) x.3
      | inr x ↦ unadded own other old new t x.3
    ]
call-kept own other routed now (call.Send id octets) old new answer width numbered m t =
    elim (outcome (send_answer old id octets.items) (λ count. reply.Sent count) (after_send old id octets.items) old answer new m) [
      | inl x ↦ unadded own other (after_send old id octets.items) new (kept-send own other old id octets.items t) x.3
      | inr x ↦ unadded own other old new t x.3
    ]
call-kept own other routed now (call.Recv id len) old new answer width numbered m t =
    elim (recv_outcome old id (recv_len len) answer new m) [
      | inl r ↦ unadded own other (after_recv old id (recv_len len)) new (kept-recv own other old id (recv_len len) t) r.becomes
      | inr y ↦ elim y [
        | inl r ↦ unadded own other (after_recv old id (recv_len len)) new (kept-recv own other old id (recv_len len) t) r.becomes
        | inr x ↦ unadded own other old new t x.2
      ]
    ]
call-kept own other routed now (call.SendTo id peer octets) old new answer width numbered m t =
    let given = after_sendto old id peer octets.items (routed peer.addr) in
    elim (outcome (sendto_answer old id peer octets.items (routed peer.addr)) (λ count. reply.Sent count) given old answer new m) [
      | inl x ↦
          subst (λ r. StaysOf own other (call.SendTo id peer octets) r old new) (sym x.2)
          (subst (StaysOf own other (call.SendTo id peer octets) (reply.Sent x.0) old) (sym x.3)
          (kept-sendto own other old id peer octets.items (routed peer.addr) x.0 width numbered.addr numbered.port x.1 t))
      | inr x ↦
          subst (λ r. StaysOf own other (call.SendTo id peer octets) r old new) (sym x.2) (unadded own other old new t x.3)
    ]
call-kept own other routed now (call.RecvFrom id len) old new answer width numbered m t =
    elim (recvfrom_outcome old id (recvfrom_answer old id (recv_len len)) answer new m) [
      | inl same ↦ unadded own other (after_recvfrom old id) new (kept-recvfrom own other old id t) same
      | inr same ↦ unadded own other old new t same
    ]
call-kept own other routed now (call.Shutdown id) old new answer width numbered m t =
    elim (outcome (unless_refused (shutdown_refusal old id) (tt {0})) (λ _. reply.Done) (after_shutdown old id) old answer new m) [
      | inl x ↦ unadded own other (after_shutdown old id) new (kept-shutdown own other old id t) x.3
      | inr x ↦ unadded own other old new t x.3
    ]
call-kept own other routed now (call.SetNoDelay id on) old new answer width numbered m t =
    elim (outcome (unless_refused (nodelay_refusal old id) (tt {0})) (λ _. reply.Done) (after_nodelay old id on) old answer new m) [
      | inl x ↦ unadded own other (after_nodelay old id on) new (kept-nodelay own other old id on t) x.3
      | inr x ↦ unadded own other old new t x.3
    ]
call-kept own other routed now (call.SetKeepAlive id every) old new answer width numbered m t =
    elim (outcome (unless_refused (keepalive_refusal old id every) (tt {0})) (λ _. reply.Done) (after_keepalive old id every) old answer new m) [
      | inl x ↦ unadded own other (after_keepalive old id every) new (kept-keepalive own other old id every t) x.3
      | inr x ↦ unadded own other old new t x.3
    ]
call-kept own other routed now (call.Close id) old new answer width numbered m t =
    elim (outcome (unless_refused (close_refusal old id) (tt {0})) (λ _. reply.Done) (after_close old id) old answer new m) [
      | inl x ↦ unadded own other (after_close old id) new (kept-leaving own other old Close id t) x.3
      | inr x ↦ unadded own other old new t x.3
    ]
call-kept own other routed now (call.Abort id) old new answer width numbered m t =
    elim (outcome (unless_refused (close_refusal old id) (tt {0})) (λ _. reply.Done) (after_abort old id) old answer new m) [
      | inl x ↦ unadded own other (after_abort old id) new (kept-leaving own other old Abort id t) x.3
      | inr x ↦ unadded own other old new t x.3
    ]
call-kept own other routed now (call.GiveWay id) old new answer width numbered m t = unadded own other (after_giving_way old (has_id id)) new (kept-giving_way own other old (has_id id) t) m.1
call-kept own other routed now (call.State id) old new answer width numbered m t =
    elim (outcome (state_answer old id) (λ s. reply.State s) old old answer new m) [
      | inl x ↦ unadded own other old new t x.3
      | inr x ↦ unadded own other old new t x.3
    ]
call-kept own other routed now (call.Ready id) old new answer width numbered m t =
    elim (outcome (readiness old id) (λ s. reply.Ready s) old old answer new m) [
      | inl x ↦ unadded own other old new t x.3
      | inr x ↦ unadded own other old new t x.3
    ]
call-kept own other routed now (call.Info id) old new answer width numbered m t =
    elim (outcome (info_answer old id) (λ s. reply.Info s) old old answer new m) [
      | inl x ↦ unadded own other old new t x.3
      | inr x ↦ unadded own other old new t x.3
    ]
call-kept own other routed now (call.SockName id) old new answer width numbered m t =
    elim (outcome (sockname_answer old id) (λ e. reply.Endpoint e) old old answer new m) [
      | inl x ↦ unadded own other old new t x.3
      | inr x ↦ unadded own other old new t x.3
    ]
call-kept own other routed now (call.PeerName id) old new answer width numbered m t =
    elim (outcome (peername_answer old id) (λ e. reply.Endpoint e) old old answer new m) [
      | inl x ↦ unadded own other old new t x.3
      | inr x ↦ unadded own other old new t x.3
    ]
