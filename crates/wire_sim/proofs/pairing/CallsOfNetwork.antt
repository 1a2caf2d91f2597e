-- What each answered call makes of the network: a connect that is started opens a pair, octets that were taken are counted, and every other call
-- changes its host alone.
use Rattle.std.proofs.Common.{◌≡◌, ℕ, ◌<◌, ◌^◌, inl, inr, List, [], ◌∷◌, ◌++◌, Some, None, refl, sym, ◌∙◌, ap, subst}
use Rattle.ipv4.specs.declared.addr.Addr.{Addr}
use Rattle.ipv4.specs.declared.addr.Endpoint.{Endpoint}
use Rattle.tcp_segment.specs.declared.seq.Seq.{Seq}
use Rattle.interface.specs.Ways.{is_routed}
use Rattle.clock.specs.declared.moment.Moment.{Moment}
use Rattle.sockets.specs.Info.{info_answer}
use Rattle.sockets.specs.Ready.{readiness}
use Rattle.sockets.specs.declared.entry.SocketId.{SocketId}
use Rattle.sockets.specs.declared.role.Leave.TheVariants.{Close, Abort}
use Rattle.sockets.specs.Calls.{unless_refused, bind_refusal, after_bind, listen_refusal, after_listen, accept_answer, after_accept, connect_refusal, after_connect, pair_connected, send_answer, after_send, after_recv, shutdown_refusal, after_shutdown, nodelay_refusal, after_nodelay, keepalive_refusal, after_keepalive, close_refusal, after_close, after_abort, state_answer, sockname_answer, peername_answer}
use Rattle.sockets.specs.Datagrams.{sendto_answer, after_sendto, recvfrom_answer, after_recvfrom}
use Rattle.sockets.specs.GiveWay.{after_giving_way}
use Rattle.sockets.specs.Ids.{has_id}
use Rattle.sockets.specs.Entries.{is_socket, role_after_listen}
use Rattle.sockets.specs.SocketsView.{SocketsView}
use Rattle.sockets.specs.Sound.{IsSoundTable}
use Rattle.host.specs.HostView.{HostView}
use Rattle.sides.specs.declared.side.Side.{Side}
use Rattle.wire_sim.specs.declared.event.Call.{Call}
use Rattle.wire_sim.specs.declared.event.Call.TheVariants as call
use Rattle.wire_sim.specs.declared.event.Answer.{Answer}
use Rattle.wire_sim.specs.declared.event.Answer.TheVariants as reply
use Rattle.wire_sim.specs.declared.event.Opening.{Opening}
use Rattle.wire_sim.specs.declared.event.Happening.{Happening}
use Rattle.wire_sim.specs.Fairness.{second_in, second_by_connect, unfair_call}
use Rattle.wire_sim.specs.Openings.{epoch_connected, opened_by_connect}
use Rattle.wire_sim.specs.Runs.{IsNumberedCall}
use Rattle.sides.specs.Sides.{other_side}
use Rattle.wire_sim.specs.Steps.{MeetsCall, recv_len, after_call, with_host, with_opening}
use Rattle.wire_sim.specs.Tallies.{counts_after}
use Rattle.wire_sim.specs.WorldView.{NetworkView, host_of, table_of}
use Rattle.wire_sim.proofs.tables.CallsOnTable.{outcome, not_refused}
use Rattle.wire_sim.proofs.tables.UnseenRoles.{quiet_listening}
use Rattle.wire_sim.proofs.pairing.WorldAsPairings.{Bag, Projects}
use Rattle.wire_sim.proofs.pairing.CallsAreMoves.{socket_outcome, recv_outcome, recvfrom_outcome, kept, changed, projects-bound, projects-accepted, projects-silent, call-sends, call-receives, call-ends, call-closes, taken-fit}
use Rattle.wire_sim.proofs.pairing.CloseIsMoves.{call-leaves, projects-giving_way}
use Rattle.wire_sim.proofs.pairing.ConnectIsMove.{IsFirst, projects-connects, projects-socket_made}
use Rattle.wire_sim.proofs.pairing.DatagramsMoveNothing.{projects-sent_to, projects-received_from}
use Rattle.wire_sim.proofs.pairing.WishesAreMoves.{projects-delayed, projects-asked}
use Rattle.wire_sim.proofs.told.TraceAndOneMore.{IsQuiet, answered, tallies, tallies-counted, tallies-quiet, tallies-opened, quiet-everywhere, quiet-socket, quiet-bind, quiet-listen, quiet-accept, quiet-connect, quiet-state, quiet-sockname, quiet-peername, quiet-sendto, quiet-recvfrom, quiet-send_refused, quiet-recv_refused, quiet-shutdown_refused, quiet-close_refused, quiet-nodelay, quiet-keepalive, quiet-abort, quiet-ready, quiet-info, quiet-giving_way}

-- What a call made of the network: nothing beside its host, a count, or an opening.
pub data CallGoes (limit : ℕ) (hs ts : Side) (a b : Addr) (host' : HostView) (other : SocketsView) (n : NetworkView) (bag : Bag) (c : Call) (answer : Answer) (place : ℕ) (trace : List Happening) : Type 0 where
  GoesPlain : after_call hs c answer place n host' ≡ with_host n hs host' → Projects limit hs ts a b host'.sockets other bag n.openings (trace ++ answered hs c answer ∷ [])
      → tallies (trace ++ answered hs c answer ∷ []) n.openings ≡ tallies trace n.openings → CallGoes limit hs ts a b host' other n bag c answer place trace
  GoesCounted : (id : SocketId) (count : ℕ) → after_call hs c answer place n host' ≡ record (with_host n hs host') { written = counts_after n.openings n.written hs id count }
      → Projects limit hs ts a b host'.sockets other bag n.openings (trace ++ answered hs c answer ∷ [])
      → counts_after n.openings (tallies trace n.openings) hs id count ≡ tallies (trace ++ answered hs c answer ∷ []) n.openings → CallGoes limit hs ts a b host' other n bag c answer place trace
  GoesOpened : (o : Opening) → after_call hs c answer place n host' ≡ with_opening (with_host n hs host') (Some o) → Projects limit hs ts a b host'.sockets other bag (n.openings ++ o ∷ []) (trace ++ answered hs c answer ∷ [])
      → tallies (trace ++ answered hs c answer ∷ []) (n.openings ++ o ∷ []) ≡ tallies trace n.openings ++ 0 ∷ [] → CallGoes limit hs ts a b host' other n bag c answer place trace

-- a call that tells nothing
plain : (limit : ℕ) (hs ts : Side) (a b : Addr) (host' : HostView) (other : SocketsView) (n : NetworkView) (bag : Bag) (c : Call) (answer : Answer) (place : ℕ) (trace : List Happening) → after_call hs c answer place n host' ≡ with_host n hs host'
    → ((i : SocketId) → IsQuiet hs i (answered hs c answer)) → Projects limit hs ts a b host'.sockets other bag n.openings trace → CallGoes limit hs ts a b host' other n bag c answer place trace
plain limit hs ts a b host' other n bag c answer place trace is quiet h =
    let silent = quiet-everywhere hs c answer quiet in
    GoesPlain is (projects-silent limit hs ts a b host'.sockets other bag n.openings trace (answered hs c answer) silent h) (tallies-quiet trace n.openings (answered hs c answer) (λ s i. (silent s i).0))

-- a connect that is fair opens no pair a second time
fair-first : (hs : Side) (host : HostView) (n : NetworkView) (other : SocketsView) (isn : Seq) (id : SocketId) (peer : Endpoint) → host ≡ host_of n hs → other ≡ table_of n (other_side hs)
    → unfair_call n hs (call.Connect isn id peer) ≡ None → IsFirst hs host.sockets other n.openings id peer (is_routed host.interface peer.addr)
fair-first hs host n other isn id peer is_host is_other fair pair foreseen =
    let seen : pair_connected (host_of n hs).sockets id peer (is_routed (host_of n hs).interface peer.addr) ≡ Some pair = ap (λ (w : HostView). pair_connected w.sockets id peer (is_routed w.interface peer.addr)) (sym is_host) ∙ foreseen in
    ap (λ w. second_in n.openings hs pair (epoch_connected n.openings w pair)) is_other ∙ (sym (ap (second_by_connect n hs) seen) ∙ fair)

-- a connect that was started
call-connects : (limit : ℕ) (hs ts : Side) (a b : Addr) (host host' : HostView) (other : SocketsView) (n : NetworkView) (bag : Bag) (place : ℕ) (trace : List Happening) (now : Moment) (isn : Seq) (id : SocketId) (peer : Endpoint)
    → isn.0 < 2 ^ 32 → host ≡ host_of n hs → other ≡ table_of n (other_side hs) → unfair_call n hs (call.Connect isn id peer) ≡ None → connect_refusal host.sockets id peer (is_routed host.interface peer.addr) ≡ None
    → host'.sockets ≡ after_connect host.sockets now isn.0 id peer (is_routed host.interface peer.addr) → Projects limit hs ts a b host.sockets other bag n.openings trace
    → CallGoes limit hs ts a b host' other n bag (call.Connect isn id peer) reply.Started place trace
call-connects limit hs ts a b host host' other n bag place trace now isn id peer fits is_host is_other fair accepted becomes h =
    let routed = is_routed host.interface peer.addr in
    let k = projects-connects limit hs ts a b host.sockets other bag n.openings place trace now isn.0 id peer routed fits (fair-first hs host n other isn id peer is_host is_other fair) accepted h in
    let o = k.opening in
    let e = answered hs (call.Connect isn id peer) reply.Started in
    let silent = quiet-everywhere hs (call.Connect isn id peer) reply.Started (λ i. quiet-connect hs isn id peer reply.Started i) in
    let opens : opened_by_connect n.openings hs id place host'.sockets (table_of n (other_side hs)) ≡ Some o =
    ap (λ w. opened_by_connect n.openings hs id place w (table_of n (other_side hs))) becomes
    ∙ (ap (opened_by_connect n.openings hs id place (after_connect host.sockets now isn.0 id peer routed)) (sym is_other) ∙ k.opens) in
    GoesOpened o (ap (with_opening (with_host n hs host')) opens)
    (projects-silent limit hs ts a b host'.sockets other bag (n.openings ++ o ∷ []) trace e silent (kept limit hs ts a b (after_connect host.sockets now isn.0 id peer routed) host'.sockets other bag (n.openings ++ o ∷ []) trace becomes k.projects))
    (tallies-quiet trace (n.openings ++ o ∷ []) e (λ s i. (silent s i).0) ∙ tallies-opened trace n.openings o k.unsent)

-- every call
pub projects-called : (limit : ℕ) (hs ts : Side) (a b : Addr) (host host' : HostView) (other : SocketsView) (n : NetworkView) (bag : Bag) (place : ℕ) (trace : List Happening) (now : Moment) (c : Call) (answer : Answer) → IsSoundTable host.sockets → ts ≡ other_side hs → host ≡ host_of n hs
    → other ≡ table_of n (other_side hs) → IsNumberedCall c → unfair_call n hs c ≡ None → MeetsCall (is_routed host.interface) now c host.sockets answer host'.sockets → Projects limit hs ts a b host.sockets other bag n.openings trace
    → CallGoes limit hs ts a b host' other n bag c answer place trace
projects-called limit hs ts a b host host' other n bag place trace now (call.Socket kind) answer sound opposite is_host is_other numbered fair m h =
    let own = host.sockets in
    elim (socket_outcome kind own answer host'.sockets m) [
      | inl made ↦ plain limit hs ts a b host' other n bag (call.Socket kind) answer place trace refl (λ i. quiet-socket hs kind answer i) (projects-socket_made limit hs ts a b own host'.sockets other bag n.openings trace kind made h)
      | inr same ↦ plain limit hs ts a b host' other n bag (call.Socket kind) answer place trace refl (λ i. quiet-socket hs kind answer i) (kept limit hs ts a b own host'.sockets other bag n.openings trace same h)
    ]
projects-called limit hs ts a b host host' other n bag place trace now (call.Bind id local) answer sound opposite is_host is_other numbered fair m h =
    let own = host.sockets in
    elim (outcome (unless_refused (bind_refusal own id local) (tt {0})) (λ _. reply.Done) (after_bind own id local) own answer host'.sockets m) [
      | inl x ↦ plain limit hs ts a b host' other n bag (call.Bind id local) answer place trace refl (λ i. quiet-bind hs id local answer i) (kept limit hs ts a b (after_bind own id local) host'.sockets other bag n.openings trace x.3 (projects-bound limit hs ts a b own other bag n.openings trace id local h))
      | inr x ↦ plain limit hs ts a b host' other n bag (call.Bind id local) answer place trace refl (λ i. quiet-bind hs id local answer i) (kept limit hs ts a b own host'.sockets other bag n.openings trace x.3 h)
    ]
projects-called limit hs ts a b host host' other n bag place trace now (call.Listen id backlog) answer sound opposite is_host is_other numbered fair m h =
    let own = host.sockets in
    elim (outcome (unless_refused (listen_refusal own id backlog) (tt {0})) (λ _. reply.Done) (after_listen own id backlog) own answer host'.sockets m) [
      | inl x ↦ plain limit hs ts a b host' other n bag (call.Listen id backlog) answer place trace refl (λ i. quiet-listen hs id backlog answer i) (changed limit hs ts a b own host'.sockets other bag n.openings trace (is_socket id) (role_after_listen backlog) (quiet_listening backlog) x.3 h)
      | inr x ↦ plain limit hs ts a b host' other n bag (call.Listen id backlog) answer place trace refl (λ i. quiet-listen hs id backlog answer i) (kept limit hs ts a b own host'.sockets other bag n.openings trace x.3 h)
    ]
projects-called limit hs ts a b host host' other n bag place trace now (call.Accept id) answer sound opposite is_host is_other numbered fair m h =
    let own = host.sockets in
    elim (outcome (accept_answer own id) (λ p. reply.Accepted p.0 p.1) (after_accept own id) own answer host'.sockets m) [
      | inl x ↦ plain limit hs ts a b host' other n bag (call.Accept id) answer place trace refl (λ i. quiet-accept hs id answer i) (kept limit hs ts a b (after_accept own id) host'.sockets other bag n.openings trace x.3 (projects-accepted limit hs ts a b own other bag n.openings trace id h))
      | inr x ↦ plain limit hs ts a b host' other n bag (call.Accept id) answer place trace refl (λ i. quiet-accept hs id answer i) (kept limit hs ts a b own host'.sockets other bag n.openings trace x.3 h)
    ]
projects-called limit hs ts a b host host' other n bag place trace now (call.Connect isn id peer) answer sound opposite is_host is_other numbered fair m h =
    let own = host.sockets in
    let routed = is_routed host.interface peer.addr in
    elim (outcome (unless_refused (connect_refusal own id peer routed) (tt {0})) (λ _. reply.Started) (after_connect own now isn.0 id peer routed) own answer host'.sockets m) [
      | inl x ↦
          subst (λ r. CallGoes limit hs ts a b host' other n bag (call.Connect isn id peer) r place trace) (sym x.2)
          (call-connects limit hs ts a b host host' other n bag place trace now isn id peer numbered is_host is_other fair (not_refused (connect_refusal own id peer routed) x.0 x.1) x.3 h)
      | inr x ↦
          subst (λ r. CallGoes limit hs ts a b host' other n bag (call.Connect isn id peer) r place trace) (sym x.2)
          (plain limit hs ts a b host' other n bag (call.Connect isn id peer) (reply.Refused x.0) place trace refl (λ i. quiet-connect hs isn id peer (reply.Refused x.0) i) (kept limit hs ts a b own host'.sockets other bag n.openings trace x.3 h))
    ]
projects-called limit hs ts a b host host' other n bag place trace now (call.Send id octets) answer sound opposite is_host is_other numbered fair m h =
    let own = host.sockets in
    elim (outcome (send_answer own id octets.items) (λ count. reply.Sent count) (after_send own id octets.items) own answer host'.sockets m) [
      | inl x ↦
          let e = answered hs (call.Send id octets) (reply.Sent x.0) in
          subst (λ r. CallGoes limit hs ts a b host' other n bag (call.Send id octets) r place trace) (sym x.2)
          (GoesCounted id x.0 refl
          (kept limit hs ts a b (after_send own id octets.items) host'.sockets other bag n.openings (trace ++ e ∷ []) x.3 (call-sends limit hs ts a b own other bag n.openings trace id octets x.0 sound opposite x.1 h))
          (tallies-counted trace n.openings hs id octets x.0 (taken-fit own id octets.items x.0 x.1)))
      | inr x ↦
          subst (λ r. CallGoes limit hs ts a b host' other n bag (call.Send id octets) r place trace) (sym x.2)
          (plain limit hs ts a b host' other n bag (call.Send id octets) (reply.Refused x.0) place trace refl (λ i. quiet-send_refused hs id octets x.0 i) (kept limit hs ts a b own host'.sockets other bag n.openings trace x.3 h))
    ]
projects-called limit hs ts a b host host' other n bag place trace now (call.Recv id len) answer sound opposite is_host is_other numbered fair m h =
    let own = host.sockets in
    elim (recv_outcome own id (recv_len len) answer host'.sockets m) [
      | inl r ↦
          let e = answered hs (call.Recv id len) (reply.Octets r.octets) in
          subst (λ x. CallGoes limit hs ts a b host' other n bag (call.Recv id len) x place trace) (sym r.is_answer)
          (GoesPlain refl
          (kept limit hs ts a b (after_recv own id (recv_len len)) host'.sockets other bag n.openings (trace ++ e ∷ []) r.becomes
          (call-receives limit hs ts a b own other bag n.openings trace id len r.octets (recv_len len) r.c r.l sound opposite r.found r.untold r.opened r.some r.are_first h))
          (tallies-quiet trace n.openings e (λ s i. refl)))
      | inr y ↦ elim y [
        | inl r ↦
            let e = answered hs (call.Recv id len) reply.EndOfStream in
            subst (λ x. CallGoes limit hs ts a b host' other n bag (call.Recv id len) x place trace) (sym r.is_answer)
            (GoesPlain refl
            (kept limit hs ts a b (after_recv own id (recv_len len)) host'.sockets other bag n.openings (trace ++ e ∷ []) r.becomes
            (call-ends limit hs ts a b own other bag n.openings trace id len (recv_len len) r.c r.l opposite r.found r.some r.told h))
            (tallies-quiet trace n.openings e (λ s i. refl)))
        | inr x ↦
            subst (λ r. CallGoes limit hs ts a b host' other n bag (call.Recv id len) r place trace) (sym x.1)
            (plain limit hs ts a b host' other n bag (call.Recv id len) (reply.Refused x.0) place trace refl (λ i. quiet-recv_refused hs id len x.0 i) (kept limit hs ts a b own host'.sockets other bag n.openings trace x.2 h))
      ]
    ]
projects-called limit hs ts a b host host' other n bag place trace now (call.SendTo id peer octets) answer sound opposite is_host is_other numbered fair m h =
    let own = host.sockets in
    let routed = is_routed host.interface peer.addr in
    let quiet = quiet-sendto hs id peer octets answer in
    elim (outcome (sendto_answer own id peer octets.items routed) (λ count. reply.Sent count) (after_sendto own id peer octets.items routed) own answer host'.sockets m) [
      | inl x ↦ plain limit hs ts a b host' other n bag (call.SendTo id peer octets) answer place trace (called-plain answer) quiet
          (kept limit hs ts a b (after_sendto own id peer octets.items routed) host'.sockets other bag n.openings trace x.3 (projects-sent_to limit hs ts a b own other bag n.openings trace id peer octets.items routed h))
      | inr x ↦ plain limit hs ts a b host' other n bag (call.SendTo id peer octets) answer place trace (called-plain answer) quiet (kept limit hs ts a b own host'.sockets other bag n.openings trace x.3 h)
    ]
  where
    called-plain : (answer : Answer) → after_call hs (call.SendTo id peer octets) answer place n host' ≡ with_host n hs host'
    called-plain answer = refl
projects-called limit hs ts a b host host' other n bag place trace now (call.RecvFrom id len) answer sound opposite is_host is_other numbered fair m h =
    let own = host.sockets in
    let quiet = quiet-recvfrom hs id len answer in
    elim (recvfrom_outcome own id (recvfrom_answer own id (recv_len len)) answer host'.sockets m) [
      | inl same ↦ plain limit hs ts a b host' other n bag (call.RecvFrom id len) answer place trace refl quiet
          (kept limit hs ts a b (after_recvfrom own id) host'.sockets other bag n.openings trace same (projects-received_from limit hs ts a b own other bag n.openings trace id h))
      | inr same ↦ plain limit hs ts a b host' other n bag (call.RecvFrom id len) answer place trace refl quiet (kept limit hs ts a b own host'.sockets other bag n.openings trace same h)
    ]
projects-called limit hs ts a b host host' other n bag place trace now (call.Shutdown id) answer sound opposite is_host is_other numbered fair m h =
    let own = host.sockets in
    elim (outcome (unless_refused (shutdown_refusal own id) (tt {0})) (λ _. reply.Done) (after_shutdown own id) own answer host'.sockets m) [
      | inl x ↦
          let e = answered hs (call.Shutdown id) reply.Done in
          subst (λ r. CallGoes limit hs ts a b host' other n bag (call.Shutdown id) r place trace) (sym x.2)
          (GoesPlain refl
          (kept limit hs ts a b (after_shutdown own id) host'.sockets other bag n.openings (trace ++ e ∷ []) x.3 (call-closes limit hs ts a b own other bag n.openings trace id sound opposite (not_refused (shutdown_refusal own id) x.0 x.1) h))
          (tallies-quiet trace n.openings e (λ s i. refl)))
      | inr x ↦
          subst (λ r. CallGoes limit hs ts a b host' other n bag (call.Shutdown id) r place trace) (sym x.2)
          (plain limit hs ts a b host' other n bag (call.Shutdown id) (reply.Refused x.0) place trace refl (λ i. quiet-shutdown_refused hs id x.0 i) (kept limit hs ts a b own host'.sockets other bag n.openings trace x.3 h))
    ]
projects-called limit hs ts a b host host' other n bag place trace now (call.SetNoDelay id on) answer sound opposite is_host is_other numbered fair m h =
    let own = host.sockets in
    let quiet = quiet-nodelay hs id on answer in
    elim (outcome (unless_refused (nodelay_refusal own id) (tt {0})) (λ _. reply.Done) (after_nodelay own id on) own answer host'.sockets m) [
      | inl x ↦ plain limit hs ts a b host' other n bag (call.SetNoDelay id on) answer place trace refl quiet (kept limit hs ts a b (after_nodelay own id on) host'.sockets other bag n.openings trace x.3 (projects-delayed limit hs ts a b own other bag n.openings trace id on h))
      | inr x ↦ plain limit hs ts a b host' other n bag (call.SetNoDelay id on) answer place trace refl quiet (kept limit hs ts a b own host'.sockets other bag n.openings trace x.3 h)
    ]
projects-called limit hs ts a b host host' other n bag place trace now (call.SetKeepAlive id every) answer sound opposite is_host is_other numbered fair m h =
    let own = host.sockets in
    let quiet = quiet-keepalive hs id every answer in
    elim (outcome (unless_refused (keepalive_refusal own id every) (tt {0})) (λ _. reply.Done) (after_keepalive own id every) own answer host'.sockets m) [
      | inl x ↦ plain limit hs ts a b host' other n bag (call.SetKeepAlive id every) answer place trace refl quiet (kept limit hs ts a b (after_keepalive own id every) host'.sockets other bag n.openings trace x.3 (projects-asked limit hs ts a b own other bag n.openings trace id every h))
      | inr x ↦ plain limit hs ts a b host' other n bag (call.SetKeepAlive id every) answer place trace refl quiet (kept limit hs ts a b own host'.sockets other bag n.openings trace x.3 h)
    ]
projects-called limit hs ts a b host host' other n bag place trace now (call.Close id) answer sound opposite is_host is_other numbered fair m h =
    let own = host.sockets in
    elim (outcome (unless_refused (close_refusal own id) (tt {0})) (λ _. reply.Done) (after_close own id) own answer host'.sockets m) [
      | inl x ↦
          let e = answered hs (call.Close id) reply.Done in
          subst (λ r. CallGoes limit hs ts a b host' other n bag (call.Close id) r place trace) (sym x.2)
          (GoesPlain refl
          (kept limit hs ts a b (after_close own id) host'.sockets other bag n.openings (trace ++ e ∷ []) x.3 (call-leaves limit hs ts a b own other bag n.openings trace Close id sound opposite (not_refused (close_refusal own id) x.0 x.1) h))
          (tallies-quiet trace n.openings e (λ s i. refl)))
      | inr x ↦
          subst (λ r. CallGoes limit hs ts a b host' other n bag (call.Close id) r place trace) (sym x.2)
          (plain limit hs ts a b host' other n bag (call.Close id) (reply.Refused x.0) place trace refl (λ i. quiet-close_refused hs id x.0 i) (kept limit hs ts a b own host'.sockets other bag n.openings trace x.3 h))
    ]
projects-called limit hs ts a b host host' other n bag place trace now (call.Abort id) answer sound opposite is_host is_other numbered fair m h =
    let own = host.sockets in
    elim (outcome (unless_refused (close_refusal own id) (tt {0})) (λ _. reply.Done) (after_abort own id) own answer host'.sockets m) [
      | inl x ↦
          let e = answered hs (call.Abort id) reply.Done in
          subst (λ r. CallGoes limit hs ts a b host' other n bag (call.Abort id) r place trace) (sym x.2)
          (GoesPlain refl
          (kept limit hs ts a b (after_abort own id) host'.sockets other bag n.openings (trace ++ e ∷ []) x.3 (call-leaves limit hs ts a b own other bag n.openings trace Abort id sound opposite (not_refused (close_refusal own id) x.0 x.1) h))
          (tallies-quiet trace n.openings e (λ s i. refl)))
      | inr x ↦
          subst (λ r. CallGoes limit hs ts a b host' other n bag (call.Abort id) r place trace) (sym x.2)
          (plain limit hs ts a b host' other n bag (call.Abort id) (reply.Refused x.0) place trace refl (λ i. quiet-abort hs id (reply.Refused x.0) i) (kept limit hs ts a b own host'.sockets other bag n.openings trace x.3 h))
    ]
projects-called limit hs ts a b host host' other n bag place trace now (call.GiveWay id) answer sound opposite is_host is_other numbered fair m h =
    plain limit hs ts a b host' other n bag (call.GiveWay id) answer place trace refl (λ i. quiet-giving_way hs id answer i)
    (kept limit hs ts a b (after_giving_way host.sockets (has_id id)) host'.sockets other bag n.openings trace m.1 (projects-giving_way limit hs ts a b host.sockets other bag n.openings trace (has_id id) h))
projects-called limit hs ts a b host host' other n bag place trace now (call.State id) answer sound opposite is_host is_other numbered fair m h =
    let own = host.sockets in
    elim (outcome (state_answer own id) (λ s. reply.State s) own own answer host'.sockets m) [
      | inl x ↦ plain limit hs ts a b host' other n bag (call.State id) answer place trace refl (λ i. quiet-state hs id answer i) (kept limit hs ts a b own host'.sockets other bag n.openings trace x.3 h)
      | inr x ↦ plain limit hs ts a b host' other n bag (call.State id) answer place trace refl (λ i. quiet-state hs id answer i) (kept limit hs ts a b own host'.sockets other bag n.openings trace x.3 h)
    ]
projects-called limit hs ts a b host host' other n bag place trace now (call.Ready id) answer sound opposite is_host is_other numbered fair m h =
    let own = host.sockets in
    elim (outcome (readiness own id) (λ s. reply.Ready s) own own answer host'.sockets m) [
      | inl x ↦ plain limit hs ts a b host' other n bag (call.Ready id) answer place trace refl (λ i. quiet-ready hs id answer i) (kept limit hs ts a b own host'.sockets other bag n.openings trace x.3 h)
      | inr x ↦ plain limit hs ts a b host' other n bag (call.Ready id) answer place trace refl (λ i. quiet-ready hs id answer i) (kept limit hs ts a b own host'.sockets other bag n.openings trace x.3 h)
    ]
projects-called limit hs ts a b host host' other n bag place trace now (call.Info id) answer sound opposite is_host is_other numbered fair m h =
    let own = host.sockets in
    elim (outcome (info_answer own id) (λ s. reply.Info s) own own answer host'.sockets m) [
      | inl x ↦ plain limit hs ts a b host' other n bag (call.Info id) answer place trace refl (λ i. quiet-info hs id answer i) (kept limit hs ts a b own host'.sockets other bag n.openings trace x.3 h)
      | inr x ↦ plain limit hs ts a b host' other n bag (call.Info id) answer place trace refl (λ i. quiet-info hs id answer i) (kept limit hs ts a b own host'.sockets other bag n.openings trace x.3 h)
    ]
projects-called limit hs ts a b host host' other n bag place trace now (call.SockName id) answer sound opposite is_host is_other numbered fair m h =
    let own = host.sockets in
    elim (outcome (sockname_answer own id) (λ e. reply.Endpoint e) own own answer host'.sockets m) [
      | inl x ↦ plain limit hs ts a b host' other n bag (call.SockName id) answer place trace refl (λ i. quiet-sockname hs id answer i) (kept limit hs ts a b own host'.sockets other bag n.openings trace x.3 h)
      | inr x ↦ plain limit hs ts a b host' other n bag (call.SockName id) answer place trace refl (λ i. quiet-sockname hs id answer i) (kept limit hs ts a b own host'.sockets other bag n.openings trace x.3 h)
    ]
projects-called limit hs ts a b host host' other n bag place trace now (call.PeerName id) answer sound opposite is_host is_other numbered fair m h =
    let own = host.sockets in
    elim (outcome (peername_answer own id) (λ e. reply.Endpoint e) own own answer host'.sockets m) [
      | inl x ↦ plain limit hs ts a b host' other n bag (call.PeerName id) answer place trace refl (λ i. quiet-peername hs id answer i) (kept limit hs ts a b own host'.sockets other bag n.openings trace x.3 h)
      | inr x ↦ plain limit hs ts a b host' other n bag (call.PeerName id) answer place trace refl (λ i. quiet-peername hs id answer i) (kept limit hs ts a b own host'.sockets other bag n.openings trace x.3 h)
    ]
