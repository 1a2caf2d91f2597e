-- Wherever a host comes to hold a pair, the event adds its opening.
use Rattle.std.proofs.Common.{◌≡◌, ℕ, ◌+◌, ◌⊎◌, inl, inr, Bool, true, false, List, [], ◌∷◌, ◌++◌, length, Option, Some, None, option_map, Result, Ok, Err, arith, refl, sym, ◌∙◌, ap, subst}
use Rattle.std.specs.List.{find, slice_get}
use Rattle.ipv4.specs.declared.addr.Addr.{Addr}
use Rattle.ipv4.specs.declared.addr.Endpoint.{Endpoint}
use Rattle.ipv4.specs.declared.addr.Pair.{Pair}
use Rattle.ipv4.specs.Addresses.{pair_of}
use Rattle.tcp_segment.specs.declared.seq.Seq.{Seq}
use Rattle.tcp_segment.specs.Segment.{Segment}
use Rattle.clock.specs.declared.moment.Moment.{Moment}
use Rattle.tcp_state.specs.Arrival.{fate, opened_passively}
use Rattle.udp_socket.specs.SocketView.{new_socket}
use Rattle.sockets.specs.Info.{info_answer}
use Rattle.sockets.specs.Ready.{readiness}
use Rattle.sockets.specs.declared.emission.Outgoing.{Outgoing}
use Rattle.sockets.specs.declared.entry.Kind.{Kind}
use Rattle.sockets.specs.declared.entry.Kind.TheVariants.{Tcp, Udp}
use Rattle.sockets.specs.declared.entry.SocketId.{SocketId}
use Rattle.sockets.specs.declared.entry.Entry.{Entry}
use Rattle.sockets.specs.declared.role.Role.TheVariants.{Idle, Connected, Datagrams}
use Rattle.sockets.specs.declared.role.Leave.{Leave}
use Rattle.sockets.specs.declared.role.Leave.TheVariants.{Close, Abort}
use Rattle.sockets.specs.Calls.{unless_refused, IsMade, after_socket, after_datagram_socket, port_bound, bind_refusal, after_bind, listen_refusal, after_listen, is_next_at, accept_answer, after_accept, connect_refusal, after_connect, send_answer, after_send, after_recv, shutdown_refusal, after_shutdown, nodelay_refusal, after_nodelay, keepalive_refusal, after_keepalive, close_refusal, after_close, after_abort, after_leaving, after_socket_left, state_answer, sockname_answer, peername_answer}
use Rattle.sockets.specs.declared.refusal.Refusal.{Refusal}
use Rattle.sockets.specs.Arrival.{local_end, peer_end, room_for}
use Rattle.sockets.specs.Datagrams.{end_sent_from, sendto_answer, after_sendto, recvfrom_answer, after_recvfrom, after_reception}
use Rattle.sockets.specs.Lists.{change_first}
use Rattle.sockets.specs.Entries.{is_socket, is_between, with_role, role_after_sendto, role_after_recvfrom, role_after_segment, is_of_pair, sends, role_after_bind, role_after_listen, role_after_accept, role_after_send, role_after_recv, role_after_shutdown, role_after_nodelay, role_after_keepalive, role_after_leaving, leaving_fate_of, role_after_listener_close, listener_close_fate_of, role_after_tick, tick_fate_of, role_after_emission, emission_fate_of, entries_after_step}
use Rattle.sockets.specs.GiveWay.{gives_way, after_giving_way}
use Rattle.sockets.specs.Ids.{has_id}
use Rattle.sockets.specs.SocketsView.{SocketsView, holder_id, later_moment, room_of}
use Rattle.sockets.specs.Ticks as table_ticks
use Rattle.sockets.specs.Lost.{give_up_fate_of, role_after_giving_up, after_giving_up}
use Rattle.sockets.specs.Emission.{after_segment_sent, in_turn}
use Rattle.sockets.proofs.Emitting.{found_due, segment_sent-found, segment_sent-none}
use Rattle.interface.specs.Ways.{is_routed}
use Rattle.sockets.specs.Unreachable.{after_unreachable}
use Rattle.host.specs.HostView.{HostView}
use Rattle.host.specs.Ticks as host_ticks
use Rattle.host.specs.Emission.{Emission, Replies, Sends, Asks, Nothing, goes_out_from, emission, left_by, after_emission}
use Rattle.host.specs.Sound.{IsSoundHost}
use Rattle.sides.specs.declared.side.Side.{Side}
use Rattle.sides.specs.declared.side.Side.TheVariants.{A, B}
use Rattle.wire_sim.specs.declared.event.Call.{Call}
use Rattle.wire_sim.specs.declared.event.Call.TheVariants as call
use Rattle.wire_sim.specs.declared.event.Event.{Event}
use Rattle.wire_sim.specs.declared.event.Event.TheVariants as event
use Rattle.wire_sim.specs.declared.event.Answer.{Answer}
use Rattle.wire_sim.specs.declared.event.Answer.TheVariants as reply
use Rattle.wire_sim.specs.declared.event.Opening.{Opening}
use Rattle.wire_sim.specs.declared.world.bag.Frame.{Frame}
use Rattle.wire_sim.specs.declared.world.bag.Note.{Note}
use Rattle.wire_sim.specs.declared.world.station.Station.{Station}
use Rattle.wire_sim.specs.Fairness.{unfair_frame, unfair_counted}
use Rattle.wire_sim.specs.Holding.{IsBegun, EveryHoldingIsNoted}
use Rattle.wire_sim.specs.Openings.{epoch_of, epoch_connected, opened_by_connect, opened_by_frame, held_anew}
use Rattle.sides.specs.Sides.{same_side, other_side}
use Rattle.wire_sim.specs.Steps.{with_station, with_host, with_opening, after_call, after_delivery, station_after_tick, recv_len, MeetsCall, MeetsFrame, MeetsEmission, DeliversFrame, Steps}
use Rattle.wire_sim.specs.WorldView.{NetworkView, WorldView, station_of, host_of, table_of, clock_of, written_at}
use Rattle.wire_sim.proofs.tables.CallsOnTable.{outcome, not_refused}
use Rattle.wire_sim.proofs.openings.OpeningsAreBegun.{connecting-host, host-opens, epoch-rises}
use Rattle.wire_sim.proofs.openings.OctetsAreCovered.{as_list}
use Rattle.wire_sim.proofs.tables.SegmentArrived.{Arrived, Ignored, Heard, Began}
use Rattle.wire_sim.proofs.fairness.CountedAsTraced.{same_unfair}
use Rattle.wire_sim.proofs.lists.FoundAfterChange.{All-at, find-added_none, none-removed}
use Rattle.wire_sim.proofs.openings.HeldIsOpened.{joined, unheld-changed, unheld-settled, unheld-heard, unheld-told, unheld-all, unheld-received, unheld_datagrams, unheld_given_up, unheld_bound_to, unheld_listening, unheld_accepted, unheld_ticked, unheld_sent, unheld_received, unheld_write_shut, unheld_delayed, unheld_asked, unheld_left, unheld_forsaken, unheld_emitted_at}
use Rattle.wire_sim.proofs.tables.PairOfPorts.{unheld}
use Rattle.wire_sim.proofs.carried.FramesCarry.{Carried}
use Rattle.wire_sim.proofs.carried.FramesArrive.{segment_foreseen, IsToTable, Aside, Brings, Tells, Receives, frame-to_table}
use Rattle.wire_sim.proofs.pairing.CallsAreMoves.{ReadsOctets, ReadsEnd, socket_outcome, recv_outcome, recvfrom_outcome}
use Rattle.wire_sim.proofs.pairing.CloseIsMoves.{leaves-on}
use Rattle.wire_sim.proofs.runs.RunsAreLawful.{IsOrderly, orderly, orderly-swapped, orderly-tallied, fair_sender, not_own, other-with, own-with, own-again}

-- Steps of a host by which it comes to hold no pair.

abbrev pub KeepsPairs : SocketsView → SocketsView → Type 0
KeepsPairs own own' = (pair : Pair) → find (is_of_pair pair) own.entries ≡ None → find (is_of_pair pair) own'.entries ≡ None

-- the host is as it was, or this
keeps-same : (own own' : SocketsView) → own' ≡ own → KeepsPairs own own'
keeps-same own own' same = subst (KeepsPairs own) (sym same) (λ pair none. none)

keeps-next : (own next own' : SocketsView) → own' ≡ next → KeepsPairs own next → KeepsPairs own own'
keeps-next own next own' same keeps = subst (KeepsPairs own) (sym same) keeps

abbrev is_connecting : Call → Bool
is_connecting (call.Connect isn id peer) = true
is_connecting _ = false

-- a new socket holds no pair
made-keeps : (kind : Kind) (own own' : SocketsView) → IsMade kind own own' → KeepsPairs own own'
made-keeps Tcp own own' made =
    keeps-next own (after_socket own (room_of own.sizes.buffer own.manner)) own' made (λ pair none. find-added_none (is_of_pair pair) own.entries (record { id = record { 0 = own.last_id + 1 }; role = Idle (room_of own.sizes.buffer own.manner) None }) refl ∙ none)
made-keeps Udp own own' made =
    keeps-next own (after_datagram_socket own) own' made (λ pair none. find-added_none (is_of_pair pair) own.entries (record { id = record { 0 = own.last_id + 1 }; role = Datagrams None new_socket }) refl ∙ none)

-- nor does one that is bound
bound-keeps : (own : SocketsView) (id : SocketId) (local : Endpoint) → KeepsPairs own (after_bind own id local)
bound-keeps own id local pair none = by_port (port_bound own id local) refl
  where
    by_port : (r : Result ℕ Refusal) → port_bound own id local ≡ r → find (is_of_pair pair) (let w = after_bind own id local in w.entries) ≡ None
    by_port (Err e) is = let same : after_bind own id local ≡ own = rw is in ap (λ (w : SocketsView). find (is_of_pair pair) w.entries) same ∙ none
    by_port (Ok port) is =
        let change = role_after_bind (record { addr = local.addr; port = port }) in
        let same : (let w = after_bind own id local in w.entries) ≡ change_first (is_socket id) (with_role change) own.entries = rw is in
        ap (find (is_of_pair pair)) same ∙ unheld-changed (is_socket id) change pair own.entries (unheld_bound_to _) none

-- nor does one that sends a datagram
sent_to-keeps : (own : SocketsView) (id : SocketId) (peer : Endpoint) (octets : List ℕ) (routed : Bool) → KeepsPairs own (after_sendto own id peer octets routed)
sent_to-keeps own id peer octets routed pair none = by_end (end_sent_from own id peer octets routed) refl
  where
    by_end : (r : Result Endpoint Refusal) → end_sent_from own id peer octets routed ≡ r → find (is_of_pair pair) (let w = after_sendto own id peer octets routed in w.entries) ≡ None
    by_end (Err e) is = let same : after_sendto own id peer octets routed ≡ own = rw is in ap (λ (w : SocketsView). find (is_of_pair pair) w.entries) same ∙ none
    by_end (Ok local) is =
        let change = role_after_sendto local own.kept peer own.identification octets in
        let same : (let w = after_sendto own id peer octets routed in w.entries) ≡ change_first (is_socket id) (with_role change) own.entries = rw is in
        ap (find (is_of_pair pair)) same ∙ unheld-changed (is_socket id) change pair own.entries (unheld_datagrams _ _) none

-- nor does one that is left
left-keeps : (own : SocketsView) (how : Leave) (id : SocketId) → close_refusal own id ≡ None → KeepsPairs own (after_leaving own how id)
left-keeps own how id accepted pair none =
    let k = leaves-on own how id accepted in
    let gone : find (is_of_pair pair) (let w = after_socket_left own how id in w.entries) ≡ None =
    ap (λ (w : SocketsView). find (is_of_pair pair) w.entries) k.leaves ∙ unheld-settled (leaving_fate_of how own.kept k.role) (is_socket id) (role_after_leaving how own.kept) pair own.entries (unheld_left how own.kept) none
    in
    unheld-all (listener_close_fate_of id) (role_after_listener_close own.kept id) pair (let w = after_socket_left own how id in w.entries) (unheld_forsaken own.kept id) gone

call-keeps : (routed : Addr → Bool) (now : Moment) (c : Call) (answer : Answer) (own own' : SocketsView) → is_connecting c ≡ false → MeetsCall routed now c own answer own' → KeepsPairs own own'
call-keeps routed now (call.Socket kind) answer own own' other m =
    elim (socket_outcome kind own answer own' m) [
      | inl made ↦ made-keeps kind own own' made
      | inr same ↦ keeps-same own own' same
    ]
call-keeps routed now (call.Bind id local) answer own own' other m =
    elim (outcome (unless_refused (bind_refusal own id local) (tt {0})) (λ _. reply.Done) (after_bind own id local) own answer own' m) [
      | inl x ↦ keeps-next own (after_bind own id local) own' x.3 (bound-keeps own id local)
      | inr x ↦ keeps-same own own' x.3
    ]
call-keeps routed now (call.Listen id backlog) answer own own' other m =
    elim (outcome (unless_refused (listen_refusal own id backlog) (tt {0})) (λ _. reply.Done) (after_listen own id backlog) own answer own' m) [
      | inl x ↦ keeps-next own (after_listen own id backlog) own' x.3 (λ pair none. unheld-changed (is_socket id) (role_after_listen backlog) pair own.entries (unheld_listening backlog) none)
      | inr x ↦ keeps-same own own' x.3
    ]
call-keeps routed now (call.Accept id) answer own own' other m =
    elim (outcome (accept_answer own id) (λ p. reply.Accepted p.0 p.1) (after_accept own id) own answer own' m) [
      | inl x ↦ keeps-next own (after_accept own id) own' x.3 (λ pair none. unheld-changed (is_next_at own id) role_after_accept pair own.entries unheld_accepted none)
      | inr x ↦ keeps-same own own' x.3
    ]
call-keeps routed now (call.Connect isn id peer) answer own own' other m = let bad : true ≡ false = other in cc
call-keeps routed now (call.Send id octets) answer own own' other m =
    elim (outcome (send_answer own id octets.items) (λ count. reply.Sent count) (after_send own id octets.items) own answer own' m) [
      | inl x ↦ keeps-next own (after_send own id octets.items) own' x.3 (λ pair none. unheld-changed (is_socket id) (role_after_send own.kept octets.items) pair own.entries (unheld_sent own.kept octets.items) none)
      | inr x ↦ keeps-same own own' x.3
    ]
call-keeps routed now (call.Recv id len) answer own own' other m = by_outcome (recv_outcome own id (recv_len len) answer own' m)
  where
    reads : own' ≡ after_recv own id (recv_len len) → KeepsPairs own own'
    reads same = keeps-next own (after_recv own id (recv_len len)) own' same (λ pair none. unheld-changed (is_socket id) (role_after_recv (recv_len len)) pair own.entries (unheld_received (recv_len len)) none)

    by_outcome : ReadsOctets own id (recv_len len) answer own' ⊎ (ReadsEnd own id (recv_len len) answer own' ⊎ ((e : Refusal) × (answer ≡ reply.Refused e) × (own' ≡ own))) → KeepsPairs own own'
    by_outcome (inl x) = reads x.becomes
    by_outcome (inr (inl x)) = reads x.becomes
    by_outcome (inr (inr x)) = keeps-same own own' x.2
call-keeps routed now (call.SendTo id peer octets) answer own own' other m =
    let reached = routed peer.addr in
    elim (outcome (sendto_answer own id peer octets.items reached) (λ count. reply.Sent count) (after_sendto own id peer octets.items reached) own answer own' m) [
      | inl x ↦ keeps-next own (after_sendto own id peer octets.items reached) own' x.3 (sent_to-keeps own id peer octets.items reached)
      | inr x ↦ keeps-same own own' x.3
    ]
call-keeps routed now (call.RecvFrom id len) answer own own' other m =
    elim (recvfrom_outcome own id (recvfrom_answer own id (recv_len len)) answer own' m) [
      | inl same ↦ keeps-next own (after_recvfrom own id) own' same (λ pair none. unheld-changed (is_socket id) role_after_recvfrom pair own.entries (unheld_datagrams _ _) none)
      | inr same ↦ keeps-same own own' same
    ]
call-keeps routed now (call.Shutdown id) answer own own' other m =
    elim (outcome (unless_refused (shutdown_refusal own id) (tt {0})) (λ _. reply.Done) (after_shutdown own id) own answer own' m) [
      | inl x ↦ keeps-next own (after_shutdown own id) own' x.3 (λ pair none. unheld-changed (is_socket id) (role_after_shutdown own.kept) pair own.entries (unheld_write_shut own.kept) none)
      | inr x ↦ keeps-same own own' x.3
    ]
call-keeps routed now (call.SetNoDelay id on) answer own own' other m =
    elim (outcome (unless_refused (nodelay_refusal own id) (tt {0})) (λ _. reply.Done) (after_nodelay own id on) own answer own' m) [
      | inl x ↦ keeps-next own (after_nodelay own id on) own' x.3 (λ pair none. unheld-changed (is_socket id) (role_after_nodelay on own.kept) pair own.entries (unheld_delayed on own.kept) none)
      | inr x ↦ keeps-same own own' x.3
    ]
call-keeps routed now (call.SetKeepAlive id every) answer own own' other m =
    elim (outcome (unless_refused (keepalive_refusal own id every) (tt {0})) (λ _. reply.Done) (after_keepalive own id every) own answer own' m) [
      | inl x ↦ keeps-next own (after_keepalive own id every) own' x.3 (λ pair none. unheld-changed (is_socket id) (role_after_keepalive every own.kept) pair own.entries (unheld_asked every own.kept) none)
      | inr x ↦ keeps-same own own' x.3
    ]
call-keeps routed now (call.Close id) answer own own' other m =
    elim (outcome (unless_refused (close_refusal own id) (tt {0})) (λ _. reply.Done) (after_close own id) own answer own' m) [
      | inl x ↦ keeps-next own (after_close own id) own' x.3 (left-keeps own Close id (not_refused (close_refusal own id) x.0 x.1))
      | inr x ↦ keeps-same own own' x.3
    ]
call-keeps routed now (call.Abort id) answer own own' other m =
    elim (outcome (unless_refused (close_refusal own id) (tt {0})) (λ _. reply.Done) (after_abort own id) own answer own' m) [
      | inl x ↦ keeps-next own (after_abort own id) own' x.3 (left-keeps own Abort id (not_refused (close_refusal own id) x.0 x.1))
      | inr x ↦ keeps-same own own' x.3
    ]
call-keeps routed now (call.GiveWay id) answer own own' other m = keeps-next own (after_giving_way own (has_id id)) own' m.1 (λ pair none. none-removed (gives_way (has_id id)) (is_of_pair pair) own.entries none)
call-keeps routed now (call.State id) answer own own' other m =
    elim (outcome (state_answer own id) (λ s. reply.State s) own own answer own' m) [
      | inl x ↦ keeps-same own own' x.3
      | inr x ↦ keeps-same own own' x.3
    ]
call-keeps routed now (call.Ready id) answer own own' other m =
    elim (outcome (readiness own id) (λ s. reply.Ready s) own own answer own' m) [
      | inl x ↦ keeps-same own own' x.3
      | inr x ↦ keeps-same own own' x.3
    ]
call-keeps routed now (call.Info id) answer own own' other m =
    elim (outcome (info_answer own id) (λ s. reply.Info s) own own answer own' m) [
      | inl x ↦ keeps-same own own' x.3
      | inr x ↦ keeps-same own own' x.3
    ]
call-keeps routed now (call.SockName id) answer own own' other m =
    elim (outcome (sockname_answer own id) (λ e. reply.Endpoint e) own own answer own' m) [
      | inl x ↦ keeps-same own own' x.3
      | inr x ↦ keeps-same own own' x.3
    ]
call-keeps routed now (call.PeerName id) answer own own' other m =
    elim (outcome (peername_answer own id) (λ e. reply.Endpoint e) own own answer own' m) [
      | inl x ↦ keeps-same own own' x.3
      | inr x ↦ keeps-same own own' x.3
    ]

-- what is given up takes connections away, or ends them
given_up-keeps : (own : SocketsView) (lost : Addr → Bool) (moment : Moment) → KeepsPairs own (after_giving_up own lost moment)
given_up-keeps own lost moment pair none =
    let now = later_moment own moment in
    unheld-all (give_up_fate_of lost now) (role_after_giving_up lost now) pair own.entries (unheld_given_up lost now) none

ticked-keeps : (own : SocketsView) (moment : Moment) → KeepsPairs own (table_ticks.after_tick own moment)
ticked-keeps own moment pair none = unheld-all (tick_fate_of (later_moment own moment)) (role_after_tick (later_moment own moment)) pair own.entries (unheld_ticked (later_moment own moment)) none

tick-keeps : (h : HostView) (moment : Moment) → KeepsPairs h.sockets (let w = host_ticks.after_tick h moment in w.sockets)
tick-keeps h moment pair none =
    let at = later_moment h.sockets moment in
    given_up-keeps (table_ticks.after_tick h.sockets at) (host_ticks.lacks_hop h at) at pair (ticked-keeps h.sockets at pair none)

sent-keeps : (own : SocketsView) (goes : Addr → Bool) (moment : Moment) → KeepsPairs own (after_segment_sent own goes moment)
sent-keeps own goes moment pair none = by_due (find (in_turn own (sends goes)) own.entries) refl
  where
    at : Moment
    at = later_moment own moment

    by_due : (o : Option Entry) → find (in_turn own (sends goes)) own.entries ≡ o → find (is_of_pair pair) (let w = after_segment_sent own goes moment in w.entries) ≡ None
    by_due None is = ap (λ (w : SocketsView). find (is_of_pair pair) w.entries) (segment_sent-none own goes moment is) ∙ none
    by_due (Some e) is =
        let due = found_due own goes e is in
        let what : Outgoing = due.0.1 in
        ap (λ (w : SocketsView). find (is_of_pair pair) w.entries) (segment_sent-found own goes moment e due.0 is due.1)
        ∙ unheld-settled (emission_fate_of (role_after_emission at what e.role)) (in_turn own (sends goes)) (role_after_emission at what) pair own.entries (unheld_emitted_at at what) none

emission-keeps : (h : HostView) (now : Moment) → KeepsPairs h.sockets (let w = after_emission h now in w.sockets)
emission-keeps h now pair none = by_emission (emission h moment)
  where
    moment : Moment
    moment = later_moment h.sockets now

    by_emission : (x : Emission) → find (is_of_pair pair) (let w = left_by h moment x in let t = w.sockets in t.entries) ≡ None
    by_emission (Replies place) = none
    by_emission (Sends mac to) = sent-keeps h.sockets (goes_out_from h moment) moment pair none
    by_emission (Asks hop) = none
    by_emission Nothing = none

-- such a step makes the host hold none
holds-none : (own own' : SocketsView) (pair : Pair) (id : SocketId) → KeepsPairs own own' → holder_id own pair ≡ None → holder_id own' pair ≡ Some id → ⊥
holds-none own own' pair id keeps free held =
    let still : holder_id own' pair ≡ None = ap (option_map (λ (e : Entry). e.id)) (keeps pair (unheld own pair free)) in
    let bad : Some id ≡ None = sym held ∙ still in
    cc

-- What is to be shown.

abbrev pub Noted : Event → WorldView → WorldView → Side → Pair → SocketId → Type 0
Noted happens old new side pair id = (o : Opening) × (o.side ≡ side) × (o.pair ≡ pair) × (o.id ≡ id) × (new.network.openings ≡ old.network.openings ++ o ∷ []) × IsBegun happens old new o

-- A connect.

connect-noted : (limit : ℕ) (hs ts : Side) (old new : WorldView) (isn : Seq) (i : SocketId) (peer : Endpoint) (answer : Answer) → IsOrderly limit hs ts old.network old.trace
    → Steps (event.Call hs (call.Connect isn i peer)) (length old.trace) answer old.network new.network → (x y : Endpoint) (id : SocketId)
    → holder_id (table_of old.network hs) (pair_of x y) ≡ None → holder_id (table_of new.network hs) (pair_of x y) ≡ Some id → Noted (event.Call hs (call.Connect isn i peer)) old new hs (pair_of x y) id
connect-noted limit hs ts old new isn i peer answer w step x y id free held =
    let own = table_of old.network hs in
    let own' = table_of new.network hs in
    let host' = host_of new.network hs in
    let routed = is_routed (host_of old.network hs).interface peer.addr in
    let c = call.Connect isn i peer in
    let now = clock_of old.network hs in
    elim (outcome (unless_refused (connect_refusal own i peer routed) (tt {0})) (λ _. reply.Started) (after_connect own now isn.0 i peer routed) own answer own' step.0.table) [
      | inl z ↦
          let k = connecting-host limit hs ts old.network old.trace w now isn i peer (length old.trace) (not_refused (connect_refusal own i peer routed) z.0 z.1) in
          let other = table_of old.network (other_side hs) in
          let o : Opening = record { side = hs; pair = k.pair; epoch = epoch_connected old.network.openings other k.pair; id = i; place = length old.trace } in
          let added : opened_by_connect old.network.openings hs i (length old.trace) own' other ≡ Some o = ap (λ v. opened_by_connect old.network.openings hs i (length old.trace) v other) z.3 ∙ k.opens in
          let here : holder_id own' k.pair ≡ Some i = ap (λ v. holder_id v k.pair) z.3 ∙ k.held in
          elim (k.others x y (unheld own (pair_of x y) free)) [
            | inl same ↦
                let ids : Some i ≡ Some id = sym here ∙ (ap (holder_id own') same ∙ held) in (
                  o,
                  refl,
                  same,
                  (cc),
                  host-opens old.network new.network hs host' (opened_by_connect old.network.openings hs i (length old.trace) own' other) (step.1 ∙ ap (λ r. after_call hs c r (length old.trace) old.network host') z.2) ∙ ap (λ l. old.network.openings ++ as_list l) added,
                  record { unheld = k.unheld; held = here; place = refl; epoch = epoch-rises old.network.openings other k.pair },
                )
            | inr none ↦
                let bad : Some id ≡ None = sym held ∙ (ap (λ v. holder_id v (pair_of x y)) z.3 ∙ ap (option_map (λ (e : Entry). e.id)) none) in
                absurd (cc)
          ]
      | inr z ↦ absurd (holds-none own own' (pair_of x y) id (keeps-same own own' z.3) free held)
    ]

-- A frame.

frame-noted : (limit : ℕ) (hs ts : Side) (old new : WorldView) (index : ℕ) (isn : Seq) (answer : Answer) → IsSoundHost (host_of old.network hs) → IsOrderly limit hs ts old.network old.trace → unfair_counted old.network (event.Deliver hs index isn) ≡ None
    → Steps (event.Deliver hs index isn) (length old.trace) answer old.network new.network → (x y : Endpoint) (id : SocketId)
    → holder_id (table_of old.network hs) (pair_of x y) ≡ None → holder_id (table_of new.network hs) (pair_of x y) ≡ Some id → Noted (event.Deliver hs index isn) old new hs (pair_of x y) id
frame-noted limit hs ts old new index isn answer sound w fair step x y id free held = of_frame (slice_get old.network.frames index) refl fair step
  where
    own : SocketsView
    own = table_of old.network hs

    host' : HostView
    host' = host_of new.network hs

    own' : SocketsView
    own' = host'.sockets

    pair : Pair
    pair = pair_of x y

    moment : Moment
    moment = later_moment own (clock_of old.network hs)

    of_pair : (f : Frame) (note : Note) → f.note ≡ Some note → note.pair ≡ pair → new.network ≡ after_delivery hs (length old.trace) f.note old.network host' → Noted (event.Deliver hs index isn) old new hs pair id
    of_pair f note noted same becomes =
        let o : Opening = record { side = hs; pair = note.pair; epoch = epoch_of old.network.openings note.pair; id = id; place = length old.trace } in
        let before : holder_id own note.pair ≡ None = ap (holder_id own) same ∙ free in
        let after : holder_id own' note.pair ≡ Some id = ap (holder_id own') same ∙ held in
        let added : opened_by_frame old.network.openings hs (length old.trace) note.pair own own' ≡ Some o =
        ap (λ v. held_anew old.network.openings hs (length old.trace) note.pair v (holder_id own' note.pair)) before ∙ ap (held_anew old.network.openings hs (length old.trace) note.pair None) after
        in
        let whole : new.network ≡ with_opening (with_host old.network hs host') (opened_by_frame old.network.openings hs (length old.trace) note.pair own own') =
        becomes ∙ ap (λ n. after_delivery hs (length old.trace) n old.network host') noted
        in (
          o,
          refl,
          same,
          refl,
          host-opens old.network new.network hs host' (opened_by_frame old.network.openings hs (length old.trace) note.pair own own') whole ∙ ap (λ l. old.network.openings ++ as_list l) added,
          record { unheld = before; held = after; place = refl; epoch = omega arith },
        )

    of_arrival : (f : Frame) (note : Note) (local peer : Endpoint) (s : Segment) (opened : Option Pair) → f.note ≡ Some note → note.pair ≡ pair_of local peer → Arrived own moment isn.0 local peer s opened own'
        → new.network ≡ after_delivery hs (length old.trace) f.note old.network host' → Noted (event.Deliver hs index isn) old new hs pair id
    of_arrival f note local peer s opened noted names (Ignored same) becomes = absurd (holds-none own own' pair id (keeps-same own own' same) free held)
    of_arrival f note local peer s opened noted names (Heard c l i offered found same) becomes =
        let at = later_moment own moment in
        let next : SocketsView = record own { entries = entries_after_step (fate c s) (is_between local peer) (role_after_segment at s) own.entries; offered = offered } in
        absurd (holds-none own own' pair id (keeps-next own next own' same (λ p none. unheld-heard (fate c s) local peer at s p own.entries none)) free held)
    of_arrival f note local peer s opened noted names (Began listener none opens foreseen same) becomes =
        let c = opened_passively (room_for own s) local peer isn.0 s (later_moment own moment) in
        let e : Entry = record { id = record { 0 = own.last_id + 1 }; role = Connected c (Some listener.id) } in
        elim (joined c (Some listener.id) x y) [
          | inl one ↦ of_pair f note noted (names ∙ one) becomes
          | inr out ↦
              let after : find (is_of_pair pair) (own.entries ++ e ∷ []) ≡ None = find-added_none (is_of_pair pair) own.entries e out ∙ unheld own pair free in
              let gone : holder_id own' pair ≡ None = ap (λ v. holder_id v pair) same ∙ ap (option_map (λ (e : Entry). e.id)) after in
              let bad : Some id ≡ None = sym held ∙ gone in
              absurd (cc)
        ]

    of_table : (f : Frame) → IsToTable (host_of old.network hs) host' moment isn.0 f.note → new.network ≡ after_delivery hs (length old.trace) f.note old.network host' → Noted (event.Deliver hs index isn) old new hs pair id
    of_table f (Aside same) becomes = absurd (holds-none own own' pair id (keeps-same own own' same) free held)
    of_table f (Brings r note noted names arrived) becomes = of_arrival f note (local_end own r.segment) (peer_end r.source r.segment) r.segment (segment_foreseen (host_of old.network hs) r.source r.segment) noted names arrived becomes
    of_table f (Receives source d same) becomes = absurd (holds-none own own' pair id (keeps-next own (after_reception own source d) own' same (λ p none. unheld-received own source d p none)) free held)
    of_table f (Tells local peer number same) becomes =
        absurd (holds-none own own' pair id (keeps-next own (after_unreachable own local peer number) own' same (λ p none. unheld-told own local peer number p none)) free held)

    of_sender : (f : Frame) → Carried hs ts w.a w.b w.bag f → same_side f.sender hs ≡ false → MeetsFrame (host_of old.network hs) (clock_of old.network hs) isn.0 f.octets.items answer host'
        → new.network ≡ after_delivery hs (length old.trace) f.note old.network host' → Noted (event.Deliver hs index isn) old new hs pair id
    of_sender f (inl c) not_ours meets becomes = absurd (not_own hs (ap (λ s. same_side s hs) (sym c.0) ∙ not_ours))
    of_sender f (inr c) not_ours meets becomes = of_table f (frame-to_table ts hs w.bag.arrived w.a (host_of old.network hs) host' (clock_of old.network hs) isn.0 f answer sound.own w.projects.own_addr c.1 meets) becomes

    of_frame : (o : Option Frame) → slice_get old.network.frames index ≡ o → unfair_frame old.network (written_at old.network) hs o ≡ None → DeliversFrame hs isn.0 (length old.trace) answer old.network new.network o
        → Noted (event.Deliver hs index isn) old new hs pair id
    of_frame None at fair step = absurd step
    of_frame (Some f) at fair step = of_sender f (All-at (Carried hs ts w.a w.b w.bag) old.network.frames index f w.carried at) (fair_sender old.network hs f fair).0 step.0 step.1

-- Every other event of a side.

call-noted : (limit : ℕ) (hs ts : Side) (old new : WorldView) (c : Call) (answer : Answer) → IsOrderly limit hs ts old.network old.trace → Steps (event.Call hs c) (length old.trace) answer old.network new.network → (x y : Endpoint) (id : SocketId)
    → holder_id (table_of old.network hs) (pair_of x y) ≡ None → holder_id (table_of new.network hs) (pair_of x y) ≡ Some id → Noted (event.Call hs c) old new hs (pair_of x y) id
call-noted limit hs ts old new (call.Connect isn i peer) answer w step x y id free held = connect-noted limit hs ts old new isn i peer answer w step x y id free held
call-noted limit hs ts old new c answer w step x y id free held =
    absurd (holds-none (table_of old.network hs) (table_of new.network hs) (pair_of x y) id (call-keeps (is_routed (host_of old.network hs).interface) (clock_of old.network hs) c answer (table_of old.network hs) (table_of new.network hs) refl step.0.table) free held)

tick-none : (side : Side) (moment : Moment) (answer : Answer) (place : ℕ) (n m : NetworkView) → Steps (event.Tick side moment) place answer n m → (pair : Pair) (id : SocketId) → holder_id (table_of n side) pair ≡ None → holder_id (table_of m side) pair ≡ Some id → ⊥
tick-none side moment answer place n m step pair id free held =
    let own = host_of n side in
    let next = host_ticks.after_tick own moment in
    let becomes : host_of m side ≡ next = ap (λ k. host_of k side) step.1 ∙ own-with n side (station_after_tick (station_of n side) moment) in
    holds-none own.sockets (table_of m side) pair id (keeps-next own.sockets next.sockets (table_of m side) (ap (λ (w : HostView). w.sockets) becomes) (tick-keeps own moment)) free held

emit-none : (side : Side) (answer : Answer) (n m : NetworkView) → MeetsEmission side answer n m → (pair : Pair) (id : SocketId) → holder_id (table_of n side) pair ≡ None → holder_id (table_of m side) pair ≡ Some id → ⊥
emit-none side (reply.Frame index len) n m step pair id free held =
    let own = host_of n side in
    let next = after_emission own (clock_of n side) in
    let x : Station = let s = station_of n side in record s { host = next } in
    let k : NetworkView = record (with_station n side x) { frames = n.frames ++ step.frame ∷ [] } in
    let becomes : host_of m side ≡ next = ap (λ v. host_of v side) step.after ∙ (own-again (with_station n side x) k side refl refl ∙ own-with n side x) in
    holds-none own.sockets (table_of m side) pair id (keeps-next own.sockets next.sockets (table_of m side) (ap (λ (w : HostView). w.sockets) becomes) (emission-keeps own (clock_of n side))) free held
emit-none side reply.NoFrame n m step pair id free held = holds-none (table_of n side) (table_of m side) pair id (keeps-same (table_of n side) (table_of m side) (ap (λ v. table_of v side) step.after)) free held
emit-none side _ n m step pair id free held = absurd step

-- The host of the other side.

opened-host : (n : NetworkView) (o : Option Opening) (side : Side) → host_of (with_opening n o) side ≡ host_of n side
opened-host n None side = refl
opened-host n (Some o) side = own-again n (with_opening n (Some o)) side refl refl

other-host : (n : NetworkView) (s t : Side) (h : HostView) → t ≡ other_side s → host_of (with_host n s h) t ≡ host_of n t
other-host n s t h opposite = other-with n s t (let x = station_of n s in record x { host = h }) opposite

called-other : (s t : Side) (c : Call) (answer : Answer) (place : ℕ) (n : NetworkView) (h : HostView) → t ≡ other_side s → host_of (after_call s c answer place n h) t ≡ host_of n t
called-other s t (call.Connect isn id peer) reply.Started place n h opposite = opened-host (with_host n s h) (opened_by_connect n.openings s id place h.sockets (table_of n (other_side s))) t ∙ other-host n s t h opposite
called-other s t (call.Send id octets) (reply.Sent count) place n h opposite = own-again (with_host n s h) (after_call s (call.Send id octets) (reply.Sent count) place n h) t refl refl ∙ other-host n s t h opposite
called-other s t _ _ place n h opposite = other-host n s t h opposite

delivered-other : (s t : Side) (place : ℕ) (note : Option Note) (n : NetworkView) (h : HostView) → t ≡ other_side s → host_of (after_delivery s place note n h) t ≡ host_of n t
delivered-other s t place None n h opposite = other-host n s t h opposite
delivered-other s t place (Some note) n h opposite = opened-host (with_host n s h) (opened_by_frame n.openings s place note.pair (table_of n s) h.sockets) t ∙ other-host n s t h opposite

-- the side that an event names
abbrev pub side_of : Event → Side
side_of (event.Call s c) = s
side_of (event.Tick s moment) = s
side_of (event.Emit s) = s
side_of (event.Deliver s index isn) = s

pub other-stays : (happens : Event) (place : ℕ) (answer : Answer) (n m : NetworkView) (t : Side) → t ≡ other_side (side_of happens) → Steps happens place answer n m → host_of m t ≡ host_of n t
other-stays (event.Call s c) place answer n m t opposite step = ap (λ v. host_of v t) step.1 ∙ called-other s t c answer place n (host_of m s) opposite
other-stays (event.Tick s moment) place answer n m t opposite step = ap (λ v. host_of v t) step.1 ∙ other-with n s t (station_after_tick (station_of n s) moment) opposite
other-stays (event.Emit s) place answer n m t opposite step = by_answer answer step
  where
    by_answer : (answer : Answer) → MeetsEmission s answer n m → host_of m t ≡ host_of n t
    by_answer (reply.Frame index len) step =
        let h = after_emission (host_of n s) (clock_of n s) in
        let k : NetworkView = record (with_host n s h) { frames = n.frames ++ step.frame ∷ [] } in
        ap (λ v. host_of v t) step.after ∙ (own-again (with_host n s h) k t refl refl ∙ other-host n s t h opposite)
    by_answer reply.NoFrame step = ap (λ v. host_of v t) step.after
    by_answer _ step = absurd step
other-stays (event.Deliver s index isn) place answer n m t opposite step = by_frame (slice_get n.frames index) step
  where
    by_frame : (o : Option Frame) → DeliversFrame s isn.0 place answer n m o → host_of m t ≡ host_of n t
    by_frame None step = absurd step
    by_frame (Some f) step = ap (λ v. host_of v t) step.1 ∙ delivered-other s t place f.note n (host_of m s) opposite

other-none : (happens : Event) (place : ℕ) (answer : Answer) (n m : NetworkView) (t : Side) → t ≡ other_side (side_of happens) → Steps happens place answer n m → (pair : Pair) (id : SocketId) → holder_id (table_of n t) pair ≡ None → holder_id (table_of m t) pair ≡ Some id → ⊥
other-none happens place answer n m t opposite step pair id free held = holds-none (table_of n t) (table_of m t) pair id (keeps-same (table_of n t) (table_of m t) (ap (λ (w : HostView). w.sockets) (other-stays happens place answer n m t opposite step))) free held

-- Every event.

pub holdings-noted : EveryHoldingIsNoted
holdings-noted limit old new (event.Call A c) answer reached step A x y id free held = call-noted limit A B old new c answer (orderly limit old reached) step.network x y id free held
holdings-noted limit old new (event.Call B c) answer reached step B x y id free held = call-noted limit B A old new c answer (orderly-swapped limit A B old.network old.trace (orderly limit old reached)) step.network x y id free held
holdings-noted limit old new (event.Call A c) answer reached step B x y id free held = absurd (other-none (event.Call A c) (length old.trace) answer old.network new.network B refl step.network (pair_of x y) id free held)
holdings-noted limit old new (event.Call B c) answer reached step A x y id free held = absurd (other-none (event.Call B c) (length old.trace) answer old.network new.network A refl step.network (pair_of x y) id free held)
holdings-noted limit old new (event.Tick A moment) answer reached step A x y id free held = absurd (tick-none A moment answer (length old.trace) old.network new.network step.network (pair_of x y) id free held)
holdings-noted limit old new (event.Tick B moment) answer reached step B x y id free held = absurd (tick-none B moment answer (length old.trace) old.network new.network step.network (pair_of x y) id free held)
holdings-noted limit old new (event.Tick A moment) answer reached step B x y id free held = absurd (other-none (event.Tick A moment) (length old.trace) answer old.network new.network B refl step.network (pair_of x y) id free held)
holdings-noted limit old new (event.Tick B moment) answer reached step A x y id free held = absurd (other-none (event.Tick B moment) (length old.trace) answer old.network new.network A refl step.network (pair_of x y) id free held)
holdings-noted limit old new (event.Emit A) answer reached step A x y id free held = absurd (emit-none A answer old.network new.network step.network (pair_of x y) id free held)
holdings-noted limit old new (event.Emit B) answer reached step B x y id free held = absurd (emit-none B answer old.network new.network step.network (pair_of x y) id free held)
holdings-noted limit old new (event.Emit A) answer reached step B x y id free held = absurd (other-none (event.Emit A) (length old.trace) answer old.network new.network B refl step.network (pair_of x y) id free held)
holdings-noted limit old new (event.Emit B) answer reached step A x y id free held = absurd (other-none (event.Emit B) (length old.trace) answer old.network new.network A refl step.network (pair_of x y) id free held)
holdings-noted limit old new (event.Deliver A index isn) answer reached step A x y id free held =
    let w = orderly limit old reached in
    frame-noted limit A B old new index isn answer step.sound_a w (same_unfair old (event.Deliver A index isn) (orderly-tallied limit A B old.network old.trace w) ∙ step.fair) step.network x y id free held
holdings-noted limit old new (event.Deliver B index isn) answer reached step B x y id free held =
    let w = orderly limit old reached in
    frame-noted limit B A old new index isn answer step.sound_b (orderly-swapped limit A B old.network old.trace w) (same_unfair old (event.Deliver B index isn) (orderly-tallied limit A B old.network old.trace w) ∙ step.fair) step.network x y id free held
holdings-noted limit old new (event.Deliver A index isn) answer reached step B x y id free held = absurd (other-none (event.Deliver A index isn) (length old.trace) answer old.network new.network B refl step.network (pair_of x y) id free held)
holdings-noted limit old new (event.Deliver B index isn) answer reached step A x y id free held = absurd (other-none (event.Deliver B index isn) (length old.trace) answer old.network new.network A refl step.network (pair_of x y) id free held)
