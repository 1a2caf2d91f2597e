-- What the calls of a socket make of its connection: `connect` has its SYN due, and `shutdown` its FIN.
use Rattle.std.proofs.Common.{◌≡◌, inl, inr, ℕ, ◌==◌, ◌^◌, ◌<◌, ◌||◌, ◌&&◌, not, nat_lt, if◌then◌else◌, Bool, true, false, [], length, Option, Some, None, option_map, is_some, Result, Ok, Err, arith, refl, sym, ◌∙◌, ap, subst}
use Rattle.std.proofs.lemmas.Bool.{lt-ltb}
use Rattle.std.specs.Option.{option_or}
use Rattle.std.specs.Result.{result_err}
use Rattle.std.specs.List.{find}
use Rattle.ipv4.specs.declared.addr.Endpoint.{Endpoint}
use Rattle.clock.specs.declared.moment.Moment.{Moment}
use Rattle.tcp_segment.specs.Wire.{past}
use Rattle.tcp_halves.specs.Halves.{Sending, Receiving, Room}
use Rattle.tcp_halves.specs.Stream.{outstanding}
use Rattle.tcp_halves.specs.Windows.{sendable, is_worth_sending}
use Rattle.tcp_halves.proofs.Choices.{unowed}
use Rattle.tcp_state.specs.Selective.{allowance}
use Rattle.tcp_state.specs.declared.calls.Refusal.{Refusal}
use Rattle.tcp_state.specs.declared.emission.Due.{Due}
use Rattle.tcp_state.specs.declared.emission.Due.TheVariants.{Rst, Syn, Text, Probe}
use Rattle.tcp_state.specs.declared.state.State.{State}
use Rattle.tcp_state.specs.Calls.{shutdown_refusal, after_shutdown}
use Rattle.tcp_state.specs.New.{sends_new, sends_fin, waits_no_longer}
use Rattle.tcp_state.specs.Due.{first_due, new_octets, fin_alone as fin_alone_of, ack_due, again_from, new_due}
use Rattle.tcp_state.specs.Duties.{IsShut}
use Rattle.tcp_state.specs.Edges as edge
use Rattle.tcp_state.specs.Timing.{probes}
use Rattle.tcp_state.specs.View.{View, IsSound, is_opening, is_closed, is_write_closed, awaits_fin_ack, opened_actively}
use Rattle.tcp_state.proofs.Shut.{shutdown_shuts}
use Rattle.sockets.specs.declared.entry.SocketId.{SocketId}
use Rattle.sockets.specs.declared.entry.Entry.{Entry}
use Rattle.sockets.specs.declared.role.Role.{Role}
use Rattle.sockets.specs.declared.role.Role.TheVariants.{Idle, Connected}
use Rattle.sockets.specs.declared.refusal.Refusal.{Refusal as table_refusal}
use Rattle.sockets.specs.declared.refusal.Refusal.TheVariants as table_variants
use Rattle.sockets.specs.Calls as table
use Rattle.sockets.specs.Causes.{Shuts as ShutsSocket, after_event}
use Rattle.sockets.specs.Closing.{entry_of}
use Rattle.sockets.specs.Entries.{is_socket, has_socket, with_role, role_after_connect}
use Rattle.sockets.specs.Ids.{has_id}
use Rattle.sockets.specs.Order.{IsOrdered}
use Rattle.sockets.specs.SocketsView.{SocketsView, role_of, later_moment}
use Rattle.sockets.specs.Lists.{change_first}
use Rattle.sockets.specs.Steps.{connected, view_left}
use Rattle.sockets.proofs.ByIds.{socket_found}
use Rattle.sockets.proofs.Ends.{eqb-same}
use Rattle.sockets.proofs.Followed.{by_test}
use Rattle.sockets.proofs.OneEvent.{socket_once}
use Rattle.sockets.proofs.Telling.{role_found}
use Rattle.interface.specs.Ways.{is_routed}
use Rattle.wire_sim.specs.declared.event.Answer.TheVariants as reply
use Rattle.wire_sim.specs.declared.event.Call.TheVariants as call
use Rattle.wire_sim.specs.Duties.{Has, EveryConnectAsks, EveryShutdownEnds}
use Rattle.wire_sim.specs.Handshakes.{IsAsking, IsAtRest, IsEnding, Shuts, fin_alone}
use Rattle.wire_sim.specs.HostRuns.{IsKept}
use Rattle.wire_sim.specs.Steps.{Answers, HostMeetsCall}
use Rattle.wire_sim.specs.WorldView.{host_of, table_of, clock_of}
use Rattle.wire_sim.proofs.HostsRun.{sound-at, tables-kept}
use Rattle.wire_sim.proofs.lists.FoundAfterChange.{find-passes, found-changed}
use Rattle.wire_sim.proofs.tables.TableById.{same_id}
use Rattle.wire_sim.proofs.two_ends.Closes.{same_numbers, none_marked}
use Rattle.wire_sim.proofs.two_ends.Meets.{sound_under}
use Rattle.wire_sim.proofs.two_ends.Travels.{found_once}
use Rattle.wire_sim.proofs.two_ends.UnderIds.{sole_id, connection_then}

-- The FIN that follows nothing is due as soon as our side is closed.
pub fin_due_first : (w : View) (n : ℕ) → n < 2 ^ 32 → w.owes_reset ≡ false → is_opening w.state ≡ false → awaits_fin_ack w.state ≡ true → w.resend.mark ≡ None → w.sending.una ≡ n → w.sending.nxt ≡ n → w.sending.held ≡ [] → 0 < w.sending.window
    → first_due w ≡ Some (Text fin_alone)
fin_due_first w n small reset opened awaits mark una nxt held room =
    let none : outstanding w.sending ≡ 0 = ap (λ m. past m w.sending.una) nxt ∙ (ap (past n) una ∙ same_numbers n small) in
    let least : sendable w.sending (allowance w) ≡ 0 = omega (arith, ap length held) in
    let none_new : sends_new w ≡ false = ap (λ m. nat_lt 0 m && is_worth_sending w.sending (allowance w) (waits_no_longer w)) least in
    let fin : sends_fin w ≡ true =
    ap (λ b. b && (outstanding w.sending == length w.sending.held) && nat_lt (outstanding w.sending) w.sending.window) awaits
    ∙ (ap (λ m. (m == length w.sending.held) && nat_lt m w.sending.window) none ∙ (ap (λ xs. (0 == length xs) && nat_lt 0 w.sending.window) held ∙ lt-ltb 0 w.sending.window room)) in
    ap (λ b. if b then Some Rst else later (is_opening w.state) w.resend.mark) reset
    ∙ (ap (λ b. later b w.resend.mark) opened
    ∙ (ap (λ m. later false m) mark
    ∙ (ap (λ b. if b then Some (Text (new_octets w)) else if sends_fin w then Some (Text (fin_alone_of w)) else if w.resend.owes_probe && probes w then Some Probe else ack_due w) none_new
    ∙ (ap (λ b. if b then Some (Text (fin_alone_of w)) else if w.resend.owes_probe && probes w then Some Probe else ack_due w) fin
    ∙ ap (λ m. Some (Text (record { offset = m; count = 0; fin = true }))) none))))
  where
    later : Bool → Option ℕ → Option Due
    later opens mark = if opens then (if (outstanding w.sending == 0) || is_some w.resend.mark then Some Syn else ack_due w) else option_or (again_from w mark) (new_due w)

-- Closing our side.
pub shut_by : (before after : State) (ours theirs : ℕ) (c : View) (now : Moment) → IsSound c → IsAtRest before ours theirs c → Shuts before after
    → (shutdown_refusal c ≡ None) × (let d = edge.after_event c (edge.Shuts now) in IsEnding after ours theirs d × (0 < c.sending.window → first_due d ≡ Some (Text fin_alone)))
shut_by before after ours theirs c now sound rests shuts =
    let open_yet : (is_opening c.state || is_closed c.state) ≡ false = ap (λ t. is_opening t || is_closed t) rests.in_state ∙ neither_of before after shuts in
    let shut = shutdown_shuts c now sound open_yet in
    let d = edge.after_event c (edge.Shuts now) in
    let is : d ≡ after_shutdown c now = ap (λ (o : Option Refusal). if is_some o then c else after_shutdown c now) shut.0 in
    let state_is : d.state ≡ after = state_of before after shuts rests.in_state shut.1 in
    let small : ours < 2 ^ 32 = subst (λ n. n < 2 ^ 32) rests.acknowledged sound.una in
    let unmarked : c.resend.mark ≡ None = none_marked c.resend.mark (outstanding c.sending) sound.mark (ap (λ n. past n c.sending.una) rests.sent ∙ (ap (past ours) rests.acknowledged ∙ same_numbers ours small)) in
    let reset : c.owes_reset ≡ false = unowed c.owes_reset (is_closed c.state) c.released (ap is_closed rests.in_state ∙ not_closed before after shuts) sound.reset in
    let mark : d.resend.mark ≡ None = ap (λ (v : View). v.resend.mark) is ∙ unmarked in
    let quiet : d.owes_reset ≡ false = ap (λ (v : View). v.owes_reset) is ∙ reset in
    let sending : d.sending ≡ c.sending = shut.1.sending in (
      shut.0,
      (
        record { in_state = state_is; fin = ap (λ (t : Sending). t.una) sending ∙ rests.acknowledged; held = ap (λ (t : Sending). t.held) sending ∙ rests.held; expects = ap (λ (r : Receiving). r.rnext) shut.1.receiving ∙ rests.expects },
        λ room. fin_due_first d ours small quiet (ap is_opening state_is ∙ not_opening before after shuts) (ap awaits_fin_ack state_is ∙ waits_now before after shuts) mark
            (ap (λ (t : Sending). t.una) sending ∙ rests.acknowledged) (ap (λ (t : Sending). t.nxt) sending ∙ rests.sent) (ap (λ (t : Sending). t.held) sending ∙ rests.held) (subst (λ (t : Sending). 0 < t.window) (sym sending) room),
      ),
    )
  where
    neither_of : (before after : State) → Shuts before after → (is_opening before || is_closed before) ≡ false
    neither_of before after (inl (first, then_so)) = ap (λ t. is_opening t || is_closed t) first
    neither_of before after (inr (first, then_so)) = ap (λ t. is_opening t || is_closed t) first

    not_closed : (before after : State) → Shuts before after → is_closed before ≡ false
    not_closed before after (inl (first, then_so)) = ap is_closed first
    not_closed before after (inr (first, then_so)) = ap is_closed first

    not_opening : (before after : State) → Shuts before after → is_opening after ≡ false
    not_opening before after (inl (first, then_so)) = ap is_opening then_so
    not_opening before after (inr (first, then_so)) = ap is_opening then_so

    waits_now : (before after : State) → Shuts before after → awaits_fin_ack after ≡ true
    waits_now before after (inl (first, then_so)) = ap awaits_fin_ack then_so
    waits_now before after (inr (first, then_so)) = ap awaits_fin_ack then_so

    state_of : (before after : State) → Shuts before after → c.state ≡ before → IsShut c (edge.after_event c (edge.Shuts now)) → (let d = edge.after_event c (edge.Shuts now) in d.state) ≡ after
    state_of before after (inl (first, then_so)) is shut = shut.first (is ∙ first) ∙ sym then_so
    state_of before after (inr (first, then_so)) is shut = shut.last (is ∙ first) ∙ sym then_so

-- The call of a socket in ESTABLISHED or CLOSE-WAIT.

unleft : (before after : State) (t : State) (left : Bool) → Shuts before after → t ≡ before → (left && not (is_write_closed t)) ≡ false → left ≡ false
unleft before after t false shuts is e = refl
unleft before after t true (inl (first, then_so)) is e = let bad : not (is_write_closed t) ≡ true = ap (λ x. not (is_write_closed x)) (is ∙ first) in let clash : true ≡ false = sym bad ∙ e in cc
unleft before after t true (inr (first, then_so)) is e = let bad : not (is_write_closed t) ≡ true = ap (λ x. not (is_write_closed x)) (is ∙ first) in let clash : true ≡ false = sym bad ∙ e in cc

pub shutdown_ends : EveryShutdownEnds
shutdown_ends limit side id before after ours theirs c w v answer reached step has rests shuts =
    let ordered = let k : IsKept (clock_of w.network side) h = tables-kept limit w reached side in k.ordered in
    let sound : IsSound c = sound_under (host_of w.network side) id c None (sound-at w v step side) has in
    let ends = shut_by before after ours theirs c h.kept sound rests shuts in
    let left : c.released ≡ false = unleft before after c.state c.released shuts rests.in_state sound.release in
    let named : is_socket id (connected id c None) ≡ true = ap (λ b. b && not c.released) (eqb-same id.0) ∙ ap not left in
    let found : find (is_socket id) h.entries ≡ Some (connected id c None) = found_once (is_socket id) (has_id id) h.entries (connected id c None) has named (socket_once h id ordered) in
    let taken : table.shutdown_refusal h id ≡ None = rw found (rw ends.0 refl) in
    let met : (answer ≡ reply.Done) × (table_of v.network side ≡ table.after_shutdown h id) = done (table.shutdown_refusal h id) taken (let m : HostMeetsCall (clock_of w.network side) (call.Shutdown id) (host_of w.network side) answer (host_of v.network side) = step.network.0 in m.table) in
    let there : entry_of (after_event h (ShutsSocket id)) id ≡ Some (connected id (edge.after_event c (edge.Shuts h.kept)) None) =
    connection_then h (ShutsSocket id) id c None ordered has (λ zs none. ap (find (has_id id)) none) ∙ ap (λ b. shown b) named in
    (met.0, (edge.after_event c (edge.Shuts h.kept), ap (λ (t : SocketsView). entry_of t id) met.1 ∙ there, ends.1.0, ends.1.1))
  where
    h : SocketsView
    h = table_of w.network side

    done : (r : Option table_refusal) → r ≡ None → Answers (table.unless_refused r (tt {0})) (λ _. reply.Done) (table.after_shutdown h id) h answer (table_of v.network side) → (answer ≡ reply.Done) × (table_of v.network side ≡ table.after_shutdown h id)
    done None is met = met
    done (Some refusal) is met = cc

    shown : Bool → Option Entry
    shown b = option_map (λ d. connected id d None) (view_left c (if b then Some (edge.Shuts h.kept) else None))

-- `connect`.

opens_idle : (role : Role) (bound : Option Endpoint) (local peer : Endpoint) (isn : ℕ) (now : Moment) → table.open_answer role ≡ Ok bound → (room : Room) × (has_socket role ≡ true) × (role_after_connect local peer isn now role ≡ Connected (opened_actively room local peer isn now) None)
opens_idle (Idle buffers b) bound local peer isn now e = (buffers, refl, refl)
opens_idle (Connected c l) bound local peer isn now e = absurd (none_opens c.state c.pending_error e)
  where
    none_opens : (t : State) (error : Option Refusal) → table.had_connection t error ≡ Ok bound → ⊥
    none_opens t (Some error) e = cc
    none_opens t None e = by_test (is_opening t) (λ yes. let bad : Err table_variants.EALREADY ≡ Ok bound = ap (λ b. if b then Err table_variants.EALREADY else Err table_variants.EISCONN) (sym yes) ∙ e in cc) (λ no. let bad : Err table_variants.EISCONN ≡ Ok bound = ap (λ b. if b then Err table_variants.EALREADY else Err table_variants.EISCONN) (sym no) ∙ e in cc)
opens_idle _ bound local peer isn now e = cc

pub connect_asks : EveryConnectAsks
connect_asks limit side id isn peer w v reached step = by_port (table.port_connected h id peer routed) refl
  where
    h : SocketsView
    h = table_of w.network side

    now : Moment
    now = clock_of w.network side

    routed : Bool
    routed = is_routed (let k = host_of w.network side in k.interface) peer.addr

    small : isn.0 < 2 ^ 32
    small = step.numbered

    ordered : IsOrdered h
    ordered = let k : IsKept (clock_of w.network side) h = tables-kept limit w reached side in k.ordered

    Asks : Type 0
    Asks = (c : View) × Has v side id None c × IsAsking isn.0 c × (c.peer ≡ peer) × (first_due c ≡ Some Syn)

    met : Answers (table.unless_refused (table.connect_refusal h id peer routed) (tt {0})) (λ _. reply.Started) (table.after_connect h now isn.0 id peer routed) h reply.Started (table_of v.network side)
    met = let m : HostMeetsCall (clock_of w.network side) (call.Connect isn id peer) (host_of w.network side) reply.Started (host_of v.network side) = step.network.0 in m.table

    none_out : (n : ℕ) → n < 2 ^ 32 → past n n ≡ 0
    none_out n fits = omega (arith, fits)

    opened : (port : ℕ) → table.port_connected h id peer routed ≡ Ok port → (role : Role) → role_of h id ≡ Some role → (bound : Option Endpoint) → table.open_answer role ≡ Ok bound → table_of v.network side ≡ table.after_connect h now isn.0 id peer routed → Asks
    opened port given role is bound opens new =
        let local : Endpoint = record { addr = h.addr; port = port } in
        let change = role_after_connect local peer isn.0 (later_moment h now) in
        let idle = opens_idle role bound local peer isn.0 (later_moment h now) opens in
        let x = role_found h id role is in
        let c : View = opened_actively idle.0 local peer isn.0 (later_moment h now) in
        let under : find (has_id id) h.entries ≡ Some x.0 = socket_found id 0 h.last_id h.entries x.0 ordered.ids x.1 in
        let at : has_id id x.0 ≡ true = find-passes (has_id id) h.entries x.0 under in
        let entry : with_role change x.0 ≡ connected id c None =
        ap (λ (i : SocketId). let e : Entry = record { id = i; role = change (let e = x.0 in e.role) } in e) (same_id (let e = x.0 in e.id) id at) ∙ ap (λ (r : Role). let e : Entry = record { id = id; role = r } in e) (ap change x.2 ∙ idle.2) in
        let changed : find (has_id id) (change_first (is_socket id) (with_role change) h.entries) ≡ Some (with_role change x.0) = found-changed (is_socket id) (has_id id) (with_role change) h.entries x.0 x.1 at at (sole_id id 0 h.last_id h.entries ordered.ids) in
        let after : (let t = table.after_connect h now isn.0 id peer routed in t.entries) ≡ change_first (is_socket id) (with_role change) h.entries = rw given refl in (
          c,
          ap (λ (t : SocketsView). entry_of t id) new ∙ (ap (find (has_id id)) after ∙ (changed ∙ ap (λ (e : Entry). Some e) entry)),
          record { state = refl; syn = refl },
          refl,
          ap (λ n. if (n == 0) || false then Some Syn else None) (none_out isn.0 small),
        )

    by_open : (port : ℕ) → table.port_connected h id peer routed ≡ Ok port → (o : Option Role) → role_of h id ≡ o → table_of v.network side ≡ table.after_connect h now isn.0 id peer routed → Asks
    by_open port given None is new = let bad : table.port_connected h id peer routed ≡ Err table_variants.EBADF = rw is in cc
    by_open port given (Some role) is new = by_answer (table.open_answer role) refl
      where
        by_answer : (r : Result (Option Endpoint) table_refusal) → table.open_answer role ≡ r → Asks
        by_answer (Ok bound) opens = opened port given role is bound opens new
        by_answer (Err refusal) opens = let bad : table.port_connected h id peer routed ≡ Err refusal = rw (is, opens) refl in cc

    by_port : (r : Result ℕ table_refusal) → table.port_connected h id peer routed ≡ r → Asks
    by_port (Err refusal) given =
        let told = subst (λ (r : Result ℕ table_refusal). Answers (table.unless_refused (result_err r) (tt {0})) (λ _. reply.Started) (table.after_connect h now isn.0 id peer routed) h reply.Started (table_of v.network side)) given met in
        let bad = told.0 in cc
    by_port (Ok port) given =
        let told = subst (λ (r : Result ℕ table_refusal). Answers (table.unless_refused (result_err r) (tt {0})) (λ _. reply.Started) (table.after_connect h now isn.0 id peer routed) h reply.Started (table_of v.network side)) given met in
        by_open port given (role_of h id) refl told.1
