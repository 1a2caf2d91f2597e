-- Why each host of a world is one that events of its own lead to.
use Rattle.host.proofs.Ran.{set_up-stays}
use Rattle.std.proofs.Common.{◌≡◌, ◌⊎◌, inl, inr, ◌≢◌, ℕ, zero, suc, ◌==◌, ◌<◌, ◌≤◌, ◌^◌, ◌++◌, ◌∷◌, [], List, Contains, length, slice_get, Bool, true, false, Option, Some, None, Result, Ok, Err, is_ok, arith, refl, sym, ◌∙◌, ap, subst}
use Rattle.std.specs.List.{AllByRecursion}
use Rattle.std.proofs.lemmas.Bool.{eqb-true}
use Rattle.std.proofs.lemmas.List.Elements.{Contains-append_left, Contains-append_right, Contains-append_cases}
use Rattle.ipv4.specs.declared.addr.Addr.{Addr}
use Rattle.ipv4.specs.declared.addr.Endpoint.{Endpoint}
use Rattle.tcp_halves.specs.declared.buffers.Manner.{Manner}
use Rattle.clock.specs.declared.moment.Moment.{Moment}
use Rattle.tcp_segment.specs.declared.seq.Seq.{Seq}
use Rattle.tcp_state.specs.declared.calls.Refusal.{Refusal as Error}
use Rattle.tcp_state.specs.declared.calls.Received.{Received}
use Rattle.tcp_state.specs.declared.calls.Received.TheVariants as received
use Rattle.ether.specs.declared.mac.Mac.{Mac}
use Rattle.frames.specs.declared.meaning.Meaning.{Meaning}
use Rattle.frames.specs.declared.meaning.Meaning.TheVariants.{Icmp}
use Rattle.frames.specs.Meaning.{heard}
use Rattle.interface.specs.InterfaceView.{InterfaceView}
use Rattle.interface.specs.Ways.{is_routed}
use Rattle.sockets.specs.Info.{info_answer}
use Rattle.sockets.specs.Ready.{readiness}
use Rattle.sockets.specs.declared.role.Leave.TheVariants.{Close, Abort}
use Rattle.sockets.specs.declared.entry.Entry.{Entry}
use Rattle.sockets.specs.declared.entry.Kind.{Kind}
use Rattle.sockets.specs.declared.entry.Kind.TheVariants.{Tcp, Udp}
use Rattle.sockets.specs.declared.entry.SocketId.{SocketId}
use Rattle.sockets.specs.declared.role.Role.{Role}
use Rattle.sockets.specs.declared.role.Role.TheVariants.{Idle, Connected, Listener as RoleListener, Datagrams as RoleDatagrams}
use Rattle.sockets.specs.declared.refusal.Refusal.{Refusal}
use Rattle.sockets.specs.declared.refusal.Refusal.TheVariants.{EMFILE, ENOMEM}
use Rattle.sockets.specs.Calls.{unless_refused, bind_refusal, listen_refusal, accept_answer, connect_refusal, send_answer, recv_answer, shutdown_refusal, nodelay_refusal, keepalive_refusal, close_refusal, state_answer, sockname_answer, peername_answer}
use Rattle.sockets.specs.Causes as table
use Rattle.sockets.specs.Datagrams.{sendto_answer, recvfrom_answer}
use Rattle.sockets.specs.Order.{IsAllowed}
use Rattle.sockets.specs.Ids.{has_id}
use Rattle.sockets.specs.SocketsView.{SocketsView, room_of}
use Rattle.sockets.specs.Timing as timing
use Rattle.sockets.specs.Timing.{AreNear, IsNearIn}
use Rattle.sockets.proofs.Followed.{some_same}
use Rattle.sockets.proofs.Near.{fresh_near, deadline_near, deadline_in_a_day}
use Rattle.sockets.proofs.Telling.{socket_told, role_tells}
use Rattle.host.specs.Emission.{after_emission, emission_octets}
use Rattle.host.specs.HostView.{HostView, new_host, sizes_of}
use Rattle.host.specs.Runs.{Event as HostEvent, Calls, Ticks, Delivers, Emits, IsCall, IsAsked, IsNumbered, IsUpTo, Makes, Runs, Begins, GoesOn}
use Rattle.host.specs.Sound.{IsSoundHost}
use Rattle.host.specs.ConfigView.{ConfigView}
use Rattle.routes.specs.declared.route.Route.{Route}
use Rattle.host.specs.Runs as host_runs
use Rattle.host.proofs.Causes.{all-behind, run-stands}
use Rattle.host.proofs.Messages.{request-there, cause-there}
use Rattle.host.proofs.Tables.{event-near, event-tells, event-given, run-reached, run-ordered, run-over, run-timed}
use Rattle.sides.specs.declared.side.Side.{Side}
use Rattle.sides.specs.declared.side.Side.TheVariants.{A, B}
use Rattle.sides.specs.Sides.{other_side}
use Rattle.wire_sim.specs.declared.event.Answer.{Answer}
use Rattle.wire_sim.specs.declared.event.Answer.TheVariants as reply
use Rattle.wire_sim.specs.declared.event.Call.{Call}
use Rattle.wire_sim.specs.declared.event.Call.TheVariants as call
use Rattle.wire_sim.specs.declared.event.Event.{Event}
use Rattle.wire_sim.specs.declared.event.Event.TheVariants as event
use Rattle.wire_sim.specs.declared.event.Unfair.{Unfair}
use Rattle.wire_sim.specs.declared.world.bag.Frame.{Frame}
use Rattle.wire_sim.specs.declared.world.station.Station.{Station}
use Rattle.wire_sim.specs.declared.event.Happening.{Happening}
use Rattle.wire_sim.specs.HostRuns.{WasDelivered, AreTraced, HasRun, EveryHostRuns, IsKept, IsTold, EveryTableIsKept, EveryDeadlineLiesNear, EveryErrorStays, EverySocketTellsOn, WasHeard, HasCause, EveryMessageHasItsCause}
use Rattle.wire_sim.specs.Runs as world
use Rattle.wire_sim.specs.Runs.{IsReached, begins, goes_on, IsStep, IsNumberedCall, IsOutcome, RunsTo}
use Rattle.wire_sim.specs.Steps.{Answers, MeetsSocket, recv_len, MeetsReceived, MeetsReceivedFrom, MeetsCall, HostMeetsCall, with_host, station_after_tick, MeetsFrame, DeliversFrame, EmitsFrame, MeetsEmission, Steps}
use Rattle.wire_sim.specs.WorldView.{NetworkView, WorldView, station_of, host_of, table_of, clock_of}
use Rattle.wire_sim.proofs.fairness.NotesAreTraced.{frames-step, got-still, got-last}
use Rattle.host.specs.declared.sizes.Sizes.{Sizes}
use Rattle.host.proofs.Causes.{run-stands}
use Rattle.host.proofs.Tables.{run-manner}
use Rattle.wire_sim.proofs.passage.HostsStay.{run-stays}
use Rattle.wire_sim.proofs.openings.HoldingsAreNoted.{other-stays, side_of}
use Rattle.wire_sim.proofs.runs.ClocksGoOn.{clock-goes-on, tick-told}
use Rattle.wire_sim.proofs.runs.RunsAreLawful.{own-again, own-with}

-- What a call makes of a table, behind an interface: it stays, or takes one event that is allowed, and is a call.

abbrev IsCalled : InterfaceView → Moment → SocketsView → SocketsView → Type 0
IsCalled i now h new = (new ≡ h) ⊎ ((e : table.Event) × IsAllowed h e × timing.IsNumbered e × ((latest : Moment) → now.0 ≤ latest.0 → timing.IsUpTo latest e) × (new ≡ table.after_event h e) × IsCall i.routes e)

-- a call that changes nothing
asked : {T : Type 0} (i : InterfaceView) (now : Moment) (r : Result T Refusal) (told : T → Answer) (h : SocketsView) (answer : Answer) (new : SocketsView) → Answers r told h h answer new → IsCalled i now h new
asked i now (Ok value) told h answer new meets = inl meets.1
asked i now (Err refusal) told h answer new meets = inl meets.1

-- a call that is allowed where it is answered
answered : {T : Type 0} (i : InterfaceView) (now : Moment) (r : Result T Refusal) (told : T → Answer) (h : SocketsView) (e : table.Event) (answer : Answer) (new : SocketsView) → timing.IsNumbered e → ((latest : Moment) → now.0 ≤ latest.0 → timing.IsUpTo latest e) → IsCall i.routes e → (is_ok r ≡ true → IsAllowed h e) → Answers r told (table.after_event h e) h answer new → IsCalled i now h new
answered i now (Ok value) told h e answer new small up own allowed meets = inr (e, allowed refl, small, up, meets.1, own)
answered i now (Err refusal) told h e answer new small up own allowed meets = inl meets.1

-- .. or where it isn't refused
unrefused : (r : Option Refusal) → is_ok (unless_refused r (tt {0})) ≡ true → r ≡ None
unrefused None is = refl
unrefused (Some refusal) is = cc

made : (i : InterfaceView) (now : Moment) (kind : Kind) (h : SocketsView) (answer : Answer) (new : SocketsView) → MeetsSocket kind h answer new → IsCalled i now h new
made i now Tcp h (reply.Socket id) new meets = inr (table.Makes (room_of h.sizes.buffer h.manner), (meets.0, refl), tt, λ latest up. tt, meets.2, tt)
made i now Udp h (reply.Socket id) new meets = inr (table.MakesDatagrams, meets.0, tt, λ latest up. tt, meets.2, tt)
made i now kind h (reply.Refused EMFILE) new meets = inl meets.1
made i now kind h (reply.Refused ENOMEM) new meets = inl meets.1
made i now kind h _ new meets = absurd meets

read : (i : InterfaceView) (now : Moment) (h : SocketsView) (id : SocketId) (len : ℕ) (r : Result Received Refusal) → recv_answer h id len ≡ r → (answer : Answer) (new : SocketsView) → MeetsReceived h id len r answer new → IsCalled i now h new
read i now h id len (Ok (received.Octets count)) is (reply.Octets octets) new meets = inr (table.Receives id len, ap is_ok is, tt, λ latest up. tt, meets.1, tt)
read i now h id len (Ok received.EndOfStream) is reply.EndOfStream new meets = inr (table.Receives id len, ap is_ok is, tt, λ latest up. tt, meets, tt)
read i now h id len (Err refusal) is (reply.Refused told) new meets = inl meets.1
read i now h id len _ is _ new meets = absurd meets

read_from : (i : InterfaceView) (now : Moment) (h : SocketsView) (id : SocketId) (len : ℕ) (r : Result (ℕ × Endpoint) Refusal) → recvfrom_answer h id len ≡ r → (answer : Answer) (new : SocketsView) → MeetsReceivedFrom h id r answer new → IsCalled i now h new
read_from i now h id len (Ok (count, from)) is (reply.Datagram octets told) new meets = inr (table.ReceivesFrom id len, ap is_ok is, tt, λ latest up. tt, meets.2, tt)
read_from i now h id len (Err refusal) is (reply.Refused told) new meets = inl meets.1
read_from i now h id len _ is _ new meets = absurd meets

called : (i : InterfaceView) (now : Moment) (c : Call) (h : SocketsView) (answer : Answer) (new : SocketsView) → IsNumberedCall c → MeetsCall (is_routed i) now c h answer new → IsCalled i now h new
called i now (call.Socket kind) h answer new small meets = made i now kind h answer new meets
called i now (call.Bind id local) h answer new small meets = answered i now _ _ h (table.Binds id local) answer new tt (λ latest up. tt) tt (unrefused (bind_refusal h id local)) meets
called i now (call.Listen id backlog) h answer new small meets = answered i now _ _ h (table.Listens id backlog) answer new tt (λ latest up. tt) tt (unrefused (listen_refusal h id backlog)) meets
called i now (call.Accept id) h answer new small meets = answered i now (accept_answer h id) _ h (table.Accepts id) answer new tt (λ latest up. tt) tt (λ taken. taken) meets
called i now (call.Connect isn id peer) h answer new small meets = answered i now _ _ h (table.Connects now isn.0 id peer (is_routed i peer.addr)) answer new small (λ latest up. up) refl (unrefused (connect_refusal h id peer (is_routed i peer.addr))) meets
called i now (call.Send id octets) h answer new small meets = answered i now (send_answer h id octets.items) _ h (table.Sends id octets.items) answer new tt (λ latest up. tt) tt (λ taken. taken) meets
called i now (call.Recv id len) h answer new small meets = read i now h id (recv_len len) (recv_answer h id (recv_len len)) refl answer new meets
called i now (call.SendTo id peer octets) h answer new small meets = answered i now (sendto_answer h id peer octets.items (is_routed i peer.addr)) _ h (table.SendsTo id peer octets.items (is_routed i peer.addr)) answer new tt (λ latest up. tt) refl (λ taken. taken) meets
called i now (call.RecvFrom id len) h answer new small meets = read_from i now h id (recv_len len) (recvfrom_answer h id (recv_len len)) refl answer new meets
called i now (call.Shutdown id) h answer new small meets = answered i now _ _ h (table.Shuts id) answer new tt (λ latest up. tt) tt (unrefused (shutdown_refusal h id)) meets
called i now (call.SetNoDelay id on) h answer new small meets = answered i now _ _ h (table.SetsNoDelay id on) answer new tt (λ latest up. tt) tt (unrefused (nodelay_refusal h id)) meets
called i now (call.SetKeepAlive id every) h answer new small meets = answered i now _ _ h (table.SetsKeepAlive id every) answer new tt (λ latest up. tt) tt (unrefused (keepalive_refusal h id every)) meets
called i now (call.Close id) h answer new small meets = answered i now _ _ h (table.Leaves Close id) answer new tt (λ latest up. tt) tt (unrefused (close_refusal h id)) meets
called i now (call.Abort id) h answer new small meets = answered i now _ _ h (table.Leaves Abort id) answer new tt (λ latest up. tt) tt (unrefused (close_refusal h id)) meets
called i now (call.GiveWay id) h answer new small meets = answered i now (Ok (tt {0})) (λ _. reply.Done) h (table.GivesWay (has_id id)) answer new tt (λ latest up. tt) tt (λ _. tt) meets
called i now (call.State id) h answer new small meets = asked i now (state_answer h id) _ h answer new meets
called i now (call.Ready id) h answer new small meets = asked i now (readiness h id) _ h answer new meets
called i now (call.Info id) h answer new small meets = asked i now (info_answer h id) _ h answer new meets
called i now (call.SockName id) h answer new small meets = asked i now (sockname_answer h id) _ h answer new meets
called i now (call.PeerName id) h answer new small meets = asked i now (peername_answer h id) _ h answer new meets

-- What an event of a world makes of a host: it stays, or takes one event of its own, and what that delivers is a frame that the event delivered.

-- the event delivers this to a side
pub record Brings (n : NetworkView) (side : Side) (happens : Event) (octets : List ℕ) : Type 0 where
  pub index : ℕ
  pub isn : Seq
  pub is : happens ≡ event.Deliver side index isn
  pub frame : Frame
  pub there : slice_get n.frames index ≡ Some frame
  pub carries : frame.octets.items ≡ octets

abbrev pub AreBrought : NetworkView → Side → Event → HostEvent → Type 0
AreBrought n side happens e = (now : Moment) (isn : ℕ) (octets : List ℕ) → e ≡ Delivers now isn octets → Brings n side happens octets

-- a call of a host is one of its table's events that a socket's call is
abbrev pub IsOwnCall : List Route → HostEvent → Type 0
IsOwnCall routes (Calls e) = IsCall routes e
IsOwnCall routes (Ticks now) = Unit {0}
IsOwnCall routes (Delivers now isn octets) = Unit {0}
IsOwnCall routes (Emits now) = Unit {0}

-- and that names no later moment than this
abbrev pub IsMoved : NetworkView → Moment → Side → Event → HostView → HostView → Type 0
IsMoved n latest side happens h new = (new ≡ h) ⊎ ((e : HostEvent) × IsNumbered e × Makes e h new × AreBrought n side happens e × IsUpTo latest e × IsOwnCall h.interface.routes e)

call-moves : (n : NetworkView) (now latest : Moment) → now.0 ≤ latest.0 → (s : Side) (c : Call) (h : HostView) (answer : Answer) (new : HostView) → IsNumberedCall c → HostMeetsCall now c h answer new → IsMoved n latest s (event.Call s c) h new
call-moves n now latest before s c h answer new small meets = by_table (called h.interface now c h.sockets answer new.sockets small meets.table)
  where
    with_table : (t : SocketsView) → new.sockets ≡ t → new ≡ record h { sockets = t }
    with_table t is = meets.others ∙ ap (λ (x : SocketsView). let k : HostView = record h { sockets = x } in k) is

    by_table : IsCalled h.interface now h.sockets new.sockets → IsMoved n latest s (event.Call s c) h new
    by_table (inl same) = inl (with_table h.sockets same)
    by_table (inr (e, allowed, numbered, up, is, own)) = inr (Calls e, numbered, (allowed, with_table (table.after_event h.sockets e) is), λ then isn octets none. cc, up latest before, own)

frame-moves : (n : NetworkView) (latest : Moment) (s : Side) (index : ℕ) (number : Seq) (f : Frame) (h : HostView) (now : Moment) (answer : Answer) (new : HostView) → number.0 < 2 ^ 32 → now.0 ≤ latest.0 → slice_get n.frames index ≡ Some f
    → MeetsFrame h now number.0 f.octets.items answer new → IsMoved n latest s (event.Deliver s index number) h new
frame-moves n latest s index number f h now answer new small up there meets = by_answer answer meets
  where
    brings : AreBrought n s (event.Deliver s index number) (Delivers now number.0 f.octets.items)
    brings then isn octets is = record { index = index; isn = number; is = refl; frame = f; there = there; carries = (let same : f.octets.items ≡ octets = cc in same) }

    by_answer : (answer : Answer) → MeetsFrame h now number.0 f.octets.items answer new → IsMoved n latest s (event.Deliver s index number) h new
    by_answer reply.Taken meets = inr (Delivers now number.0 f.octets.items, small, (Ok tt, meets), brings, up, tt)
    by_answer (reply.Dropped cause) meets = inr (Delivers now number.0 f.octets.items, small, (Err cause, meets), brings, up, tt)
    by_answer _ meets = absurd meets

own-moves : (happens : Event) (place : ℕ) (answer : Answer) (n m : NetworkView) → world.IsNumbered happens → Steps happens place answer n m → IsMoved n (clock_of m (side_of happens)) (side_of happens) happens (host_of n (side_of happens)) (host_of m (side_of happens))
own-moves (event.Call s c) place answer n m small step = call-moves n (clock_of n s) (clock_of m s) (clock-goes-on (event.Call s c) place answer n m step s) s c (host_of n s) answer (host_of m s) small step.0
own-moves (event.Tick s moment) place answer n m small step =
    inr (Ticks moment, tt, ap (λ (k : NetworkView). host_of k s) step.1 ∙ own-with n s (station_after_tick (station_of n s) moment), λ now isn octets none. cc, tick-told s moment place answer n m step, tt)
own-moves (event.Emit s) place answer n m small step = by_answer answer step
  where
    by_answer : (answer : Answer) → MeetsEmission s answer n m → IsMoved n (clock_of m s) s (event.Emit s) (host_of n s) (host_of m s)
    by_answer (reply.Frame index len) step =
        let next : HostView = after_emission (host_of n s) (clock_of n s) in
        let x : Station = let t = station_of n s in record t { host = next } in
        let k : NetworkView = record (with_host n s next) { frames = n.frames ++ step.frame ∷ [] } in
        inr (Emits (clock_of n s), tt, ap (λ (v : NetworkView). host_of v s) step.after ∙ (own-again (with_host n s next) k s refl refl ∙ own-with n s x), λ now isn octets none. cc, clock-goes-on (event.Emit s) place (reply.Frame index len) n m step s, tt)
    by_answer reply.NoFrame step = inl (ap (λ (v : NetworkView). host_of v s) step.after)
    by_answer _ step = absurd step
own-moves (event.Deliver s index isn) place answer n m small step = by_frame (slice_get n.frames index) refl step
  where
    up : (let c = clock_of n s in let k = clock_of m s in c.0 ≤ k.0)
    up = clock-goes-on (event.Deliver s index isn) place answer n m step s

    by_frame : (o : Option Frame) → slice_get n.frames index ≡ o → DeliversFrame s isn.0 place answer n m o → IsMoved n (clock_of m s) s (event.Deliver s index isn) (host_of n s) (host_of m s)
    by_frame None there step = absurd step
    by_frame (Some f) there step = frame-moves n (clock_of m s) s index isn f (host_of n s) (clock_of n s) answer (host_of m s) small up there step.0

-- the side that an event names, and the other one
both-sides : (s t : Side) → (s ≡ t) ⊎ (s ≡ other_side t)
both-sides A A = inl refl
both-sides A B = inr refl
both-sides B A = inr refl
both-sides B B = inl refl

pub moved : (old new : WorldView) (happens : Event) (answer : Answer) → IsStep happens answer old new → (side : Side) → IsMoved old.network (clock_of new.network side) side happens (host_of old.network side) (host_of new.network side)
moved old new happens answer step side = by_side (both-sides side (side_of happens))
  where
    by_side : (side ≡ side_of happens) ⊎ (side ≡ other_side (side_of happens)) → IsMoved old.network (clock_of new.network side) side happens (host_of old.network side) (host_of new.network side)
    by_side (inl own) = subst (λ (s : Side). IsMoved old.network (clock_of new.network s) s happens (host_of old.network s) (host_of new.network s)) (sym own) (own-moves happens (length old.trace) answer old.network new.network step.numbered step.network)
    by_side (inr other) = inl (other-stays happens (length old.trace) answer old.network new.network side other step.network)

-- What was delivered once stays so.

pub frames-stay : (happens : Event) (place : ℕ) (answer : Answer) (n m : NetworkView) → Steps happens place answer n m → (index : ℕ) (f : Frame) → slice_get n.frames index ≡ Some f → slice_get m.frames index ≡ Some f
frames-stay happens place answer n m step index f there = elim (frames-step happens place answer n m step) [
  | inl same ↦ subst (λ (fs : List Frame). slice_get fs index ≡ Some f) (sym same) there
  | inr puts ↦ subst (λ (k : NetworkView). slice_get k.frames index ≡ Some f) (sym puts.emits.after) (got-still n.frames puts.emits.frame index f there)
]

delivered-on : (w v : WorldView) (happens : Event) (answer : Answer) → IsStep happens answer w v → (side : Side) (octets : List ℕ) → WasDelivered w side octets → WasDelivered v side octets
delivered-on w v happens answer step side octets d = record {
  index = d.index;
  isn = d.isn;
  answer = d.answer;
  happened = subst (λ (hs : List Happening). Contains hs (record { event = event.Deliver side d.index d.isn; answer = d.answer })) (sym step.trace)
      (Contains-append_left w.trace (record { event = happens; answer = answer } ∷ []) (record { event = event.Deliver side d.index d.isn; answer = d.answer }) d.happened);
  frame = d.frame;
  there = frames-stay happens (length w.trace) answer w.network v.network step.network d.index d.frame d.there;
  carries = d.carries;
}

delivered-now : (w v : WorldView) (happens : Event) (answer : Answer) → IsStep happens answer w v → (side : Side) (octets : List ℕ) → Brings w.network side happens octets → WasDelivered v side octets
delivered-now w v happens answer step side octets b = record {
  index = b.index;
  isn = b.isn;
  answer = answer;
  happened = subst (λ (e : Event). Contains v.trace (record { event = e; answer = answer })) b.is (subst (λ (hs : List Happening). Contains hs (record { event = happens; answer = answer })) (sym step.trace)
      (Contains-append_right w.trace (record { event = happens; answer = answer } ∷ []) (record { event = happens; answer = answer }) (0, omega arith, refl)));
  frame = b.frame;
  there = frames-stay happens (length w.trace) answer w.network v.network step.network b.index b.frame b.there;
  carries = b.carries;
}

-- a host keeps its size
sized : (c : ConfigView) (events : List HostEvent) (h : HostView) → Runs c events h → c.sizes ≡ sizes_of h
sized c events h runs = let stays = set_up-stays c events h runs in sym stays.5

-- and its set-up
set-up : (c : ConfigView) (events : List HostEvent) (h : HostView) → Runs c events h → c ≡ record { mac = h.interface.mac; addr = h.interface.addr; routes = h.interface.routes; manner = h.sockets.manner; sizes = sizes_of h }
set-up c events h runs =
    let s = run-stays c events h runs in
    let with_mac : Mac → ConfigView = λ m. record { mac = m; addr = c.addr; routes = c.routes; manner = c.manner; sizes = c.sizes } in
    let with_addr : Addr → ConfigView = λ a. record { mac = h.interface.mac; addr = a; routes = c.routes; manner = c.manner; sizes = c.sizes } in
    let with_routes : List Route → ConfigView = λ rs. record { mac = h.interface.mac; addr = h.interface.addr; routes = rs; manner = c.manner; sizes = c.sizes } in
    let with_manner : Manner → ConfigView = λ m. record { mac = h.interface.mac; addr = h.interface.addr; routes = h.interface.routes; manner = m; sizes = c.sizes } in
    let with_sizes : Sizes → ConfigView = λ z. record { mac = h.interface.mac; addr = h.interface.addr; routes = h.interface.routes; manner = h.sockets.manner; sizes = z } in
    ap with_mac (sym s.mac) ∙ (ap with_addr (sym s.addr) ∙ (ap with_routes (sym s.routes) ∙ (ap with_manner (sym (run-manner c events h runs)) ∙ ap with_sizes (sized c events h runs))))

-- what may be asked of a host is what its own routes know
asked-own : (c : ConfigView) (routes : List Route) (e : HostEvent) → c.routes ≡ routes → IsOwnCall routes e → IsAsked c e
asked-own c routes (Calls e) same own = subst (λ (rs : List Route). IsCall rs e) (sym same) own
asked-own c routes (Ticks now) same own = tt
asked-own c routes (Delivers now isn octets) same own = tt
asked-own c routes (Emits now) same own = tt

-- a host that goes on
run-on : (w v : WorldView) (happens : Event) (answer : Answer) → IsStep happens answer w v → (side : Side) → IsSoundHost (host_of w.network side) → IsMoved w.network (clock_of v.network side) side happens (host_of w.network side) (host_of v.network side) → HasRun w side → HasRun v side
run-on w v happens answer step side sound (inl same) r =
    let before = r.run in
    let runs : Runs before.config before.events (host_of v.network side) = subst (Runs before.config before.events) (sym same) before.runs in
    record {
      run = record { config = before.config; set_up = before.set_up; events = before.events; asked = before.asked; runs = runs };
      own = set-up before.config before.events (host_of v.network side) runs;
      traced = λ now isn octets within. delivered-on w v happens answer step side octets (r.traced now isn octets within);
    }
run-on w v happens answer step side sound (inr (e, numbered, makes, brings, up, own)) r =
    let before = r.run in
    let routes : before.config.routes ≡ (let h = host_of w.network side in h.interface.routes) = ap (λ (c : ConfigView). c.routes) r.own in
    let runs : Runs before.config (before.events ++ e ∷ []) (host_of v.network side) = GoesOn before.events e (host_of w.network side) (host_of v.network side) before.runs sound numbered makes in
    record {
      run = record {
        config = before.config;
        set_up = before.set_up;
        events = before.events ++ e ∷ [];
        asked = all-behind (IsAsked before.config) before.events e before.asked (asked-own before.config _ e routes own);
        runs = runs;
      };
      own = set-up before.config (before.events ++ e ∷ []) (host_of v.network side) runs;
      traced = λ now isn octets within. elim (Contains-append_cases before.events (e ∷ []) (Delivers now isn octets) within) [
        | inl earlier ↦ delivered-on w v happens answer step side octets (r.traced now isn octets earlier)
        | inr now_so ↦ delivered-now w v happens answer step side octets (brings now isn octets (only e (Delivers now isn octets) now_so))
      ];
    }
  where
    only : (x y : HostEvent) → Contains (x ∷ []) y → x ≡ y
    only x y (zero, within, is) = is
    only x y (suc k, within, is) = absurd (omega (arith, within))

pub sound-at : {happens : Event} {answer : Answer} (old new : WorldView) → IsStep happens answer old new → (side : Side) → IsSoundHost (host_of old.network side)
sound-at old new step A = step.sound_a
sound-at old new step B = step.sound_b

nothing-traced : (w : WorldView) (side : Side) → AreTraced w side []
nothing-traced w side now isn octets (k, within, is) = absurd (omega (arith, within))

-- Any world.

pub hosts-run : EveryHostRuns
hosts-run limit w (begins a b a_is b_is apart small) A = record { run = record { config = a; set_up = a_is; events = []; asked = tt; runs = Begins }; own = set-up a [] (new_host a) Begins; traced = nothing-traced w A }
hosts-run limit w (begins a b a_is b_is apart small) B = record { run = record { config = b; set_up = b_is; events = []; asked = tt; runs = Begins }; own = set-up b [] (new_host b) Begins; traced = nothing-traced w B }
hosts-run limit _ (goes_on w v happens answer reached step) side = run-on w v happens answer step side (sound-at w v step side) (moved w v happens answer step side) (hosts-run limit w reached side)

-- a table is near what a later clock shows, where it is near what an earlier one does
nearer : (before after : Moment) (h : SocketsView) → before.0 ≤ after.0 → AreNear before h → AreNear after h
nearer before after h on_clock near = record { kept = omega (arith, near.kept, on_clock); each = each h.entries near.each }
  where
    by_role : (r : Role) → IsNearIn before r → IsNearIn after r
    by_role (Connected c l) near = record { since = omega (arith, near.since, on_clock); unheard = λ since is. omega (arith, near.unheard since is, on_clock); timers = λ kind end set. omega (arith, near.timers kind end set, on_clock); asked = omega (arith, near.asked, on_clock); drawn = omega (arith, near.drawn, on_clock) }
    by_role (Idle buffers bound) near = tt
    by_role (RoleListener local backlog) near = tt
    by_role (RoleDatagrams bound queues) near = tt

    each : (entries : List Entry) → AllByRecursion (λ (x : Entry). IsNearIn before x.role) entries → AllByRecursion (λ (x : Entry). IsNearIn after x.role) entries
    each [] all = tt
    each (x ∷ xs) all = (by_role x.role all.0, each xs all.1)

-- each event of a host names its side's clock at the latest
pub tables-near : (limit : ℕ) (w : WorldView) → IsReached limit w → (side : Side) → AreNear (clock_of w.network side) (table_of w.network side)
tables-near limit w (begins a b a_is b_is apart small) A = let h = new_host a in fresh_near a.addr a.manner h.sockets.sizes (record { 0 = 0 })
tables-near limit w (begins a b a_is b_is apart small) B = let h = new_host b in fresh_near b.addr b.manner h.sockets.sizes (record { 0 = 0 })
tables-near limit _ (goes_on w v happens answer reached step) side =
    by_move (nearer (clock_of w.network side) (clock_of v.network side) (table_of w.network side) (clock-goes-on happens (length w.trace) answer w.network v.network step.network side) (tables-near limit w reached side)) (moved w v happens answer step side)
  where
    by_move : AreNear (clock_of v.network side) (table_of w.network side) → IsMoved w.network (clock_of v.network side) side happens (host_of w.network side) (host_of v.network side) → AreNear (clock_of v.network side) (table_of v.network side)
    by_move before (inl same) = subst (λ (h : HostView). AreNear (clock_of v.network side) h.sockets) (sym same) before
    by_move before (inr (e, numbered, makes, brings, up, own)) = event-near e (host_of w.network side) (host_of v.network side) (clock_of v.network side) (sound-at w v step side) numbered up makes before

pub tables-kept : EveryTableIsKept
tables-kept limit w reached side =
    let ran = hosts-run limit w reached side in
    let r = ran.run in
    record {
      near = tables-near limit w reached side;
      reached = run-reached r.config r.events (host_of w.network side) r.runs;
      ordered = run-ordered r.config r.events (host_of w.network side) r.runs;
      over = run-over r.config r.events (host_of w.network side) r.runs;
      time = run-timed r.config r.events (host_of w.network side) r.runs;
    }

-- The causes of what goes out.

heard-of : (w : WorldView) (side : Side) (r : HasRun w side) (meaning : Meaning) → host_runs.WasHeard r.run.config r.run.events meaning → WasHeard w side meaning
heard-of w side r meaning was =
    let stands = run-stands r.run.config r.run.events (host_of w.network side) r.run.runs in
    let own = stands.interface in
    record {
      octets = was.octets;
      delivered = r.traced was.now was.isn was.octets was.delivered;
      meant = ap (λ (mac : Mac). heard mac (let h = host_of w.network side in h.interface.addr) was.octets) own.mac ∙ ap (λ (addr : Addr). heard r.run.config.mac addr was.octets) own.addr ∙ was.meant;
    }

pub causes-heard : EveryMessageHasItsCause
causes-heard limit w v side index len f mac ours c reached step there is = by_kind (c.message.kind == 0) refl
  where
    r : HasRun w side
    r = hosts-run limit w reached side

    emits : EmitsFrame side index len w.network v.network
    emits = step.network

    went : f.octets.items ≡ emission_octets (host_of w.network side) (clock_of w.network side)
    went =
        let placed : slice_get v.network.frames index ≡ Some emits.frame =
        ap (λ (k : NetworkView). slice_get k.frames index) emits.after ∙ ap (λ (i : ℕ). slice_get (w.network.frames ++ emits.frame ∷ []) i) emits.place ∙ got-last w.network.frames emits.frame
        in
        let same : f ≡ emits.frame = some_same (slice_get v.network.frames index) f emits.frame there placed in
        ap (λ (g : Frame). g.octets.items) same ∙ emits.octets

    heard_so : heard mac ours (emission_octets (host_of w.network side) (clock_of w.network side)) ≡ Ok (Icmp c)
    heard_so = ap (heard mac ours) (sym went) ∙ is

    by_kind : (b : Bool) → (c.message.kind == 0) ≡ b → HasCause w side ours c.message
    by_kind true zero_kind =
        let kind : c.message.kind ≡ 0 = eqb-true c.message.kind 0 zero_kind in
        let found = request-there r.run.config r.run.events (host_of w.network side) (clock_of w.network side) mac ours c r.run.runs (sound-at w v step side) heard_so kind in
        inl (kind, found.0, heard-of w side r (Icmp (record { source = ours; message = found.0 })) found.1, found.2, found.3)
    by_kind false other_kind =
        let kind : c.message.kind ≢ 0 = λ same. let bad : true ≡ false = sym (ap (λ (n : ℕ). n == 0) same) ∙ other_kind in cc in
        let found = cause-there r.run.config r.run.events (host_of w.network side) (clock_of w.network side) mac ours c r.run.runs (sound-at w v step side) heard_so kind in
        inr (kind, found.0, found.1, found.2, found.3, heard-of w side r found.2 found.4, found.5, found.6)

-- An error that is told.

tells-step : (limit : ℕ) (w v : WorldView) (happens : Event) (answer : Answer) → IsReached limit w → IsStep happens answer w v → (side : Side) (id : SocketId) (error : Error) → IsTold (table_of w.network side) id error → IsTold (table_of v.network side) id error
tells-step limit w v happens answer reached step side id error told = by_move (moved w v happens answer step side)
  where
    old : HostView
    old = host_of w.network side

    new : HostView
    new = host_of v.network side

    by_move : IsMoved w.network (clock_of v.network side) side happens old new → IsTold new.sockets id error
    by_move (inl same) = subst (λ (h : HostView). IsTold h.sockets id error) (sym same) told
    by_move (inr (e, numbered, makes, brings, up, own)) =
        let kept : IsKept (clock_of w.network side) (table_of w.network side) = tables-kept limit w reached side in
        let sound = sound-at w v step side in
        (event-tells e old new id error sound numbered makes kept.time told.1 told.0, omega (arith, told.1, event-given e old new sound numbered makes))

tells-run : (limit : ℕ) (es : List Event) (os : List (Result Answer Unfair)) (w v : WorldView) → IsReached limit w → RunsTo es os w v → (side : Side) (id : SocketId) (error : Error) → IsTold (table_of w.network side) id error → IsTold (table_of v.network side) id error
tells-run limit [] [] w v reached run side id error told = subst (λ (x : WorldView). IsTold (table_of x.network side) id error) (sym run) told
tells-run limit [] (o ∷ os) w v reached run side id error told = absurd run
tells-run limit (e ∷ es) [] w v reached run side id error told = absurd run
tells-run limit (e ∷ es) (o ∷ os) w v reached run side id error told = let first = by_outcome o run.3 in tells-run limit es os run.1 v first.0 run.4 side id error first.1
  where
    by_outcome : (r : Result Answer Unfair) → IsOutcome run.0 r w run.1 → IsReached limit run.1 × IsTold (table_of run.1.network side) id error
    by_outcome (Ok answer) out = (goes_on w run.1 run.0 out.0 reached out.2, tells-step limit w run.1 run.0 out.0 reached out.2 side id error told)
    by_outcome (Err refusal) out = (subst (IsReached limit) (sym out.0) reached, subst (λ (x : WorldView). IsTold (table_of x.network side) id error) (sym out.0) told)

pub errors-told : EveryErrorStays
errors-told limit es os w v side id error reached run told = tells-run limit es os w v reached run side id error told

pub sockets-told : EverySocketTellsOn
sockets-told limit es os w v side id c listener error reached run named pending role now =
    let kept : IsKept (clock_of w.network side) (table_of w.network side) = tables-kept limit w reached side in
    let first = socket_told (table_of w.network side) id c listener error kept.ordered named pending in
    role_tells (table_of v.network side) id error role (tells-run limit es os w v reached run side id error first).0 now

pub deadlines-near : EveryDeadlineLiesNear
deadlines-near limit w side moment reached least =
    let near = tables-near limit w reached side in
    (λ none. deadline_near (table_of w.network side) (clock_of w.network side) moment near none least, deadline_in_a_day (table_of w.network side) (clock_of w.network side) moment near least)
