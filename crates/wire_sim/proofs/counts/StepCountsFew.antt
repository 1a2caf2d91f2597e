-- No step counts more octets at an opening than one send takes.
use Rattle.std.proofs.Common.{◌≡◌, ℕ, zero, suc, ◌+◌, ◌≤◌, Bool, true, false, List, [], ◌∷◌, ◌++◌, get_or, Option, Some, None, Result, Ok, Err, refl, sym, ap, subst, arith, Vec, Global}
use Rattle.std.specs.Prelude.{if◌then◌else◌}
use Rattle.std.specs.List.{slice_get, find}
use Rattle.ipv4.specs.declared.addr.Addr.{Addr}
use Rattle.ipv4.specs.declared.addr.Endpoint.{Endpoint}
use Rattle.tcp_segment.specs.declared.seq.Seq.{Seq}
use Rattle.tcp_state.specs.declared.calls.Refusal.{Refusal as ConnectionRefusal}
use Rattle.tcp_state.specs.declared.calls.Refusal.TheVariants as connection
use Rattle.tcp_state.specs.Calls.{unless_pending, send_count}
use Rattle.clock.specs.declared.moment.Moment.{Moment}
use Rattle.sockets.specs.declared.entry.Entry.{Entry}
use Rattle.sockets.specs.declared.entry.SocketId.{SocketId}
use Rattle.sockets.specs.declared.role.Role.{Role}
use Rattle.sockets.specs.declared.role.Role.TheVariants.{Idle, Listener, Connected, Datagrams}
use Rattle.sockets.specs.declared.refusal.Refusal.{Refusal}
use Rattle.sides.specs.declared.side.Side.{Side}
use Rattle.sides.specs.declared.side.Side.TheVariants.{A, B}
use Rattle.wire_sim.specs.declared.event.Call.{Call}
use Rattle.wire_sim.specs.declared.event.Call.TheVariants as call
use Rattle.wire_sim.specs.declared.event.Event.{Event}
use Rattle.wire_sim.specs.declared.event.Event.TheVariants as event
use Rattle.wire_sim.specs.declared.event.Answer.{Answer}
use Rattle.wire_sim.specs.declared.event.Answer.TheVariants as reply
use Rattle.wire_sim.specs.declared.event.Opening.{Opening}
use Rattle.wire_sim.specs.declared.world.bag.Frame.{Frame}
use Rattle.wire_sim.specs.declared.world.bag.Note.{Note}
use Rattle.wire_sim.specs.declared.world.station.Station.{Station}
use Rattle.sockets.specs.Calls.{of_connection, role_send_answer, send_answer}
use Rattle.sockets.specs.Entries.{is_socket}
use Rattle.sockets.specs.SocketsView.{SocketsView}
use Rattle.sockets.specs.Sound.{IsSoundConnection, IsSoundRole, IsSoundTable}
use Rattle.host.specs.HostView.{HostView}
use Rattle.host.specs.Sound.{IsSoundHost}
use Rattle.host.specs.Emission.{after_emission}
use Rattle.wire_sim.specs.Openings.{opened_by_connect, opened_by_frame}
use Rattle.sides.specs.Sides.{other_side}
use Rattle.wire_sim.specs.Steps.{station_after_tick, with_station, with_host, with_opening, Answers, MeetsCall, after_call, after_delivery, Steps}
use Rattle.wire_sim.specs.Tallies.{is_opening_at, counts_after}
use Rattle.wire_sim.specs.WorldView.{NetworkView, station_of, host_of, table_of}
use Rattle.stream_law.proofs.Sizes.{most_held, count-fits}
use Rattle.wire_sim.proofs.lists.FoundAfterChange.{All-find}

-- a count beside an opening that may be one of the socket
counted_or_kept : (b : Bool) (w n : ℕ) → (if b then w + n else w) ≤ w + n
counted_or_kept true w n = omega arith
counted_or_kept false w n = omega arith

pub counted-grows : (os : List Opening) (ws : List ℕ) (side : Side) (id : SocketId) (n i : ℕ) → get_or (counts_after os ws side id n) i 0 ≤ get_or ws i 0 + n
counted-grows [] ws side id n i = omega arith
counted-grows (o ∷ os) [] side id n i = omega arith
counted-grows (o ∷ os) (w ∷ ws) side id n zero = counted_or_kept (is_opening_at side id o) w n
counted-grows (o ∷ os) (w ∷ ws) side id n (suc i) = counted-grows os ws side id n i

push-grows : (ws : List ℕ) (i : ℕ) → get_or (ws ++ 0 ∷ []) i 0 ≤ get_or ws i 0
push-grows [] zero = omega arith
push-grows [] (suc i) = omega arith
push-grows (w ∷ ws) zero = omega arith
push-grows (w ∷ ws) (suc i) = push-grows ws i

with_station-written : (n : NetworkView) (side : Side) (s : Station) (i : ℕ) → get_or (with_station n side s).written i 0 ≡ get_or n.written i 0
with_station-written n A s i = refl
with_station-written n B s i = refl

kept-grows : (n : NetworkView) (side : Side) (h : HostView) (i : ℕ) → get_or (with_host n side h).written i 0 ≤ get_or n.written i 0 + most_held
kept-grows n side h i = omega (arith, with_station-written n side (let s = station_of n side in record s { host = h }) i)

with_opening-grows : (n : NetworkView) (o : Option Opening) (i : ℕ) → get_or (with_opening n o).written i 0 ≤ get_or n.written i 0
with_opening-grows n None i = omega arith
with_opening-grows n (Some o) i = push-grows n.written i

-- what a connection answers to a send, by its tests
connection_took : (error : Option ConnectionRefusal) (opening closed full : Bool) (n v : ℕ) → of_connection (unless_pending error (if opening then Err connection.EAGAIN else if closed then Err connection.EPIPE else if full then Err connection.EAGAIN else Ok n)) ≡ Ok v → n ≡ v
connection_took (Some error) opening closed full n v e = cc
connection_took None true closed full n v e = cc
connection_took None false true full n v e = cc
connection_took None false false true n v e = cc
connection_took None false false false n v e = cc

role_took : (role : Role) (octets : List ℕ) (v : ℕ) → IsSoundRole role → role_send_answer role octets ≡ Ok v → v ≤ most_held
role_took (Idle buffers bound) octets v sound e = cc
role_took (Datagrams bound socket) octets v sound e = cc
role_took (Listener bound backlog) octets v sound e = cc
role_took (Connected c listener) octets v sound e =
    let solid : IsSoundConnection c = sound in
    let same : send_count c octets ≡ v = connection_took _ _ _ _ _ v e in
    omega (arith, same, count-fits c octets solid.sound)

-- one send takes at most what a buffer holds
took : (h : SocketsView) (id : SocketId) (octets : List ℕ) (v : ℕ) (o : Option Entry) → IsSoundTable h → find (is_socket id) h.entries ≡ o → send_answer h id octets ≡ Ok v → v ≤ most_held
took h id octets v None sound is e = let f = rw is at e in cc
took h id octets v (Some entry) sound is e =
    role_took entry.role octets v (All-find (λ (x : Entry). IsSoundRole x.role) (is_socket id) h.entries entry sound.entries is) (rw is at e)

-- the count of a network
abbrev pub count_at : NetworkView → ℕ → ℕ
count_at n i = get_or n.written i 0

send-grows : (side : Side) (id : SocketId) (octets : Vec ℕ Global) (place i : ℕ) (n : NetworkView) (answer : Answer) (next old : SocketsView) (new : HostView) (r : Result ℕ Refusal) → ((v : ℕ) → r ≡ Ok v → v ≤ most_held) → Answers r (λ v. reply.Sent v) next old answer new.sockets → count_at (after_call side (call.Send id octets) answer place n new) i ≤ count_at n i + most_held
send-grows side id octets place i n answer next old new (Ok v) bound meets =
    let few : v ≤ most_held = bound v refl in
    subst (λ a. count_at (after_call side (call.Send id octets) a place n new) i ≤ count_at n i + most_held) (sym meets.0) (omega (arith, counted-grows n.openings n.written side id v i, few))
send-grows side id octets place i n answer next old new (Err e) bound meets =
    subst (λ a. count_at (after_call side (call.Send id octets) a place n new) i ≤ count_at n i + most_held) (sym meets.0) (kept-grows n side new i)

connect-grows : (side : Side) (isn : Seq) (id : SocketId) (peer : Endpoint) (place i : ℕ) (n : NetworkView) (answer : Answer) (next old : SocketsView) (new : HostView) (r : Result (Unit {0}) Refusal) → Answers r (λ v. reply.Started) next old answer new.sockets → count_at (after_call side (call.Connect isn id peer) answer place n new) i ≤ count_at n i + most_held
connect-grows side isn id peer place i n answer next old new (Ok v) meets =
    subst (λ a. count_at (after_call side (call.Connect isn id peer) a place n new) i ≤ count_at n i + most_held) (sym meets.0)
    (omega (arith, with_opening-grows (with_host n side new) (opened_by_connect n.openings side id place new.sockets (table_of n (other_side side))) i, kept-grows n side new i))
connect-grows side isn id peer place i n answer next old new (Err e) meets =
    subst (λ a. count_at (after_call side (call.Connect isn id peer) a place n new) i ≤ count_at n i + most_held) (sym meets.0) (kept-grows n side new i)

-- what a call makes of the counts
called-grows : (side : Side) (c : Call) (place i : ℕ) (n : NetworkView) (answer : Answer) (routed : Addr → Bool) (now : Moment) (new : HostView) → IsSoundTable (table_of n side) → MeetsCall routed now c (table_of n side) answer new.sockets → count_at (after_call side c answer place n new) i ≤ count_at n i + most_held
called-grows side (call.Socket kind) place i n answer routed now new sound meets = kept-grows n side new i
called-grows side (call.Bind id local) place i n answer routed now new sound meets = kept-grows n side new i
called-grows side (call.Listen id backlog) place i n answer routed now new sound meets = kept-grows n side new i
called-grows side (call.Accept id) place i n answer routed now new sound meets = kept-grows n side new i
called-grows side (call.Connect isn id peer) place i n answer routed now new sound meets = connect-grows side isn id peer place i n answer _ _ new _ meets
called-grows side (call.Send id octets) place i n answer routed now new sound meets =
    send-grows side id octets place i n answer _ _ new _ (λ v. took (table_of n side) id octets.items v _ sound refl) meets
called-grows side (call.Recv id len) place i n answer routed now new sound meets = kept-grows n side new i
called-grows side (call.SendTo id peer octets) place i n answer routed now new sound meets = kept-grows n side new i
called-grows side (call.RecvFrom id len) place i n answer routed now new sound meets = kept-grows n side new i
called-grows side (call.Shutdown id) place i n answer routed now new sound meets = kept-grows n side new i
called-grows side (call.SetNoDelay id on) place i n answer routed now new sound meets = kept-grows n side new i
called-grows side (call.SetKeepAlive id every) place i n answer routed now new sound meets = kept-grows n side new i
called-grows side (call.Close id) place i n answer routed now new sound meets = kept-grows n side new i
called-grows side (call.Abort id) place i n answer routed now new sound meets = kept-grows n side new i
called-grows side (call.GiveWay id) place i n answer routed now new sound meets = kept-grows n side new i
called-grows side (call.State id) place i n answer routed now new sound meets = kept-grows n side new i
called-grows side (call.Ready id) place i n answer routed now new sound meets = kept-grows n side new i
called-grows side (call.Info id) place i n answer routed now new sound meets = kept-grows n side new i
called-grows side (call.SockName id) place i n answer routed now new sound meets = kept-grows n side new i
called-grows side (call.PeerName id) place i n answer routed now new sound meets = kept-grows n side new i

-- what a frame makes of them
delivered-grows : (side : Side) (place i : ℕ) (o : Option Note) (n : NetworkView) (new : HostView) → count_at (after_delivery side place o n new) i ≤ count_at n i + most_held
delivered-grows side place i None n new = kept-grows n side new i
delivered-grows side place i (Some note) n new =
    omega (arith, with_opening-grows (with_host n side new) (opened_by_frame n.openings side place note.pair (table_of n side) new.sockets) i, kept-grows n side new i)

frame-grows : (side : Side) (index : ℕ) (isn : Seq) (place i : ℕ) (answer : Answer) (old new : NetworkView) (o : Option Frame) → slice_get old.frames index ≡ o → Steps (event.Deliver side index isn) place answer old new → count_at new i ≤ count_at old i + most_held
frame-grows side index isn place i answer old new None is steps = absurd (rw is at steps)
frame-grows side index isn place i answer old new (Some f) is steps =
    let after : new ≡ after_delivery side place f.note old (host_of new side) = (rw is at steps).1 in
    omega (arith, ap (λ m. count_at m i) after, delivered-grows side place i f.note old (host_of new side))

emitted-grows : (side : Side) (place i : ℕ) (answer : Answer) (old new : NetworkView) → Steps (event.Emit side) place answer old new → count_at new i ≤ count_at old i + most_held
emitted-grows side place i (reply.Frame index len) old new steps =
    omega (arith, ap (λ m. count_at m i) steps.after, kept-grows old side (after_emission (host_of old side) (let s = station_of old side in s.clock)) i)
emitted-grows side place i reply.NoFrame old new steps = omega (arith, ap (λ m. count_at m i) steps.after)
emitted-grows side place i (reply.Socket id) old new steps = absurd steps
emitted-grows side place i reply.Done old new steps = absurd steps
emitted-grows side place i (reply.Accepted id peer) old new steps = absurd steps
emitted-grows side place i reply.Started old new steps = absurd steps
emitted-grows side place i (reply.Sent count) old new steps = absurd steps
emitted-grows side place i (reply.Octets octets) old new steps = absurd steps
emitted-grows side place i (reply.Datagram octets from) old new steps = absurd steps
emitted-grows side place i reply.EndOfStream old new steps = absurd steps
emitted-grows side place i (reply.State state) old new steps = absurd steps
emitted-grows side place i (reply.Ready ready) old new steps = absurd steps
emitted-grows side place i (reply.Info info) old new steps = absurd steps
emitted-grows side place i (reply.Endpoint x) old new steps = absurd steps
emitted-grows side place i reply.Taken old new steps = absurd steps
emitted-grows side place i (reply.Dropped cause) old new steps = absurd steps
emitted-grows side place i (reply.Refused refusal) old new steps = absurd steps

-- every connection of the two hosts keeps what it keeps of itself
abbrev pub AreSoundTables : NetworkView → Type 0
AreSoundTables n = (side : Side) → IsSoundTable (table_of n side)

pub sound-tables : (n : NetworkView) → IsSoundHost (host_of n A) → IsSoundHost (host_of n B) → AreSoundTables n
sound-tables n a b A = a.table
sound-tables n a b B = b.table

pub Steps-grows : (event : Event) (place i : ℕ) (answer : Answer) (old new : NetworkView) → AreSoundTables old → Steps event place answer old new → count_at new i ≤ count_at old i + most_held
Steps-grows (event.Call side c) place i answer old new sound steps =
    omega (arith, ap (λ m. count_at m i) steps.1, called-grows side c place i old answer _ _ (host_of new side) (sound side) steps.0.table)
Steps-grows (event.Tick side moment) place i answer old new sound steps =
    omega (arith, ap (λ m. count_at m i) steps.1, with_station-written old side (station_after_tick (station_of old side) moment) i)
Steps-grows (event.Emit side) place i answer old new sound steps = emitted-grows side place i answer old new steps
Steps-grows (event.Deliver side index isn) place i answer old new sound steps = frame-grows side index isn place i answer old new _ refl steps
