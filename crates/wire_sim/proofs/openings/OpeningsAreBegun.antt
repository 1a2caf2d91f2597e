-- An event adds an opening only where a host comes to hold a pair.
use Rattle.std.proofs.Common.{◌≡◌, ℕ, ◌+◌, ◌⊎◌, inl, inr, ◌&&◌, not, if◌then◌else◌, Bool, true, false, List, [], ◌∷◌, ◌++◌, length, Option, Some, None, is_some, option_map, arith, refl, ◌∙◌, ap}
use Rattle.std.specs.List.{find, slice_get}
use Rattle.std.proofs.lemmas.List.{append-nil}
use Rattle.ipv4.specs.declared.addr.Endpoint.{Endpoint}
use Rattle.ipv4.specs.declared.addr.Pair.{Pair}
use Rattle.ipv4.specs.Addresses.{pair_of}
use Rattle.tcp_segment.specs.declared.seq.Seq.{Seq}
use Rattle.tcp_state.specs.View.{opened_actively}
use Rattle.clock.specs.declared.moment.Moment.{Moment}
use Rattle.sockets.specs.declared.entry.SocketId.{SocketId}
use Rattle.sockets.specs.declared.entry.Entry.{Entry}
use Rattle.sockets.specs.declared.role.Role.TheVariants.{Idle}
use Rattle.sockets.specs.Calls.{unless_refused, connect_refusal, after_connect, last_port_after}
use Rattle.sockets.specs.Entries.{is_socket, is_of_pair, role_after_connect, with_role}
use Rattle.sockets.specs.SocketsView.{SocketsView, holder_id, later_moment}
use Rattle.sockets.specs.Lists.{change_first}
use Rattle.sockets.specs.Pairs.{socket_pair}
use Rattle.interface.specs.Ways.{is_routed}
use Rattle.host.specs.HostView.{HostView}
use Rattle.sides.specs.declared.side.Side.{Side}
use Rattle.sides.specs.declared.side.Side.TheVariants.{A, B}
use Rattle.wire_sim.specs.declared.event.Call.{Call}
use Rattle.wire_sim.specs.declared.event.Call.TheVariants as call
use Rattle.wire_sim.specs.declared.event.Event.{Event}
use Rattle.wire_sim.specs.declared.event.Event.TheVariants as event
use Rattle.wire_sim.specs.declared.event.Answer.{Answer}
use Rattle.wire_sim.specs.declared.event.Answer.TheVariants as reply
use Rattle.wire_sim.specs.declared.event.Opening.{Opening}
use Rattle.wire_sim.specs.declared.event.Happening.{Happening}
use Rattle.wire_sim.specs.declared.world.bag.Frame.{Frame}
use Rattle.wire_sim.specs.declared.world.bag.Note.{Note}
use Rattle.wire_sim.specs.Holding.{IsBegun, EveryOpeningIsBegun}
use Rattle.wire_sim.specs.Openings.{epoch_of, epoch_connected, opened_as, opened_by_connect, opened_by_frame, held_anew}
use Rattle.sides.specs.Sides.{other_side}
use Rattle.wire_sim.specs.Steps.{with_host, with_opening, after_call, after_delivery, station_after_tick, MeetsEmission, DeliversFrame, Steps}
use Rattle.wire_sim.specs.WorldView.{NetworkView, WorldView, station_of, host_of, table_of, clock_of}
use Rattle.wire_sim.proofs.tables.CallsOnTable.{outcome, not_refused, connects-on, socket_pair-connected, found-connecting}
use Rattle.wire_sim.proofs.openings.OctetsAreCovered.{as_list, opens}
use Rattle.wire_sim.proofs.lists.FoundAfterChange.{found-made}
use Rattle.wire_sim.proofs.openings.HeldIsOpened.{joined, unheld_connecting, unheld-changed_at}
use Rattle.sockets.proofs.Held.{joins_own}
use Rattle.wire_sim.proofs.tables.PairOfPorts.{unheld-between}
use Rattle.wire_sim.proofs.pairing.WorldAsPairings.{told}
use Rattle.wire_sim.proofs.pairing.ConnectIsMove.{table-ours}
use Rattle.wire_sim.proofs.runs.RunsAreLawful.{IsOrderly, orderly, orderly-swapped, openings-with}

-- the openings are as they were, or grew by one that a host's holding began
abbrev pub IsNoted : Event → WorldView → WorldView → Type 0
IsNoted happens old new = (new.network.openings ≡ old.network.openings) ⊎ ((o : Opening) × (new.network.openings ≡ old.network.openings ++ o ∷ []) × IsBegun happens old new o)

-- where a host's step adds what is as_list
pub host-opens : (n m : NetworkView) (side : Side) (h : HostView) (o : Option Opening) → m ≡ with_opening (with_host n side h) o → m.openings ≡ n.openings ++ as_list o
host-opens n m side h o same =
    ap (λ (k : NetworkView). k.openings) same ∙ (opens (with_host n side h) o ∙ ap (λ l. l ++ as_list o) (openings-with n side (let s = station_of n side in record s { host = h })))

-- A connect.

-- what a connect that is not refused makes of its host: the pair was not held, and is held by the socket
pub record Connecting (hs : Side) (n : NetworkView) (own own' : SocketsView) (id : SocketId) (place : ℕ) : Type 0 where
  pub pair : Pair
  pub unheld : holder_id own pair ≡ None
  pub held : holder_id own' pair ≡ Some id
  pub others : (x y : Endpoint) → find (is_of_pair (pair_of x y)) own.entries ≡ None → (pair ≡ pair_of x y) ⊎ (find (is_of_pair (pair_of x y)) own'.entries ≡ None)
  pub opens : opened_by_connect n.openings hs id place own' (table_of n (other_side hs)) ≡ Some (record { side = hs; pair = pair; epoch = epoch_connected n.openings (table_of n (other_side hs)) pair; id = id; place = place })

pub connecting-host : (limit : ℕ) (hs ts : Side) (n : NetworkView) (trace : List Happening) → IsOrderly limit hs ts n trace → (now : Moment) (isn : Seq) (id : SocketId) (peer : Endpoint) (place : ℕ) → connect_refusal (table_of n hs) id peer (is_routed (host_of n hs).interface peer.addr) ≡ None
    → Connecting hs n (table_of n hs) (after_connect (table_of n hs) now isn.0 id peer (is_routed (host_of n hs).interface peer.addr)) id place
connecting-host limit hs ts n trace w now isn id peer place may =
    let own = table_of n hs in
    let h = w.projects in
    let a = w.a in
    let routed = is_routed (host_of n hs).interface peer.addr in
    let k = connects-on own id peer routed may in
    let local : Endpoint = record { addr = own.addr; port = k.port } in
    let c = opened_actively k.b local peer isn.0 (later_moment own now) in
    let g = role_after_connect local peer isn.0 (later_moment own now) in
    let base : SocketsView = record own { last_port = last_port_after own k.bound k.port } in
    let next : SocketsView = record base { entries = change_first (is_socket id) (with_role g) own.entries } in
    let is_next : after_connect own now isn.0 id peer routed ≡ next = k.becomes now isn.0 in
    let pair = pair_of local peer in
    let x : Entry = record { id = id; role = Idle k.b k.bound } in
    let free : find (is_of_pair pair) own.entries ≡ None =
    unheld-between local peer own.entries k.apart h.own_table.sole (table-ours hs a own.addr own.last_id own.entries n.openings (told hs trace) h.own_addr h.own_table) k.free in
    let named : socket_pair next id ≡ Some pair = socket_pair-connected next id c None (found-connecting own.entries id k.b k.bound local peer isn.0 (later_moment own now) k.found) in
    record {
      pair = pair;
      unheld = ap (option_map (λ (e : Entry). e.id)) free;
      held = ap (λ w. holder_id w pair) is_next ∙ ap (option_map (λ (e : Entry). e.id)) (found-made (is_socket id) (is_of_pair pair) (with_role g) own.entries x k.found free (joins_own c None refl));
      others = λ p q none. elim (joined c None p q) [
        | inl same ↦ inl same
        | inr out ↦ inr (ap (λ (w : SocketsView). find (is_of_pair (pair_of p q)) w.entries) is_next ∙ unheld-changed_at (is_socket id) g (pair_of p q) own.entries (unheld_connecting k.b local peer isn.0 (later_moment own now) (pair_of p q) out) none)
      ];
      opens = ap (λ w. opened_by_connect n.openings hs id place w (table_of n (other_side hs))) is_next ∙ ap (opened_as n.openings hs id place (table_of n (other_side hs))) named;
    }

-- the epoch of what a connect opens
pub epoch-rises : (os : List Opening) (other : SocketsView) (pair : Pair) → epoch_connected os other pair ≡ epoch_of os pair + (if true && not (is_some (holder_id other pair)) then 1 else 0)
epoch-rises os other pair = by_holder (is_some (holder_id other pair))
  where
    by_holder : (b : Bool) → (if b then epoch_of os pair else epoch_of os pair + 1) ≡ epoch_of os pair + (if true && not b then 1 else 0)
    by_holder true = omega arith
    by_holder false = refl

connect-noted : (limit : ℕ) (hs ts : Side) (old new : WorldView) (isn : Seq) (id : SocketId) (peer : Endpoint) (answer : Answer) → IsOrderly limit hs ts old.network old.trace
    → Steps (event.Call hs (call.Connect isn id peer)) (length old.trace) answer old.network new.network → IsNoted (event.Call hs (call.Connect isn id peer)) old new
connect-noted limit hs ts old new isn id peer answer w step =
    let own = table_of old.network hs in
    let own' = table_of new.network hs in
    let host' = host_of new.network hs in
    let routed = is_routed (host_of old.network hs).interface peer.addr in
    let c = call.Connect isn id peer in
    let now = clock_of old.network hs in
    elim (outcome (unless_refused (connect_refusal own id peer routed) (tt {0})) (λ _. reply.Started) (after_connect own now isn.0 id peer routed) own answer own' step.0.table) [
      | inl x ↦
          let k = connecting-host limit hs ts old.network old.trace w now isn id peer (length old.trace) (not_refused (connect_refusal own id peer routed) x.0 x.1) in
          let other = table_of old.network (other_side hs) in
          let o : Opening = record { side = hs; pair = k.pair; epoch = epoch_connected old.network.openings other k.pair; id = id; place = length old.trace } in
          let added : opened_by_connect old.network.openings hs id (length old.trace) own' other ≡ Some o = ap (λ v. opened_by_connect old.network.openings hs id (length old.trace) v other) x.3 ∙ k.opens in
          inr (
            o,
            host-opens old.network new.network hs host' (opened_by_connect old.network.openings hs id (length old.trace) own' other) (step.1 ∙ ap (λ r. after_call hs c r (length old.trace) old.network host') x.2) ∙ ap (λ l. old.network.openings ++ as_list l) added,
            record { unheld = k.unheld; held = ap (λ v. holder_id v k.pair) x.3 ∙ k.held; place = refl; epoch = epoch-rises old.network.openings other k.pair },
          )
      | inr x ↦ inl (host-opens old.network new.network hs host' None (step.1 ∙ ap (λ r. after_call hs c r (length old.trace) old.network host') x.2) ∙ append-nil old.network.openings)
    ]

-- Every other call.

abbrev is_connecting : Call → Bool
is_connecting (call.Connect isn id peer) = true
is_connecting _ = false

call-opens-none : (side : Side) (c : Call) (answer : Answer) (place : ℕ) (n : NetworkView) (h : HostView) → is_connecting c ≡ false → (let m = after_call side c answer place n h in m.openings) ≡ n.openings
call-opens-none side (call.Connect isn id peer) answer place n h other = cc
call-opens-none side (call.Send id octets) (reply.Sent count) place n h other = openings-with n side (let s = station_of n side in record s { host = h })
call-opens-none side _ _ place n h other = openings-with n side (let s = station_of n side in record s { host = h })

call-noted : (limit : ℕ) (hs ts : Side) (old new : WorldView) (c : Call) (answer : Answer) → IsOrderly limit hs ts old.network old.trace → Steps (event.Call hs c) (length old.trace) answer old.network new.network → IsNoted (event.Call hs c) old new
call-noted limit hs ts old new (call.Connect isn id peer) answer w step = connect-noted limit hs ts old new isn id peer answer w step
call-noted limit hs ts old new c answer w step = inl (ap (λ (m : NetworkView). m.openings) step.1 ∙ call-opens-none hs c answer (length old.trace) old.network (host_of new.network hs) refl)

-- A frame.

frame-noted : (side : Side) (index : ℕ) (isn : Seq) (answer : Answer) (old new : WorldView) → Steps (event.Deliver side index isn) (length old.trace) answer old.network new.network → IsNoted (event.Deliver side index isn) old new
frame-noted side index isn answer old new step = by_frame (slice_get old.network.frames index) step
  where
    by_holders : (pair : Pair) (before after : Option SocketId) → holder_id (table_of old.network side) pair ≡ before → holder_id (table_of new.network side) pair ≡ after
        → new.network.openings ≡ old.network.openings ++ as_list (held_anew old.network.openings side (length old.trace) pair before after) → IsNoted (event.Deliver side index isn) old new
    by_holders pair None (Some id) free held grown = inr (
      record { side = side; pair = pair; epoch = epoch_of old.network.openings pair; id = id; place = length old.trace },
      grown,
      record { unheld = free; held = held; place = refl; epoch = omega arith },
    )
    by_holders pair None None free held grown = inl (grown ∙ append-nil old.network.openings)
    by_holders pair (Some x) after free held grown = inl (grown ∙ append-nil old.network.openings)

    by_note : (o : Option Note) → new.network ≡ after_delivery side (length old.trace) o old.network (host_of new.network side) → IsNoted (event.Deliver side index isn) old new
    by_note None same = inl (host-opens old.network new.network side (host_of new.network side) None same ∙ append-nil old.network.openings)
    by_note (Some note) same = by_holders note.pair (holder_id (table_of old.network side) note.pair) (holder_id (table_of new.network side) note.pair) refl refl
        (host-opens old.network new.network side (host_of new.network side) (opened_by_frame old.network.openings side (length old.trace) note.pair (table_of old.network side) (table_of new.network side)) same)

    by_frame : (o : Option Frame) → DeliversFrame side isn.0 (length old.trace) answer old.network new.network o → IsNoted (event.Deliver side index isn) old new
    by_frame None step = absurd step
    by_frame (Some f) step = by_note f.note step.1

-- Every event.

pub openings-begun : EveryOpeningIsBegun
openings-begun limit old new (event.Call A c) answer reached step = call-noted limit A B old new c answer (orderly limit old reached) step.network
openings-begun limit old new (event.Call B c) answer reached step = call-noted limit B A old new c answer (orderly-swapped limit A B old.network old.trace (orderly limit old reached)) step.network
openings-begun limit old new (event.Tick side moment) answer reached step =
    let same = step.network.1 in
    inl (ap (λ (m : NetworkView). m.openings) same ∙ openings-with old.network side (station_after_tick (station_of old.network side) moment))
openings-begun limit old new (event.Emit side) answer reached step = by_answer answer step.network
  where
    by_answer : (answer : Answer) → MeetsEmission side answer old.network new.network → IsNoted (event.Emit side) old new
    by_answer (reply.Frame index len) step = inl (ap (λ (m : NetworkView). m.openings) step.after ∙ openings-with old.network side _)
    by_answer reply.NoFrame step = inl (ap (λ (m : NetworkView). m.openings) step.after)
    by_answer _ step = absurd step
openings-begun limit old new (event.Deliver side index isn) answer reached step = frame-noted side index isn answer old new step.network
