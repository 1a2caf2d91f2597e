-- A connect that is started opens a pair.
use Rattle.std.proofs.Common.{◌≡◌, ℕ, ◌+◌, ◌<◌, ◌≤◌, ◌^◌, inl, inr, Bool, List, [], ◌∷◌, ◌++◌, if◌then◌else◌, Option, Some, None, is_some, option_map, arith, refl, sym, ◌∙◌, ap, subst}
use Rattle.std.specs.List.{find}
use Rattle.ipv4.specs.declared.addr.Addr.{Addr}
use Rattle.ipv4.specs.declared.addr.Endpoint.{Endpoint}
use Rattle.ipv4.specs.declared.addr.Pair.{Pair}
use Rattle.ipv4.specs.Addresses.{pair_of}
use Rattle.udp_socket.specs.SocketView.{new_socket}
use Rattle.tcp_state.specs.View.{opened_actively}
use Rattle.sides.specs.declared.side.Side.{Side}
use Rattle.wire_sim.specs.declared.event.Opening.{Opening}
use Rattle.wire_sim.specs.declared.event.Happening.{Happening}
use Rattle.clock.specs.declared.moment.Moment.{Moment}
use Rattle.sockets.specs.declared.entry.Kind.{Kind}
use Rattle.sockets.specs.declared.entry.Kind.TheVariants.{Tcp, Udp}
use Rattle.sockets.specs.declared.entry.SocketId.{SocketId}
use Rattle.sockets.specs.declared.entry.Entry.{Entry}
use Rattle.sockets.specs.declared.role.Role.{Role}
use Rattle.sockets.specs.declared.role.Role.TheVariants.{Idle, Listener, Connected, Datagrams}
use Rattle.sockets.specs.Calls.{IsMade, after_socket, after_datagram_socket, connect_refusal, after_connect, last_port_after, pair_connected}
use Rattle.sockets.specs.Entries.{is_socket, is_of_pair, role_after_connect, with_role}
use Rattle.sockets.specs.SocketsView.{SocketsView, holder_id, later_moment, room_of}
use Rattle.sockets.specs.Lists.{change_first}
use Rattle.wire_sim.specs.Fairness.{second_in}
use Rattle.wire_sim.specs.Openings.{epoch_of, epoch_connected, opened_as, opened_by_connect}
use Rattle.sockets.specs.Pairs.{socket_pair}
use Rattle.stream_law.specs.Pairing.{Departed, nothing_yet}
use Rattle.window_law.specs.Windows.{Talks, connects}
use Rattle.wire_sim.specs.Tallies.{is_opening_at}
use Rattle.wire_sim.specs.Trace.{sent_on}
use Rattle.wire_sim.proofs.tables.CallsOnTable.{connects-on, socket_pair-connected, found-connecting}
use Rattle.wire_sim.proofs.tables.EntryChanges.{talks-moved}
use Rattle.wire_sim.proofs.pairing.EndMoves.{pairing, end-stays}
use Rattle.wire_sim.proofs.tables.EntryIsMade.{Makes, table-socket, free-later}
use Rattle.wire_sim.proofs.openings.OpeningIsFound.{MayRise}
use Rattle.wire_sim.proofs.tables.PairOfPorts.{IsOurs, unheld-between, unheld-closed, unheld}
use Rattle.wire_sim.proofs.pairing.WorldAsPairings.{told, Bag, Projects, projects-turned}
use Rattle.wire_sim.proofs.pairing.OpeningIsMove.{not-second, projects-made}
use Rattle.wire_sim.proofs.tables.TableById.{Account, Told, role_at, found-role, Becomes, becomes-changed, becomes-added, IsTable, IsNoted, presence_in, end_with, end_at}

-- the connections of a table are from the host's address
pub table-ours : (side : Side) (a own : Addr) (last : ℕ) (xs : List Entry) (os : List Opening) (t : Told) → own ≡ a → IsTable side a last xs os t → (i : ℕ) (r : Role) → role_at xs i ≡ Some r → IsOurs own r
table-ours side a own last xs os t same table i r at = of_role r (table.noted (record { 0 = i }) r at)
  where
    of_role : (r : Role) → IsNoted side a os (record { 0 = i }) r → IsOurs own r
    of_role (Connected c l) k = k.local ∙ sym same
    of_role (Listener local backlog) k = tt
    of_role (Idle b bound) k = tt
    of_role (Datagrams bound socket) k = tt

-- The epoch of a pair that is opened by a connect is its present one or the next, and rises only where no host holds the pair.
pub record Rises (own other : SocketsView) (os : List Opening) (pair : Pair) (epoch : ℕ) : Type 0 where
  pub within : epoch_of os pair ≤ epoch
  pub own_rises : (o : Opening) → o.pair ≡ pair → o.epoch ≡ epoch → MayRise os o own.entries
  pub other_rises : (o : Opening) → o.pair ≡ pair → o.epoch ≡ epoch → MayRise os o other.entries

rises : (own other : SocketsView) (os : List Opening) (pair : Pair) → find (is_of_pair pair) own.entries ≡ None → Rises own other os pair (epoch_connected os other pair)
rises own other os pair free = by_holder (holder_id other pair) refl
  where
    by_holder : (held : Option SocketId) → holder_id other pair ≡ held → Rises own other os pair (if is_some held then epoch_of os pair else epoch_of os pair + 1)
    by_holder None is = record {
      within = omega arith;
      own_rises = λ o same epoch. inr (λ i c l at of_pair. unheld-closed own.entries pair i c l free at (of_pair ∙ same));
      other_rises = λ o same epoch. inr (λ i c l at of_pair. unheld-closed other.entries pair i c l (unheld other pair is) at (of_pair ∙ same));
    }
    by_holder (Some x) is = record {
      within = omega arith;
      own_rises = λ o same epoch. inl (epoch ∙ ap (epoch_of os) (sym same));
      other_rises = λ o same epoch. inl (epoch ∙ ap (epoch_of os) (sym same));
    }

-- A connect that is started opens one pair.
pub record ConnectOpens (limit : ℕ) (hs ts : Side) (a b : Addr) (own other : SocketsView) (bag : Bag) (openings : List Opening) (trace : List Happening) (now : Moment) (isn : ℕ) (id : SocketId) (peer : Endpoint) (routed : Bool) (place : ℕ) : Type 0 where
  pub opening : Opening
  pub opens : opened_by_connect openings hs id place (after_connect own now isn id peer routed) other ≡ Some opening
  pub unsent : sent_on opening.side opening.id trace ≡ []
  pub projects : Projects limit hs ts a b (after_connect own now isn id peer routed) other bag (openings ++ opening ∷ []) trace

-- the pair that it opens was not opened before at our side, in the epoch in which it is opened
abbrev pub IsFirst : Side → SocketsView → SocketsView → List Opening → SocketId → Endpoint → Bool → Type 0
IsFirst hs own other openings id peer routed = (pair : Pair) → pair_connected own id peer routed ≡ Some pair → second_in openings hs pair (epoch_connected openings other pair) ≡ None

pub projects-connects : (limit : ℕ) (hs ts : Side) (a b : Addr) (own other : SocketsView) (bag : Bag) (openings : List Opening) (place : ℕ) (trace : List Happening) (now : Moment) (isn : ℕ) (id : SocketId) (peer : Endpoint) (routed : Bool) → isn < 2 ^ 32
    → IsFirst hs own other openings id peer routed → connect_refusal own id peer routed ≡ None
    → Projects limit hs ts a b own other bag openings trace → ConnectOpens limit hs ts a b own other bag openings trace now isn id peer routed place
projects-connects limit hs ts a b own other bag openings place trace now isn id peer routed fits fair accepted_call h =
    let k = connects-on own id peer routed accepted_call in
    let local : Endpoint = record { addr = own.addr; port = k.port } in
    let c = opened_actively k.b local peer isn (later_moment own now) in
    let g = role_after_connect local peer isn (later_moment own now) in
    let ys = change_first (is_socket id) (with_role g) own.entries in
    let base : SocketsView = record own { last_port = last_port_after own k.bound k.port } in
    let next : SocketsView = record base { entries = ys } in
    let is_next : after_connect own now isn id peer routed ≡ next = k.becomes now isn in
    let pair = pair_of local peer in
    let epoch = epoch_connected openings other pair in
    let o : Opening = record { side = hs; pair = pair; epoch = epoch; id = id; place = place } in
    let x : Entry = record { id = id; role = Idle k.b k.bound } in
    let before : role_at own.entries id.0 ≡ Some (Idle k.b k.bound) = found-role (is_socket id) own.entries x h.own_table.sole k.found in
    let free : find (is_of_pair pair) own.entries ≡ None =
    unheld-between local peer own.entries k.apart h.own_table.sole (table-ours hs a own.addr own.last_id own.entries openings (told hs trace) h.own_addr h.own_table) k.free in
    let r = rises own other openings pair free in
    let m : Makes hs a openings o own.entries ys c None = record {
      becomes = becomes-changed (is_socket id) g own.entries x h.own_table.sole k.found;
      at_side = refl;
      pair = refl;
      local = h.own_addr;
      next = record { by_id = h.own_table.noted id (Idle k.b k.bound) before; by_epoch = not-second openings hs pair epoch (fair pair k.foreseen); epoch = r.within };
      rises = r.own_rises o refl refl;
    } in
    let named : socket_pair next id ≡ Some pair = socket_pair-connected next id c None (found-connecting own.entries id k.b k.bound local peer isn (later_moment own now) k.found) in
    let within = h.own_table.bound id (Idle k.b k.bound) before in
    let there_end = end_at ts openings other.entries (told ts trace) pair epoch in
    let made : Projects limit hs ts a b next other bag (openings ++ o ∷ []) trace =
    projects-made limit hs ts a b own next other bag openings trace o c None refl (omega arith) within m (inr (Idle k.b k.bound, before)) (r.other_rises o refl refl) h
    (connects (pairing nothing_yet there_end (bag.out pair epoch) (bag.arrived pair epoch)) k.b local peer isn (later_moment own now) refl fits) in
    record {
      opening = o;
      opens = ap (λ w. opened_by_connect openings hs id place w other) is_next ∙ ap (opened_as openings hs id place other) named;
      unsent = ap (λ (a : Account). a.gave) (h.own_table.silent id (h.own_table.noted id (Idle k.b k.bound) before) (inr (Idle k.b k.bound, before)));
      projects = subst (λ w. Projects limit hs ts a b w other bag (openings ++ o ∷ []) trace) (sym is_next) made;
    }

-- a socket that no connection stands at joins the table
pub projects-joined : (limit : ℕ) (hs ts : Side) (a b : Addr) (own next other : SocketsView) (bag : Bag) (openings : List Opening) (trace : List Happening) (r : Role) → next.addr ≡ own.addr → next.last_id ≡ own.last_id + 1
    → next.entries ≡ own.entries ++ record { id = record { 0 = own.last_id + 1 }; role = r } ∷ [] → presence_in (Some r) ≡ Departed
    → ((id : SocketId) → find (is_opening_at hs id) openings ≡ None → IsNoted hs a openings id r) → Projects limit hs ts a b own other bag openings trace
    → Projects limit hs ts a b next other bag openings trace
projects-joined limit hs ts a b own next other bag openings trace r addr last entries absent unseen h =
    let id : SocketId = record { 0 = own.last_id + 1 } in
    let x : Entry = record { id = id; role = r } in
    let ys = own.entries ++ x ∷ [] in
    let above : own.last_id < id.0 = omega arith in
    let free = free-later hs a own.last_id openings own.entries (told hs trace) id above h.own_table in
    let becomes : Becomes own.entries ys id.0 (Some r) = becomes-added own.entries x h.own_table.sole free in
    let was : role_at own.entries id.0 ≡ None = ap (option_map (λ (e : Entry). e.role)) free in
    projects-turned limit hs ts a b own next other bag openings trace trace h (record {
      addr = addr;
      table = subst (λ n. IsTable hs a n next.entries openings (told hs trace)) (sym last)
          (subst (λ xs. IsTable hs a (own.last_id + 1) xs openings (told hs trace)) (sym entries) (table-socket hs a own.last_id openings own.entries (told hs trace) id r refl (unseen id) h.own_table));
      other_told = λ i. refl;
      talks = subst (λ xs. (pair : Pair) (epoch : ℕ) → Talks limit (pairing (end_at hs openings xs (told hs trace) pair epoch) (end_at ts openings other.entries (told ts trace) pair epoch) (bag.out pair epoch) (bag.arrived pair epoch))) (sym entries)
          (talks-moved limit hs openings id own.entries ys (told hs trace) (told hs trace) (λ pair epoch. end_at ts openings other.entries (told ts trace) pair epoch) bag.out bag.arrived becomes.others (λ i apart. refl)
          (end-stays limit (end_with (presence_in (role_at own.entries id.0)) (told hs trace id)) (end_with (presence_in (role_at ys id.0)) (told hs trace id))
          (ap (λ r. end_with (presence_in r) (told hs trace id)) becomes.here ∙ (ap (λ p. end_with p (told hs trace id)) absent ∙ sym (ap (λ r. end_with (presence_in r) (told hs trace id)) was)))) h.talks);
    })

-- a new socket of either kind joins the table
pub projects-socket_made : (limit : ℕ) (hs ts : Side) (a b : Addr) (own next other : SocketsView) (bag : Bag) (openings : List Opening) (trace : List Happening) (kind : Kind) → IsMade kind own next → Projects limit hs ts a b own other bag openings trace
    → Projects limit hs ts a b next other bag openings trace
projects-socket_made limit hs ts a b own next other bag openings trace Tcp made h =
    subst (λ w. Projects limit hs ts a b w other bag openings trace) (sym made)
    (projects-joined limit hs ts a b own (after_socket own (room_of own.sizes.buffer own.manner)) other bag openings trace (Idle (room_of own.sizes.buffer own.manner) None) refl refl refl refl (λ id none. none) h)
projects-socket_made limit hs ts a b own next other bag openings trace Udp made h =
    subst (λ w. Projects limit hs ts a b w other bag openings trace) (sym made)
    (projects-joined limit hs ts a b own (after_datagram_socket own) other bag openings trace (Datagrams None new_socket) refl refl refl refl (λ id none. none) h)
