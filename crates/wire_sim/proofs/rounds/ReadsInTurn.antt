-- Each receive that answers octets answers at least one, and leaves as many fewer to be read.
use Rattle.std.proofs.Common.{◌≡◌, ◌+◌, ◌-◌, ◌<◌, ◌≤◌, ◌==◌, ◌||◌, ◌&&◌, min, not, ℕ, Bool, true, false, cond, if◌then◌else◌, List, length, take, drop, Option, Some, None, is_some, option_map, Result, Ok, Err, arith, refl, sym, ◌∙◌, ap, subst}
use Rattle.std.specs.List.{find}
use Rattle.std.specs.Global.{Vec}
use Rattle.std.proofs.lemmas.List.{length-drop, length-take}
use Rattle.tcp_halves.specs.declared.buffers.TheConstants.{LARGEST_CAPACITY}
use Rattle.tcp_halves.specs.Stream.{after_read}
use Rattle.tcp_state.specs.declared.calls.Received.{Received}
use Rattle.tcp_state.specs.declared.calls.Received.TheVariants as received
use Rattle.tcp_state.specs.declared.calls.Refusal.{Refusal as ConnectionRefusal}
use Rattle.tcp_state.specs.declared.calls.Refusal.TheVariants as connection_variants
use Rattle.tcp_state.specs.Calls as connection_calls
use Rattle.tcp_state.specs.Calls.{unless_pending, recv_count}
use Rattle.tcp_state.specs.View.{View, is_opening, is_read_closed}
use Rattle.sockets.specs.declared.entry.SocketId.{SocketId}
use Rattle.sockets.specs.declared.entry.Entry.{Entry}
use Rattle.sockets.specs.declared.role.Role.{Role}
use Rattle.sockets.specs.declared.role.Role.TheVariants.{Idle, Listener, Connected, Datagrams}
use Rattle.sockets.specs.declared.refusal.Refusal.{Refusal}
use Rattle.sockets.specs.Calls.{of_socket, recv_answer}
use Rattle.sockets.specs.Entries.{in_connection, has_socket, is_socket, role_after_recv}
use Rattle.sockets.specs.SocketsView.{SocketsView, role_of}
use Rattle.sockets.specs.Sound.{IsSoundRole}
use Rattle.host.specs.HostView.{HostView}
use Rattle.host.specs.Sound.{IsSoundHost}
use Rattle.sockets.proofs.Opened.{socket_changed}
use Rattle.sides.specs.declared.side.Side.{Side}
use Rattle.sides.specs.declared.side.Side.TheVariants.{A, B}
use Rattle.wire_sim.specs.declared.event.Call.TheVariants as call
use Rattle.wire_sim.specs.declared.event.Event.TheVariants as event
use Rattle.wire_sim.specs.declared.event.Answer.{Answer}
use Rattle.wire_sim.specs.declared.event.Answer.TheVariants as reply
use Rattle.wire_sim.specs.Runs.{IsStep}
use Rattle.wire_sim.specs.Rounds.{read_at_once, Receives, none, one_more, Reads, EndsReading}
use Rattle.wire_sim.specs.Steps.{recv_len, MeetsReceived}
use Rattle.wire_sim.specs.WorldView.{WorldView, SameAnswer, octets_in, table_of}
use Rattle.wire_sim.proofs.lists.FoundAfterChange.{All-find, find-passes}
use Rattle.wire_sim.proofs.tables.CallsOnTable.{reads-on, octets_told, received-connected, readable_on-connected}

-- how many octets can be read on a socket
abbrev unread_in : Role → ℕ
unread_in role = in_connection 0 (λ c. length c.receiving.readable) role

abbrev pub unread : SocketsView → SocketId → ℕ
unread h id = of_socket 0 unread_in (role_of h id)

abbrev pub unread_at : WorldView → Side → SocketId → ℕ
unread_at w side id = unread (table_of w.network side) id

-- no more than a connection's buffer holds
unread_few : (h : HostView) (id : SocketId) → IsSoundHost h → unread h.sockets id ≤ LARGEST_CAPACITY
unread_few h id sound = by_entry (find (is_socket id) h.sockets.entries) refl
  where
    by_role : (r : Role) → IsSoundRole r → unread_in r ≤ LARGEST_CAPACITY
    by_role (Connected c l) solid = by_state (is_opening c.state) solid.sound.readable
      where
        by_state : (b : Bool) → length c.receiving.readable ≤ cond b 0 c.receiving.size → length c.receiving.readable ≤ LARGEST_CAPACITY
        by_state true few = omega (arith, few)
        by_state false few = omega (arith, few, solid.sound.terms.places, solid.sound.terms.capacity)
    by_role (Listener local backlog) solid = omega arith
    by_role (Idle buffers bound) solid = omega arith
    by_role (Datagrams bound socket) solid = omega arith

    by_entry : (o : Option Entry) → find (is_socket id) h.sockets.entries ≡ o → unread h.sockets id ≤ LARGEST_CAPACITY
    by_entry None found = rw found (omega arith)
    by_entry (Some e) found = rw found (by_role e.role (All-find (λ (x : Entry). IsSoundRole x.role) (is_socket id) h.sockets.entries e sound.table.entries found))

pub unread_at_most : (w : WorldView) (side : Side) (id : SocketId) → IsSoundHost w.network.a.host → IsSoundHost w.network.b.host → unread_at w side id ≤ LARGEST_CAPACITY
unread_at_most w A id sound_a sound_b = unread_few w.network.a.host id sound_a
unread_at_most w B id sound_a sound_b = unread_few w.network.b.host id sound_b

-- octets are answered where there are some
some_told : (c : View) (len count : ℕ) → connection_calls.recv_answer c len ≡ Ok (received.Octets count) → (length c.receiving.readable == 0) ≡ false
some_told c len count = by_tests c.pending_error (is_opening c.state) (length c.receiving.readable == 0) (is_read_closed c.state) refl
  where
    again : Result Received ConnectionRefusal
    again = Err connection_variants.EAGAIN

    ended : Result Received ConnectionRefusal
    ended = Ok received.EndOfStream

    by_tests : (error : Option ConnectionRefusal) (opening bare seen : Bool) → (length c.receiving.readable == 0) ≡ bare
        → unless_pending error (if opening then again else if not bare then Ok (received.Octets (recv_count c len)) else if seen then ended else again) ≡ Ok (received.Octets count)
        → (length c.receiving.readable == 0) ≡ false
    by_tests (Some error) opening bare seen empty e = cc
    by_tests None true bare seen empty e = let bad : again ≡ Ok (received.Octets count) = e in cc
    by_tests None false false seen empty e = empty
    by_tests None false true true empty e = let bad : ended ≡ Ok (received.Octets count) = e in cc
    by_tests None false true false empty e = let bad : again ≡ Ok (received.Octets count) = e in cc

-- what a receive leaves, where it answered octets
pub record LeavesFewer (before after count : ℕ) : Type 0 where
  pub some : 0 < count
  pub fewer : after + count ≡ before

-- of a connection
left_of : (c : View) (len : ℕ) → 0 < len → is_some c.pending_error ≡ false → is_opening c.state ≡ false → (length c.receiving.readable == 0) ≡ false
    → LeavesFewer (length c.receiving.readable) (length (connection_calls.after_recv c len).receiving.readable) (length (take (recv_count c len) c.receiving.readable))
left_of c len room untold opened some =
    let rest : (connection_calls.after_recv c len).receiving.readable ≡ drop (recv_count c len) c.receiving.readable = rw (untold, opened, some) in
    let left : length (connection_calls.after_recv c len).receiving.readable ≡ length c.receiving.readable - recv_count c len = ap (length {A = ℕ}) rest ∙ length-drop (recv_count c len) c.receiving.readable in
    let count : length (take (recv_count c len) c.receiving.readable) ≡ min (recv_count c len) (length c.receiving.readable) = length-take (recv_count c len) c.receiving.readable in
    grind (arith, room, some, left, count)

-- it stays the socket that it was
socket_stays : (c : View) (l : Option SocketId) (len : ℕ) → has_socket (Connected c l) ≡ true → has_socket (Connected (connection_calls.after_recv c len) l) ≡ true
socket_stays c l len is = ap (λ (b : Bool). not (is_some l || b)) (same (is_some c.pending_error || is_opening c.state || (length c.receiving.readable == 0))) ∙ is
  where
    same : (b : Bool) → (if b then c else record c { receiving = after_read c.receiving (recv_count c len) }).released ≡ c.released
    same true = refl
    same false = refl

-- of a socket of a table
fewer_on : (h new : SocketsView) (id : SocketId) (len : ℕ) (octets : Vec ℕ) → 0 < len → MeetsReceived h id len (recv_answer h id len) (reply.Octets octets) new
    → LeavesFewer (unread h id) (unread new id) (length octets.items)
fewer_on h new id len octets room = by_outcome (recv_answer h id len) refl
  where
    by_outcome : (r : Result Received Refusal) → recv_answer h id len ≡ r → MeetsReceived h id len r (reply.Octets octets) new → LeavesFewer (unread h id) (unread new id) (length octets.items)
    by_outcome (Err e) is m = absurd m
    by_outcome (Ok received.EndOfStream) is m = absurd m
    by_outcome (Ok (received.Octets count)) is m =
        let r = reads-on h id len (received.Octets count) is in
        let t = octets_told r.c len count r.told in
        let before : role_of h id ≡ Some (Connected r.c r.l) = ap (λ (o : Option Entry). option_map (λ (e : Entry). e.role) o) r.found in
        let next : role_after_recv len (Connected r.c r.l) ≡ Connected (connection_calls.after_recv r.c len) r.l = received-connected r.c r.l len r.some in
        let was : has_socket (Connected r.c r.l) ≡ true = is_one id r.c r.l (find-passes (is_socket id) h.entries _ r.found) in
        let still : has_socket (role_after_recv len (Connected r.c r.l)) ≡ true = ap has_socket next ∙ socket_stays r.c r.l len was in
        let after : role_of new id ≡ Some (Connected (connection_calls.after_recv r.c len) r.l) =
        ap (λ (w : SocketsView). role_of w id) m.1 ∙ socket_changed h id (role_after_recv len) (Connected r.c r.l) before still ∙ ap Some next in
        let got : octets.items ≡ take (recv_count r.c len) r.c.receiving.readable =
        m.0 ∙ readable_on-connected h id count r.c r.l r.found ∙ ap (λ i. take i r.c.receiving.readable) t.2 in
        let fewer = left_of r.c len room t.0 t.1 (some_told r.c len count r.told) in
        rw (before, after, got) fewer
      where
        is_one : (i : SocketId) (c : View) (l : Option SocketId) → is_socket i (record { id = i; role = Connected c l }) ≡ true → has_socket (Connected c l) ≡ true
        is_one i c l passes = both_second (i.0 == i.0) (has_socket (Connected c l)) passes
          where
            both_second : (a b : Bool) → (a && b) ≡ true → b ≡ true
            both_second true b e = e
            both_second false b e = cc

-- of a socket of a side
pub fewer_unread : (side : Side) (id : SocketId) (octets : Vec ℕ) (w v : WorldView) → IsStep (event.Call side (call.Recv id read_at_once)) (reply.Octets octets) w v
    → LeavesFewer (unread_at w side id) (unread_at v side id) (length octets.items)
fewer_unread side id octets w v step =
    let room : 0 < recv_len read_at_once = omega arith in
    fewer_on (table_of w.network side) (table_of v.network side) id (recv_len read_at_once) octets room step.network.0.table

-- Octets that are told are those of the trace, in another place of memory.
octets_given : (told given : Answer) (octets : Vec ℕ) → told ≡ reply.Octets octets → SameAnswer told given → (x : Vec ℕ) × (given ≡ reply.Octets x) × (x.items ≡ octets.items)
octets_given told given octets is same = by_answer given (subst (λ a. SameAnswer a given) is same)
  where
    by_answer : (a : Answer) → SameAnswer (reply.Octets octets) a → (x : Vec ℕ) × (a ≡ reply.Octets x) × (x.items ≡ octets.items)
    by_answer (reply.Octets x) s = let e = s.octets in let here : x.items ≡ octets.items = cc in (x, refl, here)
    by_answer (reply.Datagram x from) s = let e = s.source in cc
    by_answer (reply.Socket i) s = let e = s.octets in cc
    by_answer reply.Done s = let e = s.octets in cc
    by_answer (reply.Accepted i p) s = let e = s.octets in cc
    by_answer reply.Started s = let e = s.octets in cc
    by_answer (reply.Sent n) s = let e = s.octets in cc
    by_answer reply.EndOfStream s = let e = s.octets in cc
    by_answer (reply.State x) s = let e = s.octets in cc
    by_answer (reply.Ready x) s = let e = s.octets in cc
    by_answer (reply.Info x) s = let e = s.octets in cc
    by_answer (reply.Endpoint x) s = let e = s.octets in cc
    by_answer (reply.Frame i n) s = let e = s.octets in cc
    by_answer reply.NoFrame s = let e = s.octets in cc
    by_answer reply.Taken s = let e = s.octets in cc
    by_answer (reply.Dropped x) s = let e = s.octets in cc
    by_answer (reply.Refused x) s = let e = s.octets in cc

-- so many octets were read, and so many are left at most
pub record HasRead (side : Side) (id : SocketId) (count : ℕ) (old new : WorldView) : Type 0 where
  pub octets : Receives side id count old new
  pub left : count + unread_at new side id ≤ LARGEST_CAPACITY

pub read_none : (side : Side) (id : SocketId) (w : WorldView) → IsSoundHost w.network.a.host → IsSoundHost w.network.b.host → HasRead side id 0 w w
read_none side id w sound_a sound_b = let few = unread_at_most w side id sound_a sound_b in record { octets = none w; left = omega (arith, few) }

-- what one receive more reads, as it is told
pub record ReadsMore (side : Side) (id : SocketId) (count more : ℕ) (old mid new : WorldView) : Type 0 where
  pub read : HasRead side id (count + more) old new
  pub fewer : LeavesFewer (unread_at mid side id) (unread_at new side id) more

pub read_more : (side : Side) (id : SocketId) (count : ℕ) (told : Answer) (octets : Vec ℕ) (old w v : WorldView) → told ≡ reply.Octets octets → HasRead side id count old w
    → (given : Answer) × SameAnswer told given × IsStep (event.Call side (call.Recv id read_at_once)) given w v → ReadsMore side id count (length octets.items) old w v
read_more side id count told octets old w v is so_far step =
    let x = octets_given told step.0 octets is step.1 in
    let taken : IsStep (event.Call side (call.Recv id read_at_once)) (reply.Octets x.0) w v = subst (λ a. IsStep (event.Call side (call.Recv id read_at_once)) a w v) x.1 step.2 in
    let fewer = fewer_unread side id x.0 w v taken in
    subst (λ (l : List ℕ). ReadsMore side id count (length l) old w v) x.2 (record {
      read = record { octets = one_more count x.0 old w v so_far.octets taken; left = omega (arith, so_far.left, fewer.fewer) };
      fewer = fewer;
    })

-- An answer without octets ends the reading.
pub reads_end : (side : Side) (id : SocketId) (count : ℕ) (told : Answer) (old w v : WorldView) → octets_in told ≡ None → HasRead side id count old w
    → (given : Answer) × SameAnswer told given × IsStep (event.Call side (call.Recv id read_at_once)) given w v → Reads side id count old v
reads_end side id count told old w v empty so_far step = record {
  read = w;
  octets = so_far.octets;
  told = step.0;
  last = by_answer (recv_answer own id (recv_len read_at_once)) step.0 (sym step.1.octets ∙ empty) step.2.network.0.table;
  ends = step.2;
}
  where
    own : SocketsView
    own = table_of w.network side

    by_answer : (r : Result Received Refusal) (a : Answer) → octets_in a ≡ None → MeetsReceived own id (recv_len read_at_once) r a (table_of v.network side) → EndsReading a
    by_answer r (reply.Refused x) e m = tt
    by_answer r reply.EndOfStream e m = tt
    by_answer r (reply.Octets x) e m = cc
    by_answer r (reply.Datagram x from) e m = cc
    by_answer (Ok (received.Octets count)) (reply.Socket i) e m = absurd m
    by_answer (Ok received.EndOfStream) (reply.Socket i) e m = absurd m
    by_answer (Err x) (reply.Socket i) e m = absurd m
    by_answer (Ok (received.Octets count)) reply.Done e m = absurd m
    by_answer (Ok received.EndOfStream) reply.Done e m = absurd m
    by_answer (Err x) reply.Done e m = absurd m
    by_answer (Ok (received.Octets count)) (reply.Accepted i p) e m = absurd m
    by_answer (Ok received.EndOfStream) (reply.Accepted i p) e m = absurd m
    by_answer (Err x) (reply.Accepted i p) e m = absurd m
    by_answer (Ok (received.Octets count)) reply.Started e m = absurd m
    by_answer (Ok received.EndOfStream) reply.Started e m = absurd m
    by_answer (Err x) reply.Started e m = absurd m
    by_answer (Ok (received.Octets count)) (reply.Sent n) e m = absurd m
    by_answer (Ok received.EndOfStream) (reply.Sent n) e m = absurd m
    by_answer (Err x) (reply.Sent n) e m = absurd m
    by_answer (Ok (received.Octets count)) (reply.State y) e m = absurd m
    by_answer (Ok (received.Octets count)) (reply.Ready y) e m = absurd m
    by_answer (Ok (received.Octets count)) (reply.Info y) e m = absurd m
    by_answer (Ok received.EndOfStream) (reply.State y) e m = absurd m
    by_answer (Ok received.EndOfStream) (reply.Ready y) e m = absurd m
    by_answer (Ok received.EndOfStream) (reply.Info y) e m = absurd m
    by_answer (Err x) (reply.State y) e m = absurd m
    by_answer (Err x) (reply.Ready y) e m = absurd m
    by_answer (Err x) (reply.Info y) e m = absurd m
    by_answer (Ok (received.Octets count)) (reply.Endpoint y) e m = absurd m
    by_answer (Ok received.EndOfStream) (reply.Endpoint y) e m = absurd m
    by_answer (Err x) (reply.Endpoint y) e m = absurd m
    by_answer (Ok (received.Octets count)) (reply.Frame i n) e m = absurd m
    by_answer (Ok received.EndOfStream) (reply.Frame i n) e m = absurd m
    by_answer (Err x) (reply.Frame i n) e m = absurd m
    by_answer (Ok (received.Octets count)) reply.NoFrame e m = absurd m
    by_answer (Ok received.EndOfStream) reply.NoFrame e m = absurd m
    by_answer (Err x) reply.NoFrame e m = absurd m
    by_answer (Ok (received.Octets count)) reply.Taken e m = absurd m
    by_answer (Ok received.EndOfStream) reply.Taken e m = absurd m
    by_answer (Err x) reply.Taken e m = absurd m
    by_answer (Ok (received.Octets count)) (reply.Dropped y) e m = absurd m
    by_answer (Ok received.EndOfStream) (reply.Dropped y) e m = absurd m
    by_answer (Err x) (reply.Dropped y) e m = absurd m
