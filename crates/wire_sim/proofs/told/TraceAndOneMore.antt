-- What the trace tells of a socket after one happening more, and the counts beside the openings.
use Rattle.std.proofs.Common.{◌≡◌, ℕ, ◌+◌, ◌<◌, ◌≤◌, ◌-◌, ◌==◌, ◌&&◌, ◌||◌, nat_le, cond, Bool, true, false, List, [], ◌∷◌, ◌++◌, map, length, take, Option, Some, arith, refl, sym, ◌∙◌, ap, append_assoc, length-append}
use Rattle.std.specs.List.{find}
use Rattle.std.specs.Global.{Vec}
use Rattle.std.proofs.lemmas.Bool.{eqb-true, eq-eqb, leb-false, and_parts, or_parts}
use Rattle.std.proofs.lemmas.List.{append-nil, length-take-le}
use Rattle.ipv4.specs.declared.addr.Endpoint.{Endpoint}
use Rattle.ipv4.specs.declared.addr.Pair.{Pair}
use Rattle.tcp_segment.specs.declared.seq.Seq.{Seq}
use Rattle.clock.specs.declared.moment.Moment.{Moment}
use Rattle.sockets.specs.declared.entry.Kind.{Kind}
use Rattle.sockets.specs.declared.entry.SocketId.{SocketId}
use Rattle.sockets.specs.declared.refusal.Refusal.{Refusal}
use Rattle.sides.specs.declared.side.Side.{Side}
use Rattle.sides.specs.declared.side.Side.TheVariants.{A, B}
use Rattle.wire_sim.specs.declared.event.Call.{Call}
use Rattle.wire_sim.specs.declared.event.Call.TheVariants as call
use Rattle.wire_sim.specs.declared.event.Event.TheVariants as event
use Rattle.wire_sim.specs.declared.event.Answer.{Answer}
use Rattle.wire_sim.specs.declared.event.Answer.TheVariants as answer
use Rattle.wire_sim.specs.declared.event.Opening.{Opening}
use Rattle.wire_sim.specs.declared.event.Happening.{Happening}
use Rattle.wire_sim.specs.declared.world.bag.Note.{Note}
use Rattle.sides.specs.Sides.{same_side, other_side}
use Rattle.wire_sim.specs.Tallies.{is_opening_of, is_opening_at, same_pair, written_by, counts_after}
use Rattle.wire_sim.specs.Trace.{same_socket, sent_by, closed_by, read_by, ended_by, sent_on, closed_on, read_on, ended_on, of_opening, written}
use Rattle.wire_sim.specs.Fairness.{is_stale}
use Rattle.wire_sim.specs.WorldView.{NetworkView, written_at}

-- how many octets the trace tells that each opening took from its caller
abbrev pub tallies : List Happening → List Opening → List ℕ
tallies trace openings = map (λ (o : Opening). length (sent_on o.side o.id trace)) openings

-- a call on a side, and its answer
abbrev pub answered : Side → Call → Answer → Happening
answered side c a = record { event = event.Call side c; answer = a }

-- what a happening tells of a socket
abbrev pub sent_of : Side → SocketId → Happening → List ℕ
sent_of side i h = sent_by side i h.event h.answer

abbrev pub read_of : Side → SocketId → Happening → List ℕ
read_of side i h = read_by side i h.event h.answer

abbrev pub closed_of : Side → SocketId → Happening → Bool
closed_of side i h = closed_by side i h.event h.answer

abbrev pub ended_of : Side → SocketId → Happening → Bool
ended_of side i h = ended_by side i h.event h.answer

-- nothing is told of a socket
abbrev pub IsQuiet : Side → SocketId → Happening → Type 0
IsQuiet side i h = (sent_of side i h ≡ []) × (closed_of side i h ≡ false) × (read_of side i h ≡ []) × (ended_of side i h ≡ false)

-- Tests.

-- a side is itself
pub same_side-same : (s : Side) → same_side s s ≡ true
same_side-same A = refl
same_side-same B = refl

-- a side is not the other one
pub same_side-other : (s : Side) → same_side s (other_side s) ≡ false
same_side-other A = refl
same_side-other B = refl

-- sides that the test finds the same are
pub same_side-true : (a b : Side) → same_side a b ≡ true → a ≡ b
same_side-true A A e = refl
same_side-true A B e = cc
same_side-true B A e = cc
same_side-true B B e = refl

-- the test of two sides does not ask for their order
pub same_side-swap : (a b : Side) → same_side a b ≡ same_side b a
same_side-swap A A = refl
same_side-swap A B = refl
same_side-swap B A = refl
same_side-swap B B = refl

-- nor does that of two numbers
pub eqb-swap : (a b : ℕ) → (a == b) ≡ (b == a)
eqb-swap a b = step (a == b) (b == a) refl refl
  where
    step : (x y : Bool) → (a == b) ≡ x → (b == a) ≡ y → x ≡ y
    step true true e f = refl
    step true false e f = let bad : true ≡ false = sym (eq-eqb b a (sym (eqb-true a b e))) ∙ f in cc
    step false true e f = let bad : true ≡ false = sym (eq-eqb a b (sym (eqb-true b a f))) ∙ e in cc
    step false false e f = refl

-- One happening more.

-- what was sent on a socket is what was sent before, and then what the last happening tells
pub sent_on-added : (side : Side) (id : SocketId) (trace : List Happening) (h : Happening) → sent_on side id (trace ++ h ∷ []) ≡ sent_on side id trace ++ sent_of side id h
sent_on-added side id [] h = append-nil (sent_of side id h)
sent_on-added side id (x ∷ xs) h = ap (λ octets. sent_of side id x ++ octets) (sent_on-added side id xs h) ∙ sym (append_assoc (sent_of side id x) (sent_on side id xs) (sent_of side id h))

-- and likewise what was read on it
pub read_on-added : (side : Side) (id : SocketId) (trace : List Happening) (h : Happening) → read_on side id (trace ++ h ∷ []) ≡ read_on side id trace ++ read_of side id h
read_on-added side id [] h = append-nil (read_of side id h)
read_on-added side id (x ∷ xs) h = ap (λ octets. read_of side id x ++ octets) (read_on-added side id xs h) ∙ sym (append_assoc (read_of side id x) (read_on side id xs) (read_of side id h))

-- and whether our side was closed, and the end told
or_assoc : (a b c : Bool) → (a || (b || c)) ≡ ((a || b) || c)
or_assoc true b c = refl
or_assoc false b c = refl

or_false : (a : Bool) → (a || false) ≡ a
or_false true = refl
or_false false = refl

pub closed_on-added : (side : Side) (id : SocketId) (trace : List Happening) (h : Happening) → closed_on side id (trace ++ h ∷ []) ≡ (closed_on side id trace || closed_of side id h)
closed_on-added side id [] h = or_false (closed_of side id h)
closed_on-added side id (x ∷ xs) h = ap (λ b. closed_of side id x || b) (closed_on-added side id xs h) ∙ or_assoc (closed_of side id x) (closed_on side id xs) (closed_of side id h)

pub ended_on-added : (side : Side) (id : SocketId) (trace : List Happening) (h : Happening) → ended_on side id (trace ++ h ∷ []) ≡ (ended_on side id trace || ended_of side id h)
ended_on-added side id [] h = or_false (ended_of side id h)
ended_on-added side id (x ∷ xs) h = ap (λ b. ended_of side id x || b) (ended_on-added side id xs h) ∙ or_assoc (ended_of side id x) (ended_on side id xs) (ended_of side id h)

-- The counts.

-- the count that is looked up is the length of what was written
pub written_by-tallies : (trace : List Happening) (openings : List Opening) (side : Side) (pair : Pair) (epoch : ℕ)
    → written_by openings (tallies trace openings) side pair epoch ≡ length (written trace openings side pair epoch)
written_by-tallies trace openings side pair epoch = go openings
  where
    step : (o : Opening) (count : ℕ) (found : Option Opening) → count ≡ length (of_opening [] (λ o. sent_on side o.id trace) found) → (b : Bool) → (b ≡ true → o.side ≡ side)
        → cond b (length (sent_on o.side o.id trace)) count ≡ length (of_opening [] (λ o. sent_on side o.id trace) (cond b (Some o) found))
    step o count found e true is = ap (λ s. length (sent_on s o.id trace)) (is refl)
    step o count found e false is = e

    its_side : (o : Opening) → is_opening_of side pair epoch o ≡ true → o.side ≡ side
    its_side o e = same_side-true o.side side (and_parts (same_side o.side side) (same_pair o.pair pair) (and_parts (same_side o.side side && same_pair o.pair pair) (o.epoch == epoch) e).0).0

    go : (os : List Opening) → written_by os (tallies trace os) side pair epoch ≡ length (written trace os side pair epoch)
    go [] = refl
    go (o ∷ os) = step o (written_by os (tallies trace os) side pair epoch) (find (is_opening_of side pair epoch) os) (go os) (is_opening_of side pair epoch o) (its_side o)

-- octets that a send took are counted
pub tallies-counted : (trace : List Happening) (openings : List Opening) (side : Side) (id : SocketId) (octets : Vec ℕ) (count : ℕ) → count ≤ length octets.items
    → counts_after openings (tallies trace openings) side id count ≡ tallies (trace ++ record { event = event.Call side (call.Send id octets); answer = answer.Sent count } ∷ []) openings
tallies-counted trace openings side id octets count within = go openings
  where
    h : Happening
    h = answered side (call.Send id octets) (answer.Sent count)

    step : (w : ℕ) (b : Bool) → cond b (w + count) w ≡ w + length (cond b (take count octets.items) [])
    step w true = ap (λ n. w + n) (sym (length-take-le count octets.items within))
    step w false = omega arith

    test : (o : Opening) → is_opening_at side id o ≡ same_socket o.side o.id side id
    test o = ap (λ b. b && (o.id.0 == id.0)) (same_side-swap o.side side) ∙ ap (λ b. same_side side o.side && b) (eqb-swap o.id.0 id.0)

    one : (o : Opening) → cond (is_opening_at side id o) (length (sent_on o.side o.id trace) + count) (length (sent_on o.side o.id trace)) ≡ length (sent_on o.side o.id (trace ++ h ∷ []))
    one o =
        let w = length (sent_on o.side o.id trace) in
        ap (λ b. cond b (w + count) w) (test o)
        ∙ (step w (same_socket o.side o.id side id)
        ∙ sym (ap length (sent_on-added o.side o.id trace h) ∙ length-append (sent_on o.side o.id trace) (sent_of o.side o.id h)))

    go : (os : List Opening) → counts_after os (tallies trace os) side id count ≡ tallies (trace ++ h ∷ []) os
    go [] = refl
    go (o ∷ os) = ap (λ w. w ∷ counts_after os (tallies trace os) side id count) (one o) ∙ ap (λ ws. length (sent_on o.side o.id (trace ++ h ∷ [])) ∷ ws) (go os)

-- a happening that tells of no octets leaves the counts
pub tallies-quiet : (trace : List Happening) (openings : List Opening) (h : Happening) → ((side : Side) (id : SocketId) → sent_of side id h ≡ [])
    → tallies (trace ++ h ∷ []) openings ≡ tallies trace openings
tallies-quiet trace openings h quiet = go openings
  where
    one : (o : Opening) → sent_on o.side o.id (trace ++ h ∷ []) ≡ sent_on o.side o.id trace
    one o = sent_on-added o.side o.id trace h ∙ (ap (λ octets. sent_on o.side o.id trace ++ octets) (quiet o.side o.id) ∙ append-nil (sent_on o.side o.id trace))

    go : (os : List Opening) → tallies (trace ++ h ∷ []) os ≡ tallies trace os
    go [] = refl
    go (o ∷ os) = ap (λ octets. length octets ∷ tallies (trace ++ h ∷ []) os) (one o) ∙ ap (λ ws. length (sent_on o.side o.id trace) ∷ ws) (go os)

-- an opening of a socket on which nothing was sent has the count 0
pub tallies-opened : (trace : List Happening) (openings : List Opening) (o : Opening) → sent_on o.side o.id trace ≡ [] → tallies trace (openings ++ o ∷ []) ≡ tallies trace openings ++ 0 ∷ []
tallies-opened trace [] o none = ap (λ octets. length octets ∷ []) none
tallies-opened trace (x ∷ xs) o none = ap (λ ws. length (sent_on x.side x.id trace) ∷ ws) (tallies-opened trace xs o none)

-- of a frame that is not stale, both ends took less than the limit from their callers since it went out
pub timely : (n : NetworkView) (note : Note) → is_stale n note ≡ false → (written_at n A note.pair note.epoch < note.at_a + n.limit) × (written_at n B note.pair note.epoch < note.at_b + n.limit)
timely n note fresh = (within (written_at n A note.pair note.epoch) note.at_a both.0, within (written_at n B note.pair note.epoch) note.at_b both.1)
  where
    both : (nat_le n.limit (written_at n A note.pair note.epoch - note.at_a) ≡ false) × (nat_le n.limit (written_at n B note.pair note.epoch - note.at_b) ≡ false)
    both = or_parts (nat_le n.limit (written_at n A note.pair note.epoch - note.at_a)) (nat_le n.limit (written_at n B note.pair note.epoch - note.at_b)) fresh

    within : (w at : ℕ) → nat_le n.limit (w - at) ≡ false → w < at + n.limit
    within w at e = let less : w - at < n.limit = leb-false n.limit (w - at) e in omega arith

-- What a happening tells of a socket.

-- a tick tells of none
pub quiet-tick : (s : Side) (moment : Moment) (a : Answer) (side : Side) (id : SocketId) → IsQuiet side id (record { event = event.Tick s moment; answer = a })
quiet-tick s moment a side id = (refl, refl, refl, refl)

-- nor does the going out of a frame
pub quiet-emit : (s : Side) (a : Answer) (side : Side) (id : SocketId) → IsQuiet side id (record { event = event.Emit s; answer = a })
quiet-emit s a side id = (refl, refl, refl, refl)

-- nor does its arrival
pub quiet-deliver : (s : Side) (index : ℕ) (isn : Seq) (a : Answer) (side : Side) (id : SocketId) → IsQuiet side id (record { event = event.Deliver s index isn; answer = a })
quiet-deliver s index isn a side id = (refl, refl, refl, refl)

-- the test of a call's own side
own_socket : (side : Side) (id i : SocketId) → same_socket side i side id ≡ (i.0 == id.0)
own_socket side id i = ap (λ b. b && (id.0 == i.0)) (same_side-same side) ∙ eqb-swap id.0 i.0

-- octets that were sent are told of the socket that sent them, and of no other
pub sent_by-send : (side : Side) (id i : SocketId) (octets : Vec ℕ) (count : ℕ) → sent_of side i (answered side (call.Send id octets) (answer.Sent count)) ≡ cond (i.0 == id.0) (take count octets.items) []
sent_by-send side id i octets count = ap (λ b. cond b (take count octets.items) []) (own_socket side id i)

-- octets that were read are told of the socket that read them, and of no other
pub read_by-recv : (side : Side) (id i : SocketId) (len : ℕ) (octets : Vec ℕ) → read_of side i (answered side (call.Recv id len) (answer.Octets octets)) ≡ cond (i.0 == id.0) octets.items []
read_by-recv side id i len octets = ap (λ b. cond b octets.items []) (own_socket side id i)

-- a side is closed on the socket that closed it, and on no other
pub closed_by-shutdown : (side : Side) (id i : SocketId) → closed_of side i (answered side (call.Shutdown id) answer.Done) ≡ (i.0 == id.0)
closed_by-shutdown side id i = own_socket side id i

pub closed_by-close : (side : Side) (id i : SocketId) → closed_of side i (answered side (call.Close id) answer.Done) ≡ (i.0 == id.0)
closed_by-close side id i = own_socket side id i

-- the end is told on the socket that asked, and on no other
pub ended_by-recv : (side : Side) (id i : SocketId) (len : ℕ) → ended_of side i (answered side (call.Recv id len) answer.EndOfStream) ≡ (i.0 == id.0)
ended_by-recv side id i len = own_socket side id i

sent_by-elsewhere : (side s : Side) (i : SocketId) (c : Call) (a : Answer) → same_side s side ≡ false → sent_by side i (event.Call s c) a ≡ []
sent_by-elsewhere side s i (call.Send id octets) (answer.Sent count) e = ap (λ b. cond (b && (id.0 == i.0)) (take count octets.items) []) e
sent_by-elsewhere side s i _ _ e = refl

read_by-elsewhere : (side s : Side) (i : SocketId) (c : Call) (a : Answer) → same_side s side ≡ false → read_by side i (event.Call s c) a ≡ []
read_by-elsewhere side s i (call.Recv id len) (answer.Octets octets) e = ap (λ b. cond (b && (id.0 == i.0)) octets.items []) e
read_by-elsewhere side s i _ _ e = refl

closed_by-elsewhere : (side s : Side) (i : SocketId) (c : Call) (a : Answer) → same_side s side ≡ false → closed_by side i (event.Call s c) a ≡ false
closed_by-elsewhere side s i (call.Shutdown id) answer.Done e = ap (λ b. b && (id.0 == i.0)) e
closed_by-elsewhere side s i (call.Close id) answer.Done e = ap (λ b. b && (id.0 == i.0)) e
closed_by-elsewhere side s i _ _ e = refl

ended_by-elsewhere : (side s : Side) (i : SocketId) (c : Call) (a : Answer) → same_side s side ≡ false → ended_by side i (event.Call s c) a ≡ false
ended_by-elsewhere side s i (call.Recv id len) answer.EndOfStream e = ap (λ b. b && (id.0 == i.0)) e
ended_by-elsewhere side s i _ _ e = refl

-- a call tells of no socket of the other side
pub other-quiet : (side : Side) (c : Call) (a : Answer) (i : SocketId) → IsQuiet (other_side side) i (answered side c a)
other-quiet side c a i =
    let apart = same_side-other side in
    (sent_by-elsewhere (other_side side) side i c a apart, closed_by-elsewhere (other_side side) side i c a apart, read_by-elsewhere (other_side side) side i c a apart, ended_by-elsewhere (other_side side) side i c a apart)

-- a call that tells of no socket of its own side tells of none
pub quiet-everywhere : (side : Side) (c : Call) (a : Answer) → ((i : SocketId) → IsQuiet side i (answered side c a)) → (s : Side) (i : SocketId) → IsQuiet s i (answered side c a)
quiet-everywhere A c a here A i = here i
quiet-everywhere A c a here B i = other-quiet A c a i
quiet-everywhere B c a here A i = other-quiet B c a i
quiet-everywhere B c a here B i = here i

-- Calls that tell of no socket.

-- the making of a socket, whatever is answered
pub quiet-socket : (side : Side) (kind : Kind) (a : Answer) (i : SocketId) → IsQuiet side i (answered side (call.Socket kind) a)
quiet-socket side kind a i = (refl, refl, refl, refl)

-- a bind, whatever is answered
pub quiet-bind : (side : Side) (id : SocketId) (local : Endpoint) (a : Answer) (i : SocketId) → IsQuiet side i (answered side (call.Bind id local) a)
quiet-bind side id local a i = (refl, refl, refl, refl)

-- a listen, whatever is answered
pub quiet-listen : (side : Side) (id : SocketId) (backlog : ℕ) (a : Answer) (i : SocketId) → IsQuiet side i (answered side (call.Listen id backlog) a)
quiet-listen side id backlog a i = (refl, refl, refl, refl)

-- an accept, whatever is answered
pub quiet-accept : (side : Side) (id : SocketId) (a : Answer) (i : SocketId) → IsQuiet side i (answered side (call.Accept id) a)
quiet-accept side id a i = (refl, refl, refl, refl)

-- a connect, whatever is answered
pub quiet-connect : (side : Side) (isn : Seq) (id : SocketId) (peer : Endpoint) (a : Answer) (i : SocketId) → IsQuiet side i (answered side (call.Connect isn id peer) a)
quiet-connect side isn id peer a i = (refl, refl, refl, refl)

-- the wish for no delay, whatever is answered
pub quiet-nodelay : (side : Side) (id : SocketId) (on : Bool) (a : Answer) (i : SocketId) → IsQuiet side i (answered side (call.SetNoDelay id on) a)
quiet-nodelay side id on a i = (refl, refl, refl, refl)

-- .. and the wish that a silent peer is asked
pub quiet-keepalive : (side : Side) (id : SocketId) (every : Option ℕ) (a : Answer) (i : SocketId) → IsQuiet side i (answered side (call.SetKeepAlive id every) a)
quiet-keepalive side id every a i = (refl, refl, refl, refl)

-- an abort, whatever is answered
pub quiet-abort : (side : Side) (id : SocketId) (a : Answer) (i : SocketId) → IsQuiet side i (answered side (call.Abort id) a)
quiet-abort side id a i = (refl, refl, refl, refl)

-- that a connection gives way, whatever is answered
pub quiet-giving_way : (side : Side) (id : SocketId) (a : Answer) (i : SocketId) → IsQuiet side i (answered side (call.GiveWay id) a)
quiet-giving_way side id a i = (refl, refl, refl, refl)

-- a question for the state, whatever is answered
pub quiet-state : (side : Side) (id : SocketId) (a : Answer) (i : SocketId) → IsQuiet side i (answered side (call.State id) a)
quiet-state side id a i = (refl, refl, refl, refl)

-- for what it is ready for, whatever is answered
pub quiet-ready : (side : Side) (id : SocketId) (a : Answer) (i : SocketId) → IsQuiet side i (answered side (call.Ready id) a)
quiet-ready side id a i = (refl, refl, refl, refl)

-- for how its connection stands, whatever is answered
pub quiet-info : (side : Side) (id : SocketId) (a : Answer) (i : SocketId) → IsQuiet side i (answered side (call.Info id) a)
quiet-info side id a i = (refl, refl, refl, refl)

-- for its own end, whatever is answered
pub quiet-sockname : (side : Side) (id : SocketId) (a : Answer) (i : SocketId) → IsQuiet side i (answered side (call.SockName id) a)
quiet-sockname side id a i = (refl, refl, refl, refl)

-- for its peer, whatever is answered
pub quiet-peername : (side : Side) (id : SocketId) (a : Answer) (i : SocketId) → IsQuiet side i (answered side (call.PeerName id) a)
quiet-peername side id a i = (refl, refl, refl, refl)

-- a datagram that is sent, whatever is answered
pub quiet-sendto : (side : Side) (id : SocketId) (peer : Endpoint) (octets : Vec ℕ) (a : Answer) (i : SocketId) → IsQuiet side i (answered side (call.SendTo id peer octets) a)
quiet-sendto side id peer octets a i = (refl, refl, refl, refl)

-- a datagram that is read, whatever is answered
pub quiet-recvfrom : (side : Side) (id : SocketId) (len : ℕ) (a : Answer) (i : SocketId) → IsQuiet side i (answered side (call.RecvFrom id len) a)
quiet-recvfrom side id len a i = (refl, refl, refl, refl)

-- a send that is refused
pub quiet-send_refused : (side : Side) (id : SocketId) (octets : Vec ℕ) (e : Refusal) (i : SocketId) → IsQuiet side i (answered side (call.Send id octets) (answer.Refused e))
quiet-send_refused side id octets e i = (refl, refl, refl, refl)

-- a receive that is refused
pub quiet-recv_refused : (side : Side) (id : SocketId) (len : ℕ) (e : Refusal) (i : SocketId) → IsQuiet side i (answered side (call.Recv id len) (answer.Refused e))
quiet-recv_refused side id len e i = (refl, refl, refl, refl)

-- a closing that is refused
pub quiet-shutdown_refused : (side : Side) (id : SocketId) (e : Refusal) (i : SocketId) → IsQuiet side i (answered side (call.Shutdown id) (answer.Refused e))
quiet-shutdown_refused side id e i = (refl, refl, refl, refl)

pub quiet-close_refused : (side : Side) (id : SocketId) (e : Refusal) (i : SocketId) → IsQuiet side i (answered side (call.Close id) (answer.Refused e))
quiet-close_refused side id e i = (refl, refl, refl, refl)
