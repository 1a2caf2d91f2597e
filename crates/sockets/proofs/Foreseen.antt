-- What is foreseen of a segment and of a connect is what comes of it.
use Rattle.std.proofs.Common.{◌≡◌, ℕ, Bool, not, is_some, Option, Some, None, Result, Ok, Err, refl, sym, ◌∙◌}
use Rattle.std.specs.List.{position}
use Rattle.sockets.proofs.Firsts.{found_by_place}
use Rattle.ipv4.specs.declared.addr.Addr.{Addr}
use Rattle.ipv4.specs.declared.addr.Endpoint.{Endpoint}
use Rattle.tcp_segment.specs.declared.head.Head.{Head}
use Rattle.tcp_segment.specs.Segment.{Segment}
use Rattle.clock.specs.declared.moment.Moment.{Moment}
use Rattle.sockets.specs.declared.entry.SocketId.{SocketId}
use Rattle.sockets.specs.declared.refusal.Refusal.{Refusal}
use Rattle.sockets.specs.SocketsView.{SocketsView}
use Rattle.sockets.specs.Entries.{is_between}
use Rattle.sockets.specs.Arrival.{local_end, peer_end, is_opening, arrival_with_reply, arrival, opened_by, pair_opened}
use Rattle.sockets.proofs.Arrivals.{IsReply, refusing, to_stray, at_listener, by_arrival}
use Rattle.sockets.proofs.Followed.{by_test}
use Rattle.sockets.specs.Calls.{port_connected, connect_refusal, pair_connected}

-- an answer opens nothing, and nothing else is foreseen of its segment
answer-opens_nothing : (h : SocketsView) (source : Addr) (s : Segment) (o : Option Head) → None ≡ opened_by h source s (arrival_with_reply h o)
answer-opens_nothing h source s None = refl
answer-opens_nothing h source s (Some head) = refl

answer_foreseen : (h : SocketsView) (source : Addr) (s : Segment) (o : Option Head) → IsReply h source s o → pair_opened h source s ≡ None
answer_foreseen h source s _ (refusing e found refused) = rw found
answer_foreseen h source s _ (to_stray none stray) = by_test (is_opening s.flags) (λ opens. rw (none, opens, stray)) (λ other. rw (none, other))
answer_foreseen h source s _ (at_listener listener none found other) = rw (none, other)

pub opening_foreseen : (h : SocketsView) (now : Moment) (isn : ℕ) (source : Addr) (s : Segment) → pair_opened h source s ≡ opened_by h source s (arrival h now isn source s)
opening_foreseen h now isn source s =
    by_arrival h now isn source s (λ a. pair_opened h source s ≡ opened_by h source s a)
    (λ reply is. answer_foreseen h source s reply is ∙ answer-opens_nothing h source s reply)
    (λ e taker. rw taker.found)
    (λ listener called full. rw (called.none, called.opens, called.found, full))
    (λ listener called room. rw (called.none, called.opens, called.found, room))

pub connect_foreseen : (h : SocketsView) (id : SocketId) (peer : Endpoint) (routed : Bool) → is_some (pair_connected h id peer routed) ≡ not (is_some (connect_refusal h id peer routed))
connect_foreseen h id peer routed = by_port (port_connected h id peer routed) refl
  where
    by_port : (r : Result ℕ Refusal) → port_connected h id peer routed ≡ r → is_some (pair_connected h id peer routed) ≡ not (is_some (connect_refusal h id peer routed))
    by_port (Err refusal) given = rw given
    by_port (Ok port) given = rw given

-- no pair is opened where a connection has a place
pub none-found : (h : SocketsView) (source : Addr) (s : Segment) (i : ℕ) → position (is_between (local_end h s) (peer_end source s)) h.entries ≡ Some i → None ≡ pair_opened h source s
none-found h source s i at = let f = found_by_place (is_between (local_end h s) (peer_end source s)) h.entries i at in sym (rw f.1)
