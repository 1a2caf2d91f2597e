-- What answers a segment.
use Rattle.std.proofs.Common.{◌≡◌, ℕ, true, [], length, Option, Some, None, refl, subst, arith}
use Rattle.ipv4.specs.declared.addr.Addr.{Addr}
use Rattle.tcp_segment.specs.declared.head.Head.{Head}
use Rattle.tcp_segment.specs.Segment.{Segment, FieldsFit}
use Rattle.tcp_segment.specs.Sent.{CanBeSent}
use Rattle.tcp_segment.proofs.BlockLists.{none_fit}
use Rattle.clock.specs.declared.moment.Moment.{Moment}
use Rattle.sockets.specs.SocketsView.{SocketsView}
use Rattle.sockets.specs.Arrival.{Answers, arrival_with_reply, arrival}
use Rattle.sockets.specs.Replies.{reset_at_ack, reset_past, answer_to, answer_at_listener}
use Rattle.sockets.proofs.Arrivals.{IsReply, refusing, to_stray, at_listener, by_arrival}
use Rattle.sockets.proofs.Followed.{by_test}

-- one of the two resets that answer a segment
data IsReset (s : Segment) : Head → Type 0 where
  at_ack : IsReset s (reset_at_ack s)
  past : IsReset s (reset_past s)

stray_reset : (h : SocketsView) (s : Segment) (head : Head) → arrival_with_reply h (answer_to s) ≡ Answers head → IsReset s head
stray_reset h s head answers = by_test s.flags.rst
    (λ rst. let none : answer_to s ≡ None = rw rst in cc)
    (λ other. by_test s.flags.ack
    (λ ack. let some : answer_to s ≡ Some (reset_at_ack s) = rw (other, ack) in let same : reset_at_ack s ≡ head = cc in subst (λ (x : Head). IsReset s x) same at_ack)
    (λ bare. let some : answer_to s ≡ Some (reset_past s) = rw (other, bare) in let same : reset_past s ≡ head = cc in subst (λ (x : Head). IsReset s x) same past))

listener_reset : (h : SocketsView) (s : Segment) (head : Head) → arrival_with_reply h (answer_at_listener s) ≡ Answers head → IsReset s head
listener_reset h s head answers = by_test s.flags.rst
    (λ rst. let none : answer_at_listener s ≡ None = rw rst in cc)
    (λ other. by_test s.flags.ack
    (λ ack. let some : answer_at_listener s ≡ Some (reset_at_ack s) = rw (other, ack) in let same : reset_at_ack s ≡ head = cc in subst (λ (x : Head). IsReset s x) same at_ack)
    (λ bare. let none : answer_at_listener s ≡ None = rw (other, bare) in cc))

reply_reset : (h : SocketsView) (source : Addr) (s : Segment) (head : Head) (reply : Option Head) → IsReply h source s reply → arrival_with_reply h reply ≡ Answers head → IsReset s head
reply_reset h source s head _ (refusing e found refused) answers = let same : reset_at_ack s ≡ head = cc in subst (λ (x : Head). IsReset s x) same at_ack
reply_reset h source s head _ (to_stray none stray) answers = stray_reset h s head answers
reply_reset h source s head _ (at_listener listener none found other) answers = listener_reset h s head answers

answered_reset : (h : SocketsView) (now : Moment) (isn : ℕ) (source : Addr) (s : Segment) (head : Head) → arrival h now isn source s ≡ Answers head → IsReset s head
answered_reset h now isn source s head =
    by_arrival h now isn source s (λ a. a ≡ Answers head → IsReset s head) (reply_reset h source s head) (λ e taker answers. cc) (λ listener called full answers. cc) (λ listener called room answers. cc)

is_reset : (s : Segment) (head : Head) → IsReset s head → head.flags.rst ≡ true
is_reset s _ at_ack = refl
is_reset s _ past = refl

can_be_sent : (own source : Addr) (s : Segment) (head : Head) → length own.0 ≡ 4 → length source.0 ≡ 4 → FieldsFit s → IsReset s head → CanBeSent own source head []
can_be_sent own source s _ ours theirs fit at_ack = record {
  src_octets = ours;
  dst_octets = theirs;
  fields = record { source = fit.destination; destination = fit.source; number = fit.acknowledgement; acknowledgement = omega arith; window = omega arith; urgent = omega arith };
  blocks = none_fit;
  len = omega arith;
}
can_be_sent own source s _ ours theirs fit past = record {
  src_octets = ours;
  dst_octets = theirs;
  fields = record { source = fit.destination; destination = fit.source; number = omega arith; acknowledgement = omega arith; window = omega arith; urgent = omega arith };
  blocks = none_fit;
  len = omega arith;
}

pub answers_reset : (h : SocketsView) (now : Moment) (isn : ℕ) (source : Addr) (s : Segment) (head : Head) → arrival h now isn source s ≡ Answers head → head.flags.rst ≡ true
answers_reset h now isn source s head answers = is_reset s head (answered_reset h now isn source s head answers)

pub answers_sendable : (h : SocketsView) (now : Moment) (isn : ℕ) (source : Addr) (s : Segment) (head : Head) → length h.addr.0 ≡ 4 → length source.0 ≡ 4 → FieldsFit s → arrival h now isn source s ≡ Answers head → CanBeSent h.addr source head []
answers_sendable h now isn source s head ours theirs fit answers = can_be_sent h.addr source s head ours theirs fit (answered_reset h now isn source s head answers)
