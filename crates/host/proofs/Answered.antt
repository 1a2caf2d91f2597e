-- A segment that is to be answered: the table is as it was.
use Rattle.std.proofs.Common.{◌≡◌, ℕ, Result, sym, ap, subst, ⊎_elim}
use Rattle.ipv4.specs.declared.addr.Addr.{Addr}
use Rattle.clock.specs.declared.moment.Moment.{Moment}
use Rattle.tcp_segment.specs.declared.head.Head.{Head}
use Rattle.tcp_segment.specs.Segment.{Segment}
use Rattle.frames.specs.declared.drop.DropCause.{DropCause}
use Rattle.interface.specs.InterfaceView.{InterfaceView}
use Rattle.interface.specs.Replies.{after_answer, answer_result}
use Rattle.interface.specs.Ways.{is_routed}
use Rattle.sockets.specs.declared.taken.Taken.TheVariants as taken
use Rattle.sockets.specs.Arrival.{Arrival, Becomes, Opens, NoRoom as NoRoomInTable, Answers, Meets, arrival}
use Rattle.sockets.specs.SocketsView.{SocketsView}
use Rattle.host.specs.Arrival.{MeetsSegment, arrival_by_route, queue_answer, segment_arrival}
use Rattle.host.specs.HostView.{HostView, with_interface}

-- it is an answer, and the table stays
pub answered : (a : Arrival) (h new : SocketsView) (head : Head) → Meets a h (taken.Answer head) new → (a ≡ Answers head) × (new ≡ h)
answered (Becomes next) h new head is = let no = is.0 in cc
answered (Opens next) h new head is = ⊎_elim (λ x. let no = x.0 in cc) (λ x. let no = x.0 in cc) is
answered NoRoomInTable h new head is = let no = is.0 in cc
answered (Answers other) h new head is = let same = is.0 in (cc, is.1)

-- .. and what joins the control replies then is what the segment leads to
pub met_answer : (h : HostView) (now : Moment) (isn : ℕ) (source : Addr) (s : Segment) (head : Head) (table : SocketsView) (i : InterfaceView) (told : Result (Unit {0}) DropCause)
    → Meets (arrival h.sockets now isn source s) h.sockets (taken.Answer head) table → i ≡ after_answer h.interface now source head → told ≡ queue_answer (answer_result h.interface source)
    → MeetsSegment (segment_arrival h now isn source s) h now source told (record { interface = i; sockets = table; pool = h.pool; lately = h.lately })
met_answer h now isn source s head table i told met after is =
    let two = answered (arrival h.sockets now isn source s) h.sockets table head met in
    let new : HostView = record { interface = i; sockets = table; pool = h.pool; lately = h.lately } in
    let leads : segment_arrival h now isn source s ≡ Answers head = ap (arrival_by_route (is_routed h.interface source)) two.0 in
    let kept : new ≡ with_interface h (after_answer h.interface now source head) = λ k. record { interface = after k; sockets = two.1 k; pool = h.pool; lately = h.lately } in
    let meets : MeetsSegment (Answers head) h now source told new = (is, kept) in
    subst (λ (a : Arrival). MeetsSegment a h now source told new) (sym leads) meets
