-- A segment for a listener that opens nothing needs what answers it.
use Rattle.std.proofs.Common.{◌≡◌, ◌∙◌, ℕ, false, Some, ap, sym}
use Rattle.std.specs.List.{position}
use Rattle.tcp_segment.specs.Segment.{Segment}
use Rattle.sockets.specs.Arrival.{is_opening}
use Rattle.sockets.specs.Entries.{is_listening_at}
use Rattle.sockets.specs.Needs.{need_of_answer}
use Rattle.sockets.specs.SocketsView.{SocketsView}
use Rattle.sockets.proofs.Firsts.{found_by_place}
use Rattle.sockets.proofs.Needed.{needed_at_listener}
use Rattle.sockets.proofs.sockets.Sockets.need_alone.Goals as goal

pub returns-in-Some-2 : goal.returns-in-Some-2
returns-in-Some-2 c =
    let h : SocketsView = c.args.self.now in
    let s : Segment = c.args.segment.now in
    let place : position (is_listening_at s.destination) h.entries ≡ Some c.in-Some-2.field-0 =
    ap (λ (port : ℕ). position (is_listening_at port) h.entries) (sym c.destination.ensures)
    ∙ sym c.listener_at.ensures
    ∙ c.in-Some-2.is
    in
    let found = found_by_place (is_listening_at s.destination) h.entries c.in-Some-2.field-0 place in
    let opens : is_opening s.flags ≡ false = sym c.is_opening.ensures ∙ c.if-is_opening.false in
    c.need_of_answer-in-Some-2.ensures ∙ ap (λ o. need_of_answer o) c.answer_at_listener.ensures ∙ sym (needed_at_listener h s found.0 found.1 opens)
