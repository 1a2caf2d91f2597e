-- The error joins the control replies.
use Rattle.std.proofs.Common.{◌≡◌, ◌++◌, ℕ, List, take, subst, ◌∙◌, ap}
use Rattle.ipv4.specs.declared.addr.Addr.{Addr}
use Rattle.ipv4.specs.Datagram.{Datagram, header_octets}
use Rattle.icmp.specs.declared.error.Reason.{Reason}
use Rattle.interface.specs.Replies.{after_report, answer_result}
use Rattle.reassembly.specs.Fragments.{quote_of}
use Rattle.host.specs.HostView.{HostView, with_interface}
use Rattle.host.specs.Arrival.{MeetsDatagram, queue_answer}
use Rattle.host.proofs.layers.Layers.report.Goals as goal

pub returns : goal.returns
returns c =
    let h : HostView = record { interface = c.self.inside.interface; sockets = c.self.inside.sockets; pool = c.self.inside.pool; lately = c.self.inside.lately } in
    let d : Datagram = c.args.datagram.now in
    let reason : Reason = c.args.reason in
    let new : HostView = record { interface = c.report.new.self; sockets = c.self.inside.sockets; pool = c.self.inside.pool; lately = c.self.inside.lately } in
    let own : c.report.new.self ≡ after_report h.interface c.args.now d.source reason (quote_of d) =
    c.report.ensures.after
    ∙ ap (λ (a : Addr). after_report h.interface c.args.now a reason (c.header.result.now ++ take 8 c.payload.result.now)) c.source.ensures
    ∙ ap (λ (l : List ℕ). after_report h.interface c.args.now d.source reason (l ++ take 8 c.payload.result.now)) c.header.ensures.octets
    ∙ ap (λ (l : List ℕ). after_report h.interface c.args.now d.source reason (header_octets d ++ take 8 l)) c.payload.ensures.octets in
    let after : new ≡ with_interface h (after_report h.interface c.args.now d.source reason (quote_of d)) =
    λ i. record { interface = own i; sockets = h.sockets; pool = h.pool; lately = h.lately } in
    let told : c.room.result ≡ queue_answer (answer_result h.interface d.source) =
    c.room.ensures ∙ ap queue_answer c.report.ensures.answer ∙ ap (λ (a : Addr). queue_answer (answer_result h.interface a)) c.source.ensures in
    let meets : MeetsDatagram reason h c.args.now d c.room.result new = (told, after) in
    subst (λ (g : HostView). MeetsDatagram reason g c.args.now d c.room.result new) c.self.view_is meets
