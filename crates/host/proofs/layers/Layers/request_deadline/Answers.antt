-- The least moment is that of the requests for all that the entry has due.
use Rattle.std.proofs.Common.{◌≡◌, ◌+◌, drop, List, sym, ◌∙◌, ap}
use Rattle.ipv4.specs.declared.addr.Endpoint.{Endpoint}
use Rattle.clock.specs.declared.moment.Moment.{Moment}
use Rattle.clock.specs.Moments.{sooner}
use Rattle.interface.specs.Timing.{asked_until}
use Rattle.sockets.specs.declared.emission.Outgoing.{Outgoing}
use Rattle.sockets.specs.Entries.{dues_of}
use Rattle.host.specs.HostView.{HostView}
use Rattle.host.proofs.Waiting.{none-left, requests_from, requests_here, requests_past}
use Rattle.host.proofs.layers.Layers.request_deadline.Goals as goal

pub returns-in_default : goal.returns-in_default
returns-in_default c =
    sym (requests_past c.args.self.now c.loop-number.least (dues_of c.args.entry.now.role) c.loop-number.number c.loop-number.invariant
    (sym c.due_at.ensures ∙ none-left c.due_at.result c.in_default.not-Some))

pub loop-number-preserved : goal.loop-number-preserved
loop-number-preserved c =
    let h : HostView = c.args.self.now in
    let dues : List (Endpoint × Outgoing) = dues_of c.args.entry.now.role in
    let due : Endpoint × Outgoing = (c.in-Some.peer, c.in-Some.field-0-1) in
    let until : c.asked_until.result ≡ asked_until h.interface h.sockets.kept c.in-Some.peer.addr =
    c.asked_until.ensures ∙ ap (λ (m : Moment). asked_until c.self.inside.interface m c.in-Some.peer.addr) c.kept-now.ensures ∙ ap (λ (g : HostView). asked_until g.interface g.sockets.kept c.in-Some.peer.addr) c.self.view_is in
    requests_here h c.loop-number.least dues c.loop-number.number due c.loop-number.invariant (sym c.due_at.ensures ∙ c.in-Some.is)
    ∙ ap (λ m. requests_from h m (drop (c.loop-number.number + 1) dues)) (sym (c.sooner-least.ensures ∙ ap (sooner c.loop-number.least) until))
