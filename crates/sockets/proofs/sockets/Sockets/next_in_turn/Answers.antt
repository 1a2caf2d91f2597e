-- Where no entry is noted as busy only the one at hand may have something to send, so the turn comes to that one.
use Rattle.std.proofs.Common.{◌≡◌, List, get_or, option_map, slice_get, sym, ◌∙◌, ap, arith}
use Rattle.sockets.specs.declared.emission.NextDue.{NextDue}
use Rattle.sockets.specs.declared.entry.Entry.{Entry}
use Rattle.sockets.specs.SocketsView.{SocketsView}
use Rattle.sockets.proofs.Calm.{calm_alone, calm_missed, calm_found, calm_there, calm_turn}
use Rattle.sockets.proofs.sockets.Sockets.next_in_turn.Goals as goal

pub returns-in_err-place-clause-place : goal.returns-in_err-place-clause-place
returns-in_err-place-clause-place c =
    ap (option_map (λ (due : NextDue). due.place)) c.from_residual.ensures
    ∙ calm_alone c.self.inside.outlook _ c.self.inside.entries.items c.self.invariant.3 (sym c.is_calm.ensures ∙ c.if-is_calm.true) 0 (sym c.at_hand.ensures ∙ c.in_err-place.was)
    ∙ calm_turn c.self.inside.outlook _ _ c.args.self.now c.self.view_is c.self.invariant.3 (sym c.is_calm.ensures ∙ c.if-is_calm.true)

pub returns-in_err-peer-clause-place : goal.returns-in_err-peer-clause-place
returns-in_err-peer-clause-place c =
    let x : Entry = c.index-deref-place.result in
    let at : x ≡ get_or c.self.inside.entries.items c.in_ok-place.place x = c.index-deref-place.is ∙ ap (λ (es : List Entry). get_or es c.in_ok-place.place x) c.deref.ensures.0 in
    ap (option_map (λ (due : NextDue). due.place)) c.from_residual-in_err-peer.ensures
    ∙ calm_missed c.self.inside.outlook _ c.self.inside.entries.items c.self.invariant.3 (sym c.is_calm.ensures ∙ c.if-is_calm.true) 0 c.in_ok-place.place (sym c.at_hand.ensures ∙ c.in_ok-place.was) (omega arith) x at (sym c.due_at.ensures ∙ c.in_err-peer.was)
    ∙ calm_turn c.self.inside.outlook _ _ c.args.self.now c.self.view_is c.self.invariant.3 (sym c.is_calm.ensures ∙ c.if-is_calm.true)

pub returns-then-is_calm-clause-place : goal.returns-then-is_calm-clause-place
returns-then-is_calm-clause-place c =
    let x : Entry = c.index-deref-place.result in
    let at : x ≡ get_or c.self.inside.entries.items c.in_ok-place.place x = c.index-deref-place.is ∙ ap (λ (es : List Entry). get_or es c.in_ok-place.place x) c.deref.ensures.0 in
    calm_found c.self.inside.outlook _ c.self.inside.entries.items c.self.invariant.3 (sym c.is_calm.ensures ∙ c.if-is_calm.true) 0 c.in_ok-place.place (sym c.at_hand.ensures ∙ c.in_ok-place.was) (omega arith) x at
    (c.in_ok-peer.peer, c.in_ok-peer.outgoing) (sym c.due_at.ensures ∙ c.in_ok-peer.was)
    ∙ calm_turn c.self.inside.outlook _ _ c.args.self.now c.self.view_is c.self.invariant.3 (sym c.is_calm.ensures ∙ c.if-is_calm.true)

pub returns-then-is_calm-clause-due : goal.returns-then-is_calm-clause-due
returns-then-is_calm-clause-due c = λ e here.
    let x : Entry = c.index-deref-place.result in
    let at : x ≡ get_or c.self.inside.entries.items c.in_ok-place.place x = c.index-deref-place.is ∙ ap (λ (es : List Entry). get_or es c.in_ok-place.place x) c.deref.ensures.0 in
    calm_there c.self.inside.outlook _ c.self.inside.entries.items c.self.invariant.3 (sym c.is_calm.ensures ∙ c.if-is_calm.true) 0 c.in_ok-place.place (sym c.at_hand.ensures ∙ c.in_ok-place.was) (omega arith) x at
    (c.in_ok-peer.peer, c.in_ok-peer.outgoing) (sym c.due_at.ensures ∙ c.in_ok-peer.was) e (ap (λ (w : SocketsView). slice_get w.entries c.in_ok-place.place) c.self.view_is ∙ here)
