-- Where no entry is noted as busy, the entry at hand is asked alone.
use Rattle.std.proofs.Common.{◌≡◌, List, get_or, option_map, slice_get, sym, ◌∙◌, ap}
use Rattle.marks.specs.First.{first_from}
use Rattle.sockets.specs.declared.emission.NextDue.{NextDue}
use Rattle.sockets.specs.declared.entry.Entry.{Entry}
use Rattle.sockets.specs.Outlook.{has_due}
use Rattle.sockets.specs.SocketsView.{SocketsView}
use Rattle.sockets.proofs.Calm.{calm_alone, calm_behind, calm_missed, calm_found, calm_there}
use Rattle.sockets.proofs.sockets.Sockets.next_due.Goals as goal

pub returns-in_err-place-clause-place : goal.returns-in_err-place-clause-place
returns-in_err-place-clause-place c =
    ap (option_map (λ (due : NextDue). due.place)) c.from_residual.ensures
    ∙ calm_alone c.self.inside.outlook _ c.self.inside.entries.items c.self.invariant.3 (sym c.is_calm.ensures ∙ c.if-is_calm.true) c.args.from (sym c.at_hand.ensures ∙ c.in_err-place.was)
    ∙ ap (λ (w : SocketsView). first_from has_due c.args.from w.entries) c.self.view_is

pub returns-then-place-from-clause-place : goal.returns-then-place-from-clause-place
returns-then-place-from-clause-place c =
    calm_behind c.self.inside.outlook _ c.self.inside.entries.items c.self.invariant.3 (sym c.is_calm.ensures ∙ c.if-is_calm.true) c.args.from c.in_ok-place.place (sym c.at_hand.ensures ∙ c.in_ok-place.was) c.if-place-from.true
    ∙ ap (λ (w : SocketsView). first_from has_due c.args.from w.entries) c.self.view_is

pub returns-in_err-peer-clause-place : goal.returns-in_err-peer-clause-place
returns-in_err-peer-clause-place c =
    let x : Entry = c.index-deref-place.result in
    let at : x ≡ get_or c.self.inside.entries.items c.in_ok-place.place x = c.index-deref-place.is ∙ ap (λ (es : List Entry). get_or es c.in_ok-place.place x) c.deref.ensures.0 in
    ap (option_map (λ (due : NextDue). due.place)) c.from_residual-in_err-peer.ensures
    ∙ calm_missed c.self.inside.outlook _ c.self.inside.entries.items c.self.invariant.3 (sym c.is_calm.ensures ∙ c.if-is_calm.true) c.args.from c.in_ok-place.place (sym c.at_hand.ensures ∙ c.in_ok-place.was) c.if-place-from.false
    x at (sym c.due_at.ensures ∙ c.in_err-peer.was)
    ∙ ap (λ (w : SocketsView). first_from has_due c.args.from w.entries) c.self.view_is

pub returns-then-is_calm-clause-place : goal.returns-then-is_calm-clause-place
returns-then-is_calm-clause-place c =
    let x : Entry = c.index-deref-place.result in
    let at : x ≡ get_or c.self.inside.entries.items c.in_ok-place.place x = c.index-deref-place.is ∙ ap (λ (es : List Entry). get_or es c.in_ok-place.place x) c.deref.ensures.0 in
    calm_found c.self.inside.outlook _ c.self.inside.entries.items c.self.invariant.3 (sym c.is_calm.ensures ∙ c.if-is_calm.true) c.args.from c.in_ok-place.place (sym c.at_hand.ensures ∙ c.in_ok-place.was) c.if-place-from.false
    x at (c.in_ok-peer.peer, c.in_ok-peer.outgoing) (sym c.due_at.ensures ∙ c.in_ok-peer.was)
    ∙ ap (λ (w : SocketsView). first_from has_due c.args.from w.entries) c.self.view_is

pub returns-then-is_calm-clause-due : goal.returns-then-is_calm-clause-due
returns-then-is_calm-clause-due c = λ e here.
    let x : Entry = c.index-deref-place.result in
    let at : x ≡ get_or c.self.inside.entries.items c.in_ok-place.place x = c.index-deref-place.is ∙ ap (λ (es : List Entry). get_or es c.in_ok-place.place x) c.deref.ensures.0 in
    calm_there c.self.inside.outlook _ c.self.inside.entries.items c.self.invariant.3 (sym c.is_calm.ensures ∙ c.if-is_calm.true) c.args.from c.in_ok-place.place (sym c.at_hand.ensures ∙ c.in_ok-place.was) c.if-place-from.false
    x at (c.in_ok-peer.peer, c.in_ok-peer.outgoing) (sym c.due_at.ensures ∙ c.in_ok-peer.was) e (ap (λ (w : SocketsView). slice_get w.entries c.in_ok-place.place) c.self.view_is ∙ here)
