-- What may be busy is asked in turn, until one has something due.
use Rattle.std.proofs.Common.{◌≡◌, List, length, Some, None, slice_get, sym, ◌∙◌, ap, subst, arith}
use Rattle.marks.specs.First.{first_from}
use Rattle.sockets.specs.declared.entry.Entry.{Entry}
use Rattle.sockets.specs.Outlook.{has_due}
use Rattle.sockets.specs.SocketsView.{SocketsView}
use Rattle.sockets.proofs.NextDues.{first_from-none, passed_on, due_found, due_there, due_missed}
use Rattle.sockets.proofs.Quiet.{IsTold}
use Rattle.sockets.proofs.sockets.Sockets.next_due_among.Goals as goal

pub returns-in-Some-due_at-clause-place : goal.returns-in-Some-due_at-clause-place
returns-in-Some-due_at-clause-place c =
    let ys : List Entry = c.entries-entries.result.now in
    let xs : List Entry = c.self.inside.entries.items in
    let entries : xs ≡ ys = ap (λ (w : SocketsView). w.entries) c.self.view_is ∙ sym c.entries-entries.ensures in
    let told : IsTold xs c.loop-place.from (Some c.in-Some.place) = subst (λ o. IsTold xs c.loop-place.from o) c.in-Some.is (c.next_to_ask.ensures c.self.inside.sizes.entries xs c.self.invariant.3) in
    sym (due_found ys c.args.from c.loop-place.from c.in-Some.place c.index-entries-place.result c.loop-place.invariant.0 c.loop-place.invariant.1 (subst (λ (l : List Entry). IsTold l c.loop-place.from (Some c.in-Some.place)) entries told) c.index-entries-place.is
    (c.in-Some-due_at.peer, c.in-Some-due_at.outgoing) (sym c.due_at.ensures ∙ c.in-Some-due_at.is))
    ∙ ap (first_from has_due c.args.from) c.entries-entries.ensures

pub returns-in-Some-due_at-clause-due : goal.returns-in-Some-due_at-clause-due
returns-in-Some-due_at-clause-due c = λ e here.
    let ys : List Entry = c.entries-entries.result.now in
    let xs : List Entry = c.self.inside.entries.items in
    let entries : xs ≡ ys = ap (λ (w : SocketsView). w.entries) c.self.view_is ∙ sym c.entries-entries.ensures in
    let told : IsTold xs c.loop-place.from (Some c.in-Some.place) = subst (λ o. IsTold xs c.loop-place.from o) c.in-Some.is (c.next_to_ask.ensures c.self.inside.sizes.entries xs c.self.invariant.3) in
    due_there ys c.args.from c.loop-place.from c.in-Some.place c.index-entries-place.result c.loop-place.invariant.0 c.loop-place.invariant.1 (subst (λ (l : List Entry). IsTold l c.loop-place.from (Some c.in-Some.place)) entries told) c.index-entries-place.is
    (c.in-Some-due_at.peer, c.in-Some-due_at.outgoing) (sym c.due_at.ensures ∙ c.in-Some-due_at.is) e (ap (λ (l : List Entry). slice_get l c.in-Some.place) c.entries-entries.ensures ∙ here)

pub loop-place-preserved : goal.loop-place-preserved
loop-place-preserved c =
    let ys : List Entry = c.entries-entries.result.now in
    let xs : List Entry = c.self.inside.entries.items in
    let entries : xs ≡ ys = ap (λ (w : SocketsView). w.entries) c.self.view_is ∙ sym c.entries-entries.ensures in
    let told : IsTold xs c.loop-place.from (Some c.in-Some.place) = subst (λ o. IsTold xs c.loop-place.from o) c.in-Some.is (c.next_to_ask.ensures c.self.inside.sizes.entries xs c.self.invariant.3) in
    let there = subst (λ (l : List Entry). IsTold l c.loop-place.from (Some c.in-Some.place)) entries told in (
      omega (arith, c.loop-place.invariant.0, there.0),
      due_missed ys c.args.from c.loop-place.from c.in-Some.place c.index-entries-place.result c.loop-place.invariant.0 c.loop-place.invariant.1 there c.index-entries-place.is (sym c.due_at.ensures ∙ c.in_default-due_at.is),
    )

pub returns-clause-place : goal.returns-clause-place
returns-clause-place c =
    let ys : List Entry = c.entries-entries.result.now in
    let xs : List Entry = c.self.inside.entries.items in
    let entries : xs ≡ ys = ap (λ (w : SocketsView). w.entries) c.self.view_is ∙ sym c.entries-entries.ensures in
    let told : IsTold xs c.loop-place.from None = subst (λ o. IsTold xs c.loop-place.from o) c.in_default.is (c.next_to_ask.ensures c.self.inside.sizes.entries xs c.self.invariant.3) in
    sym (first_from-none has_due c.args.from ys (passed_on ys c.args.from c.loop-place.from (length ys) c.loop-place.invariant.1 (subst (λ (l : List Entry). IsTold l c.loop-place.from None) entries told)))
    ∙ ap (first_from has_due c.args.from) c.entries-entries.ensures
