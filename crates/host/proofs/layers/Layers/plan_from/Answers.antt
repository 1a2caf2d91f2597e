-- An entry more doesn't send, or is the first that does.
use Rattle.std.proofs.Common.{◌≡◌, ℕ, false, List, Option, Some, None, arith, sym, ◌∙◌, ap, subst}
use Rattle.std.specs.Prelude.{option_map, slice_get, IfSome}
use Rattle.std.proofs.lemmas.List.{get_or_default}
use Rattle.std.proofs.lemmas.List.Elements.{AllWithin-more}
use Rattle.std.proofs.lemmas.Option.{slice_get-get_or}
use Rattle.marks.specs.First.{first_from}
use Rattle.sockets.specs.declared.emission.NextDue.{NextDue}
use Rattle.sockets.specs.declared.entry.Entry.{Entry}
use Rattle.sockets.specs.Entries.{dues_of, sends}
use Rattle.sockets.specs.Outlook.{has_due}
use Rattle.sockets.proofs.FirstFrom.{first_from-found}
use Rattle.sockets.proofs.NextDues.{silent_to, silent_past}
use Rattle.host.specs.HostView.{HostView}
use Rattle.host.specs.Emission.{goes_out_from}
use Rattle.host.proofs.Planned.{plan_there, plan_nowhere}
use Rattle.host.proofs.Emitting.{plan_missed}
use Rattle.host.proofs.layers.Layers.plan_from.Goals as goal

-- the place that is told, or none
abbrev place_of : Option NextDue → Option ℕ
place_of o = option_map (λ (due : NextDue). due.place) o

pub loop-due-init : goal.loop-due-init
loop-due-init c = (omega arith, λ k d low high. absurd (omega (arith, low, high)))

pub returns-then-is_some : goal.returns-then-is_some
returns-then-is_some c =
    let entries : List Entry = c.entries-entries.result.now in
    let found : first_from has_due c.loop-due.from entries ≡ Some c.in-Some.due.place = ap (first_from has_due c.loop-due.from) c.entries-entries.ensures ∙ sym c.next_due.ensures.place ∙ ap place_of c.in-Some.is in
    let there = first_from-found has_due c.loop-due.from entries c.in-Some.due.place found in
    plan_there c.args.self.now c.args.now c.args.from c.in-Some.due.place c.index-entries-due.result entries c.plan_for-plan.result
    (c.entries-entries.ensures ∙ ap (λ (g : HostView). g.sockets.entries) c.self.view_is) (omega (arith, c.loop-due.invariant.0, there.behind)) there.within
    (silent_to (goes_out_from c.args.self.now c.args.now) entries c.args.from c.loop-due.from c.loop-due.invariant.1 c.in-Some.due.place found) c.index-entries-due.is c.plan_for-plan.ensures (sym c.is_some.ensures ∙ c.if-is_some.true)

-- what is due there first is what was told
pub plan_for-plan-requires : goal.plan_for-plan-requires
plan_for-plan-requires c =
    let entries : List Entry = c.entries-entries.result.now in
    let x : Entry = c.index-entries-due.result in
    let found : first_from has_due c.loop-due.from entries ≡ Some c.in-Some.due.place = ap (first_from has_due c.loop-due.from) c.entries-entries.ensures ∙ sym c.next_due.ensures.place ∙ ap place_of c.in-Some.is in
    let within = (first_from-found has_due c.loop-due.from entries c.in-Some.due.place found).within in
    let here : slice_get entries c.in-Some.due.place ≡ Some x = slice_get-get_or entries c.in-Some.due.place x within ∙ ap Some (sym c.index-entries-due.is) in
    let told = subst (λ (o : Option NextDue). IfSome o (λ (due : NextDue). (e : Entry) → slice_get c.self.inside.sockets.entries due.place ≡ Some e → slice_get (dues_of e.role) 0 ≡ Some (due.peer, due.outgoing))) c.in-Some.is c.next_due.ensures.due in
    told x (ap (λ (l : List Entry). slice_get l c.in-Some.due.place) (sym c.entries-entries.ensures) ∙ here)

pub loop-due-smaller : goal.loop-due-smaller
loop-due-smaller c =
    let entries : List Entry = c.entries-entries.result.now in
    let found : first_from has_due c.loop-due.from entries ≡ Some c.in-Some.due.place = ap (first_from has_due c.loop-due.from) c.entries-entries.ensures ∙ sym c.next_due.ensures.place ∙ ap place_of c.in-Some.is in
    let there = first_from-found has_due c.loop-due.from entries c.in-Some.due.place found in
    omega (arith, there.behind, there.within)

pub loop-due-preserved : goal.loop-due-preserved
loop-due-preserved c =
    let entries : List Entry = c.entries-entries.result.now in
    let found : first_from has_due c.loop-due.from entries ≡ Some c.in-Some.due.place = ap (first_from has_due c.loop-due.from) c.entries-entries.ensures ∙ sym c.next_due.ensures.place ∙ ap place_of c.in-Some.is in
    let x : Entry = c.index-entries-due.result in
    let there = first_from-found has_due c.loop-due.from entries c.in-Some.due.place found in
    let within = there.within in (
      omega (arith, c.loop-due.invariant.0, there.behind),
      AllWithin-more (λ (e : Entry). sends (goes_out_from c.args.self.now c.args.now) e ≡ false) entries c.args.from c.in-Some.due.place (silent_to (goes_out_from c.args.self.now c.args.now) entries c.args.from c.loop-due.from c.loop-due.invariant.1 c.in-Some.due.place found)
          (λ d.
          ap (λ (e : Entry). sends (goes_out_from c.args.self.now c.args.now) e) (get_or_default entries c.in-Some.due.place d x within ∙ sym c.index-entries-due.is)
          ∙ plan_missed c.args.self.now c.args.now c.in-Some.due.place x c.plan_for-plan.result c.plan_for-plan.ensures (sym c.is_some.ensures ∙ c.if-is_some.false)),
    )

pub returns : goal.returns
returns c =
    let entries : List Entry = c.entries-entries.result.now in
    let none : first_from has_due c.loop-due.from entries ≡ None = ap (first_from has_due c.loop-due.from) c.entries-entries.ensures ∙ sym c.next_due.ensures.place ∙ ap place_of c.in_default.is in
    plan_nowhere c.args.self.now c.args.now c.args.from entries (c.entries-entries.ensures ∙ ap (λ (g : HostView). g.sockets.entries) c.self.view_is)
    (silent_past (goes_out_from c.args.self.now c.args.now) entries c.args.from c.loop-due.from c.loop-due.invariant.1 none)
