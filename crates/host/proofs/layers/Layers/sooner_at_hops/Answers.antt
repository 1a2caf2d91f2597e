-- An entry that isn't busy waits for no hop.
use Rattle.std.proofs.Common.{◌≡◌, ℕ, suc, ◌+◌, false, List, drop, fold, Option, Some, None, arith, refl, sym, ◌∙◌, ap}
use Rattle.clock.specs.declared.moment.Moment.{Moment}
use Rattle.clock.specs.Moments.{sooner}
use Rattle.marks.specs.First.{first_from}
use Rattle.sockets.specs.declared.entry.Entry.{Entry}
use Rattle.sockets.specs.Entries.{dues_of}
use Rattle.sockets.specs.Outlook.{is_busy_entry}
use Rattle.sockets.proofs.FirstFrom.{first_from-found}
use Rattle.sockets.proofs.Resting.{rests-dues, rests-give_up_at}
use Rattle.sockets.proofs.Visits.{folds_on, folds_out}
use Rattle.host.specs.HostView.{HostView}
use Rattle.host.specs.Ticks.{hop_deadline, request_deadline, lacks_hop}
use Rattle.host.proofs.layers.Layers.sooner_at_hops.Goals as goal

as_it_was : (a : Option Moment) → sooner a None ≡ a
as_it_was None = refl
as_it_was (Some a) = refl

waits_for_none : (h : HostView) (e : Entry) → is_busy_entry e ≡ false → hop_deadline h e ≡ None
waits_for_none h e quiet =
    let wait = rests-give_up_at (lacks_hop h h.sockets.kept) e.role quiet in
    let dues = rests-dues e.role quiet in
    ap (λ (o : Option Moment). sooner o (request_deadline h (dues_of e.role))) wait ∙ ap (request_deadline h) dues

idle : (h : HostView) (a : Option Moment) (e : Entry) → is_busy_entry e ≡ false → sooner a (hop_deadline h e) ≡ a
idle h a e quiet = ap (sooner a) (waits_for_none h e quiet) ∙ as_it_was a

pub loop-place-init : goal.loop-place-init
loop-place-init c = refl

pub loop-place-smaller : goal.loop-place-smaller
loop-place-smaller c =
    let entries : List Entry = c.entries-entries.result.now in
    let found : first_from is_busy_entry c.loop-place.from entries ≡ Some c.in-Some.place = ap (first_from is_busy_entry c.loop-place.from) c.entries-entries.ensures ∙ sym c.next_busy.ensures ∙ c.in-Some.is in
    let there = first_from-found is_busy_entry c.loop-place.from entries c.in-Some.place found in
    omega (arith, there.behind, there.within)

pub loop-place-preserved : goal.loop-place-preserved
loop-place-preserved c =
    let entries : List Entry = c.entries-entries.result.now in
    let found : first_from is_busy_entry c.loop-place.from entries ≡ Some c.in-Some.place = ap (first_from is_busy_entry c.loop-place.from) c.entries-entries.ensures ∙ sym c.next_busy.ensures ∙ c.in-Some.is in
    let h : HostView = c.args.self.now in
    let f : Option Moment → Entry → Option Moment = λ least e. sooner least (hop_deadline h e) in
    let x : Entry = c.index-entries-place.result in
    let after : c.in-Some.place + 1 ≡ suc c.in-Some.place = omega arith in
    c.loop-place.invariant
    ∙ folds_on is_busy_entry f (λ a e quiet. idle h a e quiet) c.loop-place.least c.loop-place.from entries c.in-Some.place x found
    ∙ ap (λ (e : Entry). fold f (f c.loop-place.least e) (drop (suc c.in-Some.place) entries)) (sym c.index-entries-place.is)
    ∙ ap (λ (o : Option Moment). fold f (sooner c.loop-place.least o) (drop (suc c.in-Some.place) entries)) (sym c.hop_deadline.ensures)
    ∙ ap (λ (o : Option Moment). fold f o (drop (suc c.in-Some.place) entries)) (sym c.sooner-least.ensures)
    ∙ ap (λ (k : ℕ). fold f c.sooner-least.result (drop k entries)) (sym after)

pub returns : goal.returns
returns c =
    let h : HostView = c.args.self.now in
    let entries : List Entry = c.entries-entries.result.now in
    let none : first_from is_busy_entry c.loop-place.from entries ≡ None = ap (first_from is_busy_entry c.loop-place.from) c.entries-entries.ensures ∙ sym c.next_busy.ensures ∙ c.in_default.is in
    let f : Option Moment → Entry → Option Moment = λ least e. sooner least (hop_deadline h e) in
    sym (c.loop-place.invariant ∙ folds_out is_busy_entry f (λ a e quiet. idle h a e quiet) c.loop-place.least c.loop-place.from entries none)
    ∙ ap (fold f c.args.first) (c.entries-entries.ensures ∙ ap (λ (g : HostView). g.sockets.entries) c.self.view_is)
