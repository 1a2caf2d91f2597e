-- The first of those noted, or the entry at hand where it is before them.
use Rattle.std.proofs.Common.{inl, inr, List, get_or, Option, ℕ, ◌<◌, ◌∙◌, ap, arith}
use Rattle.sockets.specs.declared.entry.Entry.{Entry}
use Rattle.clock.specs.Moments.{has_come}
use Rattle.sockets.specs.Entries.{deadline_of}
use Rattle.sockets.specs.Outlook.{first_of}
use Rattle.sockets.proofs.Outlooks.{come_alone, come_beside, in_front}
use Rattle.sockets.proofs.outlook.Outlook.next_come.Goals as goal
use Rattle.sockets.proofs.outlook.Outlook.next_come.Goals.{then-from-place, else-from-place}

pub returns-after-from-place : goal.returns-after-from-place
returns-after-from-place c =
    c.first_of.ensures
    ∙ ap (λ (at : Option ℕ). first_of at c.first_come-noted.result) c.then_some.ensures
    ∙ come_beside c.args.self.now c.requires.known.0 c.args.entries.now.items c.requires.known.1 c.args.now c.args.from c.first_come-noted.result c.in-Some.place c.if-from-place.is_next c.in-Some.is c.first_come-noted.ensures
    (elim c.if-from-place.branch [
      | then-from-place w ↦ inl (w.if-from-place.true, w.index-deref-place.result, w.is_next-is ∙ w.has_come-is_next.ensures ∙ ap (λ (l : List Entry). let e : Entry = get_or l c.in-Some.place w.index-deref-place.result in has_come (deadline_of e.role) c.args.now) w.deref.ensures.0)
      | else-from-place w ↦ let before : c.in-Some.place < c.args.from = omega (arith, w.if-from-place.false) in inr (before, in_front c.args.from c.in-Some.place c.if-from-place.is_next before w.is_next-is)
    ])

pub returns-in-None : goal.returns-in-None
returns-in-None c = come_alone c.args.self.now c.requires.known.0 c.args.entries.now.items c.requires.known.1 c.args.now c.args.from c.first_come-noted.result c.in-None.is c.first_come-noted.ensures
