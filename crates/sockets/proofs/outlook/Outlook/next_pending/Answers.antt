-- The first of those noted, or the entry at hand where it is before them.
use Rattle.std.proofs.Common.{inl, inr, List, get_or, Option, ℕ, ◌<◌, ◌∙◌, ap, arith}
use Rattle.sockets.specs.declared.entry.Entry.{Entry}
use Rattle.sockets.specs.Outlook.{first_of, is_pending_entry}
use Rattle.sockets.proofs.Outlooks.{marked_alone, marked_beside, in_front}
use Rattle.sockets.proofs.outlook.Outlook.next_pending.Goals as goal
use Rattle.sockets.proofs.outlook.Outlook.next_pending.Goals.{then-from-place, else-from-place}

pub returns-after-from-place : goal.returns-after-from-place
returns-after-from-place c =
    c.first_of.ensures
    ∙ ap (λ (at : Option ℕ). first_of at c.first_from-noted.result) c.then_some.ensures
    ∙ marked_beside is_pending_entry c.args.entries.now.items c.args.self.now.at_hand c.args.self.now.pending.items c.requires.known.1.pending c.requires.known.1.within c.args.from c.first_from-noted.result c.in-Some.place c.if-from-place.is_next c.in-Some.is c.first_from-noted.ensures
    (elim c.if-from-place.branch [
      | then-from-place w ↦ inl (w.if-from-place.true, w.index-deref-place.result, w.is_next-is ∙ w.is_pending-is_next.ensures ∙ ap (λ (l : List Entry). is_pending_entry (get_or l c.in-Some.place w.index-deref-place.result)) w.deref.ensures.0)
      | else-from-place w ↦ let before : c.in-Some.place < c.args.from = omega (arith, w.if-from-place.false) in inr (before, in_front c.args.from c.in-Some.place c.if-from-place.is_next before w.is_next-is)
    ])

pub returns-in-None : goal.returns-in-None
returns-in-None c = marked_alone is_pending_entry c.args.entries.now.items c.args.self.now.at_hand c.args.self.now.pending.items c.requires.known.1.pending c.args.from c.first_from-noted.result c.in-None.is c.first_from-noted.ensures
