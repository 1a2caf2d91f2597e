-- What is noted of the entry at hand is true of it.
use Rattle.std.proofs.Common.{List, get_or, refl, ◌∙◌, ap}
use Rattle.sockets.specs.declared.entry.Entry.{Entry}
use Rattle.sockets.specs.Outlook.{is_busy_entry, is_pending_entry, deadline_of_entry}
use Rattle.sockets.proofs.Outlooks.{outlook_turned_away}
use Rattle.sockets.proofs.outlook.Outlook.turn_away.Goals as goal

pub returns-in-Some-clause-known : goal.returns-in-Some-clause-known
returns-in-Some-clause-known c = λ most known.
    let x : Entry = c.index-deref-place.result in
    outlook_turned_away c.args.self.now _ most c.args.entries.now.items c.in-Some.place x c.is_busy.result c.is_pending.result c.deadline.result known c.in-Some.is
    (c.is_busy.ensures ∙ ap (λ (l : List Entry). is_busy_entry (get_or l c.in-Some.place x)) c.deref.ensures.0) (c.is_pending.ensures ∙ ap (λ (l : List Entry). is_pending_entry (get_or l c.in-Some.place x)) c.deref.ensures.0) (c.deadline.ensures ∙ ap (λ (l : List Entry). deadline_of_entry (get_or l c.in-Some.place x)) c.deref.ensures.0)
    refl c.set.ensures.items c.set.ensures.most c.set-in-Some.ensures.items c.set-in-Some.ensures.most c.set-in-Some-2.ensures.items c.set-in-Some-2.ensures.most
