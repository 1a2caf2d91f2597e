-- The least of those noted, and that of the entry at hand.
use Rattle.std.proofs.Common.{List, get_or, ◌∙◌, ap}
use Rattle.sockets.specs.declared.entry.Entry.{Entry}
use Rattle.sockets.specs.Outlook.{deadline_of_entry}
use Rattle.sockets.proofs.Outlooks.{least_alone, least_beside}
use Rattle.sockets.proofs.outlook.Outlook.least_deadline.Goals as goal

pub returns-in-Some : goal.returns-in-Some
returns-in-Some c =
    c.sooner.ensures ∙ least_beside c.args.self.now c.requires.known.0 c.args.entries.now.items c.requires.known.1 c.least-noted.result c.deadline.result c.in-Some.place c.index-deref-place.result c.in-Some.is c.least-noted.ensures (c.deadline.ensures ∙ ap (λ (l : List Entry). deadline_of_entry (get_or l c.in-Some.place c.index-deref-place.result)) c.deref.ensures.0)

pub returns-in-None : goal.returns-in-None
returns-in-None c = least_alone c.args.self.now c.requires.known.0 c.args.entries.now.items c.requires.known.1 c.least-noted.result c.in-None.is c.least-noted.ensures
