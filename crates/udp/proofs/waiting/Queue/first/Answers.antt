use Rattle.std.proofs.Common.{◌+◌, ◌≤◌, ◌∙◌, ap, subst}
use Rattle.std.specs.Option.{IfSome}
use Rattle.udp.specs.Waiting.{Line, IsWithin, first_entry}
use Rattle.udp.proofs.Storing.{first_stored, within_stored, first_fits}
use Rattle.udp.proofs.waiting.Queue.first.Goals as goal

pub returns-clause-first : goal.returns-clause-first
returns-clause-first c =
    c.copied.ensures ∙ c.front.ensures ∙ first_stored c.self.inside.entries.items c.self.inside.octets.items c.self.invariant.lens
    ∙ ap (λ (line : Line). first_entry line.items) c.self.view_is

pub returns-clause-limits : goal.returns-clause-limits
returns-clause-limits c = subst IsWithin c.self.view_is (within_stored c.self.inside.entries c.self.inside.octets c.self.invariant)

pub returns-clause-fits : goal.returns-clause-fits
returns-clause-fits c =
    subst (λ (line : Line). IfSome c.copied.result (λ entry. 8 + entry.len ≤ line.capacity)) c.self.view_is
    (first_fits c.self.inside.entries c.self.inside.octets c.copied.result c.self.invariant (c.copied.ensures ∙ c.front.ensures))
