use Rattle.std.proofs.Common.{◌<◌, length, is_some, ap, refl}
use Rattle.routes.proofs.Tables.{table-remove, taken_out, found-Decides}
use Rattle.routes.proofs.table.Routes.remove.Goals as goal

pub returns-in_default-clause-known : goal.returns-in_default-clause-known
returns-in_default-clause-known c = rw (← c.self.view_is, ← c.as_slice.ensures.value) (λ e. absurd cc, λ has. absurd (c.in_default.ensures has))

pub invariant_of-self : goal.invariant_of-self
invariant_of-self c =
    let within : c.in-Some.place < length c.self.inside.entries.items = rw c.as_slice.ensures.value at c.in-Some.ensures.0 in
    rw c.remove.ensures.items (table-remove c.self.inside.entries.items c.in-Some.place c.self.invariant within)

pub returns-clause-known : goal.returns-clause-known
returns-clause-known c =
    rw (← c.self.view_is, ← c.as_slice.ensures.value) (λ _. (found-Decides c.as_slice.result.now c.args.prefix c.place_of.result c.place_of.ensures).0 (ap is_some c.in-Some.is), λ _. refl)

pub returns-clause-ok : goal.returns-clause-ok
returns-clause-ok c =
    rw (← c.self.view_is, c.remove.ensures.items, ← c.as_slice.ensures.value) (taken_out c.as_slice.result.now c.args.prefix c.in-Some.place c.remove.result c.in-Some.ensures.0 c.in-Some.ensures.1)
