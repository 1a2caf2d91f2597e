-- What is planned is for the first of what the entry has due, or for what is behind it.
use Rattle.std.proofs.Common.{sym, ◌∙◌}
use Rattle.sockets.specs.Entries.{dues_of}
use Rattle.host.proofs.Emitting.{first_found, first_passed}
use Rattle.host.proofs.layers.Layers.plan_for.Goals as goal

pub returns-then-is_some : goal.returns-then-is_some
returns-then-is_some c =
    first_found c.args.self.now c.args.now c.args.due.place (dues_of c.args.entry.now.role) (c.args.due.peer, c.args.due.outgoing) c.plan_by-plan.result
    c.requires c.plan_by-plan.ensures (sym c.is_some.ensures ∙ c.if-is_some.true)

pub returns : goal.returns
returns c =
    first_passed c.args.self.now c.args.now c.args.due.place (dues_of c.args.entry.now.role) (c.args.due.peer, c.args.due.outgoing) c.plan_by-plan.result c.plan_behind.result
    c.requires c.plan_by-plan.ensures (sym c.is_some.ensures ∙ c.if-is_some.false) c.plan_behind.ensures
