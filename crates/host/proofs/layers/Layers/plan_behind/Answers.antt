-- What the loop finds is planned for the first of what the entry has due behind the first for which something can be.
use Rattle.std.proofs.Common.{◌∙◌, sym, drop}
use Rattle.sockets.specs.Entries.{dues_of}
use Rattle.host.proofs.Emitting.{first_from, plan_found, plan_passed, plan_nothing}
use Rattle.host.proofs.layers.Layers.plan_behind.Goals as goal

pub returns-in_err-peer : goal.returns-in_err-peer
returns-in_err-peer c =
    c.from_residual.ensures
    ∙ plan_nothing c.args.self.now c.args.now c.args.place (dues_of c.args.entry.now.role) (first_from c.args.self.now c.args.now (drop 1 (dues_of c.args.entry.now.role))) c.loop-number.number c.loop-number.invariant (sym c.due_at.ensures ∙ c.in_err-peer.was)

pub returns-then-is_some : goal.returns-then-is_some
returns-then-is_some c =
    plan_found c.args.self.now c.args.now c.args.place (dues_of c.args.entry.now.role) (first_from c.args.self.now c.args.now (drop 1 (dues_of c.args.entry.now.role))) c.loop-number.number (c.in_ok-peer.peer, c.in_ok-peer.outgoing) c.plan_by-plan.result c.loop-number.invariant
    (sym c.due_at.ensures ∙ c.in_ok-peer.was) c.plan_by-plan.ensures (sym c.is_some.ensures ∙ c.if-is_some.true)

pub loop-number-preserved : goal.loop-number-preserved
loop-number-preserved c =
    plan_passed c.args.self.now c.args.now c.args.place (dues_of c.args.entry.now.role) (first_from c.args.self.now c.args.now (drop 1 (dues_of c.args.entry.now.role))) c.loop-number.number (c.in_ok-peer.peer, c.in_ok-peer.outgoing) c.plan_by-plan.result c.loop-number.invariant
    (sym c.due_at.ensures ∙ c.in_ok-peer.was) c.plan_by-plan.ensures (sym c.is_some.ensures ∙ c.if-is_some.false)
