use Rattle.std.proofs.Common.{◌∙◌, sym, rules}
use Rattle.tcp_state.proofs.Idle.{idle_due}
use Rattle.tcp_state.proofs.connection.Connection.due.Goals as goal

pub returns-then-is_idle-clause-first : goal.returns-then-is_idle-clause-first
returns-then-is_idle-clause-first c =
    c.ack_due.ensures.first ∙ idle_due c.args.self.now c.is_idle.ensures.sound (sym c.is_idle.ensures.value ∙ c.if-is_idle.true) (search rules)
