-- It is the one test of rejection, in its two parts.
use Rattle.std.proofs.Common.{◌||◌, ◌&&◌, not, sym, ◌∙◌, ap}
use Rattle.tcp_state.specs.Arrival.{is_acceptable_to}
use Rattle.tcp_state.specs.View.{is_syn_received, is_syn_sent}
use Rattle.tcp_state.proofs.WouldReject.{foreseen}
use Rattle.tcp_state.proofs.connection.Connection.would_reject.Goals as goal

pub returns-then-acknowledges_unsent : goal.returns-then-acknowledges_unsent
returns-then-acknowledges_unsent c =
    let v = c.args.self.now in let s = c.args.segment.now in
    c.rejects_wrong_ack.ensures
    ∙ ap (λ b. b && (is_syn_sent v.state || (is_syn_received v.state && is_acceptable_to v s && not s.flags.syn))) (sym c.if-acknowledges_unsent.true ∙ c.acknowledges_unsent.ensures)
    ∙ foreseen v s

pub returns-else-acknowledges_unsent : goal.returns-else-acknowledges_unsent
returns-else-acknowledges_unsent c =
    let v = c.args.self.now in let s = c.args.segment.now in
    c.if-acknowledges_unsent.false
    ∙ ap (λ b. b && (is_syn_sent v.state || (is_syn_received v.state && is_acceptable_to v s && not s.flags.syn))) (sym c.if-acknowledges_unsent.false ∙ c.acknowledges_unsent.ensures)
    ∙ foreseen v s
