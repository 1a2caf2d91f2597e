use Rattle.std.proofs.Common.{inr}
use Rattle.std.proofs.lemmas.Result.{IfOk-weaker}
use Rattle.commands.proofs.PlayLemmas.{on_err}
use Rattle.commands.proofs.sim.round.Goals as goal

pub returns-clause-printed : goal.returns-clause-printed
returns-clause-printed c = IfOk-weaker c.line_of_round.result _ _ (λ t line. (c.in_ok-told.told, c.in_ok-told.ensures.came, line)) c.line_of_round.ensures

pub returns-clause-left : goal.returns-clause-left
returns-clause-left c = on_err c.line_of_round.result _ (inr (c.in_ok-told.told, c.in_ok-told.ensures.came))
