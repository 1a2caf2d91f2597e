use Rattle.std.proofs.Common.{◌≡◌, ◌==◌, not, false, sym, ◌∙◌, ap, ap₂}
use Rattle.tcp_halves.proofs.Choices.{not_true}
use Rattle.tcp_state.specs.View.{View}
use Rattle.tcp_state.proofs.Repeated.{moves_on}
use Rattle.tcp_state.proofs.connection.Connection.is_duplicate.Goals as goal

pub returns-then-ne : goal.returns-then-ne
returns-then-ne c =
    let v = c.args.self.now in
    let s = c.args.segment.now in
    let una : c.una.result.0 ≡ v.sending.una = c.una.ensures ∙ ap (λ (x : View). x.sending.una) c.self.view_is in
    let other : (s.acknowledgement == v.sending.una) ≡ false =
    not_true (s.acknowledgement == v.sending.una) (sym (c.ne.ensures ∙ ap₂ (λ a b. not (a == b)) c.acknowledgement.ensures una) ∙ c.if-ne.true) in
    sym (moves_on v s other)
