use Rattle.std.proofs.Common.{◌≡◌, ◌&&◌, not, true, false, if◌then◌else◌, refl, sym, ◌∙◌, ap}
use denote.Enum.Bare.{sameb}
use Rattle.tcp_state.specs.contracts.state.State.{the_type}
use Rattle.tcp_state.specs.declared.state.State.{State}
use Rattle.tcp_state.specs.declared.state.State.TheVariants.{SynReceived}
use Rattle.tcp_state.specs.declared.connection.Fate.TheVariants.{Stays, Rejected}
use Rattle.tcp_halves.specs.Stream.{is_new_ack}
use Rattle.tcp_state.specs.View.{View, is_syn_received}
use Rattle.tcp_state.specs.Arrival.{is_read_on}
use Rattle.tcp_state.proofs.Unused.{unread_receives}
use Rattle.tcp_state.proofs.connection.Connection.hear_acknowledging.Goals as goal
use Rattle.tcp_state.proofs.connection.Connection.hear_acknowledging.Goals.{then-eq, else-eq}

received : (t : State) → sameb the_type t SynReceived ≡ true → is_syn_received t ≡ true
received SynReceived e = refl
received _ e = cc

not_received : (t : State) → sameb the_type t SynReceived ≡ false → is_syn_received t ≡ false
not_received SynReceived e = cc
not_received _ e = refl

-- what is not read on is rejected while the connection opens, and only then
pub returns-clause-fate : goal.returns-clause-fate
returns-clause-fate c =
    let v : View = c.args.self.now in
    let number = c.acknowledgement.result.0 in
    let off : is_read_on v number ≡ false = sym c.hear_ack.ensures.read_on ∙ c.if-hear_ack.false in
    let opens : is_syn_received c.self.inside.state ≡ (is_syn_received v.state && not (is_new_ack v.sending c.args.segment.now.acknowledgement)) =
    ap (λ (x : View). is_syn_received x.state) (c.self.view_is ∙ c.hear_ack.ensures.after) ∙ unread_receives v number off
    ∙ ap (λ n. is_syn_received v.state && not (is_new_ack v.sending n)) c.acknowledgement.ensures in
    elim c.if-eq.branch [
      | then-eq w ↦ w.result-is ∙ sym (ap (λ b. if b then Rejected else Stays) (sym opens ∙ received c.self.inside.state (sym c.eq.ensures ∙ w.if-eq.true)))
      | else-eq w ↦ w.result-is ∙ sym (ap (λ b. if b then Rejected else Stays) (sym opens ∙ not_received c.self.inside.state (sym c.eq.ensures ∙ w.if-eq.false)))
    ]
