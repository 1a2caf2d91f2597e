use Rattle.std.proofs.Common.{◌≡◌, ◌≤◌, min, true, rules, refl, subst}
use Rattle.tcp_state.specs.declared.state.State.{State}
use Rattle.tcp_state.specs.declared.state.State.TheVariants.{SynSent, SynReceived}
use Rattle.tcp_state.specs.View.{View, IsSound, is_syn_sent}
use Rattle.tcp_state.specs.Inside.{view_of}
use Rattle.tcp_state.specs.Arrival.{scales_with, after_first_syn}
use Rattle.tcp_state.proofs.FirstSyns.{first_syn_sound}
use Rattle.tcp_state.proofs.connection.Connection.take_syn.Goals as goal

sent : (t : State) → is_syn_sent t ≡ true → t ≡ SynSent
sent SynSent e = refl
sent _ e = cc

pub invariant_of-self : goal.invariant_of-self
invariant_of-self c =
    let v : View = view_of c.self.inside in
    let waits : is_syn_sent v.state ≡ true = search rules in
    let few : c.args.advertised ≤ min v.receiving.size 65535 = search rules in
    let scales : c.scales_with-scales.result ≡ scales_with v c.args.syn.now = search rules in
    let is : after_first_syn v c.args.syn.now c.args.advertised ≡ record v { state = SynReceived; scales = c.scales_with-scales.result; sending = c.hear_syn.new.self; receiving = c.hear_syn-2.new.self; reporting = c.settle-3.new.self } = search rules in
    subst IsSound is (first_syn_sound v c.args.syn.now c.args.advertised c.self.invariant (sent v.state waits) few)
