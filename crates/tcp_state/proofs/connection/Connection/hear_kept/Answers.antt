use Rattle.std.proofs.Common.{rules, ◌≡◌, true, false, ◌&&◌, ◌∙◌, sym}
use Rattle.tcp_segment.specs.Segment.{Segment}
use Rattle.tcp_halves.specs.Stream.{is_new_ack}
use Rattle.tcp_state.specs.View.{View, is_syn_sent, is_syn_received}
use Rattle.tcp_state.specs.Arrival.{is_acceptable_to, is_acting_reset}
use Rattle.tcp_state.proofs.Segments.{another_syn, fate_of_syn, acknowledging, unacknowledging, fate_of_acknowledging}
use Rattle.tcp_state.proofs.connection.Connection.hear_kept.Goals as goal

pub returns-then-flags-2-clause-fate : goal.returns-then-flags-2-clause-fate
returns-then-flags-2-clause-fate c =
    let v : View = c.args.self.now in
    let s : Segment = c.args.segment.now in
    let no_rst : s.flags.rst ≡ false = search rules in
    let past_opening : is_syn_sent v.state ≡ false = search rules in
    let accepted : is_acceptable_to v s ≡ true = search rules in
    let syn : s.flags.syn ≡ true = search rules in
    c.hear_another_syn.ensures.fate
    ∙ fate_of_syn s.flags.rst s.flags.syn s.flags.ack (is_acceptable_to v s) (is_syn_sent v.state) (is_syn_received v.state) (is_new_ack v.sending s.acknowledgement) v.passive
    (is_acting_reset v s && v.passive && is_syn_received v.state) no_rst syn accepted past_opening

pub returns-then-flags-2-clause-after : goal.returns-then-flags-2-clause-after
returns-then-flags-2-clause-after c =
    let v : View = c.args.self.now in
    let s : Segment = c.args.segment.now in
    let no_rst : s.flags.rst ≡ false = search rules in
    let past_opening : is_syn_sent v.state ≡ false = search rules in
    let accepted : is_acceptable_to v s ≡ true = search rules in
    let syn : s.flags.syn ≡ true = search rules in
    c.hear_another_syn.ensures.after ∙ sym (another_syn v s c.requires no_rst past_opening accepted syn)

pub returns-then-flags-3-clause-fate : goal.returns-then-flags-3-clause-fate
returns-then-flags-3-clause-fate c =
    let v : View = c.args.self.now in
    let s : Segment = c.args.segment.now in
    let no_rst : s.flags.rst ≡ false = search rules in
    let past_opening : is_syn_sent v.state ≡ false = search rules in
    let accepted : is_acceptable_to v s ≡ true = search rules in
    let no_syn : s.flags.syn ≡ false = search rules in
    let ack : s.flags.ack ≡ true = search rules in
    c.hear_acknowledging.ensures.fate
    ∙ fate_of_acknowledging s.flags.rst s.flags.syn s.flags.ack (is_acceptable_to v s) (is_syn_sent v.state) (is_syn_received v.state) (is_new_ack v.sending s.acknowledgement) v.passive
    (is_acting_reset v s && v.passive && is_syn_received v.state) no_rst no_syn ack accepted past_opening

pub returns-then-flags-3-clause-after : goal.returns-then-flags-3-clause-after
returns-then-flags-3-clause-after c =
    let v : View = c.args.self.now in
    let s : Segment = c.args.segment.now in
    let no_rst : s.flags.rst ≡ false = search rules in
    let past_opening : is_syn_sent v.state ≡ false = search rules in
    let accepted : is_acceptable_to v s ≡ true = search rules in
    let no_syn : s.flags.syn ≡ false = search rules in
    let ack : s.flags.ack ≡ true = search rules in
    c.hear_acknowledging.ensures.after ∙ sym (acknowledging v s c.requires no_rst past_opening accepted no_syn ack)

pub returns-clause-after : goal.returns-clause-after
returns-clause-after c =
    let v : View = c.args.self.now in
    let s : Segment = c.args.segment.now in
    let no_rst : s.flags.rst ≡ false = search rules in
    let past_opening : is_syn_sent v.state ≡ false = search rules in
    let accepted : is_acceptable_to v s ≡ true = search rules in
    let no_syn : s.flags.syn ≡ false = search rules in
    let no_ack : s.flags.ack ≡ false = search rules in
    sym (unacknowledging v s c.requires no_rst past_opening accepted no_syn no_ack)
