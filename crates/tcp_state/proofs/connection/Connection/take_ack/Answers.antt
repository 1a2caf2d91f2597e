use Rattle.std.proofs.Common.{◌≡◌, ◌∙◌, length, sym, ap, ap₂, true}
use Rattle.tcp_state.specs.View.{View}
use Rattle.tcp_state.specs.Timing.{clocked}
use Rattle.tcp_state.specs.Alive.{heard_now}
use Rattle.tcp_state.specs.Arrival.{after_new_ack, after_window, after_text}
use Rattle.tcp_state.proofs.PlainAcks.{counted, ack_tells, ack_stays, ack_taken}
use Rattle.tcp_state.proofs.connection.Connection.take_ack.Goals as goal

pub returns-clause-fate : goal.returns-clause-fate
returns-clause-fate c =
    let v : View = c.args.self.now in
    sym (ack_stays v c.args.segment.now c.requires.sound (ack_tells v c.args.segment.now c.requires.sound c.requires.plain c.requires.octets))

pub returns-clause-after : goal.returns-clause-after
returns-clause-after c =
    let v : View = c.args.self.now in
    let held : c.held_len-held.result ≡ length v.sending.held = c.held_len-held.ensures.value ∙ ap (λ (x : View). length x.sending.held) c.self.view_is in
    let moved : c.move_una.new.self ≡ after_new_ack v c.args.segment.now.acknowledgement = c.move_una.ensures.after ∙ ap (after_new_ack v) c.acknowledgement.ensures in
    c.update_timers.ensures
    ∙ ap (λ w. clocked true w c.args.now) (c.note_peer.ensures ∙ ap (λ (w : View). record w { alive = heard_now w.alive c.args.now }) (c.count_acknowledged.ensures
    ∙ ap₂ (λ w n. counted w n c.args.now) (c.hear_octets.ensures ∙ ap (λ w. after_text w c.args.segment.now) (c.hear_window.ensures ∙ ap (λ w. after_window w c.args.segment.now) moved)) held))
    ∙ sym (ack_taken v c.args.segment.now c.args.now c.requires.sound (ack_tells v c.args.segment.now c.requires.sound c.requires.plain c.requires.octets))
