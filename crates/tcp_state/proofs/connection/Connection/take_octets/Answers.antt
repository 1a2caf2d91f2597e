use Rattle.std.proofs.Common.{◌∙◌, sym, ap, false}
use Rattle.tcp_state.specs.View.{View}
use Rattle.tcp_state.specs.Timing.{clocked}
use Rattle.tcp_state.specs.Alive.{heard_now}
use Rattle.tcp_state.specs.Arrival.{after_text}
use Rattle.tcp_state.proofs.PlainSegments.{octets_tell, octets_stay, octets_taken}
use Rattle.tcp_state.proofs.connection.Connection.take_octets.Goals as goal

pub returns-clause-fate : goal.returns-clause-fate
returns-clause-fate c =
    let v : View = c.args.self.now in
    sym (octets_stay v c.args.segment.now c.requires.sound (octets_tell v c.args.segment.now c.requires.sound c.requires.plain c.requires.octets))

pub returns-clause-after : goal.returns-clause-after
returns-clause-after c =
    let v : View = c.args.self.now in
    c.update_timers.ensures
    ∙ ap (λ w. clocked false w c.args.now) (c.note_peer.ensures ∙ ap (λ (w : View). record w { alive = heard_now w.alive c.args.now }) (c.hear_octets.ensures ∙ ap (λ w. after_text w c.args.segment.now) c.hear_window.ensures))
    ∙ sym (octets_taken v c.args.segment.now c.args.now c.requires.sound (octets_tell v c.args.segment.now c.requires.sound c.requires.plain c.requires.octets))
