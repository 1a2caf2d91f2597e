-- Where nothing is to be sent or acknowledged, no timer runs for it.
use Rattle.std.proofs.Common.{◌∙◌, sym}
use Rattle.tcp_state.proofs.Idle.{idle_timers}
use Rattle.tcp_state.proofs.connection.Connection.update_sending_timers.Goals as goal

pub returns-then-is_idle : goal.returns-then-is_idle
returns-then-is_idle c =
    c.stop_sending_timers.ensures ∙ idle_timers c.args.moved c.args.self.now c.args.now c.is_idle.ensures.sound (sym c.is_idle.ensures.value ∙ c.if-is_idle.true)
