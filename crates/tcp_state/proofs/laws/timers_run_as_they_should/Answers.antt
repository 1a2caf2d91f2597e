use Rattle.tcp_state.proofs.Timers.{opened_timed, accepted_timed, stays_timed}
use Rattle.tcp_state.proofs.laws.timers_run_as_they_should.Goals as goal

pub returns : goal.returns
returns c = record { opened = opened_timed; accepted = accepted_timed; stays = stays_timed }
