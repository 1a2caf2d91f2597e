use Rattle.tcp_state.proofs.TakenOrAnswered.{more_read, answered_at_once}
use Rattle.tcp_state.proofs.progress.what_comes_is_taken_or_acknowledged.Goals as goal

pub returns : goal.returns
returns c = record { taken = more_read; acknowledged = answered_at_once }
