use Rattle.tcp_state.proofs.Drawn.{owed_as_drawn, owed_unguarded, delayed_as_brought}
use Rattle.tcp_state.proofs.duties.what_draws_an_acknowledgement.Goals as goal

pub returns : goal.returns
returns c = record { owed = owed_unguarded; guarded = owed_as_drawn; delayed = delayed_as_brought }
