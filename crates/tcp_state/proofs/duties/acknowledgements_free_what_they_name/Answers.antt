use Rattle.tcp_state.proofs.Freed.{frees_named, others_free_none}
use Rattle.tcp_state.proofs.duties.acknowledgements_free_what_they_name.Goals as goal

pub returns : goal.returns
returns c = record { frees = frees_named; others = others_free_none }
