use Rattle.tcp_state.proofs.Unreachable.{past_opening_stays, unsent_stays, other_stays, opening_ends}
use Rattle.tcp_state.proofs.laws.hard_errors_end_openings_alone.Goals as goal

pub returns : goal.returns
returns c = record { others = past_opening_stays; unsent = unsent_stays; numbered = other_stays; ends = opening_ends }
