use Rattle.tcp_state.proofs.Repairs.{reports_are_counted, reports_lose}
use Rattle.tcp_state.proofs.repair.what_reports_counts_as_a_duplicate.Goals as goal

pub returns : goal.returns
returns c = record { counted = reports_are_counted; lost = reports_lose }
