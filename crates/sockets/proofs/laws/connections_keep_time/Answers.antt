use Rattle.sockets.proofs.Timed.{each_timed, fresh_timed}
use Rattle.sockets.proofs.laws.connections_keep_time.Goals as goal

pub returns : goal.returns
returns c = record { fresh = fresh_timed; kept = each_timed }
