use Rattle.sockets.proofs.Numbered.{moment_kept, tick_told}
use Rattle.sockets.proofs.laws.moments_never_go_back.Goals as goal

pub returns : goal.returns
returns c = record { kept = moment_kept; told = tick_told }
