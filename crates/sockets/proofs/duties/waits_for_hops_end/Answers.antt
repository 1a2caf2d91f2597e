use Rattle.sockets.proofs.Hopless.{hop_told, hop_left, half_open_ends, hop_early, half_open_early, hop_idle, hop_known, hop_deadline, reset_deadline}
use Rattle.sockets.proofs.duties.waits_for_hops_end.Goals as goal

pub returns : goal.returns
returns c = record { told = hop_told; left = hop_left; half_open = half_open_ends; early = hop_early; half_open_early = half_open_early; idle = hop_idle; known = hop_known; deadline = hop_deadline; reset_deadline = reset_deadline }
