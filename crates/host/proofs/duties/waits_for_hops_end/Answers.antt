use Rattle.host.proofs.Hopless.{hop-told, hop-left, hop-half_open, hop-early, hop-half_open_early, hop-known, hop-wakes}
use Rattle.host.proofs.duties.waits_for_hops_end.Goals as goal

pub returns : goal.returns
returns c = record { told = hop-told; left = hop-left; half_open = hop-half_open; early = hop-early; half_open_early = hop-half_open_early; known = hop-known; wakes = hop-wakes }
