use Rattle.tcp_state.proofs.Hopless.{hop_unneeded, hop_awaited, hop_given_up, listener_awaits, listener_gives_up}
use Rattle.tcp_state.proofs.counting.lost_hops_give_up.Goals as goal

pub returns : goal.returns
returns c = record { unneeded = hop_unneeded; awaited = hop_awaited; given_up = hop_given_up; listener_waits = listener_awaits; listener_ends = listener_gives_up }
