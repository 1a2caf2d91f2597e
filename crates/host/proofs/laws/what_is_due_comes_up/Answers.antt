use Rattle.host.proofs.ComesUp.{place-of-run, reply-of-run, datagram-of-run, connection-of-run}
use Rattle.host.proofs.HopEnds.{hop-in_time, hop-ends, hop-none_left}
use Rattle.host.proofs.Quiet.{quiet-of-run}
use Rattle.host.proofs.laws.what_is_due_comes_up.Goals as goal

pub returns : goal.returns
returns c = record { place = place-of-run; reply = reply-of-run; datagram = datagram-of-run; connection = connection-of-run; in_time = hop-in_time; ends = hop-ends; none_left = hop-none_left; never_silent = quiet-of-run }
