use Rattle.sockets.proofs.Hopless.{hop_near}
use Rattle.sockets.proofs.Near.{fresh_near, each_near, led_near, kept_near, deadline_near, deadline_in_a_day}
use Rattle.sockets.proofs.laws.timers_lie_near.Goals as goal

pub returns : goal.returns
returns c = record { fresh = fresh_near; event = each_near; over = led_near; kept = kept_near; hop = hop_near; deadline = deadline_near; asking = deadline_in_a_day }
