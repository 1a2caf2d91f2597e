use Rattle.sockets.proofs.GivenWay.{segment_given, socket_given, none_gives}
use Rattle.sockets.proofs.giving.the_oldest_gives_way.Goals as goal

pub returns : goal.returns
returns c = record { segment = segment_given; socket = socket_given; without = none_gives }
