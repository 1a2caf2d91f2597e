use Rattle.arp.proofs.Kept.{asked_where_there_is_room}
use Rattle.arp.proofs.laws.asked_where_there_is_room.Goals as goal

pub returns : goal.returns
returns c = asked_where_there_is_room
