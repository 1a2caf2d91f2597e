use Rattle.sockets.proofs.Places.{no_room_where_full}
use Rattle.sockets.proofs.laws.places_are_given_while_there_are_any.Goals as goal

pub returns : goal.returns
returns c = no_room_where_full
