use Rattle.guard_law.proofs.Wanting.{backlog_given, table_given, anew_given, socket_given}
use Rattle.guard_law.proofs.laws.something_gives_way_where_room_is_wanting.Goals as goal

pub returns : goal.returns
returns c = record { backlog = backlog_given; table = table_given; anew = anew_given; socket = socket_given }
