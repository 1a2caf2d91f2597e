use Rattle.host.proofs.GivenWay.{given, opened, stays, unguarded}
use Rattle.host.proofs.guards.way_is_made_for_what_opens.Goals as goal

pub returns : goal.returns
returns c = record { given = given; opens = opened; none = stays; unguarded = unguarded }
