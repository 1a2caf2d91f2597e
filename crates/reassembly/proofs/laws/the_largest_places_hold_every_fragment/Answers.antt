use Rattle.reassembly.proofs.Rooms.{largest}
use Rattle.reassembly.proofs.laws.the_largest_places_hold_every_fragment.Goals as goal

pub returns : goal.returns
returns c = largest
