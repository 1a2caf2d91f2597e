-- In front of the id 0 at a key all have a lower one, and behind it none has.
use Rattle.std.proofs.Common.{subst, sym}
use Rattle.sockets.specs.Index.{AreSorted}
use Rattle.sockets.proofs.Filed.{sorted_index}
use Rattle.sockets.proofs.Belongs.{parted_by_least}
use Rattle.sockets.proofs.found.first_filed.Goals as goal

pub place_for-requires : goal.place_for-requires
place_for-requires c = subst AreSorted (sym c.requires.index) (sorted_index c.args.entries.now)

pub returns-clause-first : goal.returns-clause-first
returns-clause-first c = parted_by_least c.args.key c.args.index.now c.place_for.result c.place_for.ensures.place
