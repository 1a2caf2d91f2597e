use Rattle.std.proofs.Common.{rules}
use Rattle.sockets.specs.Index.{key_of}
use Rattle.sockets.proofs.index.key_of.Goals as goal

-- as it is said
pub returns : goal.returns
unfolding key_of
returns c = search rules
