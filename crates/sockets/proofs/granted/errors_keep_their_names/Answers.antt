use Rattle.std.proofs.Common.{refl}
use Rattle.sockets.proofs.granted.errors_keep_their_names.Goals as goal

pub returns : goal.returns
returns c = (refl, refl, refl, refl, refl, refl)
