use Rattle.std.proofs.Common.{refl}
use Rattle.marks.specs.Bits.{has_bit}
use Rattle.marks.proofs.bits.is_bit_set.Goals as goal

pub returns : goal.returns
unfolding has_bit
returns c = refl
