-- Why a host takes no frame, by number.
use Rattle.std.specs.Prelude.{ℕ}
use Rattle.frames.specs.declared.drop.DropCause.{DropCause}
use Rattle.frames.specs.declared.drop.DropCause.TheVariants.{Short, OtherMac, OtherType, IpHeader, IpSum, OtherAddress, UpperHeader, UpperSum, NoRoom, Fragment}

-- the number of a cause
abbrev pub number_of : DropCause → ℕ
number_of Short = 1
number_of OtherMac = 2
number_of OtherType = 3
number_of IpHeader = 4
number_of IpSum = 5
number_of OtherAddress = 6
number_of UpperHeader = 7
number_of UpperSum = 8
number_of NoRoom = 9
number_of Fragment = 10
