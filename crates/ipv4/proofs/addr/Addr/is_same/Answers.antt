use Rattle.std.proofs.Common.{rules}
use Rattle.ipv4.proofs.Numbers.{same_number}
use Rattle.ipv4.proofs.addr.Addr.is_same.Goals as goal

-- src/addr.rt:22:5
pub returns : goal.returns
returns c = rw (c.from_le_bytes.ensures, c.from_le_bytes-2.ensures) (same_number c.args.self.0 c.args.other.0 (search rules) (search rules) (search rules) (search rules))
