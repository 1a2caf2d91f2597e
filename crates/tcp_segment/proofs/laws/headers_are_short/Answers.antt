use Rattle.std.proofs.Common.{arith}
use Rattle.tcp_segment.proofs.Sending.{least_offset, most_offset}
use Rattle.tcp_segment.proofs.laws.headers_are_short.Goals as goal

pub returns : goal.returns
returns c = λ head. (omega (arith, least_offset head), omega (arith, most_offset head))
