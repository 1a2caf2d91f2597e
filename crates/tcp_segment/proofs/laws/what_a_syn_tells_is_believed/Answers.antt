use Rattle.std.proofs.Common.{ℕ, max, min, unwrap_or, Option, ◌∙◌, ap, arith}
use Rattle.tcp_segment.proofs.laws.what_a_syn_tells_is_believed.Goals as goal

-- a size that is told, or none
abbrev believed : Option ℕ → ℕ
believed told = min (max (unwrap_or told 536) 64) 1460

abbrev shifted : Option ℕ → ℕ
shifted told = min (unwrap_or told 0) 14

pub returns-clause-size : goal.returns-clause-size
returns-clause-size c segment size told least most = ap believed told ∙ omega (arith, least, most)

pub returns-clause-most : goal.returns-clause-most
returns-clause-most c segment size told large = ap believed told ∙ omega (arith, large)

pub returns-clause-least : goal.returns-clause-least
returns-clause-least c segment size told small = ap believed told ∙ omega (arith, small)

pub returns-clause-usual : goal.returns-clause-usual
returns-clause-usual c segment none = ap believed none

pub returns-clause-shift : goal.returns-clause-shift
returns-clause-shift c segment shift told few = ap shifted told ∙ omega (arith, few)

pub returns-clause-most_shift : goal.returns-clause-most_shift
returns-clause-most_shift c segment shift told many = ap shifted told ∙ omega (arith, many)

pub returns-clause-no_shift : goal.returns-clause-no_shift
returns-clause-no_shift c segment none = ap shifted none
