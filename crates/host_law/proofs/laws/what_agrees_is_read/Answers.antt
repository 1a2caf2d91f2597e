use Rattle.host_law.proofs.Agreeing.{begins, whole}
use Rattle.host_law.proofs.laws.what_agrees_is_read.Goals as goal

pub returns : goal.returns
returns c = record { begins = begins; whole = λ c id steps text law agrees. whole c id steps text law agrees }
