use Rattle.icmp.proofs.view.IcmpView.quote.Goals as goal

pub returns-clause-none : goal.returns-clause-none
returns-clause-none c = rw c.payload.ensures.octets at c.read.ensures.none
