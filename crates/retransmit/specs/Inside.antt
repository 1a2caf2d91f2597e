-- How the fields of a retransmission timeout are seen.
use Rattle.retransmit.specs.declared.rto.Rto.TheInside.{Inside}
use Rattle.retransmit.specs.Timeout.{Timeout}

abbrev pub view_of : Inside → Timeout
view_of r = record { estimate = r.estimate; rto = r.rto; least = r.least }
