use Rattle.host.proofs.Guarded.{barred_dropped, others_heard, unguarded_heard}
use Rattle.host.proofs.guards.what_comes_from_no_host_is_dropped.Goals as goal

pub returns : goal.returns
returns c = record { barred = barred_dropped; others = others_heard; unguarded = unguarded_heard }
