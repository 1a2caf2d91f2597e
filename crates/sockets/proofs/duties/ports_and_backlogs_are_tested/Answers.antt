use Rattle.sockets.proofs.Calling.{bind_used, bind_used_datagrams, backlog_tested, listens_then}
use Rattle.sockets.proofs.duties.ports_and_backlogs_are_tested.Goals as goal

pub returns : goal.returns
returns c = record { bind = bind_used; bind_datagrams = bind_used_datagrams; backlog = backlog_tested; listens = listens_then }
