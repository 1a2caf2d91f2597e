use Rattle.host.proofs.Parts.{always-taken, as-before, copy-is-nothing, none-for-long, none-goes, nothing-lacks, oldest-goes, unguarded-noted, whole-is-known}
use Rattle.host.proofs.guards.an_old_reassembly_gives_way.Goals as goal

pub returns-clause-oldest : goal.returns-clause-oldest
returns-clause-oldest c = λ h d on some none. oldest-goes h.sockets.manner.guards d h.pool on some none

pub returns-clause-none_else : goal.returns-clause-none_else
returns-clause-none_else c = λ h d place at. none-goes h.sockets.manner.guards d h.pool place at

pub returns-clause-too_long : goal.returns-clause-too_long
returns-clause-too_long c = λ h d long. none-for-long h.sockets.manner.guards d h.pool long

pub returns-clause-taken : goal.returns-clause-taken
returns-clause-taken c = λ h now isn octets d answer new on some is delivered. (always-taken h now isn octets d answer new on some is delivered, nothing-lacks h octets d on some is)

pub returns-clause-late : goal.returns-clause-late
returns-clause-late c = copy-is-nothing

pub returns-clause-known : goal.returns-clause-known
returns-clause-known c = whole-is-known

pub returns-clause-unguarded : goal.returns-clause-unguarded
returns-clause-unguarded c = as-before

pub returns-clause-unnoted : goal.returns-clause-unnoted
returns-clause-unnoted c = unguarded-noted
