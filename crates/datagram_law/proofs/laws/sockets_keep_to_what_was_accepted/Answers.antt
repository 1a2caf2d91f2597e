use Rattle.datagram_law.proofs.Keeping.{new, sends, is_brought, emits, gives_up, receives, reads, more_accepted}
use Rattle.datagram_law.proofs.laws.sockets_keep_to_what_was_accepted.Goals as goal

pub returns-clause-new : goal.returns-clause-new
returns-clause-new c = new

pub returns-clause-sends : goal.returns-clause-sends
returns-clause-sends c = sends

pub returns-clause-brought : goal.returns-clause-brought
returns-clause-brought c = is_brought

pub returns-clause-emits : goal.returns-clause-emits
returns-clause-emits c = emits

pub returns-clause-gives_up : goal.returns-clause-gives_up
returns-clause-gives_up c = gives_up

pub returns-clause-receives : goal.returns-clause-receives
returns-clause-receives c = receives

pub returns-clause-reads : goal.returns-clause-reads
returns-clause-reads c = reads

pub returns-clause-more : goal.returns-clause-more
returns-clause-more c = more_accepted
