use Rattle.frames.proofs.Carried.{requests_heard, replies_heard}
use Rattle.frames.proofs.laws.emitted_packets_are_heard.Goals as goal

pub returns-clause-request : goal.returns-clause-request
returns-clause-request c = requests_heard

pub returns-clause-reply : goal.returns-clause-reply
returns-clause-reply c = replies_heard
