use Rattle.wire_sim.proofs.rounds.ReadersRead.{readers-read}
use Rattle.wire_sim.proofs.laws.every_reader_reads.Goals as goal

pub returns : goal.returns
returns c = readers-read
