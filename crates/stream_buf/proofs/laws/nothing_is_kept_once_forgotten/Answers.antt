use Rattle.std.proofs.Common.{ℕ, false, [], Option, None, length}
use Rattle.std.proofs.lemmas.List.{length-replicate}
use Rattle.stream_buf.proofs.Inserting.{none_begins}
use Rattle.stream_buf.proofs.Standing.{at_more}
use Rattle.stream_buf.proofs.laws.nothing_is_kept_once_forgotten.Goals as goal

pub returns-clause-kept : goal.returns-clause-kept
returns-clause-kept c = λ r place. at_more [] (length r.buffer.kept) place

pub returns-clause-ranges : goal.returns-clause-ranges
returns-clause-ranges c = λ r. none_begins false (length r.buffer.kept)

pub returns-clause-room : goal.returns-clause-room
returns-clause-room c = λ r. length-replicate {A = Option ℕ} (length r.buffer.kept) None
