use Rattle.stream_buf.specs.Written.{written}
use Rattle.stream_buf.proofs.Unacknowledged.{written_right, copied_right}
use Rattle.stream_buf.proofs.laws.copies_are_what_was_taken.Goals as goal

pub returns : goal.returns
returns c = λ capacity events offset len can within. copied_right capacity offset len (written capacity events) (written_right capacity events can)
