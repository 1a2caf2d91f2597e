use Rattle.std.proofs.Common.{◌∙◌}
use Rattle.stream_buf.specs.Received.{received}
use Rattle.stream_buf.proofs.Receptions.{received_counted, edge_right}
use Rattle.stream_buf.proofs.laws.the_edge_moves_by_reads.Goals as goal

pub returns-clause-room : goal.returns-clause-room
returns-clause-room c = λ capacity events can. let right = received_counted capacity events can in let sound = right.sound in (right.size, sound.places ∙ right.size)

pub returns-clause-edge : goal.returns-clause-edge
returns-clause-edge c = λ capacity events can. edge_right capacity (received capacity events) (received_counted capacity events can)
