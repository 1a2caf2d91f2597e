use Rattle.stream_buf.proofs.Beginnings.{ranges_begin}
use Rattle.stream_buf.proofs.Receptions.{received_counted}
use Rattle.stream_buf.proofs.laws.few_ranges.Goals as goal

pub returns-clause-counted : goal.returns-clause-counted
returns-clause-counted c = ranges_begin

pub returns-clause-most : goal.returns-clause-most
returns-clause-most c = λ capacity events can. let right = received_counted capacity events can in let sound = right.sound in sound.few
