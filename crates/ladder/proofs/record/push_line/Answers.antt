use Rattle.std.proofs.Common.{sym, arith}
use Rattle.std.proofs.lemmas.List.{length-take-le}
use Rattle.ladder.proofs.record.push_line.Goals as goal

pub slice_bounds-extend_from_slice-length : goal.slice_bounds-extend_from_slice-length
slice_bounds-extend_from_slice-length c = sym (length-take-le 78 c.args.line.now (omega arith))
