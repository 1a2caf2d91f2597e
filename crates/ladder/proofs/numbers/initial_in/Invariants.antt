use Rattle.std.proofs.Common.{◌≡◌, drop}
use Rattle.ladder.specs.Numbers.{initial_in, later_or}
use Rattle.ladder.proofs.numbers.initial_in.Given as goal

abbrev pub invariant-loop-syn : goal.invariant-loop-syn
invariant-loop-syn l = later_or (initial_in l.direction (drop l.syn-index l.syns)) l.found ≡ initial_in l.direction l.fn.syns
