use Rattle.std.proofs.Common.{◌≡◌, ◌≤◌, ◌++◌, take, drop, map}
use Rattle.std.specs.List.{filter_map}
use Rattle.arrayvec.specs.ArrayVec.{array_vec_len}
use Rattle.reassembly.proofs.Ageing.{aged_place, told_of}
use Rattle.reassembly.proofs.pool.Pool.age.Given as goal

abbrev pub invariant-loop-place : goal.invariant-loop-place
invariant-loop-place l = record {
  places : l.place-items ≡ map (aged_place l.now) (take l.place-index l.initial.place-items) ++ drop l.place-index l.initial.place-items;
  expired : l.expired.items ≡ filter_map (told_of l.now) (take l.place-index l.initial.place-items);
  few : array_vec_len l.expired ≤ l.place-index;
}
