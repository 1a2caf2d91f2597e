-- A fair delivery is of a frame that is there.
use Rattle.std.proofs.Common.{◌≡◌, ℕ, zero, suc, ◌<◌, List, [], ◌∷◌, length, Option, Some, None, refl, arith}
use Rattle.std.specs.List.{slice_get}
use Rattle.tcp_segment.specs.declared.seq.Seq.{Seq}
use Rattle.sides.specs.declared.side.Side.{Side}
use Rattle.wire_sim.specs.declared.event.Event.TheVariants.{Deliver}
use Rattle.wire_sim.specs.declared.world.bag.Frame.{Frame}
use Rattle.wire_sim.specs.Fairness.{unfair_counted}
use Rattle.wire_sim.specs.WorldView.{NetworkView}

-- what stands at a place of a list stands within it
slice_get-within : {X : Type 0} (xs : List X) (i : ℕ) (x : X) → slice_get xs i ≡ Some x → i < length xs
slice_get-within [] i x e = cc
slice_get-within (y ∷ ys) zero x e = omega arith
slice_get-within (y ∷ ys) (suc i) x e = let rest : i < length ys = slice_get-within ys i x e in omega arith

of_frame : (n : NetworkView) (side : Side) (i : ℕ) (isn : Seq) (o : Option Frame) → slice_get n.frames i ≡ o → unfair_counted n (Deliver side i isn) ≡ None → i < length n.frames
of_frame n side i isn None is fair = let f = rw is at fair in cc
of_frame n side i isn (Some f) is fair = slice_get-within n.frames i f is

pub frame_there : (n : NetworkView) (side : Side) (i : ℕ) (isn : Seq) → unfair_counted n (Deliver side i isn) ≡ None → i < length n.frames
frame_there n side i isn fair = of_frame n side i isn _ refl fair
