-- What is counted refuses just what the trace does.
use Rattle.std.proofs.Common.{◌≡◌, ℕ, ◌-◌, ◌==◌, ◌||◌, not, nat_le, cond, Option, Some, None, refl, ◌∙◌, ap}
use Rattle.std.specs.Option.{option_or}
use Rattle.std.specs.List.{slice_get}
use Rattle.ipv4.specs.declared.addr.Pair.{Pair}
use Rattle.sides.specs.declared.side.Side.{Side}
use Rattle.sides.specs.declared.side.Side.TheVariants.{A, B}
use Rattle.wire_sim.specs.declared.event.Event.{Event}
use Rattle.wire_sim.specs.declared.event.Event.TheVariants as event
use Rattle.wire_sim.specs.declared.event.Unfair.TheVariants.{NoSuchFrame, OtherEpoch, Stale}
use Rattle.wire_sim.specs.declared.world.bag.Frame.{Frame}
use Rattle.wire_sim.specs.declared.world.bag.Note.{Note}
use Rattle.wire_sim.specs.Fairness.{Amount, is_late, late_note, second_by_frame, unfair_frame, unfair_counted}
use Rattle.host.specs.Arrival.{foreseen}
use Rattle.wire_sim.specs.Openings.{epoch_of}
use Rattle.wire_sim.specs.Runs.{written_len, unfair}
use Rattle.sides.specs.Sides.{same_side}
use Rattle.wire_sim.specs.WorldView.{NetworkView, WorldView, host_of, written_at}
use Rattle.wire_sim.proofs.carried.FramesCarry.{IsTallied}

-- two amounts that are the same make the same frames late
same_late : (limit : ℕ) (m n : Amount) → ((side : Side) (pair : Pair) (epoch : ℕ) → m side pair epoch ≡ n side pair epoch) → (note : Note) → is_late limit m note ≡ is_late limit n note
same_late limit m n same note =
    ap (λ k. nat_le limit (k - note.at_a) || nat_le limit (m B note.pair note.epoch - note.at_b)) (same A note.pair note.epoch)
    ∙ ap (λ k. nat_le limit (n A note.pair note.epoch - note.at_a) || nat_le limit (k - note.at_b)) (same B note.pair note.epoch)

same_note : (n : NetworkView) (now after : Amount) → ((side : Side) (pair : Pair) (epoch : ℕ) → now side pair epoch ≡ after side pair epoch) → (o : Option Note) → late_note n now o ≡ late_note n after o
same_note n now after same None = refl
same_note n now after same (Some note) = ap (λ b. cond (not (epoch_of n.openings note.pair == note.epoch)) (Some OtherEpoch) (cond b (Some Stale) None)) (same_late n.limit now after same note)

same_frame : (n : NetworkView) (now after : Amount) → ((side : Side) (pair : Pair) (epoch : ℕ) → now side pair epoch ≡ after side pair epoch) → (side : Side) (o : Option Frame) → unfair_frame n now side o ≡ unfair_frame n after side o
same_frame n now after same side None = refl
same_frame n now after same side (Some f) = ap (λ o. cond (same_side f.sender side) (Some NoSuchFrame) (option_or o (second_by_frame n side (foreseen (host_of n side) f.octets.items)))) (same_note n now after same f.note)

-- what is counted refuses just what the trace does
pub same_unfair : (w : WorldView) (happens : Event) → IsTallied w.network w.trace → unfair_counted w.network happens ≡ unfair w happens
same_unfair w (event.Deliver side index isn) tallied = same_frame w.network (written_at w.network) (written_len w) tallied side (slice_get w.network.frames index)
same_unfair w (event.Call side c) tallied = refl
same_unfair w (event.Tick side moment) tallied = refl
same_unfair w (event.Emit side) tallied = refl
