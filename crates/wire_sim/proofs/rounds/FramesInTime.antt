-- A frame that went out in a round is brought in time: it is still in its epoch, and nothing was written since. So it is refused only as one that would open its pair a second time.
use Rattle.std.proofs.Common.{◌≡◌, ℕ, ◌<◌, Bool, true, false, cond, List, [], ◌∷◌, ◌++◌, length, Option, Some, None, option_map, refl, sym, ◌∙◌, ap, subst, arith}
use Rattle.std.specs.List.{slice_get}
use Rattle.std.specs.Option.{IfSome, option_or}
use Rattle.ipv4.specs.declared.addr.Pair.{Pair}
use Rattle.frames.specs.Pairs.{pair_in}
use Rattle.sockets.specs.declared.entry.SocketId.{SocketId}
use Rattle.sockets.specs.SocketsView.{holder_id}
use Rattle.host.specs.Arrival.{foreseen}
use Rattle.host.specs.Emission.{after_emission, emission_octets}
use Rattle.host.specs.HostView.{HostView}
use Rattle.sides.specs.declared.side.Side.{Side}
use Rattle.sides.specs.declared.side.Side.TheVariants.{A, B}
use Rattle.sides.specs.Sides.{same_side, other_side}
use Rattle.wire_sim.specs.declared.event.Event.TheVariants as event
use Rattle.wire_sim.specs.declared.event.Answer.{Answer}
use Rattle.wire_sim.specs.declared.event.Opening.{Opening}
use Rattle.wire_sim.specs.declared.event.Unfair.{Unfair}
use Rattle.wire_sim.specs.declared.event.Unfair.TheVariants.{NoSuchFrame}
use Rattle.wire_sim.specs.declared.world.bag.Frame.{Frame}
use Rattle.wire_sim.specs.declared.world.bag.Note.{Note}
use Rattle.wire_sim.specs.Fairness.{late_note, second_by_frame, unfair_frame, IsRecent}
use Rattle.wire_sim.specs.Openings.{epoch_of, held_anew, opened_by_frame}
use Rattle.wire_sim.specs.Rounds.{isn_of_round}
use Rattle.wire_sim.specs.Runs.{unfair, IsReached}
use Rattle.wire_sim.specs.Steps.{with_host, with_opening, note_of, after_delivery, EmitsFrame, DeliversFrame}
use Rattle.wire_sim.specs.Tallies.{is_opening_of, same_pair, written_by}
use Rattle.wire_sim.specs.WorldView.{WorldView, NetworkView, host_of, table_of, clock_of, written_at}
use Rattle.wire_sim.proofs.fairness.CountedAsTraced.{same_unfair}
use Rattle.wire_sim.proofs.fairness.FairIsUnrefused.{timely}
use Rattle.wire_sim.proofs.fairness.NotesAreTraced.{got-last}
use Rattle.wire_sim.proofs.openings.OpeningIsFound.{epoch-added}
use Rattle.wire_sim.proofs.runs.RunsAreLawful.{IsOrderly, orderly, run_tallied}
use Rattle.wire_sim.proofs.tables.PairOfPorts.{same_pair-true}
use Rattle.wire_sim.proofs.told.TraceAndOneMore.{same_side-other, tallies}

-- What the events of a round between its minute and its reads leave of a network.

-- the limit, the epochs, and how much was written
pub record IsLike (n m : NetworkView) : Type 0 where
  pub limit : m.limit ≡ n.limit
  pub epochs : (pair : Pair) → epoch_of m.openings pair ≡ epoch_of n.openings pair
  pub written : (side : Side) (pair : Pair) (epoch : ℕ) → written_at m side pair epoch ≡ written_at n side pair epoch

like-same : (n m : NetworkView) → m ≡ n → IsLike n m
like-same n m same = record {
  limit = ap (λ (k : NetworkView). k.limit) same;
  epochs = λ pair. ap (λ (k : NetworkView). epoch_of k.openings pair) same;
  written = λ side pair epoch. ap (λ (k : NetworkView). written_at k side pair epoch) same;
}

like-both : (n m k : NetworkView) → IsLike n m → IsLike m k → IsLike n k
like-both n m k first more = record {
  limit = more.limit ∙ first.limit;
  epochs = λ pair. more.epochs pair ∙ first.epochs pair;
  written = λ side pair epoch. more.written side pair epoch ∙ first.written side pair epoch;
}

like-host : (n : NetworkView) (side : Side) (h : HostView) → IsLike n (with_host n side h)
like-host n A h = record { limit = refl; epochs = λ pair. refl; written = λ side pair epoch. refl }
like-host n B h = record { limit = refl; epochs = λ pair. refl; written = λ side pair epoch. refl }

like-frames : (n : NetworkView) (frames : List Frame) → IsLike n (record n { frames = frames })
like-frames n frames = record { limit = refl; epochs = λ pair. refl; written = λ side pair epoch. refl }

pub like-emitted : (side : Side) (index len : ℕ) (n m : NetworkView) → EmitsFrame side index len n m → IsLike n m
like-emitted side index len n m emits =
    let host : NetworkView = with_host n side (after_emission (host_of n side) (clock_of n side)) in
    let all : NetworkView = record host { frames = n.frames ++ emits.frame ∷ [] } in
    like-both n host m (like-host n side _) (like-both host all m (like-frames host _) (like-same all m emits.after))

-- an opening of which nothing was written yet, in the epoch that its pair is in
written-opened : (os : List Opening) (ws : List ℕ) (o : Opening) (side : Side) (pair : Pair) (epoch : ℕ) → length ws ≡ length os → written_by (os ++ o ∷ []) (ws ++ 0 ∷ []) side pair epoch ≡ written_by os ws side pair epoch
written-opened [] [] o side pair epoch long = none (is_opening_of side pair epoch o)
  where
    none : (b : Bool) → ◌≡◌ {A = ℕ} (cond b 0 0) 0
    none true = refl
    none false = refl
written-opened [] (w ∷ ws) o side pair epoch long = cc
written-opened (x ∷ os) [] o side pair epoch long = cc
written-opened (x ∷ os) (w ∷ ws) o side pair epoch long = ap (λ rest. cond (is_opening_of side pair epoch x) w rest) (written-opened os ws o side pair epoch (omega (arith, long)))

epoch-opened : (os : List Opening) (o : Opening) (pair : Pair) → o.epoch ≡ epoch_of os o.pair → epoch_of (os ++ o ∷ []) pair ≡ epoch_of os pair
epoch-opened os o pair present = epoch-added os o pair ∙ by_pair (same_pair o.pair pair) refl
  where
    by_pair : (b : Bool) → same_pair o.pair pair ≡ b → cond b o.epoch (epoch_of os pair) ≡ epoch_of os pair
    by_pair true is = present ∙ ap (epoch_of os) (same_pair-true o.pair pair is)
    by_pair false is = refl

like-opened : (n : NetworkView) (o : Option Opening) → length n.written ≡ length n.openings → IfSome o (λ (x : Opening). x.epoch ≡ epoch_of n.openings x.pair) → IsLike n (with_opening n o)
like-opened n None long present = like-same n n refl
like-opened n (Some o) long present = record {
  limit = refl;
  epochs = λ pair. epoch-opened n.openings o pair present;
  written = λ side pair epoch. written-opened n.openings n.written o side pair epoch long;
}

-- each opening has its count
counted : (limit : ℕ) (w : WorldView) → IsReached limit w → (let n = w.network in length n.written ≡ length n.openings)
counted limit w run = let o : IsOrderly limit A B w.network w.trace = orderly limit w run in ap length o.tallied ∙ as_many w.network.openings
  where
    as_many : (os : List Opening) → length (tallies w.trace os) ≡ length os
    as_many [] = refl
    as_many (o ∷ os) = let rest = as_many os in omega (arith, rest)

-- what a host holds anew by a frame is in the epoch that its pair is in
present-by : (openings : List Opening) (side : Side) (place : ℕ) (pair : Pair) (before after : Option SocketId) → IfSome (held_anew openings side place pair before after) (λ (x : Opening). x.epoch ≡ epoch_of openings x.pair)
present-by openings side place pair None (Some id) = refl
present-by openings side place pair None None = tt
present-by openings side place pair (Some held) after = tt

counted-host : (n : NetworkView) (side : Side) (h : HostView) → length n.written ≡ length n.openings → (let m = with_host n side h in length m.written ≡ length m.openings)
counted-host n A h long = long
counted-host n B h long = long

openings-host : (n : NetworkView) (side : Side) (h : HostView) → (let m = with_host n side h in m.openings) ≡ n.openings
openings-host n A h = refl
openings-host n B h = refl

like-arrived : (n : NetworkView) (side : Side) (place : ℕ) (note : Option Note) (h : HostView) → length n.written ≡ length n.openings → IsLike n (after_delivery side place note n h)
like-arrived n side place None h long = like-host n side h
like-arrived n side place (Some note) h long =
    let host : NetworkView = with_host n side h in
    let o : Option Opening = opened_by_frame n.openings side place note.pair (table_of n side) h.sockets in
    let present : IfSome o (λ (x : Opening). x.epoch ≡ epoch_of n.openings x.pair) = present-by n.openings side place note.pair (holder_id (table_of n side) note.pair) (holder_id h.sockets note.pair) in
    like-both n host (with_opening host o) (like-host n side h)
    (like-opened host o (counted-host n side h long) (subst (λ os. IfSome o (λ (x : Opening). x.epoch ≡ epoch_of os x.pair)) (sym (openings-host n side h)) present))

pub like-delivered : (limit : ℕ) (w : WorldView) → IsReached limit w → (side : Side) (isn place : ℕ) (answer : Answer) (m : NetworkView) (o : Option Frame) → DeliversFrame side isn place answer w.network m o → IsLike w.network m
like-delivered limit w run side isn place answer m None step = absurd step
like-delivered limit w run side isn place answer m (Some f) step =
    let after : NetworkView = after_delivery side place f.note w.network (host_of m side) in
    like-both w.network after m (like-arrived w.network side place f.note (host_of m side) (counted limit w run)) (like-same after m step.1)

-- A frame that may still be brought.

-- the frame with this index went out of a side with these octets, and it is in time
pub record IsFresh (side : Side) (n : NetworkView) (index : ℕ) (octets : List ℕ) : Type 0 where
  pub frame : Frame
  pub there : slice_get n.frames index ≡ Some frame
  pub sender : frame.sender ≡ side
  pub carries : frame.octets.items ≡ octets
  pub epoch : IfSome frame.note (λ (note : Note). epoch_of n.openings note.pair ≡ note.epoch)
  pub recent : IfSome frame.note (IsRecent n.limit (written_at n))

pub still-fresh : (side : Side) (n m : NetworkView) (index : ℕ) (octets : List ℕ) → IsLike n m → ((i : ℕ) (f : Frame) → slice_get n.frames i ≡ Some f → slice_get m.frames i ≡ Some f) → IsFresh side n index octets → IsFresh side m index octets
still-fresh side n m index octets like stay fresh = record {
  frame = fresh.frame;
  there = stay index fresh.frame fresh.there;
  sender = fresh.sender;
  carries = fresh.carries;
  epoch = epoch_on (let f = fresh.frame in f.note) fresh.epoch;
  recent = recent_on (let f = fresh.frame in f.note) fresh.recent;
}
  where
    epoch_on : (o : Option Note) → IfSome o (λ (note : Note). epoch_of n.openings note.pair ≡ note.epoch) → IfSome o (λ (note : Note). epoch_of m.openings note.pair ≡ note.epoch)
    epoch_on None is = tt
    epoch_on (Some note) is = like.epochs note.pair ∙ is

    recent_on : (o : Option Note) → IfSome o (IsRecent n.limit (written_at n)) → IfSome o (IsRecent m.limit (written_at m))
    recent_on None is = tt
    recent_on (Some note) is =
        let limit = like.limit in
        let a = like.written A note.pair note.epoch in
        let b = like.written B note.pair note.epoch in
        record { at_a = omega (arith, is.at_a, a, limit); at_b = omega (arith, is.at_b, b, limit) }

-- one that goes out is
pub fresh-out : (side : Side) (index len : ℕ) (n m : NetworkView) → 0 < n.limit → EmitsFrame side index len n m → IsFresh side m index (emission_octets (host_of n side) (clock_of n side))
fresh-out side index len n m some emits = record {
  frame = emits.frame;
  there = ap (λ (k : NetworkView). slice_get k.frames index) emits.after ∙ (ap (λ i. slice_get (n.frames ++ emits.frame ∷ []) i) emits.place ∙ got-last n.frames emits.frame);
  sender = emits.sender;
  carries = emits.octets;
  epoch = subst (λ (o : Option Note). IfSome o (λ (note : Note). epoch_of m.openings note.pair ≡ note.epoch)) (sym emits.note) (epoch_of_pair (pair_in (let f = emits.frame in f.octets.items)));
  recent = subst (λ (o : Option Note). IfSome o (IsRecent m.limit (written_at m))) (sym emits.note) (recent_of (pair_in (let f = emits.frame in f.octets.items)));
}
  where
    like : IsLike n m
    like = like-emitted side index len n m emits

    epoch_of_pair : (o : Option Pair) → IfSome (option_map (note_of n) o) (λ (note : Note). epoch_of m.openings note.pair ≡ note.epoch)
    epoch_of_pair None = tt
    epoch_of_pair (Some pair) = like.epochs pair

    recent_of : (o : Option Pair) → IfSome (option_map (note_of n) o) (IsRecent m.limit (written_at m))
    recent_of None = tt
    recent_of (Some pair) =
        let limit = like.limit in
        let a = like.written A pair (epoch_of n.openings pair) in
        let b = like.written B pair (epoch_of n.openings pair) in
        record { at_a = omega (arith, a, limit, some); at_b = omega (arith, b, limit, some) }

-- and where it is refused, it would open a pair
pub refused-opens : (limit : ℕ) (w : WorldView) → IsReached limit w → (side : Side) (index : ℕ) (octets : List ℕ) (refusal : Unfair) → IsFresh side w.network index octets → unfair w (event.Deliver (other_side side) index isn_of_round) ≡ Some refusal
    → (pair : Pair) × (foreseen (host_of w.network (other_side side)) octets ≡ Some pair)
refused-opens limit w run side index octets refusal fresh broken = by_pair (foreseen (host_of n to) octets) second
  where
    n : NetworkView
    n = w.network

    to : Side
    to = other_side side

    f : Frame
    f = fresh.frame

    by_frame : unfair_frame n (written_at n) to (Some f) ≡ Some refusal
    by_frame = ap (unfair_frame n (written_at n) to) (sym fresh.there) ∙ (same_unfair w (event.Deliver to index isn_of_round) (run_tallied limit w run) ∙ broken)

    of_other : same_side f.sender to ≡ false
    of_other = ap (λ (s : Side). same_side s to) fresh.sender ∙ same_side-other side

    in_time : late_note n (written_at n) f.note ≡ None
    in_time = (timely n (written_at n) f.note).1 (fresh.epoch, fresh.recent)

    second : second_by_frame n to (foreseen (host_of n to) octets) ≡ Some refusal
    second =
        ap (λ os. second_by_frame n to (foreseen (host_of n to) os)) (sym fresh.carries)
        ∙ (sym (ap (λ b. cond b (Some NoSuchFrame) (option_or (late_note n (written_at n) f.note) (second_by_frame n to (foreseen (host_of n to) f.octets.items)))) of_other
        ∙ ap (λ late. option_or late (second_by_frame n to (foreseen (host_of n to) f.octets.items))) in_time)
        ∙ by_frame)

    by_pair : (o : Option Pair) → second_by_frame n to o ≡ Some refusal → (pair : Pair) × (o ≡ Some pair)
    by_pair None is = cc
    by_pair (Some pair) is = (pair, refl)
