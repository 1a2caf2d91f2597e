-- Frames go out one behind the other, and are brought in that order.
use Rattle.std.proofs.Common.{◌≡◌, ◌+◌, ◌-◌, ◌<◌, ◌==◌, ◌⊎◌, inl, inr, ℕ, zero, suc, Bool, true, false, not, if◌then◌else◌, List, [], ◌∷◌, ◌++◌, length, length-append, Option, Some, None, Result, Ok, Err, IsOk, arith, refl, sym, ◌∙◌, ap, subst}
use Rattle.std.specs.List.{range_with_len, list_any, slice_get}
use Rattle.std.specs.Option.{option_or}
use Rattle.std.proofs.lemmas.List.FromFn.{length-range_with_len}
use Rattle.clock.specs.declared.moment.Moment.{Moment}
use Rattle.ipv4.specs.declared.addr.Pair.{Pair}
use Rattle.host.specs.Arrival.{foreseen}
use Rattle.std.specs.Result.{OnErr}
use Rattle.sides.specs.Sides.{same_side, other_side}
use Rattle.sides.specs.declared.side.Side.{Side}
use Rattle.wire_sim.specs.declared.event.Event.{Event}
use Rattle.wire_sim.specs.declared.event.Event.TheVariants as event
use Rattle.wire_sim.specs.declared.event.Answer.{Answer}
use Rattle.wire_sim.specs.declared.event.Answer.TheVariants as answer
use Rattle.wire_sim.specs.declared.world.bag.Frame.{Frame}
use Rattle.wire_sim.specs.declared.event.Unfair.{Unfair}
use Rattle.wire_sim.specs.declared.event.Unfair.TheVariants.{NoSuchFrame, OtherEpoch, Stale, SecondOpening, NoMemory}
use Rattle.wire_sim.specs.declared.event.Opening.{Opening}
use Rattle.wire_sim.specs.declared.world.bag.Note.{Note}
use Rattle.wire_sim.specs.Fairness.{Amount, is_late, late_note, second_in, second_by_frame, unfair_frame}
use Rattle.wire_sim.specs.Openings.{epoch_of}
use Rattle.wire_sim.specs.Tallies.{is_opening_of}
use Rattle.wire_sim.specs.Runs.{unfair, written_len, IsStep, IsOutcome}
use Rattle.wire_sim.specs.Rounds.{isn_of_round, most_frames, Sends, Emits, IsBrought, Brings, BeginsToCarry, emitting, bringing}
use Rattle.wire_sim.specs.Steps.{MeetsEmission}
use Rattle.wire_sim.specs.WorldRoom.{ListRoom, HasRoom, IsPlain, KeepsRoom}
use Rattle.wire_sim.specs.WorldView.{WorldView, NetworkView, SameAnswer, host_of, plain}
use Rattle.wire_sim.proofs.runs.RoomLasts.{full-at-first}

-- numbers, and the next one
pub range_more : (a n : ℕ) → range_with_len a (n + 1) ≡ range_with_len a n ++ (a + n) ∷ []
range_more a zero = let same : a ≡ a + 0 = omega arith in ap (λ x. x ∷ []) same
range_more a (suc n) =
    let next : suc n + 1 ≡ suc (n + 1) = omega arith in
    let moved : a + 1 + n ≡ a + suc n = omega arith in
    ap (range_with_len a) next ∙ ap (λ l. a ∷ l) (range_more (a + 1) n) ∙ ap (λ x. a ∷ (range_with_len (a + 1) n ++ x ∷ [])) moved

-- the first of them, and the rest behind
pub range_apart : (a n m : ℕ) → range_with_len a (n + suc m) ≡ range_with_len a n ++ (a + n) ∷ range_with_len (a + n + 1) m
range_apart a zero m =
    let same : a ≡ a + 0 = omega arith in
    let all : 0 + suc m ≡ suc m = omega arith in
    ap (range_with_len a) all ∙ ap (λ x. x ∷ range_with_len (x + 1) m) same
range_apart a (suc n) m =
    let next : suc n + suc m ≡ suc (n + suc m) = omega arith in
    let moved : a + 1 + n ≡ a + suc n = omega arith in
    ap (range_with_len a) next ∙ ap (λ l. a ∷ l) (range_apart (a + 1) n m) ∙ ap (λ x. a ∷ (range_with_len (a + 1) n ++ x ∷ range_with_len (x + 1) m)) moved

-- an answer that holds no octets is told as it is
told_as_it_is : (told given : Answer) → plain told ≡ Some given → told ≡ given
told_as_it_is (answer.Socket id) given e = cc
told_as_it_is answer.Done given e = cc
told_as_it_is (answer.Accepted id peer) given e = cc
told_as_it_is answer.Started given e = cc
told_as_it_is (answer.Sent count) given e = cc
told_as_it_is (answer.Octets octets) given e = cc
told_as_it_is (answer.Datagram octets from) given e = cc
told_as_it_is answer.EndOfStream given e = cc
told_as_it_is (answer.State state) given e = cc
told_as_it_is (answer.Ready ready) given e = cc
told_as_it_is (answer.Info info) given e = cc
told_as_it_is (answer.Endpoint end) given e = cc
told_as_it_is (answer.Frame index len) given e = cc
told_as_it_is answer.NoFrame given e = cc
told_as_it_is answer.Taken given e = cc
told_as_it_is (answer.Dropped cause) given e = cc
told_as_it_is (answer.Refused refusal) given e = cc

-- Emissions.

-- what is told of an emission: a frame that went out, or that there was none
abbrev pub TellsOfEmission : Side → WorldView → WorldView → Answer → Type 0
TellsOfEmission side w v told =
    ((index : ℕ) × (len : ℕ) × (told ≡ answer.Frame index len) × IsStep (event.Emit side) (answer.Frame index len) w v)
    ⊎ ((told ≡ answer.NoFrame) × IsStep (event.Emit side) answer.NoFrame w v)

pub emission_told : (side : Side) (told : Answer) (w v : WorldView) → (given : Answer) × SameAnswer told given × IsStep (event.Emit side) given w v → TellsOfEmission side w v told
emission_told side told w v x = by_answer x.0 x.1.others x.2 x.2.network
  where
    by_answer : (a : Answer) → plain told ≡ plain a → IsStep (event.Emit side) a w v → MeetsEmission side a w.network v.network → TellsOfEmission side w v told
    by_answer (answer.Socket id) same step m = absurd m
    by_answer answer.Done same step m = absurd m
    by_answer (answer.Accepted id peer) same step m = absurd m
    by_answer answer.Started same step m = absurd m
    by_answer (answer.Sent count) same step m = absurd m
    by_answer (answer.Octets octets) same step m = absurd m
    by_answer (answer.Datagram octets from) same step m = absurd m
    by_answer answer.EndOfStream same step m = absurd m
    by_answer (answer.State state) same step m = absurd m
    by_answer (answer.Ready ready) same step m = absurd m
    by_answer (answer.Info info) same step m = absurd m
    by_answer (answer.Endpoint end) same step m = absurd m
    by_answer (answer.Frame index len) same step m = inl (index, len, told_as_it_is told _ same, step)
    by_answer answer.NoFrame same step m = inr (told_as_it_is told _ same, step)
    by_answer answer.Taken same step m = absurd m
    by_answer (answer.Dropped cause) same step m = absurd m
    by_answer (answer.Refused refusal) same step m = absurd m

-- one frame more goes out
sent_more : (side : Side) (frames : List ℕ) (index len : ℕ) (w m v : WorldView) → Sends side frames w m → IsStep (event.Emit side) (answer.Frame index len) m v
    → Sends side (frames ++ index ∷ []) w v
sent_more side [] index len w m v so_far step = (len, v, subst (λ x. IsStep (event.Emit side) (answer.Frame index len) x v) so_far step, refl)
sent_more side (f ∷ fs) index len w m v so_far step = (so_far.0, so_far.1, so_far.2, sent_more side fs index len so_far.1 m v so_far.3 step)

-- so many frames went out of a side, at the end of those that were there
pub record HasSent (side : Side) (count : ℕ) (old new : WorldView) : Type 0 where
  pub frames : Sends side (range_with_len (length old.network.frames) count) old new
  pub grown : length new.network.frames ≡ length old.network.frames + count

pub sent_none : (side : Side) (w : WorldView) → HasSent side 0 w w
sent_none side w = record { frames = refl; grown = omega arith }

pub sent_one_more : (side : Side) (count index len : ℕ) (w m v : WorldView) → HasSent side count w m → IsStep (event.Emit side) (answer.Frame index len) m v
    → HasSent side (count + 1) w v
sent_one_more side count index len w m v so_far step =
    let out = step.network in
    let first = length w.network.frames in
    let there : index ≡ first + count = out.place ∙ so_far.grown in
    let more : length v.network.frames ≡ length m.network.frames + 1 = ap (λ (n : NetworkView). length n.frames) out.after ∙ length-append m.network.frames (out.frame ∷ []) in
    record {
      frames = subst (λ l. Sends side l w v) (sym (range_more first count))
          (subst (λ i. Sends side (range_with_len first count ++ i ∷ []) w v) there (sent_more side (range_with_len first count) index len w m v so_far.frames step));
      grown = omega (arith, more, so_far.grown);
    }

-- none does, and there are no more
pub sent_nothing : (side : Side) (count : ℕ) (w m v : WorldView) → HasSent side count w m → IsStep (event.Emit side) answer.NoFrame m v
    → length v.network.frames ≡ length w.network.frames + count
sent_nothing side count w m v so_far step = ap (λ (n : NetworkView). length n.frames) step.network.after ∙ so_far.grown

-- Deliveries.

-- one frame more comes
brought_last : (side : Side) (frames : List ℕ) (index : ℕ) (w m v : WorldView) → Brings side frames w m → IsBrought side index m v → Brings side (frames ++ index ∷ []) w v
brought_last side [] index w m v so_far one = (v, subst (λ x. IsBrought side index x v) so_far one, refl)
brought_last side (f ∷ fs) index w m v so_far one = (so_far.0, so_far.1, brought_last side fs index so_far.0 m v so_far.2 one)

pub brought_more : (side : Side) (first count index : ℕ) (w m v : WorldView) → index ≡ first + count → Brings side (range_with_len first count) w m → IsBrought side index m v
    → Brings side (range_with_len first (count + 1)) w v
brought_more side first count index w m v there so_far one =
    subst (λ l. Brings side l w v) (sym (range_more first count))
    (subst (λ i. Brings side (range_with_len first count ++ i ∷ []) w v) there (brought_last side (range_with_len first count) index w m v so_far one))

-- a frame that memory ran out for doesn't come; every other outcome of its delivery is one of a round
pub brought_by : (side : Side) (index : ℕ) (r : Result Answer Unfair) (old new : WorldView) → IsOutcome (event.Deliver side index isn_of_round) r old new
    → (r ≡ Err NoMemory → ⊥) → IsBrought side index old new
brought_by side index (Ok told) old new o known = inl (o.0, o.2)
brought_by side index (Err refusal) old new o known = elim o.1 [ inl broken ↦ inr (refusal, broken, o.0) | inr memory ↦ absurd (known (ap Err memory.1)) ]

-- a tick is answered in one way
pub ticked : (side : Side) (moment : Moment) (told : Answer) (w v : WorldView) → (given : Answer) × SameAnswer told given × IsStep (event.Tick side moment) given w v
    → IsStep (event.Tick side moment) answer.Done w v
ticked side moment told w v x = subst (λ a. IsStep (event.Tick side moment) a w v) x.2.network.0 x.2

-- no rule refuses a frame for want of memory
no_rule_of_memory : (n : NetworkView) (now : Amount) (side : Side) (o : Option Frame) → unfair_frame n now side o ≡ Some NoMemory → ⊥
no_rule_of_memory n now side None e = cc
no_rule_of_memory n now side (Some f) e = by_sender (same_side f.sender side) e
  where
    second : (openings : List Opening) (pair : Pair) (epoch : ℕ) → second_in openings side pair epoch ≡ Some NoMemory → ⊥
    second openings pair epoch x = by_opened (list_any (is_opening_of side pair epoch) openings) x
      where
        by_opened : (b : Bool) → (if b then Some SecondOpening else None) ≡ Some NoMemory → ⊥
        by_opened true y = cc
        by_opened false y = cc

    opening : (p : Option Pair) → second_by_frame n side p ≡ Some NoMemory → ⊥
    opening None x = cc
    opening (Some pair) x = second n.openings pair (epoch_of n.openings pair) x

    by_lateness : (late first : Bool) (rest : Option Unfair) → (rest ≡ Some NoMemory → ⊥) → option_or (if first then Some OtherEpoch else if late then Some Stale else None) rest ≡ Some NoMemory → ⊥
    by_lateness late true rest none x = cc
    by_lateness true false rest none x = cc
    by_lateness false false rest none x = none x

    by_note : (note : Option Note) → option_or (late_note n now note) (second_by_frame n side (foreseen (host_of n side) f.octets.items)) ≡ Some NoMemory → ⊥
    by_note None x = opening (foreseen (host_of n side) f.octets.items) x
    by_note (Some note) x =
        by_lateness (is_late n.limit now note) (not (epoch_of n.openings note.pair == note.epoch)) _ (opening (foreseen (host_of n side) f.octets.items)) x

    by_sender : (b : Bool) → (if b then Some NoSuchFrame else option_or (late_note n now f.note) (second_by_frame n side (foreseen (host_of n side) f.octets.items))) ≡ Some NoMemory → ⊥
    by_sender true x = cc
    by_sender false x = by_note f.note x

-- so a frame that memory ran out for is fair
pub fair_without_memory : (side : Side) (index : ℕ) (old new : WorldView) → IsOutcome (event.Deliver side index isn_of_round) (Err NoMemory) old new
    → unfair new (event.Deliver side index isn_of_round) ≡ None
fair_without_memory side index old new o = ap (λ w. unfair w (event.Deliver side index isn_of_round)) o.0 ∙ by_rule o.1
  where
    by_rule : (unfair old (event.Deliver side index isn_of_round) ≡ Some NoMemory) ⊎ ((unfair old (event.Deliver side index isn_of_round) ≡ None) × (NoMemory ≡ NoMemory))
        → unfair old (event.Deliver side index isn_of_round) ≡ None
    by_rule (inl broken) = absurd (no_rule_of_memory old.network (written_len old) side (slice_get old.network.frames index) broken)
    by_rule (inr fair) = fair.0

-- .. and where a fair one is taken while there is room, there was none
pub full_where_refused : (side : Side) (index : ℕ) (r : Result Answer Unfair) (old new : WorldView) (Room : Type 0) → r ≡ Err NoMemory → IsOutcome (event.Deliver side index isn_of_round) r old new
    → (unfair old (event.Deliver side index isn_of_round) ≡ None → Room → IsOk r) → Room → ⊥
full_where_refused side index r old new Room is o taken room =
    let e : Event = event.Deliver side index isn_of_round in
    let stopped : IsOutcome e (Err NoMemory) old new = subst (λ (x : Result Answer Unfair). IsOutcome e x old new) is o in
    let fair : unfair old e ≡ None = subst (λ (w : WorldView). unfair w e ≡ None) stopped.0 (fair_without_memory side index old new stopped) in
    let none : IsOk {T = Answer} {E = Unfair} (Err NoMemory) = subst (λ (x : Result Answer Unfair). IsOk x) is (taken fair room) in
    cc

-- The emission of a side, as it stands in its loop.

-- memory ran out for a frame
pub begun_emitting : (side : Side) (count : ℕ) (old w v : WorldView) → count < most_frames → HasSent side count old w → v ≡ w → BeginsToCarry side old (event.Emit side) v
begun_emitting side count old w v few so_far same =
    let first = length old.network.frames in
    emitting (range_with_len first count) v (subst (λ n. n < most_frames) (sym (length-range_with_len first count)) few)
    (subst (λ x. Sends side (range_with_len first count) old x) (sym same) so_far.frames)

-- what went out in all
abbrev pub HasEmitted : Side → WorldView → WorldView → Type 0
HasEmitted side old new = (count : ℕ) × (length new.network.frames ≡ length old.network.frames + count) × Emits most_frames side (range_with_len (length old.network.frames) count) old new

-- there was no frame more
pub emitted_until : (side : Side) (count : ℕ) (told : Answer) (old w v : WorldView) → count < most_frames → HasSent side count old w → told ≡ answer.NoFrame
    → (given : Answer) × SameAnswer told given × IsStep (event.Emit side) given w v → HasEmitted side old v
emitted_until side count told old w v few so_far is x = by_told (emission_told side told w v x)
  where
    by_told : TellsOfEmission side w v told → HasEmitted side old v
    by_told (inl frame) = let bad : answer.Frame frame.0 frame.1 ≡ answer.NoFrame = sym frame.2 ∙ is in cc
    by_told (inr last) = (
      count,
      sent_nothing side count old w v so_far last.1,
      record {
        sent = w;
        out = so_far.frames;
        ends = inl (subst (λ n. n < most_frames) (sym (length-range_with_len (length old.network.frames) count)) few, last.1);
      },
    )

-- one went out
pub emitted_more : (side : Side) (count : ℕ) (told : Answer) (old w v : WorldView) → HasSent side count old w → (told ≡ answer.NoFrame → ⊥)
    → (given : Answer) × SameAnswer told given × IsStep (event.Emit side) given w v → HasSent side (count + 1) old v
emitted_more side count told old w v so_far known x = by_told (emission_told side told w v x)
  where
    by_told : TellsOfEmission side w v told → HasSent side (count + 1) old v
    by_told (inl frame) = sent_one_more side count frame.0 frame.1 old w v so_far frame.3
    by_told (inr last) = absurd (known last.0)

-- all went out that may
pub emitted_all : (side : Side) (count : ℕ) (old v : WorldView) → count ≡ most_frames → HasSent side count old v → HasEmitted side old v
emitted_all side count old v all so_far = (
  count,
  so_far.grown,
  record { sent = v; out = so_far.frames; ends = inr (length-range_with_len (length old.network.frames) count ∙ all, refl) },
)

-- memory ran out for one of the frames that went out, in a list that has no room left but what came to it since
pub begun_bringing : {T E : Type 0} (r : Result T E) (side : Side) (first end n : ℕ) (old out new : WorldView) (before now : ListRoom) → Emits most_frames side (range_with_len first n) old out → end ≡ first + n
    → OnErr r ((count : ℕ) × (count < end - first) × Brings (other_side side) (range_with_len first count) out new × (unfair new (event.Deliver (other_side side) (first + count) isn_of_round) ≡ None))
    → OnErr r (¬ HasRoom (record { seen = new; room = now })) → KeepsRoom before now
    → OnErr r ((next : Event) × BeginsToCarry side old next new × (IsPlain next → ¬ HasRoom (record { seen = new; room = before })))
begun_bringing (Ok x) side first end n old out new before now emits is begun full kept = tt
begun_bringing (Err e) side first end n old out new before now emits is begun full kept =
    let count = begun.0 in
    let m = n - count - 1 in
    let all : n ≡ count + suc m = omega (arith, is, begun.1) in (
      event.Deliver (other_side side) (first + count) isn_of_round,
      bringing (range_with_len first count) (range_with_len (first + count + 1) m) (first + count) out new
          (subst (λ l. Emits most_frames side l old out) (ap (range_with_len first) all ∙ range_apart first count m) emits) begun.2 begun.3,
      λ plain. full-at-first before now new new kept refl full,
    )
