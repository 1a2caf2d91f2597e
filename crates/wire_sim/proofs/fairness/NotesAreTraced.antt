-- What a frame's note says is what the trace says of the moment at which the frame went out.
use Rattle.std.proofs.Common.{◌≡◌, ℕ, zero, suc, ◌+◌, ◌-◌, ◌<◌, ◌≤◌, ◌==◌, ◌||◌, not, nat_lt, nat_le, ◌⊎◌, inl, inr, ◌↔◌, Bool, true, false, cond, List, [], ◌∷◌, ◌++◌, length, take, Option, Some, None, option_map, arith, refl, sym, ◌∙◌, ap, subst, length-append}
use Rattle.std.specs.List.{list_any, slice_get}
use Rattle.std.specs.Option.{IfSome, option_or}
use Rattle.std.proofs.lemmas.Bool.{le-ltb, lt-ltb, eqb-true, eqb-false, eq-eqb, ne_eqb, leb-true, le-leb, cond-true, cond-false}
use Rattle.std.proofs.Math.Bool.{or-true}
use Rattle.std.proofs.lemmas.List.{append-nil, take-append-le}
use Rattle.std.proofs.lemmas.List.Elements.{filter-append}
use Rattle.std.proofs.lemmas.Option.{slice_get_within}
use Rattle.std.proofs.Math.Seq.{take-append_seam}
use Rattle.ipv4.specs.declared.addr.Pair.{Pair}
use Rattle.tcp_segment.specs.declared.seq.Seq.{Seq}
use Rattle.host.specs.HostView.{HostView}
use Rattle.host.specs.Arrival.{foreseen}
use Rattle.frames.specs.Pairs.{pair_in}
use Rattle.sides.specs.declared.side.Side.{Side}
use Rattle.sides.specs.declared.side.Side.TheVariants.{A, B}
use Rattle.wire_sim.specs.declared.event.Call.{Call}
use Rattle.wire_sim.specs.declared.event.Call.TheVariants as call
use Rattle.wire_sim.specs.declared.event.Event.{Event}
use Rattle.wire_sim.specs.declared.event.Event.TheVariants as event
use Rattle.wire_sim.specs.declared.event.Answer.{Answer}
use Rattle.wire_sim.specs.declared.event.Answer.TheVariants as reply
use Rattle.wire_sim.specs.declared.event.Happening.{Happening}
use Rattle.wire_sim.specs.declared.event.Opening.{Opening}
use Rattle.wire_sim.specs.declared.event.Unfair.{Unfair}
use Rattle.wire_sim.specs.declared.event.Unfair.TheVariants.{NoSuchFrame, OtherEpoch, Stale, SecondOpening}
use Rattle.wire_sim.specs.declared.world.bag.Frame.{Frame}
use Rattle.wire_sim.specs.declared.world.bag.Note.{Note}
use Rattle.wire_sim.specs.Fairness.{is_late, late_note, second_by_frame, unfair_frame}
use Rattle.wire_sim.specs.Holding.{IsBegun}
use Rattle.wire_sim.specs.Notes.{openings_before, epoch_before, written_before, written_since, carried_pair, IsEmission, IsNoteAt, IsTraced, EveryNoteIsTraced, HasRisen, HasGrown, EveryDelayIsTraced}
use Rattle.wire_sim.specs.Openings.{epoch_of, opened_by_connect, opened_by_frame}
use Rattle.wire_sim.specs.Runs.{written_len, unfair, IsStep, IsReached, begins, goes_on}
use Rattle.sides.specs.Sides.{same_side, other_side}
use Rattle.wire_sim.specs.Steps.{with_host, with_opening, note_of, after_call, after_delivery, station_after_tick, EmitsFrame, MeetsEmission, DeliversFrame, Steps}
use Rattle.wire_sim.specs.Tallies.{same_pair, is_opening_of}
use Rattle.wire_sim.specs.Trace.{written}
use Rattle.wire_sim.specs.WorldView.{WorldView, NetworkView, station_of, host_of, table_of, written_at}
use Rattle.wire_sim.proofs.openings.OpeningsAreBegun.{openings-begun}
use Rattle.wire_sim.proofs.openings.OpeningIsFound.{epoch-added}
use Rattle.wire_sim.proofs.tables.PairOfPorts.{same_pair-true}
use Rattle.wire_sim.proofs.told.TraceAndOneMore.{same_side-other, same_side-swap}
use Rattle.wire_sim.proofs.runs.RunsAreLawful.{run_tallied, frames-with}

-- Lists that grow by one.

-- what stands at a place of a list that grew stood there before, or is what was added
pub got-added : {X : Type 0} (xs : List X) (y : X) (i : ℕ) (x : X) → slice_get (xs ++ y ∷ []) i ≡ Some x → ((i < length xs) × (slice_get xs i ≡ Some x)) ⊎ ((i ≡ length xs) × (y ≡ x))
got-added [] y zero x at = inr (refl, cc)
got-added [] y (suc i) x at = cc
got-added (z ∷ zs) y zero x at = inl (omega arith, at)
got-added (z ∷ zs) y (suc i) x at = elim (got-added zs y i x at) [
  | inl old ↦ inl (omega (arith, old.0), old.1)
  | inr new ↦ inr (ap suc new.0, new.1)
]

-- and what stood there still does
pub got-still : {X : Type 0} (xs : List X) (y : X) (i : ℕ) (x : X) → slice_get xs i ≡ Some x → slice_get (xs ++ y ∷ []) i ≡ Some x
got-still [] y i x at = cc
got-still (z ∷ zs) y zero x at = at
got-still (z ∷ zs) y (suc i) x at = got-still zs y i x at

-- what was added stands at the end
pub got-last : {X : Type 0} (xs : List X) (y : X) → slice_get (xs ++ y ∷ []) (length xs) ≡ Some y
got-last [] y = refl
got-last (z ∷ zs) y = got-last zs y

-- The openings before a place.

-- one that was made there, or later, is not before it
before-later : (place : ℕ) (os : List Opening) (o : Opening) → place ≤ o.place → openings_before place (os ++ o ∷ []) ≡ openings_before place os
before-later place os o late =
    filter-append (λ (o : Opening). nat_lt o.place place) os (o ∷ [])
    ∙ (ap (λ l. openings_before place os ++ l) (cond-false (nat_lt o.place place) (o ∷ []) [] (le-ltb o.place place late)) ∙ append-nil (openings_before place os))

-- one that was made earlier is
before-earlier : (place : ℕ) (os : List Opening) (o : Opening) → o.place < place → openings_before place (os ++ o ∷ []) ≡ openings_before place os ++ o ∷ []
before-earlier place os o early =
    filter-append (λ (o : Opening). nat_lt o.place place) os (o ∷ []) ∙ ap (λ l. openings_before place os ++ l) (cond-true (nat_lt o.place place) (o ∷ []) [] (lt-ltb o.place place early))

-- What every world that was reached keeps of its frames.

-- a frame went out at one place in the trace, of which its note tells
pub record IsWritten (w : WorldView) (index : ℕ) (f : Frame) : Type 0 where
  pub place : ℕ
  pub emitted : IsEmission w place f.sender index
  pub only : (p : ℕ) (side : Side) → IsEmission w p side index → p ≡ place
  pub pair : option_map (λ (note : Note). note.pair) f.note ≡ carried_pair f
  pub note : IfSome f.note (IsNoteAt w place)

pub record IsKept (w : WorldView) : Type 0 where
  pub all : (place : ℕ) → length w.trace ≤ place → openings_before place w.network.openings ≡ w.network.openings
  pub rises : (place : ℕ) (pair : Pair) → epoch_before w place pair ≤ epoch_of w.network.openings pair
  pub within : (place : ℕ) (side : Side) (index : ℕ) → IsEmission w place side index → index < length w.network.frames
  pub frames : (index : ℕ) (f : Frame) → slice_get w.network.frames index ≡ Some f → IsWritten w index f

-- The frames after a step.

frames-opened : (n : NetworkView) (o : Option Opening) → (let m = with_opening n o in m.frames) ≡ n.frames
frames-opened n None = refl
frames-opened n (Some o) = refl

frames-host : (n : NetworkView) (side : Side) (h : HostView) → (let m = with_host n side h in m.frames) ≡ n.frames
frames-host n side h = frames-with n side (let s = station_of n side in record s { host = h })

frames-called : (side : Side) (c : Call) (answer : Answer) (place : ℕ) (n : NetworkView) (h : HostView) → (let m = after_call side c answer place n h in m.frames) ≡ n.frames
frames-called side (call.Connect isn id peer) reply.Started place n h = frames-opened (with_host n side h) (opened_by_connect n.openings side id place h.sockets (table_of n (other_side side))) ∙ frames-host n side h
frames-called side (call.Send id octets) (reply.Sent count) place n h = frames-host n side h
frames-called side _ _ place n h = frames-host n side h

frames-delivered : (side : Side) (place : ℕ) (o : Option Note) (n : NetworkView) (h : HostView) → (let m = after_delivery side place o n h in m.frames) ≡ n.frames
frames-delivered side place None n h = frames-host n side h
frames-delivered side place (Some note) n h = frames-opened (with_host n side h) (opened_by_frame n.openings side place note.pair (table_of n side) h.sockets) ∙ frames-host n side h

-- a frame that went out
pub record PutsFrame (happens : Event) (answer : Answer) (old new : NetworkView) : Type 0 where
  pub side : Side
  pub index : ℕ
  pub len : ℕ
  pub event : happens ≡ event.Emit side
  pub told : answer ≡ reply.Frame index len
  pub emits : EmitsFrame side index len old new

abbrev pub HasFrames : Event → Answer → NetworkView → NetworkView → Type 0
HasFrames happens answer old new = (new.frames ≡ old.frames) ⊎ PutsFrame happens answer old new

pub frames-step : (happens : Event) (place : ℕ) (answer : Answer) (old new : NetworkView) → Steps happens place answer old new → HasFrames happens answer old new
frames-step (event.Call side c) place answer old new step = inl (ap (λ (m : NetworkView). m.frames) step.1 ∙ frames-called side c answer place old (host_of new side))
frames-step (event.Tick side moment) place answer old new step = inl (ap (λ (m : NetworkView). m.frames) step.1 ∙ frames-with old side (station_after_tick (station_of old side) moment))
frames-step (event.Emit side) place answer old new step = by_answer answer step
  where
    by_answer : (answer : Answer) → MeetsEmission side answer old new → HasFrames (event.Emit side) answer old new
    by_answer (reply.Frame index len) step = inr (record { side = side; index = index; len = len; event = refl; told = refl; emits = step })
    by_answer reply.NoFrame step = inl (ap (λ (m : NetworkView). m.frames) step.after)
    by_answer _ step = absurd step
frames-step (event.Deliver side index isn) place answer old new step = by_frame (slice_get old.frames index) step
  where
    by_frame : (o : Option Frame) → DeliversFrame side isn.0 place answer old new o → HasFrames (event.Deliver side index isn) answer old new
    by_frame None step = absurd step
    by_frame (Some f) step = inl (ap (λ (m : NetworkView). m.frames) step.1 ∙ frames-delivered side place f.note old (host_of new side))

-- what is noted of a frame is of the pair that it carries
noted-pair : (n : NetworkView) (o : Option Pair) → option_map (λ (note : Note). note.pair) (option_map (note_of n) o) ≡ o
noted-pair n None = refl
noted-pair n (Some pair) = refl

-- One step.

abbrev happening : Event → Answer → Happening
happening happens answer = record { event = happens; answer = answer }

kept-step : (limit : ℕ) (old new : WorldView) (happens : Event) (answer : Answer) → IsReached limit old → IsStep happens answer old new → IsKept old → IsKept new
kept-step limit old new happens answer reached step k = record { all = all; rises = rises; within = within; frames = frames }
  where
    h : Happening
    h = happening happens answer

    longer : length new.trace ≡ length old.trace + 1
    longer = ap length step.trace ∙ length-append old.trace (h ∷ [])

    begun : (new.network.openings ≡ old.network.openings) ⊎ ((o : Opening) × (new.network.openings ≡ old.network.openings ++ o ∷ []) × IsBegun happens old new o)
    begun = openings-begun limit old new happens answer reached step

    -- what was before a place of the old trace is as it was
    before : (place : ℕ) → place ≤ length old.trace → openings_before place new.network.openings ≡ openings_before place old.network.openings
    before place early = elim begun [
      | inl same ↦ ap (openings_before place) same
      | inr one ↦ ap (openings_before place) one.1 ∙ before-later place old.network.openings one.0 (omega (arith, early, one.2.place))
    ]

    all : (place : ℕ) → length new.trace ≤ place → openings_before place new.network.openings ≡ new.network.openings
    all place late = elim begun [
      | inl same ↦ ap (openings_before place) same ∙ (k.all place (omega (arith, late, longer)) ∙ sym same)
      | inr one ↦
          ap (openings_before place) one.1
          ∙ (before-earlier place old.network.openings one.0 (omega (arith, late, longer, one.2.place)) ∙ (ap (λ l. l ++ one.0 ∷ []) (k.all place (omega (arith, late, longer))) ∙ sym one.1))
    ]

    -- no epoch falls
    grows : (pair : Pair) → epoch_of old.network.openings pair ≤ epoch_of new.network.openings pair
    grows pair = elim begun [
      | inl same ↦ let e = ap (λ os. epoch_of os pair) same in omega (arith, e)
      | inr one ↦ by_pair one.0 one.1 one.2 (same_pair (let o = one.0 in o.pair) pair) refl
    ]
      where
        by_pair : (o : Opening) → new.network.openings ≡ old.network.openings ++ o ∷ [] → IsBegun happens old new o → (b : Bool) → same_pair o.pair pair ≡ b → epoch_of old.network.openings pair ≤ epoch_of new.network.openings pair
        by_pair o grown begun true is =
            let e = ap (λ os. epoch_of os pair) grown ∙ (epoch-added old.network.openings o pair ∙ cond-true (same_pair o.pair pair) o.epoch (epoch_of old.network.openings pair) is) in
            let p = ap (epoch_of old.network.openings) (same_pair-true o.pair pair is) in
            omega (arith, e, p, begun.epoch)
        by_pair o grown begun false is =
            let e = ap (λ os. epoch_of os pair) grown ∙ (epoch-added old.network.openings o pair ∙ cond-false (same_pair o.pair pair) o.epoch (epoch_of old.network.openings pair) is) in
            omega (arith, e)

    rises : (place : ℕ) (pair : Pair) → epoch_before new place pair ≤ epoch_of new.network.openings pair
    rises place pair = elim (earlier place (length old.trace)) [
      | inl early ↦ let e = ap (λ os. epoch_of os pair) (before place early) in omega (arith, e, k.rises place pair, grows pair)
      | inr late ↦ let e = ap (λ os. epoch_of os pair) (all place (omega (arith, late, longer))) in omega (arith, e)
    ]
      where
        earlier : (a b : ℕ) → (a ≤ b) ⊎ (b < a)
        earlier zero b = inl (omega arith)
        earlier (suc a) zero = inr (omega arith)
        earlier (suc a) (suc b) = elim (earlier a b) [
          | inl e ↦ inl (omega (arith, e))
          | inr e ↦ inr (omega (arith, e))
        ]

    -- a frame that the trace tells of went out before, or does now
    told : (place : ℕ) (side : Side) (index : ℕ) → IsEmission new place side index
        → ((place < length old.trace) × IsEmission old place side index) ⊎ ((place ≡ length old.trace) × (index ≡ length old.network.frames) × (length new.network.frames ≡ length old.network.frames + 1))
    told place side index (len, at) = elim (got-added old.trace h place (happening (event.Emit side) (reply.Frame index len)) (ap (λ t. slice_get t place) (sym step.trace) ∙ at)) [
      | inl was ↦ inl (was.0, (len, was.1))
      | inr is ↦
          let happens_is : happens ≡ event.Emit side = ap (λ (x : Happening). x.event) is.1 in
          let answer_is : answer ≡ reply.Frame index len = ap (λ (x : Happening). x.answer) is.1 in
          let emits : EmitsFrame side index len old.network new.network =
          subst (λ a. Steps (event.Emit side) (length old.trace) a old.network new.network) answer_is
          (subst (λ e. Steps e (length old.trace) answer old.network new.network) happens_is step.network) in
          inr (is.0, emits.place, ap (λ (m : NetworkView). length m.frames) emits.after ∙ length-append old.network.frames (emits.frame ∷ []))
    ]

    puts_or : HasFrames happens answer old.network new.network
    puts_or = frames-step happens (length old.trace) answer old.network new.network step.network

    -- there is no frame fewer
    more : length old.network.frames ≤ length new.network.frames
    more = elim puts_or [
      | inl same ↦ let e = ap (λ (fs : List Frame). length fs) same in omega (arith, e)
      | inr puts ↦ let e = ap (λ (m : NetworkView). length m.frames) puts.emits.after ∙ length-append old.network.frames (puts.emits.frame ∷ []) in omega (arith, e)
    ]

    within : (place : ℕ) (side : Side) (index : ℕ) → IsEmission new place side index → index < length new.network.frames
    within place side index emission = elim (told place side index emission) [
      | inl was ↦ let less = k.within place side index was.1 in omega (arith, less, more)
      | inr is ↦ omega (arith, is.1, is.2)
    ]

    -- what was written before a place of the old trace is as it was
    wrote : (place : ℕ) → place ≤ length old.trace → (side : Side) (pair : Pair) (epoch : ℕ) → written_before new place side pair epoch ≡ written_before old place side pair epoch
    wrote place early side pair epoch =
        ap (λ t. length (written (take place t) (openings_before place new.network.openings) side pair epoch)) step.trace
        ∙ (ap (λ t. length (written t (openings_before place new.network.openings) side pair epoch)) (take-append-le place old.trace (h ∷ []) early)
        ∙ ap (λ os. length (written (take place old.trace) os side pair epoch)) (before place early))

    moved : (o : Option Note) (place : ℕ) → place ≤ length old.trace → IfSome o (IsNoteAt old place) → IfSome o (IsNoteAt new place)
    moved None place early n = n
    moved (Some note) place early n = record {
      epoch = n.epoch ∙ sym (ap (λ os. epoch_of os note.pair) (before place early));
      at_a = n.at_a ∙ sym (wrote place early A note.pair note.epoch);
      at_b = n.at_b ∙ sym (wrote place early B note.pair note.epoch);
    }

    -- a frame that was there
    still : (index : ℕ) (f : Frame) → slice_get old.network.frames index ≡ Some f → IsWritten new index f
    still index f at =
        let w = k.frames index f at in
        let early : w.place < length old.trace = slice_get_within old.trace w.place _ w.emitted.1 in
        let inside : index < length old.network.frames = slice_get_within old.network.frames index f at in
        record {
          place = w.place;
          emitted = (w.emitted.0, ap (λ t. slice_get t w.place) step.trace ∙ got-still old.trace h w.place _ w.emitted.1);
          only = λ p side e. elim (told p side index e) [
            | inl was ↦ w.only p side was.1
            | inr is ↦ absurd (let is_last = is.1 in omega (arith, is_last, inside))
          ];
          pair = w.pair;
          note = moved f.note w.place (omega (arith, early)) w.note;
        }

    -- what is noted of a pair
    now : openings_before (length old.trace) new.network.openings ≡ old.network.openings
    now = before (length old.trace) (omega arith) ∙ k.all (length old.trace) (omega arith)

    counted : (side : Side) (pair : Pair) (epoch : ℕ) → written_at old.network side pair epoch ≡ written_before new (length old.trace) side pair epoch
    counted side pair epoch =
        run_tallied limit old reached side pair epoch
        ∙ sym (ap (λ t. length (written (take (length old.trace) t) (openings_before (length old.trace) new.network.openings) side pair epoch)) step.trace
        ∙ (ap (λ t. length (written t (openings_before (length old.trace) new.network.openings) side pair epoch)) (take-append_seam old.trace (h ∷ []))
        ∙ ap (λ os. length (written old.trace os side pair epoch)) now))

    note-now : (o : Option Pair) → IfSome (option_map (note_of old.network) o) (IsNoteAt new (length old.trace))
    note-now None = tt
    note-now (Some pair) = record {
      epoch = sym (ap (λ os. epoch_of os pair) now);
      at_a = counted A pair (epoch_of old.network.openings pair);
      at_b = counted B pair (epoch_of old.network.openings pair);
    }

    -- the frame that goes out
    put : (p : PutsFrame happens answer old.network new.network) → IsWritten new (length old.network.frames) p.emits.frame
    put p =
        let f = p.emits.frame in
        let event_is : happens ≡ event.Emit f.sender = p.event ∙ ap event.Emit (sym p.emits.sender) in
        let told_is : answer ≡ reply.Frame (length old.network.frames) p.len = p.told ∙ ap (λ i. reply.Frame i p.len) p.emits.place in
        let h_is : h ≡ happening (event.Emit f.sender) (reply.Frame (length old.network.frames) p.len) = ap (λ e. happening e answer) event_is ∙ ap (happening (event.Emit f.sender)) told_is in
        record {
          place = length old.trace;
          emitted = (p.len, ap (λ t. slice_get t (length old.trace)) step.trace ∙ (got-last old.trace h ∙ ap Some h_is));
          only = λ place side e. elim (told place side (length old.network.frames) e) [
            | inl was ↦ absurd (let less = k.within place side (length old.network.frames) was.1 in omega (arith, less))
            | inr is ↦ is.0
          ];
          pair = ap (option_map (λ (note : Note). note.pair)) p.emits.note ∙ noted-pair old.network (pair_in f.octets.items);
          note = subst (λ o. IfSome o (IsNoteAt new (length old.trace))) (sym p.emits.note) (note-now (pair_in f.octets.items));
        }

    frames : (index : ℕ) (f : Frame) → slice_get new.network.frames index ≡ Some f → IsWritten new index f
    frames index f at = elim puts_or [
      | inl same ↦ still index f (ap (λ fs. slice_get fs index) (sym same) ∙ at)
      | inr p ↦
          elim (got-added old.network.frames p.emits.frame index f (ap (λ (m : NetworkView). slice_get m.frames index) (sym p.emits.after) ∙ at)) [
            | inl was ↦ still index f was.1
            | inr is ↦ subst (λ i. IsWritten new i f) (sym is.0) (subst (λ g. IsWritten new (length old.network.frames) g) is.1 (put p))
          ]
    ]

-- Every world that was reached.
pub kept : (limit : ℕ) (w : WorldView) → IsReached limit w → IsKept w
kept limit _ (begins a b a_is b_is apart small) = record {
  all = λ place late. refl;
  rises = λ place pair. omega arith;
  within = λ place side index e. absurd (none place side index e.0 e.1);
  frames = λ index f at. absurd (no_frame f at);
}
  where
    none : (place : ℕ) (side : Side) (index len : ℕ) → None ≡ Some (happening (event.Emit side) (reply.Frame index len)) → ⊥
    none place side index len e = cc

    no_frame : (f : Frame) → None ≡ Some f → ⊥
    no_frame f e = cc
kept limit _ (goes_on w v happens answer reached step) = kept-step limit w v happens answer reached step (kept limit w reached)

pub notes-traced : EveryNoteIsTraced
notes-traced limit w reached index f at =
    let x = (kept limit w reached).frames index f at in
    record { place = x.place; emitted = x.emitted; only = x.only; pair = x.pair; note = x.note }

-- What is refused for its age.

-- an opening a second time is the last of the rules
abbrev IsSecond : Option Unfair → Type 0
IsSecond s = (s ≡ None) ⊎ (s ≡ Some SecondOpening)

second-only : (n : NetworkView) (side : Side) (o : Option Pair) → IsSecond (second_by_frame n side o)
second-only n side None = inl refl
second-only n side (Some pair) = by_test (list_any (is_opening_of side pair (epoch_of n.openings pair)) n.openings)
  where
    by_test : (b : Bool) → IsSecond (cond b (Some SecondOpening) None)
    by_test true = inr refl
    by_test false = inl refl

-- the first of the rules that is broken
abbrev first_of : Bool → Bool → Option Unfair → Option Unfair
first_of same late second = option_or (cond (not same) (Some OtherEpoch) (cond late (Some Stale) None)) second

first-epoch : (same late : Bool) (second : Option Unfair) → IsSecond second → (first_of same late second ≡ Some OtherEpoch) ↔ (same ≡ false)
first-epoch false late second is = (λ e. refl, λ e. refl)
first-epoch true true second is = (λ e. cc, λ e. cc)
first-epoch true false second (inl is) = (λ e. cc, λ e. cc)
first-epoch true false second (inr is) = (λ e. cc, λ e. cc)

first-stale : (same late : Bool) (second : Option Unfair) → IsSecond second → (first_of same late second ≡ Some Stale) ↔ ((same ≡ true) × (late ≡ true))
first-stale false late second is = (λ e. cc, λ e. let f : false ≡ true = e.0 in cc)
first-stale true true second is = (λ e. (refl, refl), λ e. refl)
first-stale true false second (inl is) = (λ e. cc, λ e. let f : false ≡ true = e.1 in cc)
first-stale true false second (inr is) = (λ e. cc, λ e. let f : false ≡ true = e.1 in cc)

never : (u v : Option Unfair) → IsSecond v → v ≡ u → (u ≡ Some OtherEpoch) ⊎ (u ≡ Some Stale) → ⊥
never u v (inl none) same (inl is) = cc
never u v (inl none) same (inr is) = cc
never u v (inr second) same (inl is) = cc
never u v (inr second) same (inr is) = cc

-- an epoch that never falls is another one exactly where it rose
differ : (was is : ℕ) → was ≤ is → ((is == was) ≡ false) ↔ (was < is)
differ was is up = (λ e. let apart = eqb-false is was e in strict was is up apart, λ less. ne_eqb is was (λ same. absurd (omega (arith, same, less))))
  where
    strict : (m n : ℕ) → m ≤ n → (n ≡ m → ⊥) → m < n
    strict zero zero le apart = absurd (apart refl)
    strict zero (suc n) le apart = omega arith
    strict (suc m) zero le apart = omega (arith, le)
    strict (suc m) (suc n) le apart = let less = strict m n (omega (arith, le)) (λ e. apart (ap suc e)) in omega (arith, less)

either : (limit x y : ℕ) → ((nat_le limit x || nat_le limit y) ≡ true) ↔ ((limit ≤ x) ⊎ (limit ≤ y))
either limit x y = (by_tests (nat_le limit x) (nat_le limit y) refl refl, back)
  where
    by_tests : (a b : Bool) → nat_le limit x ≡ a → nat_le limit y ≡ b → (a || b) ≡ true → (limit ≤ x) ⊎ (limit ≤ y)
    by_tests true b e f is = inl (leb-true limit x e)
    by_tests false true e f is = inr (leb-true limit y f)
    by_tests false false e f is = cc

    back : (limit ≤ x) ⊎ (limit ≤ y) → (nat_le limit x || nat_le limit y) ≡ true
    back (inl le) = ap (λ b. b || nat_le limit y) (le-leb limit x le)
    back (inr le) = ap (λ b. nat_le limit x || b) (le-leb limit y le) ∙ or-true (nat_le limit x)

-- a frame that carries no segment is never late
abbrev IsDelayed : WorldView → Side → ℕ → Seq → Frame → ℕ → Type 0
IsDelayed w side index isn f place = ((unfair w (event.Deliver side index isn) ≡ Some OtherEpoch) ↔ ((pair : Pair) × (carried_pair f ≡ Some pair) × HasRisen w place pair))
    × ((unfair w (event.Deliver side index isn) ≡ Some Stale) ↔ ((pair : Pair) × (carried_pair f ≡ Some pair) × HasGrown w place pair))

delayed-none : (w : WorldView) (side : Side) (index : ℕ) (isn : Seq) (f : Frame) (place : ℕ) (second : Option Unfair) → IsSecond second → unfair w (event.Deliver side index isn) ≡ second → carried_pair f ≡ None → IsDelayed w side index isn f place
delayed-none w side index isn f place second seconds told none =
    let u = unfair w (event.Deliver side index isn) in
    ((λ e. absurd (never u second seconds (sym told) (inl e)), λ x. absurd (bad x.0 x.1)), (λ e. absurd (never u second seconds (sym told) (inr e)), λ x. absurd (bad x.0 x.1)))
  where
    bad : (pair : Pair) → carried_pair f ≡ Some pair → ⊥
    bad pair some = let e : None ≡ Some pair = sym none ∙ some in cc

-- one that carries a segment is late by what its note says, and so by the trace
delayed-some : (w : WorldView) (side : Side) (index : ℕ) (isn : Seq) (f : Frame) (place : ℕ) (second : Option Unfair) (note : Note) → IsSecond second
    → unfair w (event.Deliver side index isn) ≡ option_or (late_note w.network (written_len w) (Some note)) second → carried_pair f ≡ Some note.pair → epoch_before w place note.pair ≤ epoch_of w.network.openings note.pair → IsNoteAt w place note
    → IsDelayed w side index isn f place
delayed-some w side index isn f place second note seconds told carried up says = ((rose, rose_back), (grew, grew_back))
  where
    pair : Pair
    pair = note.pair

    since : Side → ℕ
    since s = written_since w place s pair (epoch_before w place pair)

    same : Bool
    same = epoch_of w.network.openings pair == epoch_before w place pair

    late : Bool
    late = nat_le w.network.limit (since A) || nat_le w.network.limit (since B)

    since_a : written_len w A pair note.epoch - note.at_a ≡ since A
    since_a = ap (λ k. written_len w A pair note.epoch - k) says.at_a ∙ ap (written_since w place A pair) says.epoch

    since_b : written_len w B pair note.epoch - note.at_b ≡ since B
    since_b = ap (λ k. written_len w B pair note.epoch - k) says.at_b ∙ ap (written_since w place B pair) says.epoch

    by_trace : unfair w (event.Deliver side index isn) ≡ first_of same late second
    by_trace =
        told
        ∙ (ap (λ e. first_of (epoch_of w.network.openings pair == e) (is_late w.network.limit (written_len w) note) second) says.epoch
        ∙ (ap (λ k. first_of same (nat_le w.network.limit k || nat_le w.network.limit (written_len w B pair note.epoch - note.at_b)) second) since_a
        ∙ ap (λ k. first_of same (nat_le w.network.limit (since A) || nat_le w.network.limit k) second) since_b))

    its : (p : Pair) → carried_pair f ≡ Some p → p ≡ pair
    its p c = let e : Some p ≡ Some pair = sym c ∙ carried in cc

    rose : unfair w (event.Deliver side index isn) ≡ Some OtherEpoch → (p : Pair) × (carried_pair f ≡ Some p) × HasRisen w place p
    rose e = (pair, carried, (differ (epoch_before w place pair) (epoch_of w.network.openings pair) up).0 ((first-epoch same late second seconds).0 (sym by_trace ∙ e)))

    rose_back : (p : Pair) × (carried_pair f ≡ Some p) × HasRisen w place p → unfair w (event.Deliver side index isn) ≡ Some OtherEpoch
    rose_back (p, c, less) = by_trace ∙ (first-epoch same late second seconds).1 ((differ (epoch_before w place pair) (epoch_of w.network.openings pair) up).1 (subst (HasRisen w place) (its p c) less))

    grew : unfair w (event.Deliver side index isn) ≡ Some Stale → (p : Pair) × (carried_pair f ≡ Some p) × HasGrown w place p
    grew e =
        let both = (first-stale same late second seconds).0 (sym by_trace ∙ e) in
        (pair, carried, (eqb-true (epoch_of w.network.openings pair) (epoch_before w place pair) both.0, (either w.network.limit (since A) (since B)).0 both.1))

    grew_back : (p : Pair) × (carried_pair f ≡ Some p) × HasGrown w place p → unfair w (event.Deliver side index isn) ≡ Some Stale
    grew_back (p, c, grown) =
        let here : HasGrown w place pair = subst (HasGrown w place) (its p c) grown in
        by_trace ∙ (first-stale same late second seconds).1 (eq-eqb (epoch_of w.network.openings pair) (epoch_before w place pair) here.0, (either w.network.limit (since A) (since B)).1 here.1)

pub delays-traced : EveryDelayIsTraced
delays-traced limit w reached side index isn f place at emission = by_note f.note refl
  where
    n : NetworkView
    n = w.network

    t : IsTraced w index f
    t = notes-traced limit w reached index f at

    here : place ≡ t.place
    here = t.only place (other_side side) emission

    sender : f.sender ≡ other_side side
    sender =
        let events : Some (event.Emit f.sender) ≡ Some (event.Emit (other_side side)) =
        ap (option_map (λ (h : Happening). h.event)) (sym t.emitted.1 ∙ (ap (slice_get w.trace) (sym here) ∙ emission.1)) in
        cc

    not_own : same_side f.sender side ≡ false
    not_own = ap (λ s. same_side s side) sender ∙ (same_side-swap (other_side side) side ∙ same_side-other side)

    second : Option Unfair
    second = second_by_frame n side (foreseen (host_of n side) f.octets.items)

    seconds : IsSecond second
    seconds = second-only n side (foreseen (host_of n side) f.octets.items)

    told : unfair w (event.Deliver side index isn) ≡ option_or (late_note n (written_len w) f.note) second
    told = ap (unfair_frame n (written_len w) side) at ∙ cond-false (same_side f.sender side) (Some NoSuchFrame) (option_or (late_note n (written_len w) f.note) second) not_own

    by_note : (o : Option Note) → f.note ≡ o → IsDelayed w side index isn f place
    by_note None is =
        delayed-none w side index isn f place second seconds (told ∙ ap (λ o. option_or (late_note n (written_len w) o) second) is) (sym t.pair ∙ ap (option_map (λ (note : Note). note.pair)) is)
    by_note (Some note) is =
        let says : IsNoteAt w t.place note = subst (λ o. IfSome o (IsNoteAt w t.place)) is t.note in
        delayed-some w side index isn f place second note seconds (told ∙ ap (λ o. option_or (late_note n (written_len w) o) second) is) (sym t.pair ∙ ap (option_map (λ (note : Note). note.pair)) is)
        ((kept limit w reached).rises place note.pair) (subst (λ p. IsNoteAt w p note) (sym here) says)
