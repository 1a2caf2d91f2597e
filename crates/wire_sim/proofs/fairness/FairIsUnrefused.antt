-- An event that no rule refuses is fair, and a fair one is refused by none.
use Rattle.std.proofs.Common.{◌≡◌, ℕ, ◌-◌, ◌==◌, ◌||◌, not, nat_le, ◌↔◌, Bool, true, false, cond, List, [], ◌∷◌, Option, Some, None, refl, sym, ◌∙◌, ap, subst}
use Rattle.std.specs.List.{find, list_any, slice_get}
use Rattle.std.specs.Option.{IfSome, option_or}
use Rattle.std.proofs.lemmas.Bool.{eqb-true, eq-eqb, leb-false, lt-leb, or_parts}
use Rattle.ipv4.specs.declared.addr.Pair.{Pair}
use Rattle.host.specs.Arrival.{foreseen}
use Rattle.sides.specs.declared.side.Side.{Side}
use Rattle.sides.specs.declared.side.Side.TheVariants.{A, B}
use Rattle.wire_sim.specs.declared.event.Call.{Call}
use Rattle.wire_sim.specs.declared.event.Call.TheVariants as call
use Rattle.wire_sim.specs.declared.event.Event.TheVariants as event
use Rattle.wire_sim.specs.declared.event.Opening.{Opening}
use Rattle.wire_sim.specs.declared.event.Unfair.{Unfair}
use Rattle.wire_sim.specs.declared.event.Unfair.TheVariants.{NoSuchFrame, OtherEpoch, Stale, SecondOpening}
use Rattle.wire_sim.specs.declared.world.bag.Frame.{Frame}
use Rattle.wire_sim.specs.declared.world.bag.Note.{Note}
use Rattle.wire_sim.specs.Fairness.{Amount, is_late, late_note, second_in, second_by_frame, second_by_connect, pair_to_connect, unfair_frame, unfair_call, IsRecent, IsUnopened, IsFairFrame, IsFairCall}
use Rattle.wire_sim.specs.Openings.{epoch_of, epoch_connected}
use Rattle.wire_sim.specs.Runs.{written_len, FairIsUnrefused}
use Rattle.sides.specs.Sides.{same_side, other_side}
use Rattle.wire_sim.specs.Tallies.{is_opening_of}
use Rattle.wire_sim.specs.WorldView.{NetworkView, host_of, table_of}

-- A pair that is opened a second time.

-- no element passes exactly where none is found
none_passes : {X : Type 0} (t : X → Bool) (xs : List X) → (list_any t xs ≡ false) ↔ (find t xs ≡ None)
none_passes {X} t xs = (go xs, back xs)
  where
    go : (xs : List X) → list_any t xs ≡ false → find t xs ≡ None
    go [] e = refl
    go (x ∷ xs) e = step (t x) (list_any t xs) (find t xs) (go xs) e
      where
        step : (b any : Bool) (found : Option X) → (any ≡ false → found ≡ None) → (b || any) ≡ false → cond b (Some x) found ≡ None
        step true any found rest e = cc
        step false any found rest e = rest e

    back : (xs : List X) → find t xs ≡ None → list_any t xs ≡ false
    back [] e = refl
    back (x ∷ xs) e = step (t x) (list_any t xs) (find t xs) (back xs) e
      where
        step : (b any : Bool) (found : Option X) → (found ≡ None → any ≡ false) → cond b (Some x) found ≡ None → (b || any) ≡ false
        step true any found rest e = cc
        step false any found rest e = rest e

unopened : (openings : List Opening) (side : Side) (pair : Pair) (epoch : ℕ) → (second_in openings side pair epoch ≡ None) ↔ IsUnopened openings side pair epoch
unopened openings side pair epoch =
    let both = none_passes (is_opening_of side pair epoch) openings in
    (λ e. both.0 (unset (list_any (is_opening_of side pair epoch) openings) e), λ e. ap (λ b. cond b (Some SecondOpening) None) (both.1 e))
  where
    unset : (b : Bool) → cond b (Some SecondOpening) None ≡ None → b ≡ false
    unset true e = cc
    unset false e = refl

-- A frame.

sides : (s side : Side) → (same_side s side ≡ false) ↔ (s ≡ other_side side)
sides A A = (λ e. cc, λ e. cc)
sides A B = (λ e. refl, λ e. refl)
sides B A = (λ e. refl, λ e. refl)
sides B B = (λ e. cc, λ e. cc)

recent : (limit : ℕ) (now : Amount) (note : Note) → (is_late limit now note ≡ false) ↔ IsRecent limit now note
recent limit now note = (there, back)
  where
    x : ℕ
    x = now A note.pair note.epoch - note.at_a

    y : ℕ
    y = now B note.pair note.epoch - note.at_b

    there : is_late limit now note ≡ false → IsRecent limit now note
    there e = let both = or_parts (nat_le limit x) (nat_le limit y) e in record { at_a = leb-false limit x both.0; at_b = leb-false limit y both.1 }

    back : IsRecent limit now note → is_late limit now note ≡ false
    back r = ap (λ b. b || nat_le limit y) (lt-leb limit x r.at_a) ∙ lt-leb limit y r.at_b

pub timely : (n : NetworkView) (now : Amount) (o : Option Note) → (late_note n now o ≡ None) ↔ (IfSome o (λ (note : Note). epoch_of n.openings note.pair ≡ note.epoch) × IfSome o (IsRecent n.limit now))
timely n now None = (λ e. (tt, tt), λ e. refl)
timely n now (Some note) = (there (epoch_of n.openings note.pair == note.epoch) (is_late n.limit now note) refl refl, back)
  where
    there : (same late : Bool) → (epoch_of n.openings note.pair == note.epoch) ≡ same → is_late n.limit now note ≡ late → cond (not same) (Some OtherEpoch) (cond late (Some Stale) None) ≡ None
        → (epoch_of n.openings note.pair ≡ note.epoch) × IsRecent n.limit now note
    there false late is was e = cc
    there true true is was e = cc
    there true false is was e = (eqb-true (epoch_of n.openings note.pair) note.epoch is, (recent n.limit now note).0 was)

    back : (epoch_of n.openings note.pair ≡ note.epoch) × IsRecent n.limit now note → late_note n now (Some note) ≡ None
    back both =
        ap (λ b. cond (not b) (Some OtherEpoch) (cond (is_late n.limit now note) (Some Stale) None)) (eq-eqb (epoch_of n.openings note.pair) note.epoch both.0)
        ∙ ap (λ b. cond b (Some Stale) None) ((recent n.limit now note).1 both.1)

once : (n : NetworkView) (side : Side) (o : Option Pair) → (second_by_frame n side o ≡ None) ↔ IfSome o (λ (pair : Pair). IsUnopened n.openings side pair (epoch_of n.openings pair))
once n side None = (λ e. tt, λ e. refl)
once n side (Some pair) = unopened n.openings side pair (epoch_of n.openings pair)

-- none of the rules in turn
no_rule : (own : Bool) (late second : Option Unfair) → (cond own (Some NoSuchFrame) (option_or late second) ≡ None) ↔ ((own ≡ false) × (late ≡ None) × (second ≡ None))
no_rule true late second = (λ e. cc, λ x. let bad : true ≡ false = x.0 in cc)
no_rule false None second = (λ e. (refl, refl, e), λ x. x.2)
no_rule false (Some u) second = (λ e. cc, λ x. let bad : Some u ≡ None = x.1 in cc)

fair-frame : (n : NetworkView) (now : Amount) (side : Side) (f : Frame) → (unfair_frame n now side (Some f) ≡ None) ↔ IsFairFrame n now side f
fair-frame n now side f = (there, back)
  where
    seen : Option Pair
    seen = foreseen (host_of n side) f.octets.items

    rules : (unfair_frame n now side (Some f) ≡ None) ↔ ((same_side f.sender side ≡ false) × (late_note n now f.note ≡ None) × (second_by_frame n side seen ≡ None))
    rules = no_rule (same_side f.sender side) (late_note n now f.note) (second_by_frame n side seen)

    there : unfair_frame n now side (Some f) ≡ None → IsFairFrame n now side f
    there e =
        let x = rules.0 e in
        let t = (timely n now f.note).0 x.1 in
        record { sender = (sides f.sender side).0 x.0; epoch = t.0; recent = t.1; once = (once n side seen).0 x.2 }

    back : IsFairFrame n now side f → unfair_frame n now side (Some f) ≡ None
    back k = rules.1 ((sides f.sender side).1 k.sender, (timely n now f.note).1 (k.epoch, k.recent), (once n side seen).1 k.once)

fair-delivery : (n : NetworkView) (now : Amount) (side : Side) (o : Option Frame) → (unfair_frame n now side o ≡ None) ↔ ((f : Frame) × (o ≡ Some f) × IsFairFrame n now side f)
fair-delivery n now side None = (λ e. cc, λ x. let bad : None ≡ Some x.0 = x.1 in cc)
fair-delivery n now side (Some f) =
    (λ e. (f, refl, (fair-frame n now side f).0 e), λ x. let same : f ≡ x.0 = (let e : Some f ≡ Some x.0 = x.1 in cc) in (fair-frame n now side f).1 (subst (IsFairFrame n now side) (sym same) x.2))

-- A call.

fair-connect : (n : NetworkView) (side : Side) (o : Option Pair) → (second_by_connect n side o ≡ None) ↔ IfSome o (λ (pair : Pair). IsUnopened n.openings side pair (epoch_connected n.openings (table_of n (other_side side)) pair))
fair-connect n side None = (λ e. tt, λ e. refl)
fair-connect n side (Some pair) = unopened n.openings side pair (epoch_connected n.openings (table_of n (other_side side)) pair)

fair-call : (n : NetworkView) (side : Side) (c : Call) → (unfair_call n side c ≡ None) ↔ IsFairCall n side c
fair-call n side (call.Connect isn id peer) = fair-connect n side (pair_to_connect (host_of n side) id peer)
fair-call n side _ = (λ e. tt, λ e. refl)

-- Every event.

pub unrefused : FairIsUnrefused
unrefused w (event.Deliver side index isn) = fair-delivery w.network (written_len w) side (slice_get w.network.frames index)
unrefused w (event.Call side c) = fair-call w.network side c
unrefused w (event.Tick side moment) = (λ e. tt, λ e. refl)
unrefused w (event.Emit side) = (λ e. tt, λ e. refl)
