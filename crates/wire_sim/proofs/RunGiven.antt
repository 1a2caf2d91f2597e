-- A run grows by one event and its outcome.
use Rattle.std.proofs.Common.{◌≡◌, ℕ, zero, suc, ◌+◌, ◌<◌, ◌≤◌, ◌⊎◌, inl, inr, List, [], ◌∷◌, ◌++◌, length, take, drop, get_or, Option, Some, None, Result, Ok, Err, arith, refl, sym, ◌∙◌, ap, subst}
use Rattle.std.specs.Result.{IfErr, OnErr, IfOk}
use Rattle.std.specs.Option.{MatchOption}
use Rattle.wire_sim.specs.declared.event.Call.{Call}
use Rattle.wire_sim.specs.declared.event.Call.TheVariants as call
use Rattle.wire_sim.specs.declared.event.Event.{Event}
use Rattle.wire_sim.specs.declared.event.Event.TheVariants as event
use Rattle.wire_sim.specs.declared.event.Answer.{Answer}
use Rattle.wire_sim.specs.declared.event.Unfair.{Unfair}
use Rattle.wire_sim.specs.declared.event.Unfair.TheVariants.{NoMemory}
use Rattle.wire_sim.specs.RoomyRuns.{IsRoomyOutcome, RoomyRunsTo}
use Rattle.wire_sim.specs.Runs.{unfair, IsStep, SameCall, SameEvent, IsOutcome, RunsTo}
use Rattle.wire_sim.specs.WorldRoom.{RoomyWorld}
use Rattle.wire_sim.specs.WorldView.{WorldView, SameAnswer}

-- one more at the end
pub runs-added : (es : List Event) (os : List (Result Answer Unfair)) (w m v : WorldView) (e given : Event) (o : Result Answer Unfair) → RunsTo es os w m → SameEvent given e → IsOutcome given o m v → RunsTo (es ++ e ∷ []) (os ++ o ∷ []) w v
runs-added [] [] w m v e given o run same outcome = (given, v, same, subst (λ x. IsOutcome given o x v) run outcome, refl)
runs-added [] (p ∷ os) w m v e given o run same outcome = absurd run
runs-added (d ∷ es) [] w m v e given o run same outcome = absurd run
runs-added (d ∷ es) (p ∷ os) w m v e given o run same outcome = (run.0, run.1, run.2, run.3, runs-added es os run.1 m v e given o run.4 same outcome)

-- and where the room is told too
roomy-added : (es : List Event) (os : List (Result Answer Unfair)) (w m v : RoomyWorld) (e : Event) (o : Result Answer Unfair) → RoomyRunsTo es os w m → IsRoomyOutcome e o m v → RoomyRunsTo (es ++ e ∷ []) (os ++ o ∷ []) w v
roomy-added [] [] w m v e o run outcome = (v, subst (λ x. IsRoomyOutcome e o x v) run outcome, refl)
roomy-added [] (p ∷ os) w m v e o run outcome = absurd run
roomy-added (d ∷ es) [] w m v e o run outcome = absurd run
roomy-added (d ∷ es) (p ∷ os) w m v e o run outcome = (run.0, run.1, roomy-added es os run.0 m v e o run.2 outcome)

-- the lists as they stand in the loop
pub runs-next : (es : List Event) (i : ℕ) (e : Event) (n : ℕ) (os : List (Result Answer Unfair)) (o : Result Answer Unfair) (w m v : RoomyWorld) → i < length es → e ≡ get_or es i e → n ≤ length os → RoomyRunsTo (take i es) (drop n os) w m → IsRoomyOutcome e o m v
    → RoomyRunsTo (take (i + 1) es) (drop n (os ++ o ∷ [])) w v
runs-next es i e n os o w m v within at fits run outcome =
    subst (λ l. RoomyRunsTo l (drop n (os ++ o ∷ [])) w v) (sym (taken es i within at)) (subst (λ l. RoomyRunsTo (take i es ++ e ∷ []) l w v) (sym (dropped n os fits)) (roomy-added (take i es) (drop n os) w m v e o run outcome))
  where
    taken : (xs : List Event) (k : ℕ) → k < length xs → e ≡ get_or xs k e → take (k + 1) xs ≡ take k xs ++ e ∷ []
    taken [] k short here = absurd (omega (arith, short))
    taken (x ∷ xs) zero short here = ap (λ y. y ∷ []) (sym here)
    taken (x ∷ xs) (suc k) short here =
        let next : suc k + 1 ≡ suc (k + 1) = omega arith in
        ap (λ j. take j (x ∷ xs)) next ∙ ap (λ l. x ∷ l) (taken xs k (omega (arith, short)) here)

    dropped : (k : ℕ) (xs : List (Result Answer Unfair)) → k ≤ length xs → drop k (xs ++ o ∷ []) ≡ drop k xs ++ o ∷ []
    dropped zero xs le = refl
    dropped (suc k) [] le = absurd (omega (arith, le))
    dropped (suc k) (x ∷ xs) le = dropped k xs (omega (arith, le))

-- what a step tells of its event is its outcome
pub step-outcome : (e : Event) (r : Result Answer Unfair) (old new : WorldView) → MatchOption (unfair old e) (IfErr r (λ refusal. refusal ≡ NoMemory)) (λ refusal. r ≡ Err refusal) → OnErr r (new ≡ old)
    → IfOk r (λ told. (answer : Answer) × SameAnswer told answer × IsStep e answer old new) → IsOutcome e r old new
step-outcome e (Ok told) old new refused kept taken = taken
step-outcome e (Err refusal) old new refused kept taken = (kept, by_rule (unfair old e) refl refused)
  where
    by_rule : (u : Option Unfair) → unfair old e ≡ u → MatchOption u (refusal ≡ NoMemory) (λ broken. ◌≡◌ {A = Result Answer Unfair} (Err refusal) (Err broken)) → (unfair old e ≡ Some refusal) ⊎ ((unfair old e ≡ None) × (refusal ≡ NoMemory))
    by_rule None is m = inr (is, m)
    by_rule (Some broken) is m = let same : refusal ≡ broken = cc in inl (is ∙ ap Some (sym same))

-- nothing was given yet
pub runs-none : (os : List (Result Answer Unfair)) (w : RoomyWorld) → RoomyRunsTo [] (drop (length os) os) w w
runs-none os w = subst (λ l. RoomyRunsTo [] l w w) (sym (dropped os)) refl
  where
    dropped : (xs : List (Result Answer Unfair)) → drop (length xs) xs ≡ []
    dropped [] = refl
    dropped (x ∷ xs) = dropped xs

-- every event was given
pub runs-all : (es : List Event) (i : ℕ) (os : List (Result Answer Unfair)) (w v : RoomyWorld) → i ≡ length es → RoomyRunsTo (take i es) os w v → RoomyRunsTo es os w v
runs-all es i os w v is run = subst (λ l. RoomyRunsTo l os w v) (ap (λ k. take k es) is ∙ whole es) run
  where
    whole : (xs : List Event) → take (length xs) xs ≡ xs
    whole [] = refl
    whole (x ∷ xs) = ap (λ l. x ∷ l) (whole xs)

-- an event is the same as itself
pub same_event : (e : Event) → SameEvent e e
same_event (event.Call s c) = (refl, same_call c)
  where
    same_call : (c : Call) → SameCall c c
    same_call (call.Socket k) = refl
    same_call (call.Bind i l) = refl
    same_call (call.Listen i n) = refl
    same_call (call.Accept i) = refl
    same_call (call.Connect n i p) = refl
    same_call (call.Send i o) = (refl, refl)
    same_call (call.Recv i n) = refl
    same_call (call.SendTo i p o) = (refl, refl, refl)
    same_call (call.RecvFrom i n) = refl
    same_call (call.Shutdown i) = refl
    same_call (call.SetNoDelay i on) = refl
    same_call (call.SetKeepAlive i every) = refl
    same_call (call.Close i) = refl
    same_call (call.Abort i) = refl
    same_call (call.GiveWay i) = refl
    same_call (call.State i) = refl
    same_call (call.Ready i) = refl
    same_call (call.Info i) = refl
    same_call (call.SockName i) = refl
    same_call (call.PeerName i) = refl
same_event (event.Tick s m) = refl
same_event (event.Emit s) = refl
same_event (event.Deliver s k n) = refl
