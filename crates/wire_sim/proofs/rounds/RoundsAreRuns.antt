-- A round is a list of events given in turn.
use Rattle.std.proofs.Common.{◌≡◌, ℕ, inl, inr, List, [], ◌∷◌, ◌++◌, Some, Result, Ok, Err, refl, subst}
use Rattle.std.specs.Result.{OnErr}
use Rattle.sockets.specs.declared.entry.SocketId.{SocketId}
use Rattle.sides.specs.declared.side.Side.{Side}
use Rattle.sides.specs.Sides.{other_side}
use Rattle.wire_sim.specs.declared.event.Call.TheVariants as call
use Rattle.wire_sim.specs.declared.event.Event.{Event}
use Rattle.wire_sim.specs.declared.event.Event.TheVariants as event
use Rattle.wire_sim.specs.declared.event.Answer.{Answer}
use Rattle.wire_sim.specs.declared.event.Answer.TheVariants as answer
use Rattle.wire_sim.specs.declared.event.Unfair.{Unfair}
use Rattle.wire_sim.specs.Runs.{unfair, IsStep, RunsTo}
use Rattle.wire_sim.specs.Rounds.{isn_of_round, read_at_once, minute_of, most_frames, PassesMinute, Sends, Emits, IsBrought, Brings, Carries, Receives, none, one_more, Reads, IsRound, BeginsToCarry, emitting, bringing, IsBegun, at_minute_of_writer, at_minute_of_reader, at_bringing, at_answering, at_reading, EveryRoundIsARun}
use Rattle.wire_sim.specs.WorldView.{WorldView}
use Rattle.wire_sim.proofs.RunGiven.{same_event}

-- some list of events leads there
abbrev pub Leads : WorldView → WorldView → Type 0
Leads old new = (events : List Event) × (outcomes : List (Result Answer Unfair)) × RunsTo events outcomes old new

-- two lists, one behind the other
joined : (es fs : List Event) (os ps : List (Result Answer Unfair)) (w m v : WorldView) → RunsTo es os w m → RunsTo fs ps m v → RunsTo (es ++ fs) (os ++ ps) w v
joined [] fs [] ps w m v first second = subst (λ x. RunsTo fs ps x v) first second
joined [] fs (o ∷ os) ps w m v first second = absurd first
joined (e ∷ es) fs [] ps w m v first second = absurd first
joined (e ∷ es) fs (o ∷ os) ps w m v first second = (first.0, first.1, first.2, first.3, joined es fs os ps first.1 m v first.4 second)

leads_on : (w m v : WorldView) → Leads w m → Leads m v → Leads w v
leads_on w m v first second = (first.0 ++ second.0, first.1 ++ second.1, joined first.0 second.0 first.1 second.1 w m v first.2 second.2)

nowhere : (w v : WorldView) → v ≡ w → Leads w v
nowhere w v same = ([], [], same)

by_step : (e : Event) (a : Answer) (w v : WorldView) → IsStep e a w v → Leads w v
by_step e a w v step = (e ∷ [], Ok a ∷ [], (e, v, same_event e, (a, record { octets = refl; source = refl; others = refl }, step), refl))

by_refusal : (e : Event) (refusal : Unfair) (w v : WorldView) → unfair w e ≡ Some refusal → v ≡ w → Leads w v
by_refusal e refusal w v broken same = (e ∷ [], Err refusal ∷ [], (e, v, same_event e, (same, inl broken), refl))

-- Stage by stage.

by_frames : (side : Side) (frames : List ℕ) (w v : WorldView) → Sends side frames w v → Leads w v
by_frames side [] w v sends = nowhere w v sends
by_frames side (index ∷ rest) w v sends =
    leads_on w sends.1 v (by_step (event.Emit side) (answer.Frame index sends.0) w sends.1 sends.2) (by_frames side rest sends.1 v sends.3)

by_emission : (most : ℕ) (side : Side) (frames : List ℕ) (w v : WorldView) → Emits most side frames w v → Leads w v
by_emission most side frames w v emits =
    leads_on w emits.sent v (by_frames side frames w emits.sent emits.out)
    (elim emits.ends [ inl last ↦ by_step (event.Emit side) answer.NoFrame emits.sent v last.1 | inr all ↦ nowhere emits.sent v all.1 ])

by_frame : (side : Side) (index : ℕ) (w v : WorldView) → IsBrought side index w v → Leads w v
by_frame side index w v (inl told) = by_step (event.Deliver side index isn_of_round) told.0 w v told.1
by_frame side index w v (inr broken) = by_refusal (event.Deliver side index isn_of_round) broken.0 w v broken.1 broken.2

by_bringing : (side : Side) (frames : List ℕ) (w v : WorldView) → Brings side frames w v → Leads w v
by_bringing side [] w v brings = nowhere w v brings
by_bringing side (index ∷ rest) w v brings = leads_on w brings.0 v (by_frame side index w brings.0 brings.1) (by_bringing side rest brings.0 v brings.2)

by_carrying : (side : Side) (w v : WorldView) → Carries side w v → Leads w v
by_carrying side w v carries =
    leads_on w carries.out v (by_emission most_frames side carries.frames w carries.out carries.emission)
    (by_bringing (other_side side) carries.frames carries.out v carries.bringing)

by_receiving : (side : Side) (id : SocketId) (count : ℕ) (w v : WorldView) → Receives side id count w v → Leads w v
by_receiving side id count w v (none x) = nowhere x x refl
by_receiving side id count w v (one_more n octets old m new so_far step) = leads_on old m new (by_receiving side id n old m so_far) (by_step (event.Call side (call.Recv id read_at_once)) (answer.Octets octets) m new step)

by_reading : (side : Side) (id : SocketId) (count : ℕ) (w v : WorldView) → Reads side id count w v → Leads w v
by_reading side id count w v reads = leads_on w reads.read v (by_receiving side id count w reads.read reads.octets) (by_step (event.Call side (call.Recv id read_at_once)) reads.told reads.read v reads.ends)

by_beginning : (side : Side) (next : Event) (w v : WorldView) → BeginsToCarry side w next v → Leads w v
by_beginning side next w v (emitting frames new few sends) = by_frames side frames w new sends
by_beginning side next w v (bringing brought left index out new emits brings fair) =
    leads_on w out new (by_emission most_frames side _ w out emits) (by_bringing (other_side side) brought out new brings)

by_minute : (side : Side) (w v : WorldView) → PassesMinute side w v → Leads w v
by_minute side w v passes = by_step (minute_of side w) answer.Done w v passes

by_minutes : (side : Side) (w m v : WorldView) → PassesMinute side w m → PassesMinute (other_side side) m v → Leads w v
by_minutes side w m v first second = leads_on w m v (by_minute side w m first) (by_minute (other_side side) m v second)

by_begun : (writer : Side) (id : SocketId) (w : WorldView) (next : Event) (v : WorldView) → IsBegun writer id w next v → Leads w v
by_begun writer id w next v at_minute_of_writer = nowhere w w refl
by_begun writer id w next v (at_minute_of_reader later first) = by_minute writer w later first
by_begun writer id w next v (at_bringing later ticked new following first second part) =
    leads_on w ticked new (by_minutes writer w later ticked first second) (by_beginning writer following ticked new part)
by_begun writer id w next v (at_answering later ticked brought new following first second there part) =
    leads_on w ticked new (by_minutes writer w later ticked first second)
    (leads_on ticked brought new (by_carrying writer ticked brought there) (by_beginning (other_side writer) following brought new part))
by_begun writer id w next v (at_reading later ticked brought answered new count first second there back part) =
    leads_on w ticked new (by_minutes writer w later ticked first second)
    (leads_on ticked brought new (by_carrying writer ticked brought there)
    (leads_on brought answered new (by_carrying (other_side writer) brought answered back) (by_receiving (other_side writer) id count answered new part)))

by_round : (writer : Side) (id : SocketId) (count : ℕ) (w v : WorldView) → IsRound writer id count w v → Leads w v
by_round writer id count w v r =
    leads_on w r.ticked v (by_minutes writer w r.later r.ticked r.minute_of_writer r.minute_of_reader)
    (leads_on r.ticked r.brought v (by_carrying writer r.ticked r.brought r.bringing)
    (leads_on r.brought r.answered v (by_carrying (other_side writer) r.brought r.answered r.answering) (by_reading (other_side writer) id count r.answered v r.reading)))

pub rounds-lead : EveryRoundIsARun
rounds-lead writer id (Ok count) w v r = by_round writer id count w v r
rounds-lead writer id (Err refusal) w v r = by_begun writer id w r.1 v r.2

-- what holds anyhow holds where a call failed
pub on_err : {T E : Type 0} (r : Result T E) (P : Type 0) → P → OnErr r P
on_err (Ok x) P holds = tt
on_err (Err e) P holds = holds
