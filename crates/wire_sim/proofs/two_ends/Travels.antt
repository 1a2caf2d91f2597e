-- A segment that travels from one host to the other is met there as itself, and by the connection of its two ends as one event of its own.
use Rattle.std.proofs.Common.{◌≡◌, ◌≢◌, ℕ, ◌≤◌, ◌<◌, ◌^◌, ◌&&◌, not, Bool, true, false, if◌then◌else◌, cond, List, [], ◌∷◌, ◌++◌, length, count_by, slice_get, Option, Some, None, Result, Ok, Err, refl, sym, ◌∙◌, ap, subst, arith}
use Rattle.std.proofs.lemmas.Bool.{and_from}
use Rattle.std.specs.List.{find, AllByRecursion}
use Rattle.ipv4.specs.declared.addr.Addr.{Addr}
use Rattle.ipv4.specs.Addresses.{same_end}
use Rattle.clock.specs.declared.moment.Moment.{Moment}
use Rattle.tcp_segment.specs.declared.seq.Seq.{Seq}
use Rattle.tcp_segment.specs.Segment.{Segment}
use Rattle.tcp_state.specs.declared.connection.Fate.{Fate}
use Rattle.tcp_state.specs.declared.connection.Fate.TheVariants.{Stays, Removed, Rejected}
use Rattle.tcp_state.specs.Arrival.{fate}
use Rattle.tcp_state.specs.Edges as edge
use Rattle.tcp_state.specs.View.{View, is_closed}
use Rattle.frames.specs.declared.drop.DropCause.{DropCause}
use Rattle.interface.specs.Ways.{is_routed}
use Rattle.sockets.specs.declared.entry.SocketId.{SocketId}
use Rattle.sockets.specs.declared.entry.Entry.{Entry}
use Rattle.sockets.specs.Arrival.{Arrival, Becomes, local_end, peer_end, arrival_at_connection, arrival}
use Rattle.sockets.specs.Causes.{Hears, after_arrival, after_event}
use Rattle.sockets.specs.Closing.{entry_of}
use Rattle.sockets.specs.Entries.{is_between, is_kept}
use Rattle.sockets.specs.Ids.{has_id}
use Rattle.sockets.specs.SocketsView.{SocketsView, later_moment}
use Rattle.sockets.specs.Steps.{connected}
use Rattle.sockets.proofs.Ends.{same_end-same}
use Rattle.sockets.proofs.Followed.{by_test}
use Rattle.sockets.proofs.OfferCounts.{one-true, count-cons, count-found}
use Rattle.host.specs.Arrival.{IsDelivered, MeetsSegment, arrival_by_route, segment_arrival}
use Rattle.host.specs.Emission.{emission_octets}
use Rattle.host.specs.HostView.{HostView}
use Rattle.host.specs.Sound.{IsSoundHost}
use Rattle.host.proofs.Carriage.{carried-met}
use Rattle.sides.specs.declared.side.Side.{Side}
use Rattle.sides.specs.declared.side.Side.TheVariants.{A, B}
use Rattle.sides.specs.Sides.{other_side}
use Rattle.wire_sim.specs.declared.event.Answer.{Answer}
use Rattle.wire_sim.specs.declared.event.Answer.TheVariants as reply
use Rattle.wire_sim.specs.declared.event.Event.{Event}
use Rattle.wire_sim.specs.declared.event.Event.TheVariants as event
use Rattle.wire_sim.specs.declared.event.Unfair.{Unfair}
use Rattle.wire_sim.specs.declared.world.bag.Frame.{Frame}
use Rattle.wire_sim.specs.Duties.{Travels, Has}
use Rattle.wire_sim.specs.HostRuns.{IsKept}
use Rattle.wire_sim.specs.Passage.{addr_at}
use Rattle.wire_sim.specs.Runs.{IsReached, goes_on, IsOutcome, RunsTo}
use Rattle.wire_sim.specs.Steps.{EmitsFrame, MeetsFrame, DeliversFrame}
use Rattle.wire_sim.specs.WorldView.{NetworkView, WorldView, host_of, table_of, clock_of}
use Rattle.wire_sim.proofs.HostsRun.{frames-stay, sound-at, tables-kept}
use Rattle.wire_sim.proofs.fairness.NotesAreTraced.{got-last}
use Rattle.wire_sim.proofs.lists.FoundAfterChange.{All-find}
use Rattle.wire_sim.proofs.passage.FramesPass.{addrs-apart, hosts-stayed}
use Rattle.wire_sim.proofs.runs.RunsAreReached.{runs-reached}
use Rattle.wire_sim.proofs.two_ends.UnderIds.{segment_left}

-- Over any events.

-- a frame stays where it is
frames-run : (es : List Event) (os : List (Result Answer Unfair)) (old new : WorldView) → RunsTo es os old new → (index : ℕ) (f : Frame) → slice_get old.network.frames index ≡ Some f → slice_get new.network.frames index ≡ Some f
frames-run [] [] old new run index f there = subst (λ (w : WorldView). slice_get w.network.frames index ≡ Some f) (sym run) there
frames-run [] (o ∷ os) old new run index f there = absurd run
frames-run (e ∷ es) [] old new run index f there = absurd run
frames-run (e ∷ es) (o ∷ os) old new run index f there = frames-run es os run.1 new run.4 index f (by_outcome o run.3)
  where
    by_outcome : (r : Result Answer Unfair) → IsOutcome run.0 r old run.1 → slice_get run.1.network.frames index ≡ Some f
    by_outcome (Ok told) out = frames-stay run.0 (length old.trace) out.0 old.network run.1.network out.2.network index f there
    by_outcome (Err refusal) out = subst (λ (w : WorldView). slice_get w.network.frames index ≡ Some f) (sym out.0) there

-- and so does the address of a host
addr-run : (limit : ℕ) (es : List Event) (os : List (Result Answer Unfair)) (old new : WorldView) → IsReached limit old → RunsTo es os old new → (side : Side) → addr_at new.network side ≡ addr_at old.network side
addr-run limit [] [] old new reached run side = ap (λ (w : WorldView). addr_at w.network side) run
addr-run limit [] (o ∷ os) old new reached run side = absurd run
addr-run limit (e ∷ es) [] old new reached run side = absurd run
addr-run limit (e ∷ es) (o ∷ os) old new reached run side = let first = by_outcome o run.3 in addr-run limit es os run.1 new first.0 run.4 side ∙ first.1
  where
    by_outcome : (r : Result Answer Unfair) → IsOutcome run.0 r old run.1 → IsReached limit run.1 × (addr_at run.1.network side ≡ addr_at old.network side)
    by_outcome (Ok told) out = (goes_on old run.1 run.0 out.0 reached out.2, (hosts-stayed limit old run.1 run.0 out.0 reached out.2 side).1)
    by_outcome (Err refusal) out = (subst (IsReached limit) (sym out.0) reached, ap (λ (w : WorldView). addr_at w.network side) out.0)

apart : (limit : ℕ) (w : WorldView) → IsReached limit w → (side : Side) → addr_at w.network side ≢ addr_at w.network (other_side side)
apart limit w reached A same = addrs-apart limit w reached same
apart limit w reached B same = addrs-apart limit w reached (sym same)

-- The frame.

abbrev pub answer_of : Result (Unit {0}) DropCause → Answer
answer_of (Ok done) = reply.Taken
answer_of (Err cause) = reply.Dropped cause

pub delivered : (h : HostView) (now : Moment) (isn : ℕ) (octets : List ℕ) (answer : Answer) (new : HostView) → MeetsFrame h now isn octets answer new → (r : Result (Unit {0}) DropCause) × (answer ≡ answer_of r) × IsDelivered h now isn octets r new
delivered h now isn octets reply.Taken new met = (Ok tt, refl, met)
delivered h now isn octets (reply.Dropped cause) new met = (Err cause, refl, met)
delivered h now isn octets _ new met = absurd met

pub frame-comes : (n m : NetworkView) (side : Side) (isn place : ℕ) (answer : Answer) (f : Frame) (o : Option Frame) → o ≡ Some f → DeliversFrame side isn place answer n m o → MeetsFrame (host_of n side) (clock_of n side) isn f.octets.items answer (host_of m side)
frame-comes n m side isn place answer f None there d = cc
frame-comes n m side isn place answer f (Some g) there d =
    let same : g ≡ f = cc in
    subst (λ (x : Frame). MeetsFrame (host_of n side) (clock_of n side) isn x.octets.items answer (host_of m side)) same d.0

-- What is known of a segment that travelled.
pub record Arrives (side : Side) (s : Segment) (w0 w2 w3 : WorldView) (answer : Answer) (isn : Seq) : Type 0 where
  pub sound : IsSoundHost (host_of w0.network side)
  pub there : IsSoundHost (host_of w2.network (other_side side))
  pub kept : IsKept (clock_of w0.network side) (table_of w0.network side)
  pub kept_there : IsKept (clock_of w2.network (other_side side)) (table_of w2.network (other_side side))
  pub kept_then : IsKept (clock_of w3.network (other_side side)) (table_of w3.network (other_side side))
  pub another : addr_at w0.network side ≢ addr_at w2.network (other_side side)
  pub small : isn.0 < 2 ^ 32
  pub moment : Moment
  pub told : Result (Unit {0}) DropCause
  pub answered : answer ≡ answer_of told
  pub met : MeetsSegment (segment_arrival (host_of w2.network (other_side side)) moment isn.0 (addr_at w0.network side) s) (host_of w2.network (other_side side)) moment (addr_at w0.network side) told (host_of w3.network (other_side side))

pub travelled : (limit : ℕ) (side : Side) (s : Segment) (w0 w1 w2 w3 : WorldView) (answer : Answer) (isn : Seq) → Travels limit side s w0 w1 w2 w3 answer isn → Arrives side s w0 w2 w3 answer isn
travelled limit side s w0 w1 w2 w3 answer isn t = record {
  sound = sound;
  there = sound-at w2 w3 t.comes (other_side side);
  kept = kept;
  kept_there = tables-kept limit w2 found_reached (other_side side);
  kept_then = tables-kept limit w3 (goes_on w2 w3 (event.Deliver (other_side side) t.index isn) answer found_reached t.comes) (other_side side);
  another = another;
  small = t.comes.numbered;
  moment = later_moment (table_of w2.network (other_side side)) (clock_of w2.network (other_side side));
  told = came.0;
  answered = came.1;
  met = carried-met (host_of w0.network side) (host_of w2.network (other_side side)) (clock_of w0.network side) (clock_of w2.network (other_side side)) isn.0 _ came.0 (host_of w3.network (other_side side)) sound kept.ordered t.carries another refl refl t.lets came.2;
}
  where
    sound : IsSoundHost (host_of w0.network side)
    sound = sound-at w0 w1 t.goes side

    kept : IsKept (clock_of w0.network side) (table_of w0.network side)
    kept = tables-kept limit w0 t.reached side

    sent_reached : IsReached limit w1
    sent_reached = goes_on w0 w1 (event.Emit side) (reply.Frame t.index t.len) t.reached t.goes

    found_reached : IsReached limit w2
    found_reached = runs-reached limit t.events t.outcomes w1 w2 sent_reached t.between

    emits : EmitsFrame side t.index t.len w0.network w1.network
    emits = t.goes.network

    first : slice_get w1.network.frames t.index ≡ Some emits.frame
    first = ap (λ (k : NetworkView). slice_get k.frames t.index) emits.after ∙ (ap (λ (i : ℕ). slice_get (w0.network.frames ++ emits.frame ∷ []) i) emits.place ∙ got-last w0.network.frames emits.frame)

    found : slice_get w2.network.frames t.index ≡ Some emits.frame
    found = frames-run t.events t.outcomes w1 w2 t.between t.index emits.frame first

    came : (r : Result (Unit {0}) DropCause) × (answer ≡ answer_of r) × IsDelivered (host_of w2.network (other_side side)) (clock_of w2.network (other_side side)) isn.0 (emission_octets (host_of w0.network side) (clock_of w0.network side)) r (host_of w3.network (other_side side))
    came =
        subst (λ (octets : List ℕ). (r : Result (Unit {0}) DropCause) × (answer ≡ answer_of r) × IsDelivered (host_of w2.network (other_side side)) (clock_of w2.network (other_side side)) isn.0 octets r (host_of w3.network (other_side side))) emits.octets
        (delivered (host_of w2.network (other_side side)) (clock_of w2.network (other_side side)) isn.0 emits.frame.octets.items answer (host_of w3.network (other_side side))
        (frame-comes w2.network w3.network (other_side side) isn.0 (length w2.trace) answer emits.frame (slice_get w2.network.frames t.index) found t.comes.network))

    same : addr_at w2.network side ≡ addr_at w0.network side
    same = addr-run limit t.events t.outcomes w1 w2 sent_reached t.between side ∙ (hosts-stayed limit w0 w1 (event.Emit side) (reply.Frame t.index t.len) t.reached t.goes side).1

    another : addr_at w0.network side ≢ addr_at w2.network (other_side side)
    another is = apart limit w2 found_reached side (same ∙ is)

-- Connections.

-- what stands under an id keeps what each entry does
pub under : (P : Entry → Type 0) (h : SocketsView) (id : SocketId) (x : Entry) → AllByRecursion P h.entries → entry_of h id ≡ Some x → P x
under P h id x all found = All-find P (has_id id) h.entries x all found

-- one that passes a test by which one alone passes is what that finds, by whatever it was found
pub found_once : (test by : Entry → Bool) (xs : List Entry) (x : Entry) → find by xs ≡ Some x → test x ≡ true → count_by test xs ≤ 1 → find test xs ≡ Some x
found_once test by [] x found passes few = cc
found_once test by (y ∷ ys) x found passes few =
    by_test (by y)
    (λ yes.
    let same : y ≡ x = (let one : Some y ≡ Some x = ap (λ b. cond b (Some y) (find by ys)) (sym yes) ∙ found in cc) in
    ap (λ b. cond b (Some y) (find test ys)) (ap test same ∙ passes) ∙ ap (λ (e : Entry). Some e) same)
    (λ no.
    let later : find by ys ≡ Some x = ap (λ b. cond b (Some y) (find by ys)) (sym no) ∙ found in
    by_test (test y)
    (λ too. absurd (omega (arith, count-cons test y ys, one-true (test y) too, few, count-found by test ys x later passes)))
    (λ other. ap (λ b. cond b (Some y) (find test ys)) other ∙ found_once test by ys x later passes (omega (arith, count-cons test y ys, few))))

-- a connection between the two ends of the segment, in any state but CLOSED
pub record Awaits (side : Side) (s : Segment) (w0 w2 : WorldView) (id : SocketId) (l : Option SocketId) (v : View) : Type 0 where
  pub has : Has w2 (other_side side) id l v
  pub lives : is_closed v.state ≡ false
  pub local : v.local ≡ local_end (table_of w2.network (other_side side)) s
  pub peer : v.peer ≡ peer_end (addr_at w0.network side) s
  pub takes : is_kept (fate v s) ≡ true → fate v s ≡ Stays

-- It takes the segment, whatever that leaves of it.
pub record Heard (side : Side) (s : Segment) (w0 w2 w3 : WorldView) (answer : Answer) (isn : Seq) (id : SocketId) (l : Option SocketId) (v : View) : Type 0 where
  pub taken : answer ≡ reply.Taken
  pub moment : Moment
  pub table : table_of w3.network (other_side side) ≡ after_event (table_of w2.network (other_side side)) (Hears moment isn.0 (addr_at w0.network side) s)
  pub now : Moment
  pub left : entry_of (table_of w3.network (other_side side)) id ≡ (if is_kept (fate v s) then Some (connected id (edge.after_event v (edge.Hears s now)) l) else None)

pub heard : (side : Side) (s : Segment) (w0 w2 w3 : WorldView) (answer : Answer) (isn : Seq) (id : SocketId) (l : Option SocketId) (v : View) → Arrives side s w0 w2 w3 answer isn → Awaits side s w0 w2 id l v → Heard side s w0 w2 w3 answer isn id l v
heard side s w0 w2 w3 answer isn id l v a w = by_fate (fate v s) refl
  where
    h : HostView
    h = host_of w2.network (other_side side)

    source : Addr
    source = addr_at w0.network side

    between : is_between (local_end h.sockets s) (peer_end source s) (connected id v l) ≡ true
    between =
        ap (λ b. not b && (same_end v.local (local_end h.sockets s) && same_end v.peer (peer_end source s))) w.lives
        ∙ and_from (same_end v.local (local_end h.sockets s)) (same_end v.peer (peer_end source s))
        (ap (λ e. same_end v.local e) (sym w.local) ∙ same_end-same v.local) (ap (λ e. same_end v.peer e) (sym w.peer) ∙ same_end-same v.peer)

    found : find (is_between (local_end h.sockets s) (peer_end source s)) h.sockets.entries ≡ Some (connected id v l)
    found = found_once (is_between (local_end h.sockets s) (peer_end source s)) (has_id id) h.sockets.entries (connected id v l) w.has between (a.kept_there.ordered.ends (local_end h.sockets s) (peer_end source s))

    becomes : (next : SocketsView) → arrival h.sockets a.moment isn.0 source s ≡ Becomes next → Heard side s w0 w2 w3 answer isn id l v
    becomes next is =
        let met = subst (λ (x : Arrival). MeetsSegment (arrival_by_route (is_routed h.interface source) x) h a.moment source a.told (host_of w3.network (other_side side))) is a.met in
        let table : table_of w3.network (other_side side) ≡ after_event h.sockets (Hears a.moment isn.0 source s) =
        ap (λ (k : HostView). k.sockets) met.1 ∙ sym (ap (λ (x : Arrival). after_arrival h.sockets x) is) in
        record {
          taken = a.answered ∙ ap answer_of met.0;
          moment = a.moment;
          table = table;
          now = later_moment h.sockets a.moment;
          left = ap (λ (t : SocketsView). entry_of t id) table ∙ segment_left h.sockets a.moment isn.0 source s id v l a.kept_there.ordered w.has between;
        }

    at : (x : Fate) → fate v s ≡ x → arrival h.sockets a.moment isn.0 source s ≡ arrival_at_connection h.sockets a.moment source s (connected id v l) x
    at x is = rw found (rw is refl)

    by_fate : (x : Fate) → fate v s ≡ x → Heard side s w0 w2 w3 answer isn id l v
    by_fate Stays is = becomes _ (at Stays is)
    by_fate Removed is = becomes _ (at Removed is)
    by_fate Rejected is = let bad : Rejected ≡ Stays = sym is ∙ w.takes (ap is_kept is) in cc
