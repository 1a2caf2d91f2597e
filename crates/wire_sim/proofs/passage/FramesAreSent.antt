-- Each frame of a world is heard as what it was sent as, and each segment that is delivered is the one that went out.
use Rattle.std.proofs.Common.{◌≡◌, ◌≢◌, ℕ, ◌&&◌, ◌||◌, Bool, true, false, cond, Option, Some, None, option_map, Result, Ok, Err, refl, sym, ◌∙◌, ap, subst, if◌then◌else◌}
use Rattle.std.specs.List.{find, slice_get}
use Rattle.ether.specs.declared.mac.Mac.{Mac}
use Rattle.ipv4.specs.declared.addr.Addr.{Addr}
use Rattle.ipv4.specs.Addresses.{same_addr}
use Rattle.clock.specs.declared.moment.Moment.{Moment}
use Rattle.tcp_segment.specs.declared.seq.Seq.{Seq}
use Rattle.tcp_segment.specs.Segment.{Segment}
use Rattle.tcp_state.specs.declared.connection.Fate.{Fate}
use Rattle.tcp_state.specs.declared.connection.Fate.TheVariants.{Stays, Removed, Rejected}
use Rattle.frames.specs.declared.drop.DropCause.{DropCause}
use Rattle.frames.specs.declared.drop.DropCause.TheVariants.{OtherMac, OtherAddress}
use Rattle.frames.specs.declared.meaning.Meaning.{Meaning}
use Rattle.frames.specs.declared.meaning.Meaning.TheVariants.{Tcp}
use Rattle.frames.specs.Meaning.{broadcast, heard, may_send, same_mac}
use Rattle.frames.specs.Pairs.{pair_between, pair_in}
use Rattle.frames.proofs.Deciding.{addr-Decides, mac-Decides}
use Rattle.interface.specs.Ways.{is_routed}
use Rattle.sockets.specs.declared.entry.Entry.{Entry}
use Rattle.sockets.specs.Arrival.{Arrival, Becomes, arrival, arrival_at_connection, local_end, peer_end}
use Rattle.sockets.specs.Entries.{fate_of, is_between}
use Rattle.sockets.specs.SocketsView.{SocketsView, later_moment}
use Rattle.host.specs.Heard.{guarded_by, shuts_out}
use Rattle.host.specs.Arrival.{MeetsSegment, arrival_by_route}
use Rattle.host.specs.Carried.{Carried, carried}
use Rattle.host.specs.Emission.{emission_octets}
use Rattle.host.specs.HostView.{HostView}
use Rattle.host.proofs.Carriage.{carried-pair}
use Rattle.sides.specs.declared.side.Side.{Side}
use Rattle.sides.specs.Sides.{other_side}
use Rattle.wire_sim.specs.declared.event.Answer.{Answer}
use Rattle.wire_sim.specs.declared.event.Answer.TheVariants as reply
use Rattle.wire_sim.specs.declared.event.Event.TheVariants as event
use Rattle.wire_sim.specs.declared.world.bag.Frame.{Frame}
use Rattle.wire_sim.specs.declared.world.bag.Note.{Note}
use Rattle.wire_sim.specs.Passage.{EveryFrameIsHeardAsSent, EveryFrameIsMetAsSent, EverySegmentArrives, IsMet, MeetsMeaning, WentOut, addr_at, mac_at}
use Rattle.wire_sim.specs.Sent.{Sent, heard_as, segment_from, sent_at}
use Rattle.wire_sim.specs.Runs.{IsStep, IsReached}
use Rattle.wire_sim.specs.WorldView.{WorldView, host_of, clock_of}
use Rattle.wire_sim.proofs.fairness.FairIsUnrefused.{unrefused}
use Rattle.wire_sim.proofs.fairness.NotesAreTraced.{notes-traced}
use Rattle.wire_sim.proofs.passage.FramesMet.{is-met}
use Rattle.wire_sim.proofs.passage.FramesPass.{IsOfTwo, IsOut, frame-out, may-send, out-accepted, out-addr, out-ordered, out-routes}
use Rattle.wire_sim.proofs.passage.HopsAreSpelled.{host-spelled}
use Rattle.wire_sim.proofs.passage.HostsSend.{IsSent, host-sends}
use Rattle.wire_sim.proofs.passage.SegmentsCarried.{IsCarried, carried-sent}
use Rattle.wire_sim.proofs.passage.SendersTellOwn.{sent-own}

-- The other side emitted what is delivered.

pub from-other : (w v : WorldView) (side : Side) (index : ℕ) (isn : Seq) (f : Frame) (answer : Answer) → slice_get w.network.frames index ≡ Some f → IsStep (event.Deliver side index isn) answer w v → f.sender ≡ other_side side
from-other w v side index isn f answer there step =
    let fair = (unrefused w (event.Deliver side index isn)).0 step.fair in
    let same : fair.0 ≡ f = only fair.0 (slice_get w.network.frames index) fair.1 there in
    ap (λ (g : Frame). g.sender) (sym same) ∙ fair.2.sender
  where
    only : (g : Frame) (o : Option Frame) → o ≡ Some g → o ≡ Some f → g ≡ f
    only g o first second = cc

-- Every frame.

-- what goes out of the host that the run tells of
pub as-sent : (limit : ℕ) (w : WorldView) (run : IsReached limit w) (index : ℕ) (f : Frame) (o : IsOut limit w run index f)
    → IsSent (emission_octets (host_of o.before.network f.sender) (clock_of o.before.network f.sender)) (sent_at (host_of o.before.network f.sender) (clock_of o.before.network f.sender))
as-sent limit w run index f o =
    let t : IsOfTwo (host_of o.before.network f.sender) = out-accepted limit o.before o.reached f.sender in
    host-sends t.own t.other (host_of o.before.network f.sender) (clock_of o.before.network f.sender) o.len o.sound (out-ordered limit w run index f o) t.table o.due

abbrev out-as : (limit : ℕ) (w : WorldView) (run : IsReached limit w) (index : ℕ) (f : Frame) (o : IsOut limit w run index f)
    → IsSent (emission_octets (host_of o.before.network f.sender) (clock_of o.before.network f.sender)) (sent_at (host_of o.before.network f.sender) (clock_of o.before.network f.sender)) → WentOut limit w run index f
out-as limit w run index f o s =
    record { before = o.before; len = o.len; passed = o.passed; what = s.what; sent = s.is; heard = λ spelled mac ours. ap (heard mac ours) o.octets ∙ s.said spelled mac ours }

pub heard-as-sent : EveryFrameIsHeardAsSent
heard-as-sent limit w run index f there =
    let o : IsOut limit w run index f = frame-out limit w run index f there in
    let t : IsOfTwo (host_of o.before.network f.sender) = out-accepted limit o.before o.reached f.sender in
    let s = as-sent limit w run index f o in (
      out-as limit w run index f o s,
      λ routes. host-spelled t.own t.other (host_of o.before.network f.sender) (clock_of o.before.network f.sender) s.what o.sound t.table (out-routes limit w run index f o routes) s.is,
    )

pub met-as-sent : EveryFrameIsMetAsSent
met-as-sent limit w v run side index isn f answer there step =
    let o : IsOut limit w run index f = frame-out limit w run index f there in
    let s = as-sent limit w run index f o in
    let out : WentOut limit w run index f = out-as limit w run index f o s in
    let from : s.what.from ≡ addr_at w.network (other_side side) =
    (sent-own _ (host_of o.before.network f.sender) (clock_of o.before.network f.sender) s.what o.side o.sound s.is).from ∙ out-addr limit w run index f o ∙ ap (addr_at w.network) (from-other w v side index isn f answer there step) in
    (out, λ spelled. is-met limit w v run side index isn f answer s.what there step from (out.heard spelled))

-- Every segment.

-- a frame with a note carries one
noted-carried : (limit : ℕ) (w : WorldView) (run : IsReached limit w) (index : ℕ) (f : Frame) (note : Note) (o : IsOut limit w run index f) → slice_get w.network.frames index ≡ Some f → f.note ≡ Some note
    → (c : Carried) × (carried (host_of o.before.network f.sender) (clock_of o.before.network f.sender) ≡ Some c) × (note.pair ≡ pair_between (addr_at o.before.network f.sender) c.to c.segment)
noted-carried limit w run index f note o there noted = by_carried (carried h now) refl
  where
    h : HostView
    h = host_of o.before.network f.sender

    now : Moment
    now = clock_of o.before.network f.sender

    pairs : Some note.pair ≡ option_map (λ (c : Carried). pair_between h.interface.addr c.to c.segment) (carried h now)
    pairs =
        let traced = notes-traced limit w run index f there in
        ap (option_map (λ (n : Note). n.pair)) (sym noted) ∙ traced.pair ∙ ap pair_in o.octets ∙ carried-pair h now o.sound (out-ordered limit w run index f o)

    by_carried : (x : Option Carried) → carried h now ≡ x → (c : Carried) × (carried h now ≡ Some c) × (note.pair ≡ pair_between h.interface.addr c.to c.segment)
    by_carried None is = let bad : Some note.pair ≡ None = pairs ∙ ap (option_map (λ (c : Carried). pair_between h.interface.addr c.to c.segment)) is in cc
    by_carried (Some c) is =
        let both : Some note.pair ≡ Some (pair_between h.interface.addr c.to c.segment) = pairs ∙ ap (option_map (λ (c : Carried). pair_between h.interface.addr c.to c.segment)) is in
        let same : note.pair ≡ pair_between h.interface.addr c.to c.segment = cc in
        (c, is, same)

-- a segment that is for a host is heard there
is-heard : (from : Addr) (c : Carried) (mac : Mac) (ours : Addr) → may_send ours from ≡ true → c.mac ≡ mac → c.to ≡ ours → heard_as (segment_from from c) mac ours ≡ Ok (Tcp (record { source = from; segment = c.segment }))
is-heard from c mac ours may for at =
    let says : Meaning = Tcp (record { source = from; segment = c.segment }) in
    ap (λ (b : Bool). cond (b || (same_mac c.mac broadcast && false)) (cond (same_addr c.to ours && may_send ours from) (Ok says) (Err OtherAddress)) (Err OtherMac)) ((mac-Decides c.mac mac).1 for)
    ∙ ap (λ (b : Bool). cond (b && may_send ours from) (Ok says) (Err OtherAddress)) ((addr-Decides c.to ours).1 at)
    ∙ ap (λ (b : Bool). cond b (Ok says) (Err OtherAddress)) may

-- and taken by the connection of its two ends
connection-takes : (h new : HostView) (now : Moment) (isn : ℕ) (from : Addr) (s : Segment) (answer : Answer) (e : Entry) → MeetsMeaning (Ok (Tcp (record { source = from; segment = s }))) h now isn answer new
    → find (is_between (local_end h.sockets s) (peer_end from s)) h.sockets.entries ≡ Some e → fate_of s e.role ≢ Rejected
    → (answer ≡ reply.Taken) × (arrival_at_connection h.sockets (later_moment h.sockets now) from s e (fate_of s e.role) ≡ Becomes new.sockets)
connection-takes h new now isn from s answer e met found kept = by_fate (fate_of s e.role) refl
  where
    moment : Moment
    moment = later_moment h.sockets now

    at : arrival h.sockets moment isn from s ≡ arrival_at_connection h.sockets moment from s e (fate_of s e.role)
    at = rw found

    Met : Arrival → Answer → Type 0
    Met a reply.Taken = MeetsSegment (arrival_by_route (is_routed h.interface from) a) h moment from (Ok tt) new
    Met a (reply.Dropped cause) = MeetsSegment (arrival_by_route (is_routed h.interface from) a) h moment from (Err cause) new
    Met a _ = ⊥

    as_met : (x : Answer) → MeetsMeaning (Ok (Tcp (record { source = from; segment = s }))) h now isn x new → Met (arrival h.sockets moment isn from s) x
    as_met reply.Taken m = m
    as_met (reply.Dropped cause) m = m
    as_met _ m = absurd m

    by_answer : (next : SocketsView) (x : Answer) → Met (Becomes next) x → (x ≡ reply.Taken) × (Becomes next ≡ Becomes new.sockets)
    by_answer next reply.Taken m = (refl, ap (λ (k : HostView). Becomes k.sockets) (sym m.1))
    by_answer next (reply.Dropped cause) m = let bad = m.0 in cc
    by_answer next _ m = absurd m

    shown : Met (arrival_at_connection h.sockets moment from s e (fate_of s e.role)) answer
    shown = subst (λ (a : Arrival). Met a answer) at (as_met answer met)

    by_fate : (fate : Fate) → fate_of s e.role ≡ fate → (answer ≡ reply.Taken) × (arrival_at_connection h.sockets moment from s e (fate_of s e.role) ≡ Becomes new.sockets)
    by_fate Rejected is = absurd (kept is)
    by_fate Stays is =
        let a = ap (arrival_at_connection h.sockets moment from s e) is in
        let m = by_answer _ answer (subst (λ (x : Arrival). Met x answer) a shown) in
        (m.0, a ∙ m.1)
    by_fate Removed is =
        let a = ap (arrival_at_connection h.sockets moment from s e) is in
        let m = by_answer _ answer (subst (λ (x : Arrival). Met x answer) a shown) in
        (m.0, a ∙ m.1)

pub segments-arrive : EverySegmentArrives
segments-arrive limit w v run side index isn f note answer there noted step = record {
  out = out;
  c = c;
  carries = n.1;
  what = same_from;
  pair = n.2 ∙ ap (λ (a : Addr). pair_between a c.to c.segment) here;
  met = met;
  taken = λ for at lets e found kept.
      connection-takes (host_of w.network side) (host_of v.network side) (clock_of w.network side) isn.0 from c.segment answer e (heard_there for at lets) found kept;
}
  where
    o : IsOut limit w run index f
    o = frame-out limit w run index f there

    h : HostView
    h = host_of o.before.network f.sender

    now : Moment
    now = clock_of o.before.network f.sender

    from : Addr
    from = addr_at w.network (other_side side)

    n : (c : Carried) × (carried h now ≡ Some c) × (note.pair ≡ pair_between h.interface.addr c.to c.segment)
    n = noted-carried limit w run index f note o there noted

    c : Carried
    c = n.0

    s : IsCarried h.interface.addr (emission_octets h now) (sent_at h now) c
    s = carried-sent h now c o.sound (out-ordered limit w run index f o) n.1

    here : h.interface.addr ≡ from
    here = out-addr limit w run index f o ∙ ap (addr_at w.network) (from-other w v side index isn f answer there step)

    same_from : segment_from h.interface.addr c ≡ segment_from from c
    same_from = ap (λ (a : Addr). segment_from a c) here

    out : WentOut limit w run index f
    out = record { before = o.before; len = o.len; passed = o.passed; what = segment_from h.interface.addr c; sent = s.is; heard = λ spelled mac ours. ap (heard mac ours) o.octets ∙ s.said mac ours }

    met : IsMet w v side isn.0 out.what answer
    met = is-met limit w v run side index isn f answer out.what there step here (out.heard tt)

    heard_there : c.mac ≡ mac_at w.network side → c.to ≡ addr_at w.network side → shuts_out (host_of w.network side) from ≡ false → MeetsMeaning (Ok (Tcp (record { source = from; segment = c.segment }))) (host_of w.network side) (clock_of w.network side) isn.0 answer (host_of v.network side)
    heard_there for at lets =
        let g = host_of w.network side in
        let says : Meaning = Tcp (record { source = from; segment = c.segment }) in
        subst (λ (m : Result Meaning DropCause). MeetsMeaning m g (clock_of w.network side) isn.0 answer (host_of v.network side))
        (ap (λ (x : Sent). guarded_by g.sockets.manner.guards g.interface (heard_as x g.interface.mac g.interface.addr)) same_from
        ∙ ap (guarded_by g.sockets.manner.guards g.interface) (is-heard from c (mac_at w.network side) (addr_at w.network side) (may-send limit w v run (event.Deliver side index isn) answer step side) for at)
        ∙ ap (λ b. if b then Err OtherAddress else Ok says) lets)
        met.met
