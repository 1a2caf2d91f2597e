-- What the hosts of a world have left to send, but for what their connections have, at each event.
use Rattle.std.proofs.Common.{◌≡◌, inl, inr, ℕ, ◌+◌, ◌≤◌, ◌&&◌, not, nat_lt, Bool, true, false, if◌then◌else◌, List, [], ◌∷◌, ◌++◌, length, Option, Some, None, Ok, Err, refl, sym, ◌∙◌, ap, arith}
use Rattle.std.specs.List.{find, slice_get}
use Rattle.ether.specs.declared.mac.Mac.{Mac}
use Rattle.ipv4.specs.declared.addr.Addr.{Addr}
use Rattle.ipv4.specs.Addresses.{same_addr}
use Rattle.clock.specs.declared.moment.Moment.{Moment}
use Rattle.arp.specs.Cache.{is_request, look}
use Rattle.icmp.specs.declared.error.Reason.{Reason}
use Rattle.icmp.specs.declared.error.Reason.TheVariants.{NetUnreachable, HostUnreachable, ProtocolUnreachable, PortUnreachable, FragmentationNeeded, SourceRouteFailed, TransitTimeExceeded, ReassemblyTimeExceeded}
use Rattle.icmp.specs.Sent.{error_for}
use Rattle.routes.specs.declared.route.Route.{Route}
use Rattle.tcp_state.specs.declared.emission.Due.{Due}
use Rattle.tcp_state.specs.Due.{first_due}
use Rattle.tcp_state.specs.View.{View}
use Rattle.frames.specs.declared.drop.DropCause.TheVariants.{OtherMac, OtherAddress}
use Rattle.frames.specs.declared.meaning.Meaning.{Meaning}
use Rattle.frames.specs.Meaning.{heard, may_send}
use Rattle.interface.specs.declared.reply.Reply.{Reply}
use Rattle.interface.specs.declared.reply.Reply.TheVariants as answer
use Rattle.interface.specs.declared.reply.Waiting.{Waiting}
use Rattle.interface.specs.declared.way.Way.TheVariants.{To}
use Rattle.interface.specs.Emission.{frame_by, frame_of_one, reply_frame}
use Rattle.interface.specs.InterfaceView.{InterfaceView}
use Rattle.interface.specs.Replies.{goes_out, way_of}
use Rattle.interface.specs.Routing.{next_hop}
use Rattle.interface.specs.Sound.{IsSoundReply}
use Rattle.interface.specs.Ways.{hop_mac, mac_of, way, way_by_mac, way_over}
use Rattle.sockets.specs.declared.entry.Entry.{Entry}
use Rattle.sockets.specs.declared.entry.SocketId.{SocketId}
use Rattle.sockets.specs.declared.role.Role.TheVariants.{Connected}
use Rattle.sockets.specs.Emission.{in_turn}
use Rattle.sockets.specs.Entries.{sends as entry_sends}
use Rattle.sockets.specs.SocketsView.{later_moment}
use Rattle.sockets.proofs.Ends.{same_addr-same, same_addr-true}
use Rattle.host.specs.Emission.{Replies, Sends, emission, goes_out_from, left_by, octets_of}
use Rattle.host.specs.HostView.{HostView}
use Rattle.host.specs.Messages.{is_echo_request}
use Rattle.host.specs.Sound.{IsSoundHost}
use Rattle.sides.specs.declared.side.Side.{Side}
use Rattle.sides.specs.Sides.{other_side}
use Rattle.wire_sim.specs.declared.event.Answer.{Answer}
use Rattle.wire_sim.specs.declared.event.Answer.TheVariants as reply
use Rattle.wire_sim.specs.declared.event.Event.{Event}
use Rattle.wire_sim.specs.declared.event.Event.TheVariants as event
use Rattle.wire_sim.specs.declared.world.bag.Frame.{Frame}
use Rattle.wire_sim.specs.Passage.{addr_at, routes_at}
use Rattle.wire_sim.specs.Runs.{IsReached, IsStep}
use Rattle.wire_sim.specs.Sent.{Sent, heard_as, is_sent_for, is_sent_to, reply_sent}
use Rattle.wire_sim.specs.Steps.{EmitsFrame}
use Rattle.wire_sim.specs.WorldView.{NetworkView, WorldView, clock_of, host_of, table_of}
use Rattle.wire_sim.proofs.HostsRun.{sound-at}
use Rattle.wire_sim.proofs.fairness.NotesAreTraced.{got-last}
use Rattle.wire_sim.proofs.hops.OpenConnectionsLead.{way-known}
use Rattle.wire_sim.proofs.lists.FoundAfterChange.{All-at}
use Rattle.wire_sim.proofs.openings.HoldingsAreNoted.{other-stays, side_of}
use Rattle.wire_sim.proofs.passage.FramesPass.{hosts-stayed}
use Rattle.wire_sim.proofs.passage.HostsSend.{reply-mac, reply-said}
use Rattle.wire_sim.proofs.passage.NeighboursAreOthers.{hops-others}
use Rattle.wire_sim.proofs.runs.ClocksAreKept.{clocks-kept}
use Rattle.wire_sim.proofs.runs.ClocksGoOn.{clock-moves}
use Rattle.settling_law.proofs.Drawn.{is_answer}
use Rattle.settling_law.proofs.GoingOut.{put}
use Rattle.settling_law.proofs.Left.{Reaches, answers, goes, speaks_for, spends, weighs, weight_of}

-- an address may be reached where its next hop is the neighbour
abbrev is_hop : Addr → Option Addr → Bool
is_hop neighbour None = false
is_hop neighbour (Some hop) = same_addr hop neighbour

abbrev pub leads : Addr → List Route → Addr → Bool
leads neighbour routes to = is_hop neighbour (next_hop routes to)

-- what a side's host has left
abbrev pub load : WorldView → Side → ℕ
load w side = weighs (leads (addr_at w.network (other_side side)) (routes_at w.network side)) (host_of w.network side) (clock_of w.network side)

load_of : (a b : Addr) (r s : List Route) (h g : HostView) (m n : Moment) → a ≡ b → r ≡ s → h ≡ g → m ≡ n → weighs (leads a r) h m ≡ weighs (leads b s) g n
load_of a b r s h g m n addr routes host moment =
    ap (λ x. weighs (leads x r) h m) addr ∙ (ap (λ x. weighs (leads b x) h m) routes ∙ (ap (λ x. weighs (leads b s) x m) host ∙ ap (λ x. weighs (leads b s) g x) moment))

-- who hears the frame answers nothing
pub record IsMute (w : WorldView) (index : ℕ) : Type 0 where
  pub f : Frame
  pub there : slice_get w.network.frames index ≡ Some f
  pub mute : (mac : Mac) (ours : Addr) (m : Meaning) → heard mac ours f.octets.items ≡ Ok m → is_answer m ≡ true

-- A known MAC is that of the other host.

reached_by : (i : InterfaceView) (moment : Moment) (neighbour : Addr) → ((to : Addr) (mac : Mac) → hop_mac i moment to ≡ Some mac → next_hop i.routes to ≡ Some neighbour) → Reaches (leads neighbour i.routes) i moment
reached_by i moment neighbour law to mac goes =
    let known : hop_mac i moment to ≡ Some mac = way-known i moment to mac goes in
    let hop : next_hop i.routes to ≡ Some neighbour = law to mac known in
    let looked : look moment neighbour i.cache ≡ Some mac = sym (ap (mac_of moment i.cache) hop) ∙ known in
    (ap (is_hop neighbour) hop ∙ same_addr-same neighbour neighbour refl, λ x is. others looked x (next_hop i.routes x) refl is)
  where
    others : look moment neighbour i.cache ≡ Some mac → (x : Addr) (o : Option Addr) → next_hop i.routes x ≡ o → is_hop neighbour o ≡ true → goes_out (way i moment x) ≡ true
    others looked x None at is = cc
    others looked x (Some hop) at is =
        let same : hop ≡ neighbour = same_addr-true hop neighbour is in
        let leads_so : way_over moment i.cache (next_hop i.routes x) ≡ To mac = ap (way_over moment i.cache) (at ∙ ap Some same) ∙ ap (way_by_mac moment i.cache.asked neighbour) looked in
        ap goes_out leads_so

reaches : (limit : ℕ) (w : WorldView) → IsReached limit w → (side : Side) (moment : Moment) → Reaches (leads (addr_at w.network (other_side side)) (routes_at w.network side)) (let h = host_of w.network side in h.interface) moment
reaches limit w reached side moment =
    reached_by (let h = host_of w.network side in h.interface) moment (addr_at w.network (other_side side)) (λ to mac known. (hops-others limit w side moment to mac reached known).0)

-- the later of the moment that a clock shows and the one that its host keeps is the one that it shows
pub moment_now : (limit : ℕ) (w : WorldView) → IsReached limit w → (side : Side) → later_moment (table_of w.network side) (clock_of w.network side) ≡ clock_of w.network side
moment_now limit w reached side = by_test (nat_lt (let h = table_of w.network side in h.kept).0 (clock_of w.network side).0)
  where
    by_test : (b : Bool) → (if b then clock_of w.network side else (let h = table_of w.network side in h.kept)) ≡ clock_of w.network side
    by_test true = refl
    by_test false = sym (clocks-kept limit w reached side)

module _ (limit : ℕ) (w u : WorldView) (happens : Event) (answer : Answer) (reached : IsReached limit w) (step : IsStep happens answer w u) where
  stays : (side : Side) → (addr_at u.network side ≡ addr_at w.network side) × (routes_at u.network side ≡ routes_at w.network side)
  stays side = let s = hosts-stayed limit w u happens answer reached step side in (s.1, s.2)

  clock : ((side : Side) (moment : Moment) → happens ≡ event.Tick side moment → ⊥) → (side : Side) → clock_of u.network side ≡ clock_of w.network side
  clock unticked side = elim (clock-moves happens (length w.trace) answer w.network u.network step.network side) [
    | inl same ↦ same
    | inr tick ↦ absurd (unticked side tick.0 tick.1)
  ]

  -- a host's load, once it is this one
  pub loads : ((side : Side) (moment : Moment) → happens ≡ event.Tick side moment → ⊥) → (side : Side) (h : HostView) → host_of u.network side ≡ h → load u side ≡ weighs (leads (addr_at w.network (other_side side)) (routes_at w.network side)) h (clock_of w.network side)
  loads unticked side h same =
      load_of (addr_at u.network (other_side side)) (addr_at w.network (other_side side)) (routes_at u.network side) (routes_at w.network side) (host_of u.network side) h (clock_of u.network side) (clock_of w.network side)
      (stays (other_side side)).0 (stays side).1 same (clock unticked side)

  -- of the other host's, which nothing happens to
  pub other_load : ((side : Side) (moment : Moment) → happens ≡ event.Tick side moment → ⊥) → (t : Side) → t ≡ other_side (side_of happens) → load u t ≡ load w t
  other_load unticked t opposite = loads unticked t (host_of w.network t) (other-stays happens (length w.trace) answer w.network u.network t opposite step.network)

-- an entry sends what can go out
abbrev pub goes_from : HostView → Moment → Entry → Bool
goes_from h moment = entry_sends (goes_out_from h moment)

-- the segment that a connection has due first goes out
pub record SpeaksFor (w : WorldView) (side : Side) : Type 0 where
  pub e : Entry
  pub c : View
  pub listener : Option SocketId
  pub due : Due
  pub mac : Mac
  pub to : Addr
  pub sends : emission (host_of w.network side) (later_moment (table_of w.network side) (clock_of w.network side)) ≡ Sends mac to
  pub found : find (in_turn (table_of w.network side) (goes_from (host_of w.network side) (later_moment (table_of w.network side) (clock_of w.network side)))) (let t = table_of w.network side in t.entries) ≡ Some e
  pub role : e.role ≡ Connected c listener
  pub first : first_due c ≡ Some due
  pub is_to : to ≡ c.peer.addr

-- A frame goes out of a side's host.
pub data SentSo (w u : WorldView) (side : Side) (index : ℕ) : Type 0 where
  answering : load u side + 1 ≤ load w side → IsMute u index → SentSo w u side index
  spending : load u side + 3 ≤ load w side → SentSo w u side index
  speaking : load u side ≤ load w side → SpeaksFor w side → SentSo w u side index

-- what is heard is what was said
heard_said : (what : Sent) (mac : Mac) (ours : Addr) (m : Meaning) → heard_as what mac ours ≡ Ok m → m ≡ what.says
heard_said what mac ours m = by_tests (is_sent_to what mac) (is_sent_for what.to ours && may_send ours what.from)
  where
    by_tests : (b c : Bool) → (if b then (if c then Ok what.says else Err OtherAddress) else Err OtherMac) ≡ Ok m → m ≡ what.says
    by_tests true true is = cc
    by_tests true false is = cc
    by_tests false c is = cc

-- a reply itself weighs more than nothing, or is heard as an answer
data Weight (i : InterfaceView) (mac : Mac) (r : Reply) : Type 0 where
  heavy : 4 ≤ weight_of r → Weight i mac r
  light : 1 ≤ weight_of r → is_answer (let s = reply_sent i mac r in s.says) ≡ true → Weight i mac r

weight : (i : InterfaceView) (mac : Mac) (r : Reply) → IsSoundReply i.addr r → Weight i mac r
weight i mac (answer.Arp packet) solid = by_test (is_request packet.operation) refl
  where
    by_test : (b : Bool) → is_request packet.operation ≡ b → Weight i mac (answer.Arp packet)
    by_test true is = heavy (omega (arith, ap {B = ℕ} (λ (b : Bool). if b then 4 else 1) is))
    by_test false is = light (omega (arith, ap {B = ℕ} (λ (b : Bool). if b then 4 else 1) is)) (ap not is)
weight i mac (answer.Reset to head) solid = light (omega arith) solid.reset
weight i mac (answer.Echo to identifier number octets) solid = light (omega arith) refl
weight i mac (answer.Error to reason quoted) solid = light (omega arith) (ap not (no_request reason))
  where
    no_request : (reason : Reason) → is_echo_request (error_for reason quoted []) ≡ false
    no_request NetUnreachable = refl
    no_request HostUnreachable = refl
    no_request ProtocolUnreachable = refl
    no_request PortUnreachable = refl
    no_request FragmentationNeeded = refl
    no_request SourceRouteFailed = refl
    no_request TransitTimeExceeded = refl
    no_request ReassemblyTimeExceeded = refl

module _ (limit : ℕ) (w u : WorldView) (side : Side) (index len : ℕ) (reached : IsReached limit w) (step : IsStep (event.Emit side) (reply.Frame index len) w u) where
  abbrev h : HostView
  h = host_of w.network side

  abbrev moment : Moment
  moment = later_moment h.sockets (clock_of w.network side)

  abbrev known : Addr → Bool
  known = leads (addr_at w.network (other_side side)) (routes_at w.network side)

  abbrev emits : EmitsFrame side index len w.network u.network
  emits = step.network

  sound : IsSoundHost h
  sound = sound-at w u step side

  unticked : (t : Side) (m : Moment) → event.Emit side ≡ event.Tick t m → ⊥
  unticked t m same = cc

  first : slice_get u.network.frames index ≡ Some emits.frame
  first = ap (λ (k : NetworkView). slice_get k.frames index) emits.after ∙ (ap (λ (i : ℕ). slice_get (w.network.frames ++ emits.frame ∷ []) i) emits.place ∙ got-last w.network.frames emits.frame)

  left : load u side ≡ weighs known (left_by h moment (emission h moment)) (clock_of w.network side)
  left = loads limit w u (event.Emit side) (reply.Frame index len) reached step unticked side (left_by h moment (emission h moment)) (ap (λ (k : NetworkView). host_of k side) emits.after ∙ put w.network side (left_by h moment (emission h moment)) (w.network.frames ++ emits.frame ∷ []))

  at_moment : (g : HostView) → weighs known g moment ≡ weighs known g (clock_of w.network side)
  at_moment g = ap (weighs known g) (moment_now limit w reached side)

  mute : (place : ℕ) (waiting : Waiting) (mac : Mac) → emission h moment ≡ Replies place → slice_get h.interface.replies place ≡ Some waiting → way_of h.interface moment waiting.reply ≡ To mac → is_answer (let s = reply_sent h.interface mac waiting.reply in s.says) ≡ true → IsMute u index
  mute place waiting mac is there leads_to is_mute = record {
    f = emits.frame;
    there = first;
    mute = λ theirs ours m hears.
        let octets : emits.frame.octets.items ≡ reply_frame h.interface mac waiting.reply =
        emits.octets ∙ (ap (octets_of h moment) is ∙ (ap (frame_of_one h.interface moment) there ∙ ap (frame_by h.interface waiting.reply) leads_to)) in
        let i = sound.interface in
        let solid = All-at (λ (x : Waiting). IsSoundReply h.interface.addr x.reply) h.interface.replies place waiting i.replies there in
        let said = reply-said h.interface mac waiting.reply i solid (reply-mac h.interface moment waiting.reply mac i solid leads_to) theirs ours in
        let meant : m ≡ (let s = reply_sent h.interface mac waiting.reply in s.says) = heard_said (reply_sent h.interface mac waiting.reply) theirs ours m (sym said ∙ (ap (heard theirs ours) (sym octets) ∙ hears)) in
        ap is_answer meant ∙ is_mute;
  }

  pub sends_so : SentSo w u side index
  sends_so = elim (goes known h moment len sound (reaches limit w reached side moment) emits.due) [
    | answers place waiting mac is there way fewer ↦
        let i = sound.interface in
        elim (weight h.interface mac waiting.reply (All-at (λ (x : Waiting). IsSoundReply h.interface.addr x.reply) h.interface.replies place waiting i.replies there)) [
          | heavy most ↦ spending (omega (arith, left, at_moment (left_by h moment (emission h moment)), at_moment h, fewer, most))
          | light some answer ↦ answering (omega (arith, left, at_moment (left_by h moment (emission h moment)), at_moment h, fewer, some)) (mute place waiting mac is there way answer)
        ]
    | spends fewer ↦ spending (omega (arith, left, at_moment (left_by h moment (emission h moment)), at_moment h, fewer))
    | speaks_for e c listener due mac to is found role due_first is_to fewer ↦
        speaking (omega (arith, left, at_moment (left_by h moment (emission h moment)), at_moment h, fewer)) (record { e = e; c = c; listener = listener; due = due; mac = mac; to = to; sends = is; found = found; role = role; first = due_first; is_to = is_to })
  ]
