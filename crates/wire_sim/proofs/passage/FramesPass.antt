-- Each frame of a network went out of its sender's host in the run that led there, and neither that host's address nor its routes changed since.
use Rattle.std.proofs.Common.{◌≡◌, ◌≢◌, inl, inr, ℕ, true, false, List, length, Some, refl, sym, ◌∙◌, ap, subst}
use Rattle.std.specs.List.{slice_get}
use Rattle.std.proofs.lemmas.Bool.{or_parts}
use Rattle.ipv4.specs.Addresses.{same_addr}
use Rattle.frames.specs.Meaning.{may_send, same_mac}
use Rattle.frames.proofs.Deciding.{addr-Decides, never, send-Decides}
use Rattle.arp.specs.declared.entry.Neighbour.{Neighbour}
use Rattle.interface.specs.InterfaceView.{InterfaceView}
use Rattle.sockets.specs.Order.{IsOrdered}
use Rattle.host.specs.ConfigView.{ConfigView}
use Rattle.host.specs.Emission.{emission_len, emission_octets}
use Rattle.host.specs.HostView.{HostView}
use Rattle.host.specs.Runs.{Event as HostEvent}
use Rattle.host.specs.Sound.{IsSoundHost}
use Rattle.datagram_law.specs.Accepted.{Accepted}
use Rattle.sides.specs.declared.side.Side.{Side}
use Rattle.sides.specs.declared.side.Side.TheVariants.{A, B}
use Rattle.sides.specs.Sides.{other_side}
use Rattle.wire_sim.specs.declared.event.Answer.{Answer}
use Rattle.wire_sim.specs.declared.event.Answer.TheVariants as reply
use Rattle.wire_sim.specs.declared.event.Event.{Event}
use Rattle.wire_sim.specs.declared.event.Event.TheVariants as event
use Rattle.wire_sim.specs.declared.world.bag.Frame.{Frame}
use Rattle.wire_sim.specs.Datagrams.{accepted_in}
use Rattle.wire_sim.specs.HostRuns.{IsKept}
use Rattle.wire_sim.specs.Passage.{Passes, EveryHostStays, addr_at, routes_at}
use Rattle.wire_sim.specs.Sent.{AreWholeRoutes}
use Rattle.wire_sim.specs.Runs.{IsStep, IsReached, begins, goes_on}
use Rattle.wire_sim.specs.WorldView.{NetworkView, WorldView, host_of, clock_of, table_of}
use Rattle.wire_sim.proofs.HostsRun.{AreBrought, IsMoved, moved, sound-at, tables-kept}
use Rattle.wire_sim.proofs.datagrams.RunsKeepDatagrams.{hosts-keep}
use Rattle.wire_sim.proofs.datagrams.TablesKeepToAccepted.{IsTableOf}
use Rattle.wire_sim.proofs.fairness.NotesAreTraced.{PutsFrame, frames-step, got-added}
use Rattle.wire_sim.proofs.passage.HostsStay.{Anyone, IsSideOf, Teaches, stays-on}

-- the set-up of a side's host, with which a run began
abbrev pub config_of : (limit : ℕ) (w : WorldView) → IsReached limit w → Side → ConfigView
config_of limit w (begins a b a_is b_is apart few) A = a
config_of limit w (begins a b a_is b_is apart few) B = b
config_of limit w (goes_on old new happens answer run step) side = config_of limit old run side

abbrev pub side_at : NetworkView → Side → InterfaceView
side_at n side = let h = host_of n side in h.interface

-- over one event that teaches it no other neighbours than it may know
pub side-stays : {knows : Neighbour → Type 0} (c : ConfigView) (w v : WorldView) (happens : Event) (answer : Answer) → IsStep happens answer w v → (side : Side)
    → ((e : HostEvent) → AreBrought w.network side happens e → Teaches knows e (host_of w.network side)) → IsSideOf c knows (side_at w.network side) → IsSideOf c knows (side_at v.network side)
side-stays {knows} c w v happens answer step side teaches before = by_move (moved w v happens answer step side)
  where
    by_move : IsMoved w.network (clock_of v.network side) side happens (host_of w.network side) (host_of v.network side) → IsSideOf c knows (side_at v.network side)
    by_move (inl same) = subst (λ (h : HostView). IsSideOf c knows h.interface) (sym same) before
    by_move (inr (e, numbered, makes, brings, up, own)) = stays-on c e (host_of w.network side) (host_of v.network side) (teaches e brings) before makes

pub hosts-stay : (limit : ℕ) (w : WorldView) (run : IsReached limit w) (side : Side) → IsSideOf (config_of limit w run side) Anyone (side_at w.network side)
hosts-stay limit w (begins a b a_is b_is apart few) A = record { mac = refl; addr = refl; routes = refl; replies = tt; neighbours = tt }
hosts-stay limit w (begins a b a_is b_is apart few) B = record { mac = refl; addr = refl; routes = refl; replies = tt; neighbours = tt }
hosts-stay limit _ (goes_on w v happens answer run step) side =
    side-stays (config_of limit w run side) w v happens answer step side (λ e brings now isn octets packet is heard moment. tt) (hosts-stay limit w run side)

-- the two addresses differ
configs-apart : (limit : ℕ) (w : WorldView) (run : IsReached limit w) → same_addr (let a = config_of limit w run A in a.addr) (let b = config_of limit w run B in b.addr) ≡ false
configs-apart limit w (begins a b a_is b_is apart few) = (or_parts (same_addr a.addr b.addr) (same_mac a.mac b.mac) apart).0
configs-apart limit _ (goes_on w v happens answer run step) = configs-apart limit w run

pub addrs-apart : (limit : ℕ) (w : WorldView) (run : IsReached limit w) → addr_at w.network A ≢ addr_at w.network B
addrs-apart limit w run same =
    let a = hosts-stay limit w run A in
    let b = hosts-stay limit w run B in
    never _ (addr-Decides _ _) (configs-apart limit w run) (sym a.addr ∙ (same ∙ b.addr))

-- so each may send to the other
pub may-send : (limit : ℕ) (w v : WorldView) (run : IsReached limit w) (happens : Event) (answer : Answer) → IsStep happens answer w v → (side : Side) → may_send (addr_at w.network side) (addr_at w.network (other_side side)) ≡ true
may-send limit w v run happens answer step side =
    let other : IsSoundHost (host_of w.network (other_side side)) = sound-at w v step (other_side side) in
    (send-Decides (addr_at w.network side) (addr_at w.network (other_side side)) other.interface.addr).1 (record { single = other.single; other = apart side })
  where
    apart : (s : Side) → addr_at w.network (other_side s) ≢ addr_at w.network s
    apart A same = addrs-apart limit w run (sym same)
    apart B same = addrs-apart limit w run same

-- What a run tells of a frame in the network: the world from which it went out.
pub record IsOut (limit : ℕ) (w : WorldView) (run : IsReached limit w) (index : ℕ) (f : Frame) : Type 0 where
  pub before : WorldView
  pub reached : IsReached limit before
  pub len : ℕ
  pub passed : Passes limit w run before (event.Emit f.sender) (reply.Frame index len)
  pub sound : IsSoundHost (host_of before.network f.sender)
  pub side : IsSideOf (config_of limit w run f.sender) Anyone (side_at before.network f.sender)
  pub due : emission_len (host_of before.network f.sender) (clock_of before.network f.sender) ≡ Some len
  pub octets : f.octets.items ≡ emission_octets (host_of before.network f.sender) (clock_of before.network f.sender)

-- it went out just now
out-now : (limit : ℕ) (w v : WorldView) (happens : Event) (answer : Answer) (run : IsReached limit w) (step : IsStep happens answer w v) (puts : PutsFrame happens answer w.network v.network) (index : ℕ) (f : Frame)
    → index ≡ length w.network.frames → puts.emits.frame ≡ f → IsOut limit v (goes_on w v happens answer run step) index f
out-now limit w v happens answer run step puts index f place is =
    let sender : puts.side ≡ f.sender = sym puts.emits.sender ∙ ap (λ (g : Frame). g.sender) is in
    let at : puts.index ≡ index = puts.emits.place ∙ sym place in
    record {
      before = w;
      reached = run;
      len = puts.len;
      passed = inl (refl, puts.event ∙ ap (λ (s : Side). let e : Event = event.Emit s in e) sender, puts.told ∙ ap (λ (k : ℕ). let a : Answer = reply.Frame k puts.len in a) at);
      sound = sound-at w v step f.sender;
      side = hosts-stay limit w run f.sender;
      due = subst (λ (s : Side). emission_len (host_of w.network s) (clock_of w.network s) ≡ Some puts.len) sender puts.emits.due;
      octets = subst (λ (s : Side). f.octets.items ≡ emission_octets (host_of w.network s) (clock_of w.network s)) sender (ap (λ (g : Frame). g.octets.items) (sym is) ∙ puts.emits.octets);
    }

out-before : (limit : ℕ) (w v : WorldView) (happens : Event) (answer : Answer) (run : IsReached limit w) (step : IsStep happens answer w v) (index : ℕ) (f : Frame) → IsOut limit w run index f → IsOut limit v (goes_on w v happens answer run step) index f
out-before limit w v happens answer run step index f o = record {
  before = o.before;
  reached = o.reached;
  len = o.len;
  passed = inr o.passed;
  sound = o.sound;
  side = o.side;
  due = o.due;
  octets = o.octets;
}

pub frame-out : (limit : ℕ) (w : WorldView) (run : IsReached limit w) (index : ℕ) (f : Frame) → slice_get w.network.frames index ≡ Some f → IsOut limit w run index f
frame-out limit w (begins a b a_is b_is apart few) index f there = cc
frame-out limit _ (goes_on w v happens answer run step) index f there = elim (frames-step happens (length w.trace) answer w.network v.network step.network) [
  | inl same ↦ out-before limit w v happens answer run step index f (frame-out limit w run index f (ap (λ (fs : List Frame). slice_get fs index) (sym same) ∙ there))
  | inr puts ↦
      elim (got-added w.network.frames puts.emits.frame index f (ap (λ (n : NetworkView). slice_get n.frames index) (sym puts.emits.after) ∙ there)) [
        | inl old ↦ out-before limit w v happens answer run step index f (frame-out limit w run index f old.1)
        | inr new ↦ out-now limit w v happens answer run step puts index f new.0 new.1
      ]
]

-- The host from which it went out keeps its table in order, and that to what was accepted.
pub out-ordered : (limit : ℕ) (w : WorldView) (run : IsReached limit w) (index : ℕ) (f : Frame) (o : IsOut limit w run index f) → IsOrdered (table_of o.before.network f.sender)
out-ordered limit w run index f o = let k : IsKept (clock_of o.before.network f.sender) (table_of o.before.network f.sender) = tables-kept limit o.before o.reached f.sender in k.ordered

pub record IsOfTwo (h : HostView) : Type 0 where
  pub own : List Accepted
  pub other : List Accepted
  pub table : IsTableOf own other h.sockets

pub out-accepted : (limit : ℕ) (w : WorldView) (run : IsReached limit w) (side : Side) → IsOfTwo (host_of w.network side)
out-accepted limit w run A = let k = hosts-keep limit w run in record { own = accepted_in limit w run A; other = k.here.heard; table = k.here.table }
out-accepted limit w run B = let k = hosts-keep limit w run in record { own = accepted_in limit w run B; other = k.there.heard; table = k.there.table }

-- its routes and its address are what they are now
pub out-routes : (limit : ℕ) (w : WorldView) (run : IsReached limit w) (index : ℕ) (f : Frame) (o : IsOut limit w run index f) → AreWholeRoutes (routes_at w.network f.sender) → AreWholeRoutes (routes_at o.before.network f.sender)
out-routes limit w run index f o whole = let now = hosts-stay limit w run f.sender in subst AreWholeRoutes (now.routes ∙ sym o.side.routes) whole

pub out-addr : (limit : ℕ) (w : WorldView) (run : IsReached limit w) (index : ℕ) (f : Frame) (o : IsOut limit w run index f) → addr_at o.before.network f.sender ≡ addr_at w.network f.sender
out-addr limit w run index f o = let now = hosts-stay limit w run f.sender in o.side.addr ∙ sym now.addr

-- one event
pub hosts-stayed : EveryHostStays
hosts-stayed limit w v happens answer run step side =
    let before = hosts-stay limit w run side in
    let after = hosts-stay limit v (goes_on w v happens answer run step) side in
    (after.mac ∙ sym before.mac, after.addr ∙ sym before.addr, after.routes ∙ sym before.routes)
