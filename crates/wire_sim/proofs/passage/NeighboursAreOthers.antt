-- The neighbours that a host of a world knows are the other host alone: each ARP packet that it hears is from there, and tells of that.
use Rattle.std.proofs.Common.{◌≡◌, ◌&&◌, Bool, true, false, cond, ℕ, length, find, Option, Some, None, option_map, Ok, Err, refl, sym, ◌∙◌, ap, subst}
use Rattle.std.specs.List.{slice_get}
use Rattle.std.proofs.lemmas.Bool.{and_parts}
use Rattle.ether.specs.declared.mac.Mac.{Mac}
use Rattle.arp.specs.declared.entry.Neighbour.{Neighbour}
use Rattle.arp.specs.declared.packet.ArpPacket.{ArpPacket}
use Rattle.arp.specs.Cache.{is_live_pair, is_pair_of}
use Rattle.ipv4.specs.declared.addr.Addr.{Addr}
use Rattle.clock.specs.declared.moment.Moment.{Moment}
use Rattle.frames.specs.declared.drop.DropCause.TheVariants.{OtherMac, OtherAddress}
use Rattle.frames.specs.declared.meaning.Meaning.{Meaning}
use Rattle.frames.specs.declared.meaning.Meaning.TheVariants.{Arp, Tcp, Icmp, Udp, UdpFragment, Other}
use Rattle.frames.specs.Meaning.{heard, may_send}
use Rattle.frames.proofs.Deciding.{addr-Decides}
use Rattle.interface.specs.InterfaceView.{InterfaceView}
use Rattle.interface.specs.Routing.{next_hop}
use Rattle.interface.specs.Ways.{mac_of}
use Rattle.host.proofs.Guarded.{meant_by}
use Rattle.host.specs.ConfigView.{ConfigView}
use Rattle.host.specs.Emission.{emission_octets}
use Rattle.host.specs.HostView.{HostView}
use Rattle.host.specs.Runs.{Event as HostEvent}
use Rattle.sides.specs.declared.side.Side.{Side}
use Rattle.sides.specs.declared.side.Side.TheVariants.{A, B}
use Rattle.sides.specs.Sides.{other_side}
use Rattle.wire_sim.specs.declared.event.Event.{Event}
use Rattle.wire_sim.specs.declared.world.bag.Frame.{Frame}
use Rattle.wire_sim.specs.Neighbours.{IsPairOf, EveryNeighbourIsTheOtherHost, EveryKnownHopIsTheOtherHost}
use Rattle.wire_sim.specs.Passage.{addr_at, mac_at}
use Rattle.wire_sim.specs.Runs.{IsReached, begins, goes_on, IsStep}
use Rattle.wire_sim.specs.Sent.{Sent, IsSpelled, heard_as, is_sent_for, is_sent_to, sent_at}
use Rattle.wire_sim.specs.WorldView.{WorldView, host_of, clock_of}
use Rattle.wire_sim.proofs.HostsRun.{AreBrought, Brings}
use Rattle.wire_sim.proofs.lists.FoundAfterChange.{All-find, All-weaker, find-passes}
use Rattle.wire_sim.proofs.passage.FramesAreSent.{as-sent, from-other}
use Rattle.wire_sim.proofs.passage.FramesPass.{IsOut, config_of, frame-out, hosts-stay, side-stays, side_at}
use Rattle.wire_sim.proofs.passage.HostsSend.{IsSent}
use Rattle.wire_sim.proofs.passage.HostsStay.{IsSideOf, Teaches}
use Rattle.wire_sim.proofs.passage.SendersTellOwn.{IsOwnPacket, sent-own}
use Rattle.wire_sim.proofs.passage.SendersTold.{sender-told}

-- What is heard as an ARP packet tells of who sent it.

-- it was sent as one
said-heard : (what : Sent) (mac : Mac) (ours : Addr) (p : ArpPacket) → heard_as what mac ours ≡ Ok (Arp p) → what.says ≡ Arp p
said-heard what mac ours p = by_tests (is_sent_to what mac) (is_sent_for what.to ours && may_send ours what.from)
  where
    by_tests : (b c : Bool) → cond b (cond c (Ok what.says) (Err OtherAddress)) (Err OtherMac) ≡ Ok (Arp p) → what.says ≡ Arp p
    by_tests true true is = cc
    by_tests true false is = cc
    by_tests false c is = cc

-- the pair of this set-up
abbrev IsOf : ConfigView → Neighbour → Type 0
IsOf c pair = (pair.addr ≡ c.addr) × (pair.mac ≡ c.mac)

abbrev TellsOf : ConfigView → ArpPacket → Type 0
TellsOf c p = (p.sender_addr ≡ c.addr) × (p.sender_mac ≡ c.mac)

packet-tells : (limit : ℕ) (w : WorldView) (run : IsReached limit w) (index : ℕ) (f : Frame) (mac : Mac) (ours : Addr) (p : ArpPacket) → slice_get w.network.frames index ≡ Some f → heard mac ours f.octets.items ≡ Ok (Arp p)
    → TellsOf (config_of limit w run f.sender) p
packet-tells limit w run index f mac ours p there is = by_says s.what.says refl
  where
    o : IsOut limit w run index f
    o = frame-out limit w run index f there

    h : HostView
    h = host_of o.before.network f.sender

    now : Moment
    now = clock_of o.before.network f.sender

    s : IsSent (emission_octets h now) (sent_at h now)
    s = as-sent limit w run index f o

    goes : heard mac ours (emission_octets h now) ≡ Ok (Arp p)
    goes = ap (heard mac ours) (sym o.octets) ∙ is

    other : (says : Meaning) → s.what.says ≡ says → IsSpelled says → says ≡ Arp p
    other says same spelled = sym same ∙ said-heard s.what mac ours p (sym (s.said (subst IsSpelled (sym same) spelled) mac ours) ∙ goes)

    by_says : (says : Meaning) → s.what.says ≡ says → TellsOf (config_of limit w run f.sender) p
    by_says (Arp q) same =
        let own : IsOwnPacket h.interface (emission_octets h now) q = (sent-own (config_of limit w run f.sender) h now s.what o.side o.sound s.is).packet q same in
        let told =
        sender-told q p mac ours (ap (λ (m : Mac). length m.0) own.mac ∙ o.sound.interface.mac) (ap (λ (a : Addr). length a.0) own.addr ∙ o.sound.interface.addr) own.target (ap (heard mac ours) (sym own.frame) ∙ goes)
        in
        (told.1 ∙ (own.addr ∙ o.side.addr), told.0 ∙ (own.mac ∙ o.side.mac))
    by_says (Tcp r) same = let bad = other (Tcp r) same tt in cc
    by_says (Icmp c) same = let bad = other (Icmp c) same tt in cc
    by_says (Udp r) same = let bad = other (Udp r) same tt in cc
    by_says (UdpFragment d) same = let bad = other (UdpFragment d) same tt in cc
    by_says (Other d) same = let bad = other (Other d) same tt in cc

-- Whoever is known.

hosts-know : (limit : ℕ) (w : WorldView) (run : IsReached limit w) (side : Side) → IsSideOf (config_of limit w run side) (IsOf (config_of limit w run (other_side side))) (side_at w.network side)
hosts-know limit w (begins a b a_is b_is apart few) A = record { mac = refl; addr = refl; routes = refl; replies = tt; neighbours = tt }
hosts-know limit w (begins a b a_is b_is apart few) B = record { mac = refl; addr = refl; routes = refl; replies = tt; neighbours = tt }
hosts-know limit _ (goes_on w v happens answer run step) side = side-stays (config_of limit w run side) w v happens answer step side teaches (hosts-know limit w run side)
  where
    teaches : (e : HostEvent) → AreBrought w.network side happens e → Teaches (IsOf (config_of limit w run (other_side side))) e (host_of w.network side)
    teaches e brings now isn octets packet is heard_so moment =
        let b : Brings w.network side happens octets = brings now isn octets is in
        let from : b.frame.sender ≡ other_side side = from-other w v side b.index b.isn b.frame answer b.there (subst (λ (x : Event). IsStep x answer w v) b.is step) in
        subst (λ (s : Side). TellsOf (config_of limit w run s) packet) from
        (packet-tells limit w run b.index b.frame (mac_at w.network side) (addr_at w.network side) packet b.there (ap (heard (mac_at w.network side) (addr_at w.network side)) b.carries ∙ meant_by (host_of w.network side) octets (Arp packet) heard_so))

pub neighbours-others : EveryNeighbourIsTheOtherHost
neighbours-others limit w run side =
    let other = hosts-stay limit w run (other_side side) in
    let known = hosts-know limit w run side in
    All-weaker (IsOf (config_of limit w run (other_side side))) (IsPairOf w.network (other_side side)) (λ pair is. (is.0 ∙ sym other.addr, is.1 ∙ sym other.mac)) _ known.neighbours

pub hops-others : EveryKnownHopIsTheOtherHost
hops-others limit w side now to mac run = by_hop (next_hop i.routes to)
  where
    i : InterfaceView
    i = side_at w.network side

    found : (hop : Addr) (o : Option Neighbour) → find (λ (pair : Neighbour). is_pair_of hop pair && is_live_pair now pair) i.cache.pairs ≡ o → option_map (λ (pair : Neighbour). pair.mac) o ≡ Some mac
        → (hop ≡ addr_at w.network (other_side side)) × (mac ≡ mac_at w.network (other_side side))
    found hop None at is = cc
    found hop (Some pair) at is =
        let own = All-find (IsPairOf w.network (other_side side)) _ i.cache.pairs pair (neighbours-others limit w run side) at in
        let passes = and_parts (is_pair_of hop pair) (is_live_pair now pair) (find-passes _ i.cache.pairs pair at) in
        let mac_is : pair.mac ≡ mac = cc in
        (sym ((addr-Decides pair.addr hop).0 passes.0) ∙ own.0, sym mac_is ∙ own.1)

    by_hop : (o : Option Addr) → mac_of now i.cache o ≡ Some mac → (o ≡ Some (addr_at w.network (other_side side))) × (mac ≡ mac_at w.network (other_side side))
    by_hop None is = cc
    by_hop (Some hop) is = let both = found hop _ refl is in (ap Some both.0, both.1)
