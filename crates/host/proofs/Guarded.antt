-- What is heard of a frame is what it says, or that it comes from no host.
use Rattle.std.proofs.Common.{◌≡◌, ◌≢◌, ℕ, ◌&&◌, ◌||◌, true, false, Bool, refl, if◌then◌else◌, List, Result, Ok, Err, sym, ◌∙◌, ap, subst, IfOk, length, ◌≤◌}
use Rattle.clock.specs.declared.moment.Moment.{Moment}
use Rattle.tcp_halves.proofs.Choices.{either, both, and_false}
use Rattle.frames.specs.declared.drop.DropCause.{DropCause}
use Rattle.frames.specs.declared.drop.DropCause.TheVariants.{OtherAddress}
use Rattle.frames.specs.declared.meaning.Meaning.{Meaning}
use Rattle.frames.specs.declared.meaning.Meaning.TheVariants.{Arp, Tcp, Icmp}
use Rattle.frames.specs.declared.meaning.Control.{Control}
use Rattle.frames.specs.declared.meaning.ReceivedSegment.{ReceivedSegment}
use Rattle.frames.specs.Meaning.{heard, same_mac}
use Rattle.arp.specs.declared.packet.ArpPacket.{ArpPacket}
use Rattle.interface.specs.InterfaceView.{InterfaceView}
use Rattle.interface.specs.Strangers.{is_of_group, is_no_host}
use Rattle.sockets.specs.SocketsView.{later_moment}
use Rattle.host.specs.Arrival.{MeetsHeard, IsDelivered}
use Rattle.host.specs.Heard.{heard_by, is_barred, guarded_by, shuts_out}
use Rattle.frames.proofs.Hearers.{messages_fit}
use Rattle.interface.specs.declared.room.TheConstants.{ECHO_ROOM}
use Rattle.host.specs.HostView.{HostView}

pub says_so : (guards : Bool) (i : InterfaceView) (x : Result Meaning DropCause) (m : Meaning) → guarded_by guards i x ≡ Ok m → x ≡ Ok m
says_so guards i x m = either (Result Meaning DropCause) (λ y. y ≡ Ok m → x ≡ Ok m) (guards && is_barred i x) (Err OtherAddress) x (λ bars is. cc) (λ passes is. is)

pub drops_so : (guards : Bool) (i : InterfaceView) (x : Result Meaning DropCause) (cause : DropCause) → cause ≢ OtherAddress → guarded_by guards i x ≡ Err cause → x ≡ Err cause
drops_so guards i x cause other = either (Result Meaning DropCause) (λ y. y ≡ Err cause → x ≡ Err cause) (guards && is_barred i x) (Err OtherAddress) x (λ bars is. let same : cause ≡ OtherAddress = cc in absurd (other same)) (λ passes is. is)

pub meant_by : (h : HostView) (octets : List ℕ) (m : Meaning) → heard_by h octets ≡ Ok m → heard h.interface.mac h.interface.addr octets ≡ Ok m
meant_by h octets m = says_so h.sockets.manner.guards h.interface (heard h.interface.mac h.interface.addr octets) m

-- whose packet is learnt isn't shut out
last_false : (g a b c : Bool) → (g && (a || b || c)) ≡ false → (g && c) ≡ false
last_false false a b c e = refl
last_false true false false c e = e
last_false true true b c e = cc
last_false true false true c e = cc

unbarred : (guards : Bool) (i : InterfaceView) (m : Meaning) → guarded_by guards i (Ok m) ≡ Ok m → (guards && is_barred i (Ok m)) ≡ false
unbarred guards i m = by_test (guards && is_barred i (Ok m))
  where
    by_test : (b : Bool) → (if b then Err OtherAddress else Ok m) ≡ Ok m → b ≡ false
    by_test true is = cc
    by_test false is = refl

pub packet_let_in : (h : HostView) (octets : List ℕ) (packet : ArpPacket) → heard_by h octets ≡ Ok (Arp packet) → shuts_out h packet.sender_addr ≡ false
packet_let_in h octets packet is =
    let guards = h.sockets.manner.guards in
    let says = meant_by h octets (Arp packet) is in
    last_false guards (is_of_group packet.sender_mac) (same_mac packet.sender_mac h.interface.mac) (is_no_host h.interface packet.sender_addr)
    (unbarred guards h.interface (Arp packet) (ap (guarded_by guards h.interface) (sym says) ∙ is))

pub takes_in : (h : HostView) (octets : List ℕ) (r : ReceivedSegment) → shuts_out h r.source ≡ false → heard h.interface.mac h.interface.addr octets ≡ Ok (Tcp r) → heard_by h octets ≡ Ok (Tcp r)
takes_in h octets r lets is = ap (guarded_by h.sockets.manner.guards h.interface) is ∙ ap (λ b. if b then Err OtherAddress else Ok (Tcp r)) lets

pub tells_in : (h : HostView) (octets : List ℕ) (c : Control) → shuts_out h c.source ≡ false → heard h.interface.mac h.interface.addr octets ≡ Ok (Icmp c) → heard_by h octets ≡ Ok (Icmp c)
tells_in h octets c lets is = ap (guarded_by h.sockets.manner.guards h.interface) is ∙ ap (λ b. if b then Err OtherAddress else Ok (Icmp c)) lets

-- The law of a host on its guard.

pub unguarded_heard : (h : HostView) (octets : List ℕ) → h.sockets.manner.guards ≡ false → heard_by h octets ≡ heard h.interface.mac h.interface.addr octets
unguarded_heard h octets off = let says = heard h.interface.mac h.interface.addr octets in ap (λ g. guarded_by g h.interface says) off

pub others_heard : (h : HostView) (octets : List ℕ) → is_barred h.interface (heard h.interface.mac h.interface.addr octets) ≡ false → heard_by h octets ≡ heard h.interface.mac h.interface.addr octets
others_heard h octets passes =
    let says = heard h.interface.mac h.interface.addr octets in
    ap (λ b. if h.sockets.manner.guards && b then Err OtherAddress else says) passes ∙ ap (λ b. if b then Err OtherAddress else says) (and_false h.sockets.manner.guards)

barred_heard : (h : HostView) (octets : List ℕ) → h.sockets.manner.guards ≡ true → is_barred h.interface (heard h.interface.mac h.interface.addr octets) ≡ true → heard_by h octets ≡ Err OtherAddress
barred_heard h octets on bars = let says = heard h.interface.mac h.interface.addr octets in ap (λ b. if b then Err OtherAddress else says) (both h.sockets.manner.guards (is_barred h.interface says) on bars)

pub barred_dropped : (h : HostView) (now : Moment) (isn : ℕ) (octets : List ℕ) (answer : Result (Unit {0}) DropCause) (new : HostView) → h.sockets.manner.guards ≡ true → is_barred h.interface (heard h.interface.mac h.interface.addr octets) ≡ true
    → IsDelivered h now isn octets answer new → (answer ≡ Err OtherAddress) × (new ≡ h)
barred_dropped h now isn octets answer new on bars delivered = subst (λ m. MeetsHeard m h (later_moment h.sockets now) isn answer new) (barred_heard h octets on bars) delivered

-- what is heard as a message fits into a frame
pub heard_fits : (h : HostView) (octets : List ℕ) (m : Result Meaning DropCause) → m ≡ heard_by h octets → IfOk m (λ m. (control : Control) → m ≡ Icmp control → length control.message.payload ≤ ECHO_ROOM)
heard_fits h octets (Ok m) is = λ control says. messages_fit h.interface.mac h.interface.addr octets control (meant_by h octets (Icmp control) (sym is ∙ ap (λ (x : Meaning). Ok x) says))
heard_fits h octets (Err cause) is = tt
