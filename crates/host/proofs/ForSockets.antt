-- Which socket a frame is for.
use Rattle.std.proofs.Common.{◌≡◌, ℕ, true, false, List, Option, Some, None, Ok, refl, ap, ◌∙◌}
use Rattle.std.specs.List.{find}
use Rattle.tcp_state.specs.View.{View}
use Rattle.frames.specs.declared.meaning.Meaning.TheVariants.{Tcp, Udp}
use Rattle.frames.specs.declared.meaning.ReceivedDatagram.{ReceivedDatagram}
use Rattle.frames.specs.declared.meaning.ReceivedSegment.{ReceivedSegment}
use Rattle.sockets.specs.declared.entry.Entry.{Entry}
use Rattle.sockets.specs.declared.entry.SocketId.{SocketId}
use Rattle.sockets.specs.declared.role.Role.TheVariants.{Connected}
use Rattle.sockets.specs.Arrival.{local_end, peer_end}
use Rattle.sockets.specs.Entries.{is_between, is_listening_at, is_datagrams_at}
use Rattle.host.specs.Concerned.{concerned}
use Rattle.host.specs.Heard.{heard_by}
use Rattle.host.specs.HostView.{HostView}

pub of_socket : (h : HostView) (octets : List ℕ) (r : ReceivedSegment) (x : Entry) (c : View) → heard_by h octets ≡ Ok (Tcp r) → find (is_between (local_end h.sockets r.segment) (peer_end r.source r.segment)) h.sockets.entries ≡ Some x
    → x.role ≡ Connected c None → c.released ≡ false → concerned h octets ≡ Some x.id
of_socket h octets r x c is found role kept = rw (is, found, role, kept) refl

pub of_waiting : (h : HostView) (octets : List ℕ) (r : ReceivedSegment) (x : Entry) (c : View) (listener : SocketId) → heard_by h octets ≡ Ok (Tcp r) → find (is_between (local_end h.sockets r.segment) (peer_end r.source r.segment)) h.sockets.entries ≡ Some x
    → x.role ≡ Connected c (Some listener) → concerned h octets ≡ Some listener
of_waiting h octets r x c listener is found role = rw (is, found, role) refl

pub of_opening : (h : HostView) (octets : List ℕ) (r : ReceivedSegment) (x : Entry) → heard_by h octets ≡ Ok (Tcp r) → find (is_between (local_end h.sockets r.segment) (peer_end r.source r.segment)) h.sockets.entries ≡ None
    → r.segment.flags.syn ≡ true → r.segment.flags.rst ≡ false → r.segment.flags.ack ≡ false → find (is_listening_at r.segment.destination) h.sockets.entries ≡ Some x → concerned h octets ≡ Some x.id
of_opening h octets r x is none syn rst ack found = rw (is, none, syn, rst, ack, found) refl

pub of_datagram : (h : HostView) (octets : List ℕ) (r : ReceivedDatagram) (x : Entry) → heard_by h octets ≡ Ok (Udp r) → find (is_datagrams_at r.datagram.destination) h.sockets.entries ≡ Some x → concerned h octets ≡ Some x.id
of_datagram h octets r x is found = rw (is, found) refl
