-- What a frame finds no room at, by what its octets are to the host.
use Rattle.std.specs.Prelude.{◌≡◌, ◌⊎◌, ◌+◌, ◌^◌, ◌≤◌, Bool, ◌&&◌, is_none, false, if◌then◌else◌, ℕ, List, length, count_by, find, Option, Some, None, Result, Ok, Err}
use Rattle.arp.specs.Cache.{is_request_for}
use Rattle.ipv4.specs.declared.addr.Addr.{Addr}
use Rattle.ipv4.specs.Datagram.{Datagram}
use Rattle.frames.specs.declared.drop.DropCause.{DropCause}
use Rattle.frames.specs.declared.meaning.Meaning.{Meaning}
use Rattle.frames.specs.declared.meaning.Meaning.TheVariants.{Arp, Tcp, Icmp, Udp, Other, UdpFragment}
use Rattle.interface.specs.InterfaceView.{InterfaceView}
use Rattle.interface.specs.Replies.{is_full}
use Rattle.interface.specs.Ways.{is_routed}
use Rattle.reassembly.specs.Places.{place_for}
use Rattle.sockets.specs.declared.datagrams.Reception.{Reception}
use Rattle.sockets.specs.declared.datagrams.Reception.TheVariants as socket
use Rattle.sockets.specs.declared.needs.Need.{Need}
use Rattle.sockets.specs.declared.needs.Need.TheVariants as need
use Rattle.sockets.specs.declared.entry.Entry.{Entry}
use Rattle.sockets.specs.Datagrams.{reception}
use Rattle.sockets.specs.Entries.{is_listening_at, is_waiting_at, backlog_of}
use Rattle.sockets.specs.Needs as needs
use Rattle.udp.specs.Datagram.{UserDatagram}
use Rattle.host.specs.declared.lack.Lack.{Lack}
use Rattle.host.specs.declared.lack.Lack.TheVariants.{Backlog, Table, Memory, Replies, Queue, Reassembly, Route}
use Rattle.host.specs.Arrival.{pool_for}
use Rattle.host.specs.Heard.{heard_by}
use Rattle.host.specs.HostView.{HostView}
use Rattle.host.specs.Messages.{Told, Asks, Refuses, Nothing, told_by}

-- a control reply that is owed finds no place where as many wait as may ..
abbrev pub lack_of_reply : Bool → InterfaceView → Option Lack
lack_of_reply is_owed i = if is_owed && is_full i then Some Replies else None

-- .. and it is owed to an address that a route leads to
abbrev pub lack_of_answer : HostView → Addr → Option Lack
lack_of_answer h to = lack_of_reply (is_routed h.interface to) h.interface

-- What a segment needs there may be none of. A connection that has its place is opened to an address alone that a route leads to.
abbrev pub lack_by_need : HostView → Addr → Option Need → Option Lack
lack_by_need h source None = None
lack_by_need h source (Some need.Backlog) = Some Backlog
lack_by_need h source (Some need.Table) = Some Table
lack_by_need h source (Some need.Memory) = Some (if is_routed h.interface source then Memory else Route)
lack_by_need h source (Some need.Reply) = lack_of_answer h source

-- an echo request is answered
abbrev pub lack_by_message : HostView → Addr → Told → Option Lack
lack_by_message h source Asks = lack_of_answer h source
lack_by_message h source (Refuses quote) = None
lack_by_message h source Nothing = None

-- a datagram has room in the queue of its socket or not, and where there is no socket its source is told so
abbrev pub lack_by_reception : HostView → Addr → Reception → Option Lack
lack_by_reception h source socket.Queued = None
lack_by_reception h source socket.NoRoom = Some Queue
lack_by_reception h source socket.NoSocket = lack_of_answer h source

-- a fragment needs a place in the pool, as it finds one on guard wherever a place has room for it, and a datagram that nothing takes is reported
abbrev pub lack_of : HostView → Result Meaning DropCause → Option Lack
lack_of h (Ok (Arp packet)) = lack_of_reply (is_request_for h.interface.addr packet) h.interface
lack_of h (Ok (Tcp received)) = lack_by_need h received.source (needs.need h.sockets received.source received.segment)
lack_of h (Ok (Icmp c)) = lack_by_message h c.source (told_by c.message)
lack_of h (Ok (Udp r)) = lack_by_reception h r.carrier.source (reception h.sockets r.datagram)
lack_of h (Ok (UdpFragment d)) = if is_none (place_for d (pool_for h.sockets.manner.guards d h.pool)) then Some Reassembly else None
lack_of h (Ok (Other d)) = lack_of_answer h d.source
lack_of h (Err cause) = None

abbrev pub lack : HostView → List ℕ → Option Lack
lack h octets = lack_of h (heard_by h octets)

-- What is told to be lacking is so: a listener has as many connections waiting as its backlog allows; the table has as many entries as it is for, or its last id is given; as many control replies wait as may; a socket or the pool
-- of reassemblies has no room for some datagram; no route leads to some address. Memory may be refused at any time.
abbrev pub IsLacking : HostView → Lack → Type 0
IsLacking h Backlog = (port : ℕ) × (x : Entry) × (find (is_listening_at port) h.sockets.entries ≡ Some x) × (backlog_of x.role ≤ count_by (is_waiting_at x.id) h.sockets.entries)
IsLacking h Table = (length h.sockets.entries ≡ h.sockets.sizes.entries) ⊎ (h.sockets.last_id + 1 ≡ 2 ^ 64)
IsLacking h Replies = length h.interface.replies ≡ h.interface.most_replies
IsLacking h Queue = (d : UserDatagram) × (reception h.sockets d ≡ socket.NoRoom)
IsLacking h Reassembly = (d : Datagram) × (place_for d (pool_for h.sockets.manner.guards d h.pool) ≡ None)
IsLacking h Route = (to : Addr) × (is_routed h.interface to ≡ false)
IsLacking h Memory = Unit {0}
