-- What a host holds at most, whatever is asked of it and whatever comes: what its set-up says. The other numbers are this stack's own, but for what an error
-- quotes of a datagram (RFC 792).
use Rattle.std.specs.Prelude.{◌≡◌, ◌≤◌, ◌+◌, ℕ, List, [], length, count_by, map, Option, IfSome, is_some}
use Rattle.std.specs.List.{sum_by, AllByRecursion}
use Rattle.udp.specs.Waiting.{Waiting as WaitingDatagram, counted}
use Rattle.udp_socket.specs.SocketView.{SocketView, waiting_of}
use Rattle.tcp_state.specs.View.{View}
use Rattle.interface.specs.declared.reply.Reply.{Reply}
use Rattle.interface.specs.declared.reply.Reply.TheVariants.{Arp, Reset, Echo, Error}
use Rattle.interface.specs.declared.reply.Waiting.{Waiting}
use Rattle.interface.specs.InterfaceView.{InterfaceView}
use Rattle.reassembly.specs.Reassembly.{Reassembly, PoolView}
use Rattle.sockets.specs.declared.entry.Entry.{Entry}
use Rattle.sockets.specs.declared.role.Role.{Role}
use Rattle.sockets.specs.declared.role.Role.TheVariants.{Idle, Listener, Connected, Datagrams}
use Rattle.sockets.specs.SocketsView.{SocketsView}
use Rattle.host.specs.declared.sizes.Sizes.{Sizes}
use Rattle.host.specs.HostView.{HostView}

-- A connection holds no more octets than its buffers have room for: neither of those that its caller gave and that aren't acknowledged, nor of those that came and
-- weren't read, in order or kept ahead of a gap. Each buffer has room for as many as the set-up says at most.
pub record IsInItsBuffers (buffer : ℕ) (c : View) : Type 0 where
  pub held : length c.sending.held ≤ c.sending.size
  pub unread : length c.receiving.readable + count_by is_some c.receiving.kept ≤ c.receiving.size
  pub send_size : c.sending.size ≤ buffer
  pub receive_size : c.receiving.size ≤ buffer

-- 64 datagrams at most, with 65,535 octets at most, where each counts 8 beside its data
pub record IsShort (datagrams : List WaitingDatagram) : Type 0 where
  pub number : length datagrams ≤ 64
  pub octets : sum_by counted datagrams ≤ 65535

-- what came for a UDP socket and wasn't read, and what is to go out of it
pub record IsInItsQueues (s : SocketView) : Type 0 where
  pub received : IsShort s.inbox
  pub sent : IsShort (map waiting_of s.outbox)

abbrev pub IsInItsRoom : ℕ → Role → Type 0
IsInItsRoom buffer (Connected c listener) = IsInItsBuffers buffer c
IsInItsRoom buffer (Datagrams bound socket) = IsInItsQueues socket
IsInItsRoom buffer (Listener local backlog) = Unit {0}
IsInItsRoom buffer (Idle buffers bound) = buffers.capacity ≤ buffer

-- the table has as many entries at most as the set-up says, each in its room, and offers no more to be accepted
pub record IsTableWithin (sizes : Sizes) (h : SocketsView) : Type 0 where
  pub entries : length h.entries ≤ sizes.entries
  pub offered : length h.offered ≤ sizes.entries
  pub each : AllByRecursion (λ (e : Entry). IsInItsRoom sizes.buffer e.role) h.entries

-- the octets that a control reply is kept with: the data of an echo, or what an error quotes
abbrev pub octets_of : Reply → List ℕ
octets_of (Arp packet) = []
octets_of (Reset to head) = []
octets_of (Echo to identifier number octets) = octets
octets_of (Error to reason quoted) = quoted

-- as many neighbours are known at most as the set-up says, 64 requests are noted, and as many control replies wait as it says, each with 1,472 octets at most
pub record IsSideWithin (sizes : Sizes) (i : InterfaceView) : Type 0 where
  pub neighbours : length i.cache.pairs ≤ sizes.neighbours
  pub requests : length i.cache.asked ≤ 64
  pub replies : length i.replies ≤ sizes.replies
  pub each : AllByRecursion (λ (w : Waiting). length (octets_of w.reply) ≤ 1472) i.replies

-- a datagram that is put together reaches no further than its place has room for, and 68 octets are kept of it for an error at most
pub record IsWithinPayload (most : ℕ) (r : Reassembly) : Type 0 where
  pub octets : length r.octets ≤ most
  pub quote : IfSome r.quote (λ quote. length quote ≤ 68)

-- as many are put together at a time as the set-up says, and 64 are known as whole lately at most
pub record IsPoolWithin (sizes : Sizes) (pool : PoolView) : Type 0 where
  pub places : length pool.places ≡ sizes.reassemblies
  pub each : AllByRecursion (λ (place : Option Reassembly). IfSome place (IsWithinPayload sizes.reassembly_octets)) pool.places

pub record IsWithinLimits (sizes : Sizes) (h : HostView) : Type 0 where
  pub interface : IsSideWithin sizes h.interface
  pub sockets : IsTableWithin sizes h.sockets
  pub pool : IsPoolWithin sizes h.pool
  pub lately : length h.lately ≤ 64
