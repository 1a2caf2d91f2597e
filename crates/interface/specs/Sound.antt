-- What every interface keeps of itself: its addresses and the MACs of its neighbours are of their width, and each reply that waits can be
-- sent.
use Rattle.std.specs.Prelude.{◌≡◌, ◌<◌, ◌≤◌, ◌^◌, ℕ, List, true, [], length, All}
use Rattle.std.specs.List.{AllByRecursion}
use Rattle.ipv4.specs.declared.addr.Addr.{Addr}
use Rattle.ipv4.specs.declared.limits.TheConstants.{ERROR_QUOTE}
use Rattle.arp.specs.Cache.{HasWholeMacs}
use Rattle.arp.specs.Packet.{HasWidths}
use Rattle.tcp_segment.specs.declared.head.Head.{Head}
use Rattle.tcp_segment.specs.Sent.{CanBeSent}
use Rattle.interface.specs.declared.room.TheConstants.{ECHO_ROOM}
use Rattle.interface.specs.declared.reply.Reply.{Reply}
use Rattle.interface.specs.declared.reply.Reply.TheVariants.{Arp, Reset, Echo, Error}
use Rattle.interface.specs.declared.reply.Waiting.{Waiting}
use Rattle.interface.specs.InterfaceView.{InterfaceView}

-- a reset can go out from this address, and is one
pub record IsSoundReset (own to : Addr) (head : Head) : Type 0 where
  pub sendable : CanBeSent own to head []
  pub reset : head.flags.rst ≡ true

-- an echo reply can go out to this address: a datagram of 1,500 octets holds 20 of its header, 8 of the message's, and its data
pub record IsSoundEcho (to : Addr) (identifier number : ℕ) (octets : List ℕ) : Type 0 where
  pub addr : length to.0 ≡ 4
  pub identifier_fits : identifier < 2 ^ 16
  pub number_fits : number < 2 ^ 16
  pub in_range : All (λ octet. octet < 256) octets
  pub most : length octets ≤ ECHO_ROOM

-- an error can: it quotes a header, which has 60 octets at most, and 8 octets more (RFC 792)
pub record IsSoundError (to : Addr) (quoted : List ℕ) : Type 0 where
  pub addr : length to.0 ≡ 4
  pub in_range : All (λ octet. octet < 256) quoted
  pub most : length quoted ≤ ERROR_QUOTE

-- a reply can go out from this address
abbrev pub IsSoundReply : Addr → Reply → Type 0
IsSoundReply own (Arp packet) = HasWidths packet
IsSoundReply own (Reset to head) = IsSoundReset own to head
IsSoundReply own (Echo to identifier number octets) = IsSoundEcho to identifier number octets
IsSoundReply own (Error to reason quoted) = IsSoundError to quoted

pub record IsSound (h : InterfaceView) : Type 0 where
  pub mac : length h.mac.0 ≡ 6
  pub addr : length h.addr.0 ≡ 4
  pub neighbours : HasWholeMacs h.cache
  pub replies : AllByRecursion (λ (waiting : Waiting). IsSoundReply h.addr waiting.reply) h.replies
