-- What may move by what is heard: which entries of the table, and by a frame that is dropped.
use Rattle.std.specs.Prelude.{◌≡◌, ◌<◌, ◌⊎◌, ℕ, List, [], ◌∷◌, length, find, Option, Some, None, Ok}
use Rattle.clock.specs.declared.moment.Moment.{Moment}
use Rattle.arp.specs.declared.packet.ArpPacket.{ArpPacket}
use Rattle.arp.specs.declared.packet.Operation.TheVariants.{Request}
use Rattle.icmp.specs.declared.quote.Quote.{Quote}
use Rattle.icmp.specs.Message.{Message}
use Rattle.icmp.specs.Reading.{quote_in}
use Rattle.frames.specs.declared.meaning.Meaning.TheVariants.{Arp}
use Rattle.frames.specs.declared.meaning.ReceivedSegment.{ReceivedSegment}
use Rattle.interface.specs.Replies.{learnt}
use Rattle.tcp_halves.specs.Stream.{outstanding}
use Rattle.tcp_state.specs.declared.state.State.TheVariants.{SynSent}
use Rattle.tcp_state.specs.View.{View}
use Rattle.sockets.specs.declared.entry.Entry.{Entry}
use Rattle.sockets.specs.declared.entry.SocketId.{SocketId}
use Rattle.sockets.specs.declared.role.Role.TheVariants.{Connected}
use Rattle.sockets.specs.Arrival.{local_end, peer_end}
use Rattle.sockets.specs.Causes.{IsOpenedBy}
use Rattle.sockets.specs.Entries.{is_between}
use Rattle.host.specs.Heard.{heard_by}
use Rattle.host.specs.Duties.{IsHardError}
use Rattle.host.specs.HostView.{HostView, with_interface}

-- an entry stays as it was, unless this is so of it: then it may change, or leave
abbrev pub StaysUnless : (Entry → Type 0) → Entry → Option Entry → Type 0
StaysUnless May x None = May x
StaysUnless May x (Some y) = (y ≡ x) ⊎ (May x × (y.id ≡ x.id))

-- nothing is added
abbrev pub IsNoEntry : List Entry → Type 0
IsNoEntry added = added ≡ []

-- it is the connection between the two ends of a segment that is heard, in any state but CLOSED (RFC 9293 section 3.10.7)
abbrev pub IsMetBy : HostView → ReceivedSegment → Entry → Type 0
IsMetBy h r e = find (is_between (local_end h.sockets r.segment) (peer_end r.source r.segment)) h.sockets.entries ≡ Some e

-- nothing is added, or the one connection that the segment, a SYN, opens at a listener (section 3.10.7.2)
abbrev pub IsOpenedAtMost : HostView → ReceivedSegment → List Entry → Type 0
IsOpenedAtMost h r added = (added ≡ []) ⊎ ((e : Entry) × (added ≡ e ∷ []) × IsOpenedBy h.sockets r.source r.segment e)

-- It is the connection whose SYN a hard error quotes: in SYN-SENT, between the two ends that are quoted, and its SYN has gone out and has the number that is quoted
-- (RFC 1122 section 4.2.3.9).
pub record IsQuotedBy (h : HostView) (m : Message) (e : Entry) : Type 0 where
  pub hard : IsHardError m
  pub quote : Quote
  pub quotes : quote_in m.payload ≡ Some quote
  pub of_segment : quote.protocol.0 ≡ 6
  pub between : find (is_between quote.source quote.destination) h.sockets.entries ≡ Some e
  pub connection : View
  pub listener : Option SocketId
  pub connected : e.role ≡ Connected connection listener
  pub state : connection.state ≡ SynSent
  pub sent : 0 < outstanding connection.sending
  pub number : quote.number ≡ connection.sending.una

-- It is an ARP packet that asks for our address while as many replies wait as may: it isn't answered, and what it tells of its sender is learnt all the same (RFC 826).
pub record IsLearntInVain (h : HostView) (moment : Moment) (octets : List ℕ) (new : HostView) : Type 0 where
  pub packet : ArpPacket
  pub heard : heard_by h octets ≡ Ok (Arp packet)
  pub asks : packet.operation ≡ Request
  pub for_us : packet.target_addr ≡ h.interface.addr
  pub full : length h.interface.replies ≡ h.interface.most_replies
  pub learns : new ≡ with_interface h (learnt moment packet h.interface)
