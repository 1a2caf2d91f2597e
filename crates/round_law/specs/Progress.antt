-- What two hosts are asked for so that an exchange moves data, and what is promised of it.
use Rattle.std.specs.Prelude.{◌≡◌, ◌⊎◌, ℕ, ◌+◌, ◌^◌, ◌<◌, ◌≤◌, true, false, [], length, find, None, Some}
use Rattle.std.specs.List.{AllByRecursion}
use Rattle.clock.specs.declared.moment.Moment.{Moment}
use Rattle.ether.specs.declared.mac.Mac.{Mac}
use Rattle.ipv4.specs.declared.addr.Addr.{Addr}
use Rattle.tcp_segment.specs.Wire.{wire, past}
use Rattle.arp.specs.declared.entry.Neighbour.{Neighbour}
use Rattle.arp.specs.Cache.{is_pair_of}
use Rattle.interface.specs.InterfaceView.{InterfaceView}
use Rattle.interface.specs.Routing.{next_hop}
use Rattle.interface.specs.Ways.{hop_mac}
use Rattle.reassembly.specs.declared.expired.Expired.{Expired}
use Rattle.reassembly.specs.Places.{expired}
use Rattle.tcp_halves.specs.Halves.{Sending, Receiving}
use Rattle.tcp_halves.specs.Heard.{settled}
use Rattle.tcp_halves.specs.Stream.{outstanding, receive_window}
use Rattle.tcp_state.specs.declared.state.State.TheVariants.{Established, FinWait2, CloseWait}
use Rattle.tcp_state.specs.View.{View, is_closed}
use Rattle.tcp_state.specs.Alive.{IsPatient}
use Rattle.tcp_state.specs.Progress.{AllCome}
use Rattle.sockets.specs.declared.entry.SocketId.{SocketId}
use Rattle.sockets.specs.declared.entry.Entry.{Entry}
use Rattle.sockets.specs.declared.role.Role.TheVariants.{Connected}
use Rattle.sockets.specs.Entries.{in_connection}
use Rattle.sockets.specs.SocketsView.{role_of}
use Rattle.host.specs.HostView.{HostView}
use Rattle.host.specs.Heard.{shuts_out}
use Rattle.host.specs.Places.{places}
use Rattle.round_law.specs.Alone.{IsKept}
use Rattle.round_law.specs.Exchange.{Hosts, minute_past}

-- The socket of this id has this connection, which is not CLOSED, and every other one of the host is; and nothing is due. A minute later all its timers have come that run, the host still knows this MAC as that of the way to the peer, and what
-- reassemblies end then came from there. Its guards, where it has them, let the peer's address in, no segment that isn't used drew an acknowledgement past the kept moment, and the clock is far from its end.
pub record IsQuiet (h : HostView) (id : SocketId) (c : View) (mac : Mac) : Type 0 where
  pub kept : IsKept h
  pub socket : role_of h.sockets id ≡ Some (Connected c None)
  pub lives : is_closed c.state ≡ false
  pub others : AllByRecursion (λ (e : Entry). (e.id ≡ id) ⊎ (in_connection true (λ d. is_closed d.state) e.role ≡ true)) h.sockets.entries
  pub nothing : places h ≡ []
  pub come : AllCome c.timers (minute_past h.sockets.kept)
  pub way : hop_mac h.interface (minute_past h.sockets.kept) c.peer.addr ≡ Some mac
  pub reports : AllByRecursion (λ (x : Expired). x.key.source ≡ c.peer.addr) (expired (minute_past h.sockets.kept) h.pool)
  pub lets : shuts_out h c.peer.addr ≡ false
  pub drawn : c.guard.latest.0 ≤ h.sockets.kept.0
  pub early : h.sockets.kept.0 < 2 ^ 63

-- The next hop to an address is a neighbour with this MAC, that was heard less than 1,100,000 milliseconds before a moment.
pub record IsHeardLately (i : InterfaceView) (now : Moment) (to : Addr) (mac : Mac) : Type 0 where
  pub hop : Addr
  pub leads : next_hop i.routes to ≡ Some hop
  pub pair : Neighbour
  pub known : find (is_pair_of hop) i.cache.pairs ≡ Some pair
  pub its_mac : pair.mac ≡ mac
  pub lately : now.0 < pair.heard.0 + 1100000

-- Where two connections stand in the stream from the one to the other, by positions from an initial number on: RCV.NXT of the reader lies from SND.UNA of the writer on, and not past its SND.NXT. Of the other stream all that was sent
-- came, and none of its octets waits to be acknowledged.
pub record Meet (v d : View) : Type 0 where
  pub initial : ℕ
  pub una : ℕ
  pub next : ℕ
  pub una_number : v.sending.una ≡ wire initial una
  pub next_number : d.receiving.rnext ≡ wire initial next
  pub behind : una ≤ next
  pub sent : next ≤ una + outstanding v.sending
  pub held : d.sending.held ≡ []
  pub answered : v.receiving.rnext ≡ d.sending.nxt

-- What the one half may send fits the window of the other: SND.UNA + SND.WND, and all that went out but for a number that only a probe of a closed window took, lie at RCV.NXT + RCV.WND there or before it.
pub record Fits (s : Sending) (r : Receiving) : Type 0 where
  pub window : s.window ≤ past r.rnext s.una + receive_window r
  pub sent : settled s ≤ past r.rnext s.una + receive_window r

-- What is asked of two hosts and of the connections of two of their sockets, the writer's and the reader's: their hosts are quiet but for them, and they are each other's ends. The one sends, the other receives, they meet in both streams, and what the
-- one may send fits the other's window. The writer's timers expired under 12 times since the last progress, and where one asks a silent peer whether it is there, it did so under 12 times since that last said something. There are octets to be read; or
-- some are held yet, and the window that the reader told isn't closed.
pub record MayMove (p : Hosts) (writer_id reader_id : SocketId) (v d : View) : Type 0 where
  pub writer : IsQuiet p.writer writer_id v p.reader.interface.mac
  pub reader : IsQuiet p.reader reader_id d p.writer.interface.mac
  pub local : v.local ≡ d.peer
  pub peer : v.peer ≡ d.local
  pub sends : (v.state ≡ Established) ⊎ (v.state ≡ CloseWait)
  pub receives : (d.state ≡ Established) ⊎ (d.state ≡ FinWait2)
  pub meet : Meet v d
  pub fits : Fits v.sending d.receiving
  pub few : v.resend.expiries < 12
  pub patient : IsPatient v × IsPatient d
  pub some : (0 < length d.receiving.readable) ⊎ ((0 < length v.sending.held) × (0 < receive_window d.receiving))

-- What is promised: both sockets have their connections yet, in the states in which they were, so neither is CLOSED; and there are octets to be read, or fewer are held than before.
pub record HasMoved (p : Hosts) (writer_id reader_id : SocketId) (v d : View) : Type 0 where
  pub written : View
  pub read : View
  pub writer : role_of p.writer.sockets writer_id ≡ Some (Connected written None)
  pub reader : role_of p.reader.sockets reader_id ≡ Some (Connected read None)
  pub states : (written.state ≡ v.state) × (read.state ≡ d.state)
  pub moved : (0 < length read.receiving.readable) ⊎ (length written.sending.held < length v.sending.held)
