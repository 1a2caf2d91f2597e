-- Where room is wanting to what would open at a host on its guard.
use Rattle.std.specs.Prelude.{◌≡◌, ◌≢◌, ◌+◌, ◌^◌, true, find, None, Some}
use Rattle.ipv4.specs.declared.addr.Addr.{Addr}
use Rattle.tcp_segment.specs.Segment.{Segment}
use Rattle.sockets.specs.declared.entry.Entry.{Entry}
use Rattle.sockets.specs.Arrival.{is_opening, local_end, peer_end}
use Rattle.sockets.specs.Entries.{is_between, is_listening_at}
use Rattle.sockets.specs.SocketsView.{SocketsView}

-- it is on its guard, and an id is left for another entry
pub record IsOnGuard (h : SocketsView) : Type 0 where
  pub guards : h.manner.guards ≡ true
  pub ids : h.last_id + 1 ≢ 2 ^ 64

-- A SYN comes for this listener, and no entry of the table is between its ends.
pub record ComesTo (h : SocketsView) (source : Addr) (s : Segment) (listener : Entry) : Type 0 where
  pub opens : is_opening s.flags ≡ true
  pub listens : find (is_listening_at s.destination) h.entries ≡ Some listener
  pub between : find (is_between (local_end h s) (peer_end source s)) h.entries ≡ None
