-- A segment that opens no connection.
use Rattle.std.proofs.Common.{◌≡◌, false, find, Option, Some, None, refl}
use Rattle.ipv4.specs.declared.addr.Addr.{Addr}
use Rattle.tcp_segment.specs.Segment.{Segment}
use Rattle.sockets.specs.declared.entry.Entry.{Entry}
use Rattle.sockets.specs.Arrival.{local_end, peer_end, pair_opened}
use Rattle.sockets.specs.Entries.{is_between}
use Rattle.sockets.specs.SocketsView.{SocketsView}

-- it is opened by a SYN alone
pub opens_by_syn : (h : SocketsView) (source : Addr) (s : Segment) → s.flags.syn ≡ false → pair_opened h source s ≡ None
opens_by_syn h source s none = by_holder (find (is_between (local_end h s) (peer_end source s)) h.entries) refl
  where
    by_holder : (holder : Option Entry) → find (is_between (local_end h s) (peer_end source s)) h.entries ≡ holder → pair_opened h source s ≡ None
    by_holder (Some e) found = rw found
    by_holder None found = rw (found, none)
