-- The stream part: what octets taken, sent, acknowledged, arrived and read make of the two halves. Nothing here knows of timers, of how
-- much the peer takes, or of what goes out first; later rules for those leave this page as it is.
use Rattle.std.specs.Prelude.{◌≡◌, ℕ, zero, suc, ◌+◌, ◌-◌, ◌%◌, ◌^◌, ◌<◌, ◌≤◌, ◌==◌, ◌&&◌, ◌||◌, nat_lt, nat_le, Bool, false, if◌then◌else◌, List, [], ◌++◌, length, take, drop, replicate, min, None, Some, slice_index_or}
use Rattle.stream_buf.specs.Receiving.{ReceiveView, joined, after_insert, forgotten}
use Rattle.tcp_segment.specs.declared.TheConstants.{DEFAULT_MSS, SHIFT}
use Rattle.tcp_segment.specs.Wire.{past}
use Rattle.tcp_halves.specs.Numbers.{is_before, later_number}
use Rattle.tcp_halves.specs.declared.buffers.TheConstants.{CAPACITY}
use Rattle.tcp_halves.specs.Halves.{Room, Sending, Receiving}

-- How many octets of a buffer count: all where windows are scaled, and else no more than 16 bits can tell of.
abbrev pub size_in : Bool → ℕ → ℕ
size_in scales capacity = if scales then capacity else min capacity CAPACITY

-- how many octets a unit has of the windows that this stack tells ..
abbrev pub own_unit : Bool → ℕ
own_unit scales = if scales then 2 ^ SHIFT else 1

-- .. and of those of a peer, by the shift that it tells (RFC 7323 section 2.3)
abbrev pub peer_unit : Bool → ℕ → ℕ
peer_unit scales shift = if scales then 2 ^ shift else 1

abbrev pub size_of : Room → ℕ
size_of room = size_in room.manner.scales room.capacity

-- nothing has come, and no window is advertised; so many places are made
abbrev pub receiving_nothing : Room → Receiving
receiving_nothing room = record {
  readable = [];
  kept = replicate room.capacity None;
  rnext = 0;
  edge = 0;
  size = size_of room;
  capacity = room.capacity;
  unit = own_unit room.manner.scales;
}

-- the buffer of the receiving half
abbrev pub buffer_of : Receiving → ReceiveView
buffer_of r = record { readable = r.readable; kept = r.kept; capacity = r.capacity }

-- the octets that are readable and those that the window advertised has room for never pass the size
abbrev pub ReceivingFits : Receiving → Type 0
ReceivingFits r = length r.readable + past r.edge r.rnext ≤ r.size

-- what is kept lies in the window advertised
abbrev pub KeptInWindow : Receiving → Type 0
KeptInWindow r = (distance octet : ℕ) → slice_index_or r.kept distance None ≡ Some octet → distance < past r.edge r.rnext

-- how many octets can still be taken from the caller
abbrev pub send_room : Sending → ℕ
send_room s = s.size - length s.held

-- how many numbers are sent and not acknowledged
abbrev pub outstanding : Sending → ℕ
outstanding s = past s.nxt s.una

-- SND.UNA < SEG.ACK =< SND.NXT
abbrev pub is_new_ack : Sending → ℕ → Bool
is_new_ack s ack = nat_lt 0 (past ack s.una) && nat_le (past ack s.una) (outstanding s)

-- nothing sent yet, the SYN will have the number isn, and so many octets are held at most
abbrev pub sending_from : ℕ → ℕ → Sending
sending_from size isn = record { held = []; una = isn; nxt = isn; window = 0; max_window = 0; wl1 = isn; wl2 = isn; smss = DEFAULT_MSS; size = size; unit = 1; probed = false }

-- The peer's SYN settles whether windows are scaled, and with that how many octets each half holds and the units of the windows.
abbrev pub sending_settled : Sending → Bool → ℕ → Sending
sending_settled s scales shift = record s { size = size_in scales s.size; unit = peer_unit scales shift }

abbrev pub receiving_settled : Receiving → Bool → Receiving
receiving_settled r scales = record r { size = size_in scales r.size; unit = own_unit scales }

-- our SYN is acknowledged, the one number that is outstanding
abbrev pub after_syn_acknowledged : Sending → Sending
after_syn_acknowledged s = record s { una = s.nxt; wl2 = s.nxt; probed = false }

-- Octets are acknowledged, or the FIN behind them: they are held no longer, and come off the window. That ends where the peer last told, also where the window that comes with the acknowledgement isn't believed.
abbrev pub after_acknowledged : Sending → ℕ → Sending
after_acknowledged s ack = record s { held = drop (past ack s.una) s.held; una = ack; window = s.window - past ack s.una; probed = false }

-- so many numbers went out from SND.UNA on: SND.NXT is the later of what it was and the number after them
abbrev pub after_sent : Sending → ℕ → Sending
after_sent s count = let end = (s.una + count) % 2 ^ 32 in record s { nxt = later_number s.una s.nxt end; probed = s.probed && nat_le (past end s.una) (outstanding s) }

-- a window's probe brought them, which took the number SND.NXT where nothing was outstanding
abbrev pub after_probed : Sending → ℕ → Sending
after_probed s count = let sent = after_sent s count in record sent { probed = sent.probed || (outstanding s == 0) }

-- the number before another
abbrev pub number_before : ℕ → ℕ
number_before number = (number + (2 ^ 32 - 1)) % 2 ^ 32

-- The number of a segment that brings nothing: SND.NXT, or the one before it where a probe took that, since the peer's window ends before it if the peer refused it (RFC 9293 sections 3.8.6.1 and 3.10.7.4).
abbrev pub bare_number : Sending → ℕ
bare_number s = if s.probed then number_before s.nxt else s.nxt

-- RCV.WND: what is advertised and not used up
abbrev pub receive_window : Receiving → ℕ
receive_window r = past r.edge r.rnext

-- RCV.NXT =< number < RCV.NXT + RCV.WND
abbrev pub is_in_window : Receiving → ℕ → Bool
is_in_window r number = nat_lt (past number r.rnext) (receive_window r)

-- the number before RCV.NXT
abbrev pub stands_before : Receiving → ℕ → Bool
stands_before r number = past r.rnext number == 1

-- Whether a segment is acceptable, by its number and how many numbers it takes (RFC 9293 section 3.10.7.4, table 6). One that takes none may also stand at the end of the window, where SND.NXT of a peer that filled it is, and
-- one before RCV.NXT, where a peer stands that doesn't know yet that the probe of a closed window was taken, or that asks whether this side is there (section 3.8.4).
abbrev pub is_acceptable : Receiving → ℕ → ℕ → Bool
is_acceptable r number zero = nat_le (past number r.rnext) (receive_window r) || stands_before r number
is_acceptable r number (suc more) = is_in_window r number || is_in_window r ((number + more) % 2 ^ 32)

-- the peer's SYN has this number, and this window was advertised to it
abbrev pub after_syn : Receiving → ℕ → ℕ → Receiving
after_syn r number advertised = let rnext = (number + 1) % 2 ^ 32 in record r { rnext = rnext; edge = (rnext + advertised) % 2 ^ 32 }

-- how far past RCV.NXT the octets of a segment begin that are new: what lies before it is cut
abbrev pub distance_of : Receiving → ℕ → ℕ
distance_of r number = if is_before r.rnext number then past number r.rnext else 0

-- those of a segment's octets that lie in the window: what lies before RCV.NXT and past the edge is cut
abbrev pub octets_within : Receiving → ℕ → List ℕ → List ℕ
octets_within r number octets =
    if is_before r.rnext number then take (receive_window r - past number r.rnext) octets
    else take (receive_window r) (drop (past r.rnext number) octets)

-- the octets that become readable by a segment's: from RCV.NXT on, with all that is kept and follows without a gap
abbrev pub octets_gained : Receiving → ℕ → List ℕ → List ℕ
octets_gained r number octets = joined (buffer_of r) (distance_of r number) (octets_within r number octets)

-- those of a segment's octets that lie in the window come into the buffer, and RCV.NXT moves over what becomes readable
abbrev pub after_octets : Receiving → ℕ → List ℕ → Receiving
after_octets r number octets =
    let buffer = after_insert (buffer_of r) (distance_of r number) (octets_within r number octets) in
    record r { readable = buffer.readable; kept = buffer.kept; rnext = (r.rnext + length (octets_gained r number octets)) % 2 ^ 32 }

-- the number of a FIN stands next in order, and the window advertised has room for it
abbrev pub stands_next : Receiving → ℕ → Bool
stands_next r number = (number == r.rnext) && nat_lt 0 (receive_window r)

-- RCV.NXT moves over the peer's FIN; no octet stands behind it, so nothing is kept any longer
abbrev pub after_end : Receiving → Receiving
after_end r = record r { kept = forgotten r.kept; rnext = (r.rnext + 1) % 2 ^ 32 }

-- the caller read so many octets, and as many more may come
abbrev pub after_read : Receiving → ℕ → Receiving
after_read r count = record r { readable = drop count r.readable; kept = r.kept ++ replicate count None }
