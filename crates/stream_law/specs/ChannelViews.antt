-- What a connection shows of the two channels that it is an end of: it sends into one and receives from the other.
use Rattle.std.specs.Prelude.{◌≡◌, ℕ, ◌<◌, ◌^◌, ◌&&◌, ◌||◌, Bool, true, false, not, if◌then◌else◌, List, length, Option, None, slice_index_or, is_some}
use Rattle.tcp_segment.specs.Segment.{Segment}
use Rattle.tcp_halves.specs.Halves.{Receiving as ReceivingHalf}
use Rattle.tcp_state.specs.View.{View, is_opening, is_syn_sent, is_closed, is_write_finished, is_write_closed, is_read_closed}
use Rattle.stream_law.specs.Channel.{Frame, Ack, Sender, Receiver, Sending, Open, Receiving, Waiting, Synchronised, Channel, IsAmong, IsRecent}
use Rattle.stream_law.specs.ChannelSteps.{Step}

-- any number of steps
pub data Leads (cap limit : ℕ) : Channel → Channel → Type 0 where
  stays : (c : Channel) → Leads cap limit c c
  goes : (c d e : Channel) → Step cap limit c d → Leads cap limit d e → Leads cap limit c e

-- the sending half: the SYN is acknowledged where the connection is past its opening, and the FIN as its state says
abbrev pub sender_of : View → Sender
sender_of v = record {
  held = v.sending.held;
  una = v.sending.una;
  nxt = v.sending.nxt;
  syn_acked = not (is_opening v.state);
  fin_acked = is_write_finished v.state;
}

-- what is kept at a distance past RCV.NXT
abbrev pub kept_at : List (Option ℕ) → ℕ → Option ℕ
kept_at places distance = slice_index_or places distance None

abbrev pub receiver_of : ReceivingHalf → Receiver
receiver_of r = record { rnext = r.rnext; kept = kept_at r.kept }

-- the receiving half: it waits for the peer's SYN in SYN-SENT alone
abbrev pub receiving_of : View → Receiving
receiving_of v = if is_syn_sent v.state then Waiting else Synchronised (receiver_of v.receiving)

-- the connection is the sending end of this channel
pub record SendsInto (v : View) (c : Channel) : Type 0 where
  pub sending : c.sending ≡ Open (sender_of v)
  pub closed : c.closed ≡ is_write_closed v.state

-- the connection is the receiving end of this channel
pub record ReceivesFrom (v : View) (c : Channel) : Type 0 where
  pub receiving : c.receiving ≡ receiving_of v
  pub readable : c.readable ≡ v.receiving.readable
  pub end_seen : c.end_seen ≡ is_read_closed v.state

-- of the stream nothing changed: timers, windows and what is owed may have
pub record SameStream (v w : View) : Type 0 where
  pub state : w.state ≡ v.state
  pub held : w.sending.held ≡ v.sending.held
  pub una : w.sending.una ≡ v.sending.una
  pub nxt : w.sending.nxt ≡ v.sending.nxt
  pub readable : w.receiving.readable ≡ v.receiving.readable
  pub kept : w.receiving.kept ≡ v.receiving.kept
  pub rnext : w.receiving.rnext ≡ v.receiving.rnext
  pub pending_error : w.pending_error ≡ v.pending_error
  pub released : w.released ≡ false → v.released ≡ false

-- whether a caller is still given what is readable, and then the end: not where a connection that is CLOSED tells an error, or has
-- no caller any more
abbrev pub reports : View → Bool
reports v = not (is_closed v.state && (is_some v.pending_error || v.released))

-- it became CLOSED; a caller that is still told something is told what it would have been before, and the end was seen
pub record Stops (v w : View) : Type 0 where
  pub closed : is_closed w.state ≡ true
  pub telling : reports w ≡ true → (reports v ≡ true) × (w.receiving.readable ≡ v.receiving.readable) × (is_read_closed v.state ≡ true)

-- a segment as a frame of its direction, and as an acknowledgement of the other
abbrev pub frame_of : Segment → ℕ → Frame
frame_of s written_at = record { number = s.number; octets = s.octets; syn = s.flags.syn; fin = s.flags.fin; written_at = written_at }

abbrev pub ack_of : Segment → ℕ → Ack
ack_of s written_at = record { number = s.acknowledgement; written_at = written_at }

-- what became of the two channels of a connection that is now seen so: any number of steps of each, which changed
-- only what the connection is the end of
pub record Follows (cap limit : ℕ) (v : View) (c d : Channel) : Type 0 where
  pub into : Sending
  pub readable : List ℕ
  pub end_seen : Bool
  pub from : Receiving
  pub leads_into : Leads cap limit c (record c { sending = into })
  pub leads_from : Leads cap limit d (record d { readable = readable; end_seen = end_seen; receiving = from })
  pub sends : SendsInto v (record c { sending = into })
  pub receives : ReceivesFrom v (record d { readable = readable; end_seen = end_seen; receiving = from })

-- the fields of a segment that was parsed are of their width
pub record IsOfWidth (s : Segment) : Type 0 where
  pub number : s.number < 2 ^ 32
  pub acknowledgement : s.acknowledgement < 2 ^ 32
  pub octets : length s.octets < 2 ^ 16

-- the network has this segment as a frame of one channel and as an acknowledgement of the other, both recent
pub record CameFrom (limit : ℕ) (s : Segment) (c d : Channel) : Type 0 where
  pub sent_at : ℕ
  pub acked_at : ℕ
  pub frame : IsAmong (frame_of s sent_at) d.frames
  pub frame_recent : IsRecent limit d.written sent_at
  pub ack : s.flags.ack ≡ true → IsAmong (ack_of s acked_at) c.acks
  pub ack_recent : IsRecent limit c.written acked_at
