-- One pair of endpoints: what stands at each end, what the two callers did, and every segment without RST that ever went out between them.
-- The network loses, repeats and reorders: any of them may arrive never, once or often, in any order, and a reset at any moment.
use Rattle.tcp_halves.specs.Halves.{Room}
use Rattle.std.specs.Prelude.{◌≡◌, ℕ, ◌+◌, ◌<◌, ◌≤◌, ◌^◌, Bool, true, false, List, [], ◌∷◌, ◌++◌, length, take, is_some, Ok}
use Rattle.tcp_state.specs.declared.calls.Received.TheVariants.{EndOfStream}
use Rattle.ipv4.specs.declared.addr.Endpoint.{Endpoint}
use Rattle.tcp_segment.specs.Segment.{Segment}
use Rattle.tcp_segment.specs.Sent.{sent_segment}
use Rattle.tcp_state.specs.declared.connection.Fate.{Fate}
use Rattle.tcp_state.specs.declared.connection.Fate.TheVariants.{Stays, Removed, Rejected}
use Rattle.tcp_state.specs.declared.emission.Due.{Due}
use Rattle.clock.specs.declared.moment.Moment.{Moment}
use Rattle.tcp_state.specs.View.{View, IsSound, is_opening, is_write_closed, opened_actively}
use Rattle.tcp_state.specs.Calls.{send_count, after_send, recv_count, recv_answer, after_recv, after_shutdown}
use Rattle.tcp_state.specs.Arrival.{opened_passively, after_segment, fate}
use Rattle.tcp_state.specs.Due.{MayGoOut, flags_of, head_of, octets_of, after_emitted}
use Rattle.stream_law.specs.Channel.{IsAmong}
use Rattle.stream_law.specs.ChannelViews.{IsOfWidth, SameStream, Stops}
use Rattle.stream_law.specs.Begins.{Begins}

-- what stands at one end: nothing yet, a connection, which may be CLOSED, or nothing any more
pub data Presence : Type 0 where
  Absent : Presence
  Present : View → Presence
  Departed : Presence

-- one end: its connection, if it has one, what its caller gave to it and whether it closed its side, and what it gave to its caller
-- and whether it told the end
pub record End : Type 0 where
  pub connection : Presence
  pub written : List ℕ
  pub closed : Bool
  pub read : List ℕ
  pub ended : Bool

-- a segment that went out, and how much was written at its own end and at the other when it did
pub record Emission : Type 0 where
  pub segment : Segment
  pub own_written : ℕ
  pub other_written : ℕ

-- the two ends as one of them sees them, and what each sent
pub record Pairing : Type 0 where
  pub own : End
  pub other : End
  pub sent : List Emission
  pub received : List Emission

-- nothing has happened at either end
abbrev pub nothing_yet : End
nothing_yet = record { connection = Absent; written = []; closed = false; read = []; ended = false }

-- two such ends, between which nothing went out
abbrev pub apart : Pairing
apart = record { own = nothing_yet; other = nothing_yet; sent = []; received = [] }

-- the same, as the other end sees it
abbrev pub from_other : Pairing → Pairing
from_other p = record { own = p.other; other = p.own; sent = p.received; received = p.sent }

-- since it went out, less than the limit was written at either end
pub record IsTimely (limit : ℕ) (p : Pairing) (e : Emission) : Type 0 where
  pub own : length p.own.written < e.other_written + limit
  pub other : length p.other.written < e.own_written + limit

-- its own end has this connection now, and nothing else changed
abbrev pub with_connection : Pairing → View → Pairing
with_connection p v = record p { own = record p.own { connection = Present v } }

-- what is left of a connection
abbrev pub remains : Fate → View → Presence
remains Stays v = Present v
remains Removed v = Departed
remains Rejected v = Present v

-- what may happen at one end
pub data Move (limit : ℕ) : Pairing → Pairing → Type 0 where
  -- its caller opens a connection, with any initial number and in buffers that were made for anything
  connects : (p : Pairing) (room : Room) (local peer : Endpoint) (isn : ℕ) (now : Moment) → p.own.connection ≡ Absent → isn < 2 ^ 32 → Move limit p (with_connection p (opened_actively room local peer isn now))
  -- a SYN of the other end opens one
  accepts : (p : Pairing) (room : Room) (local peer : Endpoint) (isn : ℕ) (e : Emission) (now : Moment) → p.own.connection ≡ Absent → isn < 2 ^ 32 → IsAmong e p.received → IsTimely limit p e → e.segment.flags.syn ≡ true
      → Move limit p (with_connection p (opened_passively room local peer isn e.segment now))
  -- its caller gives octets
  takes : (p : Pairing) (v : View) (octets : List ℕ) (now : Moment) → p.own.connection ≡ Present v → IsSound v → is_some v.pending_error ≡ false → is_opening v.state ≡ false → is_write_closed v.state ≡ false
      → Move limit p (record p { own = record p.own { connection = Present (after_send v octets now); written = p.own.written ++ take (send_count v octets) octets } })
  -- its caller closes its side
  closes : (p : Pairing) (v : View) (now : Moment) → p.own.connection ≡ Present v → IsSound v → is_opening v.state ≡ false
      → Move limit p (record p { own = record p.own { connection = Present (after_shutdown v now); closed = true } })
  -- its caller reads into a buffer of some length
  gives : (p : Pairing) (v : View) (len : ℕ) → p.own.connection ≡ Present v → IsSound v → is_some v.pending_error ≡ false → v.released ≡ false → is_opening v.state ≡ false
      → Move limit p (record p { own = record p.own { connection = Present (after_recv v len); read = p.own.read ++ take (recv_count v len) v.receiving.readable } })
  -- its caller is told the end
  ends : (p : Pairing) (v : View) (len : ℕ) → p.own.connection ≡ Present v → v.released ≡ false → recv_answer v len ≡ Ok EndOfStream → Move limit p (record p { own = record p.own { ended = true } })
  -- the clock moves, or something else happens that changes nothing of the stream
  rests : (p : Pairing) (v w : View) → p.own.connection ≡ Present v → SameStream v w → Move limit p (with_connection p w)
  -- a segment that may go out does, whichever and whenever; none with RST is among those
  emits : (p : Pairing) (v : View) (due : Due) (now : Moment) → p.own.connection ≡ Present v → IsSound v → MayGoOut v due
      → (let f = flags_of v due in f.rst) ≡ false → IsOfWidth (sent_segment (head_of v due) (octets_of v due))
      → Move limit p (record (with_connection p (after_emitted v due now)) {
        sent = record { segment = sent_segment (head_of v due) (octets_of v due); own_written = length p.own.written; other_written = length p.other.written } ∷ p.sent;
      })
  -- a segment that the other end ever sent arrives
  hears : (p : Pairing) (v : View) (e : Emission) → p.own.connection ≡ Present v → IsSound v → IsAmong e p.received → IsTimely limit p e
      → Move limit p (record p { own = record p.own { connection = remains (fate v e.segment) (after_segment v e.segment) } })
  -- a reset arrives, whoever sent it and whatever its numbers
  resets : (p : Pairing) (v : View) (s : Segment) → p.own.connection ≡ Present v → s.flags.rst ≡ true
      → Move limit p (record p { own = record p.own { connection = remains (fate v s) (after_segment v s) } })
  -- the connection is over, by the clock, by its caller's abort or by an error that its SYN can't be delivered
  stops : (p : Pairing) (v w : View) (closed : Bool) → p.own.connection ≡ Present v → Stops v w → (p.own.closed ≡ true → closed ≡ true)
      → Move limit p (record p { own = record p.own { connection = Present w; closed = closed } })
  -- it leaves its host's table
  leaves : (p : Pairing) (v : View) (closed : Bool) → p.own.connection ≡ Present v → (p.own.closed ≡ true → closed ≡ true)
      → Move limit p (record p { own = record p.own { connection = Departed; closed = closed } })

-- what two ends may come to: one move after another, at either end
pub data Meets (limit : ℕ) : Pairing → Type 0 where
  begins : Meets limit apart
  here_moves : (p q : Pairing) → Meets limit p → Move limit p q → Meets limit q
  there_moves : (p q : Pairing) → Meets limit p → Move limit (from_other p) q → Meets limit (from_other q)

-- what a reader got of a writer: what was read begins what was written, and the end was told only where the writer closed its side and all
-- that it wrote was read
pub record IsStream (reader writer : End) : Type 0 where
  pub begins : Begins reader.read writer.written
  pub end : reader.ended ≡ true → (writer.closed ≡ true) × (reader.read ≡ writer.written)

-- over every run, in both directions
abbrev pub EveryPairingIsLawful : Type 0
EveryPairingIsLawful = (limit : ℕ) → limit ≤ 2 ^ 30 → (p : Pairing) → Meets limit p → IsStream p.own p.other × IsStream p.other p.own
