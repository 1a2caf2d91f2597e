-- What two ends of one connection know of one another's windows, over the runs of `stream_law`: each sends what is due first, and what the network does with it is as there.
use Rattle.std.specs.Prelude.{◌≡◌, ℕ, ◌+◌, ◌*◌, ◌<◌, ◌≤◌, ◌^◌, ◌||◌, ◌⊎◌, true, false, ◌∷◌, length, Some}
use Rattle.clock.specs.declared.moment.Moment.{Moment}
use Rattle.ipv4.specs.declared.addr.Endpoint.{Endpoint}
use Rattle.tcp_segment.specs.Wire.{past}
use Rattle.tcp_halves.specs.Halves.{Room, Sending, Receiving}
use Rattle.tcp_halves.specs.Heard.{settled}
use Rattle.tcp_halves.specs.Stream.{receive_window}
use Rattle.tcp_state.specs.declared.emission.Due.{Due}
use Rattle.tcp_state.specs.declared.emission.Due.TheVariants.{Ack}
use Rattle.tcp_state.specs.View.{View, IsSound, is_opening, is_syn_sent, is_closed, opened_actively}
use Rattle.tcp_state.specs.Arrival.{opened_passively, is_read, after_segment, after_segment_at, fate}
use Rattle.tcp_state.specs.Due.{first_due, flags_of, after_emitted}
use Rattle.tcp_state.specs.Said.{segment_of}
use Rattle.stream_law.specs.Channel.{IsAmong}
use Rattle.stream_law.specs.ChannelViews.{IsOfWidth}
use Rattle.stream_law.specs.Pairing.{Absent, Present, Emission, Pairing, apart, from_other, IsTimely, with_connection, remains, Move}

-- How far past SND.UNA of the one end the window of the other reaches: RCV.NXT + RCV.WND there.
abbrev pub edge_from : Sending → Receiving → ℕ
edge_from s r = past r.rnext s.una + receive_window r

-- The one end, v, knows of the window of the other, w, no more than is so.
pub record Agree (limit : ℕ) (p : Pairing) (v w : View) : Type 0 where
  -- both count it in the same units
  pub unit : v.sending.unit ≡ w.receiving.unit
  -- SND.UNA + SND.WND lies at its edge or before it
  pub window : v.sending.window ≤ edge_from v.sending w.receiving
  -- and so does all that went out, but for a number that only a probe took
  pub sent : settled v.sending ≤ edge_from v.sending w.receiving
  -- and SEG.ACK + SEG.WND of each segment past the opening that may still come
  pub told : (e : Emission) → IsAmong e p.received → IsTimely limit p e → e.segment.flags.ack ≡ true → e.segment.flags.syn ≡ false
      → e.segment.window * w.receiving.unit ≤ past w.receiving.rnext e.segment.acknowledgement + receive_window w.receiving

-- past its opening, and not CLOSED
abbrev pub IsOpen : View → Type 0
IsOpen v = (is_opening v.state || is_closed v.state) ≡ false

-- As long as both ends are open, the own one agrees with the other.
abbrev pub IsAgreed : ℕ → Pairing → Type 0
IsAgreed limit p = (v w : View) → p.own.connection ≡ Present v → p.other.connection ≡ Present w → IsOpen v → IsOpen w → Agree limit p v w

-- of both windows nothing changed: octets may have been written or read, by which places are free for others
pub record KeepsWindows (v w : View) : Type 0 where
  pub sending : w.sending ≡ record v.sending { held = w.sending.held }
  pub receiving : w.receiving ≡ record v.receiving { readable = w.receiving.readable; kept = w.receiving.kept }
  pub read : length w.receiving.readable ≤ length v.receiving.readable
  pub scales : w.scales ≡ v.scales
  pub opening : is_opening w.state ≡ is_opening v.state
  pub waiting : is_syn_sent w.state ≡ is_syn_sent v.state

-- nothing goes out, and a connection that is not CLOSED then kept its windows
pub record Rests (p q : Pairing) : Type 0 where
  pub sent : q.sent ≡ p.sent
  pub keeps : (w : View) → q.own.connection ≡ Present w → is_closed w.state ≡ false → (v : View) × (p.own.connection ≡ Present v) × (is_closed v.state ≡ false) × KeepsWindows v w

-- what may happen at one end: a connection is opened by its caller or by a SYN of the other end, what is due first goes out, a segment of the other end comes, or both windows stay
pub data Talk (limit : ℕ) : Pairing → Pairing → Type 0 where
  connects : (p : Pairing) (room : Room) (local peer : Endpoint) (isn : ℕ) (now : Moment) → p.own.connection ≡ Absent → isn < 2 ^ 32 → Talk limit p (with_connection p (opened_actively room local peer isn now))
  accepts : (p : Pairing) (room : Room) (local peer : Endpoint) (isn : ℕ) (e : Emission) (now : Moment) → p.own.connection ≡ Absent → isn < 2 ^ 32 → IsAmong e p.received → IsTimely limit p e → e.segment.flags.syn ≡ true
      → Talk limit p (with_connection p (opened_passively room local peer isn e.segment now))
  sends : (p : Pairing) (v : View) (due : Due) (now : Moment) → p.own.connection ≡ Present v → IsSound v → first_due v ≡ Some due → (let f = flags_of v due in f.rst) ≡ false → IsOfWidth (segment_of v due)
      → Talk limit p (record (with_connection p (after_emitted v due now)) {
        sent = record { segment = segment_of v due; own_written = length p.own.written; other_written = length p.other.written } ∷ p.sent;
      })
  hears : (p : Pairing) (v : View) (e : Emission) → p.own.connection ≡ Present v → IsSound v → IsAmong e p.received → IsTimely limit p e
      → Talk limit p (record p { own = record p.own { connection = remains (fate v e.segment) (after_segment v e.segment) } })
  rests : (p q : Pairing) → Move limit p q → Rests p q → Talk limit p q

-- what two ends may come to
pub data Talks (limit : ℕ) : Pairing → Type 0 where
  begins : Talks limit apart
  here_talks : (p q : Pairing) → Talks limit p → Talk limit p q → Talks limit q
  there_talks : (p q : Pairing) → Talks limit p → Talk limit (from_other p) q → Talks limit (from_other q)

-- over every run, in both directions
abbrev pub EveryTalkAgrees : Type 0
EveryTalkAgrees = (limit : ℕ) → limit ≤ 2 ^ 30 → (p : Pairing) → Talks limit p → IsAgreed limit p × IsAgreed limit (from_other p)

-- An acknowledgement alone of the one end, if it goes out now and comes, is read by the other, which then knows all of it as acknowledged that the one end received.
abbrev pub HearsAcknowledgement : View → View → Type 0
HearsAcknowledgement v w = let s = segment_of v Ack in let x = after_segment w s in (is_read w s ≡ true) × (is_closed x.state ≡ false → x.sending.una ≡ v.receiving.rnext)

-- in every reached state, in both directions
abbrev pub EachAcknowledgementIsHeard : Type 0
EachAcknowledgementIsHeard = (limit : ℕ) → limit ≤ 2 ^ 30 → (p : Pairing) → Talks limit p → (v w : View) → p.own.connection ≡ Present v → p.other.connection ≡ Present w → IsOpen v → IsOpen w → IsSound v → IsSound w
    → HearsAcknowledgement v w × HearsAcknowledgement w v

-- One that comes draws no other, unless what only a probe took is known as taken to the other end alone: then the answer tells it, and no more are drawn.
abbrev pub DrawsNone : View → View → Moment → Type 0
DrawsNone v w now = (after_segment_at w (segment_of v Ack) now).owes_ack ≡ true → (w.owes_ack ≡ true) ⊎ ((v.sending.probed ≡ true) × ((let y = after_segment v (segment_of w Ack) in y.sending.probed) ≡ false))

-- in every reached state, in both directions
abbrev pub AcknowledgementsDrawNone : Type 0
AcknowledgementsDrawNone = (limit : ℕ) → limit ≤ 2 ^ 30 → (p : Pairing) → Talks limit p → (v w : View) → p.own.connection ≡ Present v → p.other.connection ≡ Present w → IsOpen v → IsOpen w → IsSound v → IsSound w → (now : Moment)
    → DrawsNone v w now × DrawsNone w v now
