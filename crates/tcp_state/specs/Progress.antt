-- What a connection that waits brings its peer, and what it hears (RFC 9293 sections 3.4, 3.8.1, 3.8.6 and 3.10.7.4).
use Rattle.std.specs.Prelude.{◌≡◌, ℕ, ◌*◌, ◌<◌, ◌≤◌, ◌||◌, Bool, true, false, if◌then◌else◌, [], length, take, Some}
use Rattle.tcp_segment.specs.Segment.{Segment}
use Rattle.tcp_segment.specs.declared.TheConstants.{MSS}
use Rattle.clock.specs.declared.moment.Moment.{Moment}
use Rattle.retransmit.specs.declared.timers.Timers.{Timers}
use Rattle.retransmit.specs.declared.timers.TimerKind.{TimerKind}
use Rattle.retransmit.specs.Deadlines.{deadline_of}
use Rattle.tcp_halves.specs.Stream.{outstanding, receive_window}
use Rattle.tcp_state.specs.View.{View, is_opening, is_syn_received, is_closed, awaits_fin_ack}
use Rattle.tcp_state.specs.Edges.{Event, Hears}

-- no timer that runs lies past this moment
abbrev pub AllCome : Timers → Moment → Type 0
AllCome timers now = (kind : TimerKind) (deadline : Moment) → deadline_of timers kind ≡ Some deadline → deadline.0 ≤ now.0

-- A segment with ACK, and without RST and SYN: what it acknowledges counts, and its octets and its FIN do.
pub record IsOrdinary (s : Segment) : Type 0 where
  pub ack : s.flags.ack ≡ true
  pub no_rst : s.flags.rst ≡ false
  pub no_syn : s.flags.syn ≡ false

-- It begins at SND.UNA, and has the oldest of the octets that are held, one at least and no more than the peer takes. It acknowledges all that came in order, and has a FIN only where one waits to be acknowledged.
pub record BringsOldest (v : View) (s : Segment) : Type 0 where
  pub number : s.number ≡ v.sending.una
  pub some : 0 < length s.octets
  pub size : length s.octets ≤ v.sending.smss
  pub octets : s.octets ≡ take (length s.octets) v.sending.held
  pub acknowledgement : s.acknowledgement ≡ v.receiving.rnext
  pub no_fin : awaits_fin_ack v.state ≡ false → s.flags.fin ≡ false
  pub ordinary : IsOrdinary s

-- an acknowledgement of all that came in order, at SND.NXT, and nothing else
pub record IsAckAlone (v : View) (s : Segment) : Type 0 where
  pub number : s.number ≡ v.sending.nxt
  pub acknowledgement : s.acknowledgement ≡ v.receiving.rnext
  pub octets : s.octets ≡ []
  pub no_fin : s.flags.fin ≡ false
  pub ordinary : IsOrdinary s

-- what is heard by an event has no more octets than a segment may have
abbrev pub IsSized : Event → Type 0
IsSized (Hears s now) = length s.octets ≤ MSS
IsSized _ = Unit {0}

-- the window of two segments; or where one with octets came, and its acknowledgement waits, that of another
abbrev pub least_left : Bool → ℕ
least_left delays = if delays then MSS else 2 * MSS

-- It has room for three segments. Until it speaks it has told its window by a SYN alone: of two segments at least, of which it leaves one, unless it owes an acknowledgement. That it does from the second segment with
-- octets on, and by whatever is not next in order.
pub record LeavesAWindow (v : View) : Type 0 where
  pub size : 3 * MSS ≤ v.receiving.size
  pub opening : is_syn_received v.state ≡ true → v.spoke ≡ false → 0 < outstanding v.sending → 2 * MSS ≤ receive_window v.receiving
  pub past_opening : (is_opening v.state || is_closed v.state) ≡ false → v.spoke ≡ false → v.owes_ack ≡ false → least_left v.delays_ack ≤ receive_window v.receiving
