-- Two ends of a connection whose segments cross on the way, as those of two that open to each other at the same time (RFC 9293 section 3.5, figure 7).
use Rattle.std.specs.Prelude.{◌≡◌, ℕ, ◌+◌, ◌<◌, ◌≤◌, ◌⊎◌, Bool, true, Option, Some, None, option_map}
use Rattle.clock.specs.declared.moment.Moment.{Moment}
use Rattle.tcp_segment.specs.declared.TheConstants.{MSS}
use Rattle.tcp_segment.specs.Segment.{Segment}
use Rattle.tcp_segment.specs.Sent.{sent_segment}
use Rattle.tcp_segment.specs.Wire.{wire}
use Rattle.tcp_halves.specs.declared.buffers.TheConstants.{CAPACITY, LARGEST_CAPACITY}
use Rattle.tcp_halves.specs.Halves.{Room}
use Rattle.tcp_halves.specs.Stream.{size_in, receive_window}
use Rattle.tcp_halves.specs.Windows.{whole_units}
use Rattle.tcp_state.specs.declared.emission.Due.TheVariants.{Syn}
use Rattle.tcp_state.specs.declared.state.State.TheVariants.{SynReceived, Established}
use Rattle.tcp_state.specs.View.{View}
use Rattle.tcp_state.specs.Due.{first_due, flags_of, number_of, head_of, octets_of}
use Rattle.tcp_state.specs.Edges.{Hears, Emits, after_event}

-- the segment that is due first, as the other end reads it
abbrev pub first_segment : View → Option Segment
first_segment v = option_map (λ due. sent_segment (head_of v due) (octets_of v due)) (first_due v)

abbrev pub after_coming : View → Option Segment → Moment → View
after_coming v None now = v
after_coming v (Some s) now = after_event v (Hears s now)

-- two ends
pub record Ends : Type 0 where
  pub one : View
  pub other : View

-- what is due first at each end goes out, and then comes to the other
abbrev pub crossed : Ends → Moment → Ends
crossed ends now = record {
  one = after_coming (after_event ends.one (Emits now)) (first_segment ends.other) now;
  other = after_coming (after_event ends.other (Emits now)) (first_segment ends.one) now;
}

-- Both SYNs are known, and ours is not acknowledged: it goes out, once more where it had gone out, with the number that it has, and acknowledges the other's.
pub record AnswersSyn (isn other : ℕ) (v : View) : Type 0 where
  pub state : v.state ≡ SynReceived
  pub due : first_due v ≡ Some Syn
  pub syn : (let f = flags_of v Syn in f.syn) ≡ true
  pub ack : (let f = flags_of v Syn in f.ack) ≡ true
  pub number : number_of v Syn ≡ isn
  pub expects : v.receiving.rnext ≡ wire other 1
  pub then_sent : (now : Moment) → (after_event v (Emits now)).sending.nxt ≡ wire isn 1

-- buffers can be made for it: of the octets of a segment each at least, and of a mebibyte at most
pub record CanBeMade (room : Room) : Type 0 where
  pub least : MSS ≤ room.capacity
  pub most : room.capacity ≤ LARGEST_CAPACITY

-- The connection is open, with buffers that were made for so many octets: our SYN is acknowledged, the number behind the other's comes next, and nothing is due. Windows are scaled or not as both ends
-- say, which settles how many octets each half holds (RFC 7323 section 2.2). Fewer of them than a segment has are untold, and none of a mebibyte, or of as many as 16 bits can tell.
pub record HasOpened (both : Bool) (capacity isn other : ℕ) (v : View) : Type 0 where
  pub state : v.state ≡ Established
  pub una : v.sending.una ≡ wire isn 1
  pub nxt : v.sending.nxt ≡ wire isn 1
  pub expects : v.receiving.rnext ≡ wire other 1
  pub due : first_due v ≡ None
  pub scales : v.scales ≡ both
  pub sends : v.sending.size ≡ size_in both capacity
  pub takes : v.receiving.size ≡ size_in both capacity
  pub told : v.receiving.size < receive_window v.receiving + MSS
  pub whole : (v.receiving.size ≡ CAPACITY) ⊎ (v.receiving.size ≡ LARGEST_CAPACITY) → receive_window v.receiving ≡ v.receiving.size

-- an end knows the window that the other told, as far as units fill it (RFC 7323 section 2.3)
pub record KnowsWindow (v other : View) : Type 0 where
  pub unit : v.sending.unit ≡ other.receiving.unit
  pub window : v.sending.window ≡ whole_units v.sending.unit (receive_window other.receiving)
