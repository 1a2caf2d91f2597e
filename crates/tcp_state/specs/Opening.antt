-- The opening of a connection by one end to another that listens, once each has the other's segment (RFC 9293 section 3.5, figure 6).
use Rattle.std.specs.Prelude.{◌≡◌, ℕ, ◌⊎◌, true, Some}
use Rattle.clock.specs.declared.moment.Moment.{Moment}
use Rattle.tcp_segment.specs.Segment.{Segment, scale_option_of}
use Rattle.tcp_segment.specs.Wire.{wire}
use Rattle.tcp_state.specs.declared.state.State.TheVariants.{SynReceived, Established}
use Rattle.tcp_state.specs.View.{View}
use Rattle.tcp_state.specs.Edges.{Event, Hears, after_event}
use Rattle.tcp_state.specs.Counted.{BringsSyn}

-- a SYN has the window scale option (RFC 7323 section 2.2)
abbrev pub TellsShift : Segment → Type 0
TellsShift syn = (shift : ℕ) × (scale_option_of syn ≡ Some shift)

-- a segment leads out of SYN-SENT, and not to CLOSED: it is the peer's SYN, with an acknowledgement of ours or without
abbrev pub TakesSyn : View → Segment → Moment → Type 0
TakesSyn v s now = let w = after_event v (Hears s now) in (w.state ≡ SynReceived) ⊎ (w.state ≡ Established)

-- an event is such a SYN, which comes in SYN-SENT
abbrev pub HearsSyn : View → Event → Type 0
HearsSyn v e = (s : Segment) × (now : Moment) × (e ≡ Hears s now) × BringsSyn v s × TakesSyn v s now

-- A SYN-ACK opened it: our SYN is acknowledged, the number behind the peer's SYN comes next, the peer's window is known, and an acknowledgement is owed.
pub record OpenedBy (s : Segment) (before after : View) : Type 0 where
  pub state : after.state ≡ Established
  pub una : after.sending.una ≡ before.sending.nxt
  pub nxt : after.sending.nxt ≡ before.sending.nxt
  pub expects : after.receiving.rnext ≡ wire s.number 1
  pub window : after.sending.window ≡ s.window
  pub owes : after.owes_ack ≡ true

-- The acknowledgement of our SYN-ACK opened it: what comes next is what came next.
pub record Confirmed (before after : View) : Type 0 where
  pub state : after.state ≡ Established
  pub una : after.sending.una ≡ before.sending.nxt
  pub nxt : after.sending.nxt ≡ before.sending.nxt
  pub receiving : after.receiving ≡ before.receiving
