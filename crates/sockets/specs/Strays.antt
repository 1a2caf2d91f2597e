-- What the numbers of a reset are that answers a segment (RFC 9293 section 3.5.2).
use Rattle.std.specs.Prelude.{◌≡◌, ℕ, Bool, true, false}
use Rattle.tcp_segment.specs.declared.head.Head.{Head}
use Rattle.tcp_segment.specs.Segment.{Segment}

-- a reset goes back between the ports that the segment came between, with this number, and acknowledges this one where it acknowledges
pub record IsResetOf (s : Segment) (sequence next : ℕ) (acknowledges : Bool) (head : Head) : Type 0 where
  pub source : head.source ≡ s.destination
  pub destination : head.destination ≡ s.source
  pub number : head.number.0 ≡ sequence
  pub acknowledgement : head.acknowledgement.0 ≡ next
  pub rst : head.flags.rst ≡ true
  pub ack : head.flags.ack ≡ acknowledges
  pub syn : head.flags.syn ≡ false
  pub fin : head.flags.fin ≡ false
  pub window : head.window ≡ 0
