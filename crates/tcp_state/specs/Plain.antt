-- What an open connection hears most of the time: octets that stand next in order, an acknowledgement of octets, or both, and nothing beside them.
use Rattle.std.specs.Prelude.{◌==◌, ◌&&◌, ◌||◌, not, nat_lt, Bool, true, false, length}
use Rattle.tcp_segment.specs.declared.flags.Flags.{Flags}
use Rattle.tcp_segment.specs.Segment.{Segment, blocks_of}
use Rattle.tcp_halves.specs.Stream.{receive_window, is_new_ack}
use Rattle.congestion.specs.Window.{is_recovering}
use Rattle.tcp_state.specs.declared.state.State.{State}
use Rattle.tcp_state.specs.declared.state.State.TheVariants.{Established}
use Rattle.tcp_state.specs.View.{View}
use Rattle.tcp_state.specs.Selective.{selects}

abbrev pub is_established : State → Bool
is_established Established = true
is_established _ = false

-- both sides are open, and so are both windows
abbrev pub is_steady : View → Bool
is_steady v = is_established v.state && not (v.sending.window == 0) && nat_lt 0 (receive_window v.receiving)

-- of the control bits that act, ACK alone
abbrev pub has_ack_alone : Flags → Bool
has_ack_alone flags = flags.ack && not flags.syn && not flags.fin && not flags.rst

-- no octets are reported that are kept ahead of a gap
abbrev pub reports_nothing : View → Segment → Bool
reports_nothing v s = not (selects v) || (length (blocks_of s) == 0)

-- A segment with ACK alone comes at RCV.NXT, and reports nothing.
abbrev pub is_plain : View → Segment → Bool
is_plain v s = is_steady v && has_ack_alone s.flags && (s.number == v.receiving.rnext) && reports_nothing v s

-- Such a segment brings octets, and acknowledges what is acknowledged;
abbrev pub brings_octets : View → Segment → Bool
brings_octets v s = not (length s.octets == 0) && (s.acknowledgement == v.sending.una)

-- or it acknowledges some, whatever it brings, which ends no recovery and answers no probe of the tail.
abbrev pub acknowledges_octets : View → Segment → Bool
acknowledges_octets v s = is_new_ack v.sending s.acknowledgement && not (is_recovering v.congestion) && (v.resend.tail == 0)
