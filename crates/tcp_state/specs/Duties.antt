-- What a segment or a call asks of a connection, by its flags, by the states, and by positions in the two streams (RFC 9293 sections 3.4, 3.8 and 3.10.7.4), for laws that don't go by the steps of its arrival.
use Rattle.std.specs.Prelude.{◌≡◌, ◌≢◌, ℕ, ◌+◌, ◌<◌, ◌≤◌, ◌^◌, ◌==◌, ◌&&◌, ◌||◌, not, nat_lt, nat_le, Bool, true, false, List, ◌++◌, length, drop, slice_index_or, None, Err}
use Rattle.stream_buf.specs.Receiving.{ranges}
use Rattle.tcp_segment.specs.Segment.{Segment, span_of}
use Rattle.tcp_segment.specs.Wire.{wire}
use Rattle.tcp_halves.specs.Stream.{outstanding}
use Rattle.tcp_state.specs.declared.state.State.{State}
use Rattle.tcp_state.specs.declared.state.State.TheVariants.{SynReceived, Established, FinWait1, FinWait2, CloseWait, Closing, LastAck, TimeWait, Closed}
use Rattle.tcp_state.specs.declared.calls.Refusal.TheVariants.{EPIPE}
use Rattle.tcp_state.specs.View.{View, is_opening, is_syn_received, is_write_closed}
use Rattle.tcp_state.specs.Calls.{send_answer}
use Rattle.tcp_state.specs.Arrival.{is_acceptable_to}
use Rattle.tcp_state.specs.Positions.{ReceivesAt, IsNear}

-- its acknowledgement field is looked at: it is acceptable, and has ACK, but neither RST nor SYN (section 3.10.7.4, first to fifth)
abbrev pub acknowledges : View → Segment → Bool
acknowledges v s = not s.flags.rst && is_acceptable_to v s && not s.flags.syn && s.flags.ack

-- it names none of the numbers that are outstanding, from that position of SND.UNA on
abbrev pub NamesNone : ℕ → ℕ → View → Segment → Type 0
NamesNone own una v s = (ack : ℕ) → una < ack → ack ≤ una + outstanding v.sending → s.acknowledgement ≢ wire own ack

-- SND.UNA has this number, these octets are held from there on, and SND.NXT stays
pub record HoldsFrom (number : ℕ) (octets : List ℕ) (before after : View) : Type 0 where
  pub una : after.sending.una ≡ number
  pub held : after.sending.held ≡ octets
  pub nxt : after.sending.nxt ≡ before.sending.nxt

-- Positions in our stream, that of SND.UNA and that of the acknowledgement of a segment, and in the peer's, those of RCV.NXT, of the end of the window advertised and of the first number of the segment: in each from an
-- initial number on.
pub record Places : Type 0 where
  pub own : ℕ
  pub una : ℕ
  pub ack : ℕ
  pub peer : ℕ
  pub next : ℕ
  pub edge : ℕ
  pub first : ℕ

-- a connection and a segment stand there, less than 2^31 apart, so that the numbers tell the order; without ACK the acknowledgement stands nowhere
pub record StandsAt (at : Places) (v : View) (s : Segment) : Type 0 where
  pub una_number : v.sending.una ≡ wire at.own at.una
  pub ack_number : s.flags.ack ≡ true → s.acknowledgement ≡ wire at.own at.ack
  pub ack_behind : s.flags.ack ≡ true → at.una + outstanding v.sending < at.ack + 2 ^ 31
  pub ack_ahead : s.flags.ack ≡ true → at.ack < at.una + 2 ^ 31
  pub receives : ReceivesAt at.peer at.next at.edge v.receiving
  pub first_number : s.number ≡ wire at.peer at.first
  pub first_near : IsNear at.next at.first (length s.octets)

-- What draws an acknowledgement (sections 3.8.6.3 and 3.10.7.4, RFC 1122 section 4.2.3.2).

-- what is not acceptable, and no reset (first)
abbrev pub is_unacceptable : View → Segment → Bool
is_unacceptable v s = not s.flags.rst && not (is_acceptable_to v s)

-- a reset in the window behind RCV.NXT (second)
abbrev pub is_challenged : Places → Segment → Bool
is_challenged at s = s.flags.rst && nat_lt at.next at.first && nat_lt at.first at.edge

-- an acceptable SYN, unless it ends what a listener opened and is not established (fourth)
abbrev pub is_another_syn : View → Segment → Bool
is_another_syn v s = not s.flags.rst && is_acceptable_to v s && s.flags.syn && not (v.passive && is_syn_received v.state)

-- past the opening, it takes no number, and stands one before RCV.NXT (section 3.8.4)
abbrev pub is_asking : Places → View → Segment → Bool
is_asking at v s = not s.flags.rst && not (is_opening v.state) && (span_of s == 0) && (at.first + 1 == at.next)

-- on guard, further behind SND.UNA than the largest window that the peer ever told is wide (RFC 5961 section 5.2)
abbrev pub is_aged : Places → View → Bool
is_aged at v = v.guard.on && nat_lt (at.ack + v.sending.max_window) at.una

-- of what was not sent, or too old; or of neither
abbrev pub is_out_of_reach : Places → View → Bool
is_out_of_reach at v = nat_lt (at.una + outstanding v.sending) at.ack || is_aged at v

abbrev pub is_in_reach : Places → View → Bool
is_in_reach at v = nat_le at.ack (at.una + outstanding v.sending) && not (is_aged at v)

-- an acknowledgement out of reach, once the connection is open (fifth)
abbrev pub is_astray : Places → View → Segment → Bool
is_astray at v s = acknowledges v s && not (is_opening v.state) && is_out_of_reach at v

-- the rest of a segment is used: its acknowledgement is in reach, and in SYN-RECEIVED of our SYN
abbrev pub is_used : Places → View → Segment → Bool
is_used at v s = acknowledges v s && is_in_reach at v && (not (is_syn_received v.state) || nat_lt at.una at.ack)

-- the states in which octets and a FIN may come: the peer's side is not closed, as far as we know, or the acknowledgement of our SYN brings them
abbrev pub may_bring : State → Bool
may_bring SynReceived = true
may_bring Established = true
may_bring FinWait1 = true
may_bring FinWait2 = true
may_bring _ = false

-- its octets and its FIN are looked at (seventh and eighth)
abbrev pub brings_text : Places → View → Segment → Bool
brings_text at v s = is_used at v s && may_bring v.state

-- octets that don't stand next, or come while some are kept ahead of a gap, or are those of the second segment: their acknowledgement may not wait
abbrev pub hurries : Places → View → Segment → Bool
hurries at v s = not (length s.octets == 0) && (not (at.first == at.next) || not (ranges v.receiving.kept == 0) || v.delays_ack)

-- all that draws one at once
abbrev pub draws : Places → View → Segment → Bool
draws at v s =
    is_unacceptable v s || is_challenged at s || is_another_syn v s || is_astray at v s
    || (brings_text at v s && (s.flags.fin || hurries at v s))
    || is_asking at v s

-- What comes after the caller closed a connection (section 3.6.1).

-- our side is closed, and the peer's is not, as far as we know
abbrev pub is_fin_wait : State → Bool
is_fin_wait FinWait1 = true
is_fin_wait FinWait2 = true
is_fin_wait _ = false

-- one of its octets stands at RCV.NXT or past it
abbrev pub brings_new : Places → Segment → Bool
brings_new at s = not (length s.octets == 0) && nat_lt at.next (at.first + length s.octets)

-- the caller left the connection, and the segment brings octets that nobody will read
abbrev pub comes_too_late : Places → View → Segment → Bool
comes_too_late at v s = v.released && is_fin_wait v.state && is_used at v s && brings_new at s

-- The diagram of states (figure 5), where a segment is used.

-- the acknowledgement is past our FIN, which stands behind the last octet that is held
abbrev pub acknowledges_end : Places → View → Bool
acknowledges_end at v = nat_lt (at.una + length v.sending.held) at.ack

-- with so many octets come in order, the peer's FIN stands next, and the window has room for it
abbrev pub ends_stream : Places → View → Segment → ℕ → Bool
ends_stream at v s count = s.flags.fin && may_bring v.state && (at.first + length s.octets == at.next + count) && nat_lt (at.next + count) at.edge

-- the state by whether our FIN is acknowledged, and by whether the peer's counts
abbrev pub state_beyond : State → Bool → Bool → State
state_beyond SynReceived ours false = Established
state_beyond SynReceived ours true = CloseWait
state_beyond Established ours true = CloseWait
state_beyond FinWait1 true false = FinWait2
state_beyond FinWait1 false true = Closing
state_beyond FinWait1 true true = TimeWait
state_beyond FinWait2 ours true = TimeWait
state_beyond Closing true theirs = TimeWait
state_beyond LastAck true theirs = Closed
state_beyond state ours theirs = state

-- Our side is closed (section 3.10.4): a FIN is to follow what is held, which stays, as does all of the peer's stream, and octets are taken no longer. Closed again, it stays so.
pub record IsShut (before after : View) : Type 0 where
  pub first : before.state ≡ Established → after.state ≡ FinWait1
  pub last : before.state ≡ CloseWait → after.state ≡ LastAck
  pub again : is_write_closed before.state ≡ true → after.state ≡ before.state
  pub sending : after.sending ≡ before.sending
  pub receiving : after.receiving ≡ before.receiving
  pub refuses : (octets : List ℕ) → send_answer after octets ≡ Err EPIPE

-- A call moved octets between its caller and one of the halves, and nothing else of the two.

-- these octets were taken, behind those that were held
pub record TakesBehind (octets : List ℕ) (before after : View) : Type 0 where
  pub held : after.sending.held ≡ before.sending.held ++ octets
  pub una : after.sending.una ≡ before.sending.una
  pub nxt : after.sending.nxt ≡ before.sending.nxt
  pub receiving : after.receiving ≡ before.receiving
  pub state : after.state ≡ before.state

-- so many of the readable ones were read, from the first on
pub record ReadsFirst (count : ℕ) (before after : View) : Type 0 where
  pub readable : after.receiving.readable ≡ drop count before.receiving.readable
  pub rnext : after.receiving.rnext ≡ before.receiving.rnext
  pub edge : after.receiving.edge ≡ before.receiving.edge
  pub kept : (distance : ℕ) → slice_index_or after.receiving.kept distance None ≡ slice_index_or before.receiving.kept distance None
  pub sending : after.sending ≡ before.sending
  pub state : after.state ≡ before.state
