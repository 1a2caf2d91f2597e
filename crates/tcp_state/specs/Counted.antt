-- From when a connection counts its waits, and what it takes an event for (RFC 9293 sections 3.6.1 and 3.10.7.4, RFC 5681 section 2, RFC 6298).
use Rattle.std.specs.Prelude.{◌≡◌, ◌≢◌, None, ℕ, length, ◌<◌, ◌≤◌, ◌⊎◌, true, false, []}
use Rattle.tcp_segment.specs.Segment.{Segment, span_of}
use Rattle.tcp_segment.specs.Wire.{wire, past}
use Rattle.tcp_state.specs.declared.emission.Due.{Due}
use Rattle.tcp_state.specs.declared.emission.Due.TheVariants.{Syn, Text, Probe}
use Rattle.tcp_state.specs.declared.emission.Stretch.{Stretch}
use Rattle.tcp_state.specs.declared.state.State.{State}
use Rattle.tcp_state.specs.declared.state.State.TheVariants.{SynSent, FinWait2, TimeWait}
use Rattle.tcp_halves.specs.Stream.{outstanding, is_new_ack}
use Rattle.tcp_halves.specs.Windows.{window_in}
use Rattle.tcp_state.specs.View.{View, is_opening}
use Rattle.tcp_state.specs.declared.calls.Refusal.TheVariants.{ETIMEDOUT}
use Rattle.tcp_state.specs.Timing.{deadline}
use Rattle.tcp_state.specs.Due.{first_due}
use Rattle.tcp_state.specs.Said.{IsClosedBy}
use Rattle.tcp_state.specs.Arrival.{is_acceptable_to}

-- the states in which a connection waits for its end
abbrev pub WaitsForEnd : State → Type 0
WaitsForEnd state = (state ≡ TimeWait) ⊎ (state ≡ FinWait2)

-- A segment brings the peer's FIN again: it is not acceptable, and the number of its FIN, its last, is that before RCV.NXT (section 3.10.7.4, eighth).
pub record BringsFinAgain (v : View) (s : Segment) : Type 0 where
  pub no_rst : s.flags.rst ≡ false
  pub old : is_acceptable_to v s ≡ false
  pub fin : s.flags.fin ≡ true
  pub last : wire s.number (span_of s) ≡ v.receiving.rnext

-- in SYN-SENT the peer's SYN comes, with an acknowledgement of ours or with none (RFC 9293 section 3.10.7.3)
pub record BringsSyn (v : View) (s : Segment) : Type 0 where
  pub waits : v.state ≡ SynSent
  pub no_rst : s.flags.rst ≡ false
  pub syn : s.flags.syn ≡ true
  pub answers : s.flags.ack ≡ true → is_new_ack v.sending s.acknowledgement ≡ true

-- some octet that is held has gone out, and is not acknowledged
abbrev pub HasOctetOut : View → Type 0
HasOctetOut v = (i : ℕ) × (i < length v.sending.held) × (i < past v.sending.nxt v.sending.una)

-- A duplicate ACK (RFC 5681 section 2): octets are outstanding, not only our FIN, and an acceptable segment acknowledges none of them and tells the window that is known; it brings no octets, no SYN, FIN or RST, and doesn't ask for an acknowledgement by the number before RCV.NXT.
pub record IsDuplicate (v : View) (s : Segment) : Type 0 where
  pub opened : is_opening v.state ≡ false
  pub outstanding : HasOctetOut v
  pub acceptable : is_acceptable_to v s ≡ true
  pub ack : s.flags.ack ≡ true
  pub at_una : s.acknowledgement ≡ v.sending.una
  pub window : window_in v.sending s.window ≡ v.sending.window
  pub octets : s.octets ≡ []
  pub no_syn : s.flags.syn ≡ false
  pub no_fin : s.flags.fin ≡ false
  pub no_rst : s.flags.rst ≡ false
  pub unasked : past v.receiving.rnext s.number ≢ 1

-- A connection that was given up: it is CLOSED, every call is told ETIMEDOUT, it holds nothing and nothing is outstanding, nothing of it is due, and the clock does nothing more to it.
pub record IsGivenUp (w : View) : Type 0 where
  pub told : IsClosedBy ETIMEDOUT w
  pub held : w.sending.held ≡ []
  pub none_out : w.sending.nxt ≡ w.sending.una
  pub due : first_due w ≡ None
  pub timer : deadline w ≡ None
  pub unheard : w.unheard ≡ None

-- numbers go out for the first time: our SYN, or a stretch past all that is outstanding
abbrev pub BringsNew : View → Due → Type 0
BringsNew v due = ((due ≡ Syn) × (outstanding v.sending ≡ 0)) ⊎ ((stretch : Stretch) × (due ≡ Text stretch) × (outstanding v.sending ≤ stretch.offset))

-- .. or once more, and a probe counts as such
abbrev pub BringsAgain : View → Due → Type 0
BringsAgain v due = (due ≡ Probe) ⊎ (((due ≡ Syn) × (0 < outstanding v.sending)) ⊎ ((stretch : Stretch) × (due ≡ Text stretch) × (stretch.offset < outstanding v.sending)))
