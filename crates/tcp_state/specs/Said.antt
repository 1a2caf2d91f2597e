-- What a connection says: to the peer in each segment that goes out, and to its caller where a reset ends it (RFC 9293 sections 3.1, 3.4, 3.8.6, 3.10.7.3 and 3.10.7.4).
use Rattle.std.specs.Prelude.{◌≡◌, ◌≢◌, ℕ, List, Some, Err, ◌+◌, ◌/◌, ◌<◌, ◌^◌, min, ◌⊎◌, ◌↔◌, true, false, if◌then◌else◌, [], ◌∷◌, length, slice_get, Bool, ◌++◌}
use Rattle.tcp_segment.specs.declared.flags.Flags.{Flags}
use Rattle.tcp_halves.specs.declared.buffers.TheConstants.{CAPACITY}
use Rattle.tcp_segment.specs.Options.{HeaderOption, NoOperation, MaximumSegmentSize, WindowScale, Other}
use Rattle.tcp_segment.specs.Segment.{Segment, blocks_of}
use Rattle.tcp_segment.specs.Sent.{report, sent_segment}
use Rattle.tcp_segment.specs.Wire.{wire, past}
use Rattle.tcp_state.specs.declared.emission.Due.{Due}
use Rattle.tcp_state.specs.declared.emission.Due.TheVariants.{Rst, Syn, Text, Probe, Ack}
use Rattle.tcp_state.specs.declared.emission.Stretch.{Stretch}
use Rattle.tcp_state.specs.declared.calls.Refusal.{Refusal}
use Rattle.tcp_state.specs.declared.state.State.{State}
use Rattle.tcp_state.specs.declared.state.State.TheVariants.{Closed, SynSent, SynReceived, Established, FinWait1, FinWait2, CloseWait, Closing, LastAck, TimeWait}
use Rattle.tcp_state.specs.View.{View}
use Rattle.tcp_state.specs.Calls.{send_answer, recv_answer, shutdown_refusal}
use Rattle.tcp_state.specs.Arrival.{is_acceptable_to}
use Rattle.tcp_state.specs.Due.{head_of, octets_of, number_of}

-- the segment that goes out for what is due, as the other end reads it
abbrev pub segment_of : View → Due → Segment
segment_of v due = sent_segment (head_of v due) (octets_of v due)

-- the FIN goes out: behind a stretch, or as a probe where no octets are held
abbrev pub BringsFin : View → Due → Type 0
BringsFin v due = ((stretch : Stretch) × (due ≡ Text stretch) × (stretch.fin ≡ true)) ⊎ ((due ≡ Probe) × (v.sending.held ≡ []))

-- a reset acknowledges nothing, nor does our SYN before the peer's came
abbrev pub AcknowledgesNothing : View → Due → Type 0
AcknowledgesNothing v due = (due ≡ Rst) ⊎ ((due ≡ Syn) × (v.state ≡ SynSent))

-- The control bits, each exactly where it is due. PSH is a matter of the octets.
pub record HasFlags (v : View) (due : Due) (f : Flags) : Type 0 where
  pub rst : (f.rst ≡ true) ↔ (due ≡ Rst)
  pub syn : (f.syn ≡ true) ↔ (due ≡ Syn)
  pub fin : (f.fin ≡ true) ↔ BringsFin v due
  pub ack : (f.ack ≡ false) ↔ AcknowledgesNothing v due
  pub urg : f.urg ≡ false

-- the options of a SYN, where each is offered
abbrev pub scale_offer : Bool → List HeaderOption
scale_offer scales = if scales then NoOperation ∷ WindowScale 5 ∷ [] else []

abbrev pub sack_offer : Bool → List HeaderOption
sack_offer sacks = if sacks then NoOperation ∷ NoOperation ∷ Other 4 [] ∷ [] else []

-- What a segment says is so. Each of its octets is the one that is held for its number, and its FIN has the number behind all that is held. It acknowledges RCV.NXT, and tells the window
-- from there up to the right edge that the connection keeps: in whole units, and in octets where SYN stands, as many of them as 16 bits hold (RFC 7323 section 2.2). The SYN that acknowledges nothing tells as
-- much of the whole size of the receiving half. A reset has the number of an acknowledgement alone and a SYN that of our SYN, and
-- neither has octets. A SYN has the size of the segments that this stack takes (section 3.7.1), where windows are scaled the shift of its own (RFC 7323 section 2.2), and where this side takes selective
-- acknowledgements a word of that (RFC 2018 section 2); another segment has no option but a report of blocks.
pub record IsSo (v : View) (edge : ℕ) (s : Segment) : Type 0 where
  pub source : s.source ≡ v.local.port
  pub destination : s.destination ≡ v.peer.port
  pub octets : (i : ℕ) → i < length s.octets → slice_get s.octets i ≡ slice_get v.sending.held (past s.number v.sending.una + i)
  pub fin : s.flags.fin ≡ true → wire s.number (length s.octets) ≡ wire v.sending.una (length v.sending.held)
  pub psh : (s.flags.psh ≡ true) ↔ ((0 < length s.octets) × (past s.number v.sending.una + length s.octets ≡ length v.sending.held))
  pub acknowledgement : s.flags.ack ≡ true → s.acknowledgement ≡ v.receiving.rnext
  pub window : s.flags.syn ≡ false → s.flags.ack ≡ true → s.window ≡ past edge v.receiving.rnext / v.receiving.unit
  pub syn_window : s.flags.syn ≡ true → s.flags.ack ≡ true → s.window ≡ min (past edge v.receiving.rnext) CAPACITY
  pub unacknowledging : s.flags.ack ≡ false → s.acknowledgement ≡ 0
  pub first : s.flags.syn ≡ true → s.flags.ack ≡ false → s.window ≡ min v.receiving.size CAPACITY
  pub syn : s.flags.syn ≡ true → (s.number ≡ v.sending.una) × (s.octets ≡ []) × (s.options ≡ MaximumSegmentSize 1460 ∷ (scale_offer v.scales ++ sack_offer v.reporting.sacks))
  pub plain : s.flags.syn ≡ false → s.options ≡ report (blocks_of s)
  pub rst : s.flags.rst ≡ true → (s.number ≡ number_of v Ack) × (s.window ≡ 0) × (s.octets ≡ [])
  pub small : s.window < 2 ^ 16
  pub urgent : s.urgent ≡ 0

-- What a caller is told.

-- a reset stands at RCV.NXT, and is acceptable (section 3.10.7.4, second)
pub record IsResetAtNext (v : View) (s : Segment) : Type 0 where
  pub rst : s.flags.rst ≡ true
  pub acceptable : is_acceptable_to v s ≡ true
  pub next : s.number ≡ v.receiving.rnext

-- a reset acknowledges our SYN, which has gone out (section 3.10.7.3, second)
pub record IsResetOfSyn (v : View) (s : Segment) : Type 0 where
  pub rst : s.flags.rst ≡ true
  pub ack : s.flags.ack ≡ true
  pub sent : v.sending.nxt ≢ v.sending.una
  pub all : s.acknowledgement ≡ v.sending.nxt

-- the connection is CLOSED, and every call is told this error
pub record IsClosedBy (error : Refusal) (w : View) : Type 0 where
  pub closed : w.state ≡ Closed
  pub send : (octets : List ℕ) → send_answer w octets ≡ Err error
  pub recv : (len : ℕ) → recv_answer w len ≡ Err error
  pub shutdown : shutdown_refusal w ≡ Some error

-- one side may still send: octets of the one or the other may be lost by its end
abbrev pub MayLose : State → Type 0
MayLose state = (state ≡ Established) ⊎ ((state ≡ FinWait1) ⊎ ((state ≡ FinWait2) ⊎ (state ≡ CloseWait)))

-- both sides are closed
abbrev pub AreBothShut : State → Type 0
AreBothShut state = (state ≡ Closing) ⊎ ((state ≡ LastAck) ⊎ (state ≡ TimeWait))

-- an acknowledgement of nothing that is outstanding
pub record IsWrongAck (v : View) (s : Segment) : Type 0 where
  pub no_rst : s.flags.rst ≡ false
  pub ack : s.flags.ack ≡ true
  pub wrong : (past s.acknowledgement v.sending.una ≡ 0) ⊎ (past v.sending.nxt v.sending.una < past s.acknowledgement v.sending.una)

-- where it is answered by a reset: in SYN-SENT, and in SYN-RECEIVED where the segment is acceptable and no SYN (sections 3.10.7.3, first, and 3.10.7.4, fifth)
abbrev pub MayReject : View → Segment → Type 0
MayReject v s = (v.state ≡ SynSent) ⊎ ((v.state ≡ SynReceived) × (is_acceptable_to v s ≡ true) × (s.flags.syn ≡ false))
