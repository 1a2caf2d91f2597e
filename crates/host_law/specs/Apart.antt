-- What may move the streams of a connection when a frame comes (RFC 9293 section 3.10.7, RFC 1122 section 4.2.3.9).
use Rattle.std.specs.Prelude.{◌≡◌, ◌⊎◌, ℕ, ◌<◌, ◌≤◌, true, false, List, Some}
use Rattle.clock.specs.declared.moment.Moment.{Moment}
use Rattle.ipv4.specs.declared.addr.Addr.{Addr}
use Rattle.icmp.specs.declared.quote.Quote.{Quote}
use Rattle.icmp.specs.Message.{Message}
use Rattle.icmp.specs.Reading.{quote_in}
use Rattle.frames.specs.declared.meaning.Meaning.TheVariants.{Icmp}
use Rattle.tcp_segment.specs.Segment.{Segment, span_of}
use Rattle.tcp_segment.specs.Wire.{past}
use Rattle.tcp_halves.specs.Numbers.{is_before}
use Rattle.tcp_halves.specs.Stream.{is_acceptable, outstanding}
use Rattle.tcp_state.specs.View.{View, is_syn_sent, is_syn_received}
use Rattle.sockets.specs.declared.entry.SocketId.{SocketId}
use Rattle.host.specs.ConfigView.{ConfigView}
use Rattle.host.specs.Duties.{IsHardError}
use Rattle.host.specs.Runs.{Delivers}
use Rattle.host_law.specs.Coming.{IsHeard, IsNewAck, MeetsSyn}
use Rattle.host_law.specs.Frames.{Comes}
use Rattle.host_law.specs.History.{Step, connection_of}

-- Of both streams, of what of them is known, and of what their caller and the peer are told, nothing changed.
pub record KeepsStreams (v w : View) : Type 0 where
  pub state : w.state ≡ v.state
  pub sending : w.sending ≡ v.sending
  pub receiving : w.receiving ≡ v.receiving
  pub error : w.pending_error ≡ v.pending_error
  pub reset : w.owes_reset ≡ v.owes_reset
  pub released : w.released ≡ v.released

-- an ICMP message says for good that our SYN can't be delivered, and quotes it
pub record IsRefused (c : ConfigView) (v : View) (step : Step) : Type 0 where
  pub source : Addr
  pub message : Message
  pub frame : Comes c (Icmp (record { source = source; message = message })) step
  pub hard : IsHardError message
  pub quote : Quote
  pub quotes : quote_in message.payload ≡ Some quote
  pub protocol : quote.protocol.0 ≡ 6
  pub local : v.local ≡ quote.source
  pub peer : v.peer ≡ quote.destination
  pub number : quote.number ≡ v.sending.una
  pub sent : 0 < outstanding v.sending

-- SEG.ACK is not past SND.NXT, once our SYN is acknowledged; and on guard no further before SND.UNA than SND's widest window (RFC 5961 section 5.2)
pub record IsOldAck (v : View) (s : Segment) : Type 0 where
  pub past_opening : is_syn_received v.state ≡ false
  pub sent : is_before v.sending.nxt s.acknowledgement ≡ false
  pub recent : v.guard.on ≡ true → past v.sending.una s.acknowledgement ≤ v.sending.max_window

-- a segment that is heard past SYN-SENT, and is acceptable
pub record IsTaken (c : ConfigView) (id : SocketId) (v : View) (s : Segment) (step : Step) : Type 0 where
  pub heard : IsHeard c id v s step
  pub synchronised : is_syn_sent v.state ≡ false
  pub acceptable : is_acceptable v.receiving s.number (span_of s) ≡ true

-- What may reach the streams of a connection. Past SYN-SENT it is an acceptable segment between its ends: a reset at RCV.NXT; a SYN, in SYN-RECEIVED, where a listener opened the connection; or one without either that
-- has an acknowledgement, of nothing that was not sent. In SYN-SENT it is a SYN, whose acknowledgement is of ours if it has one; a reset that acknowledges ours; or an ICMP error that says for good that ours can't be delivered.
pub data MayReach (c : ConfigView) (id : SocketId) (v : View) (step : Step) : Type 0 where
  Resets : (s : Segment) → IsTaken c id v s step → s.flags.rst ≡ true → s.number ≡ v.receiving.rnext → MayReach c id v step
  EndsOpening : (s : Segment) → IsTaken c id v s step → s.flags.rst ≡ false → s.flags.syn ≡ true → is_syn_received v.state ≡ true → v.passive ≡ true → MayReach c id v step
  Acknowledges : (s : Segment) → IsTaken c id v s step → s.flags.rst ≡ false → s.flags.syn ≡ false → s.flags.ack ≡ true → IsNewAck v s ⊎ IsOldAck v s → MayReach c id v step
  Answers : (s : Segment) → MeetsSyn c id v s step → MayReach c id v step
  Refuses : (s : Segment) → IsHeard c id v s step → is_syn_sent v.state ≡ true → s.flags.rst ≡ true → s.flags.ack ≡ true → IsNewAck v s → MayReach c id v step
  Fails : is_syn_sent v.state ≡ true → IsRefused c v step → MayReach c id v step

-- Whatever frame comes, each connection that it may not reach keeps its streams.
abbrev pub KeepsOthersOut : ConfigView → Step → List Step → Type 0
KeepsOthersOut c step earlier = (now : Moment) (isn : ℕ) (octets : List ℕ) → step.event ≡ Delivers now isn octets
    → (id : SocketId) (v : View) → connection_of id step.before ≡ Some v → MayReach c id v step ⊎ ((w : View) × (connection_of id step.after ≡ Some w) × KeepsStreams v w)
