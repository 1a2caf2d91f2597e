-- Frames that come to a connection, and what they carry of the peer's stream (RFC 9293 sections 3.4 and 3.10.7.4).
use Rattle.std.specs.Prelude.{◌≡◌, ◌⊎◌, ℕ, ◌+◌, ◌*◌, ◌<◌, ◌≤◌, true, false, List, length, slice_get, None, Some}
use Rattle.ipv4.specs.declared.addr.Addr.{Addr}
use Rattle.tcp_segment.specs.Segment.{Segment, span_of}
use Rattle.tcp_segment.specs.Wire.{past}
use Rattle.frames.specs.declared.meaning.Meaning.TheVariants.{Tcp}
use Rattle.tcp_halves.specs.Stream.{is_acceptable, outstanding, receive_window}
use Rattle.tcp_state.specs.View.{View, is_syn_sent}
use Rattle.sockets.specs.declared.entry.SocketId.{SocketId}
use Rattle.host.specs.ConfigView.{ConfigView}
use Rattle.host_law.specs.Frames.{Comes}
use Rattle.host_law.specs.History.{Step, connection_of}
use Rattle.host_law.specs.Positions.{rcv_nxt, snd_una}

-- A frame comes with this segment, which is of the two ends of the connection, as it stands.
pub record IsHeard (c : ConfigView) (id : SocketId) (v : View) (s : Segment) (step : Step) : Type 0 where
  pub source : Addr
  pub frame : Comes c (Tcp (record { source = source; segment = s })) step
  pub connection : connection_of id step.before ≡ Some v
  pub local : v.local ≡ record { addr = c.addr; port = s.destination }
  pub peer : v.peer ≡ record { addr = source; port = s.source }

-- A frame comes whose SYN alone opens this connection, between its two ends.
pub record IsOpenedBy (c : ConfigView) (id : SocketId) (v : View) (s : Segment) (step : Step) : Type 0 where
  pub source : Addr
  pub frame : Comes c (Tcp (record { source = source; segment = s })) step
  pub syn : s.flags.syn ≡ true
  pub no_rst : s.flags.rst ≡ false
  pub no_ack : s.flags.ack ≡ false
  pub none : connection_of id step.before ≡ None
  pub connection : connection_of id step.after ≡ Some v
  pub local : v.local ≡ record { addr = c.addr; port = s.destination }
  pub peer : v.peer ≡ record { addr = source; port = s.source }

-- SEG.ACK is of what is outstanding: SND.UNA < SEG.ACK =< SND.NXT
pub record IsNewAck (v : View) (s : Segment) : Type 0 where
  pub some : 0 < past s.acknowledgement v.sending.una
  pub sent : past s.acknowledgement v.sending.una ≤ outstanding v.sending

-- In SYN-SENT the peer's SYN comes, without RST, and acknowledges ours if it has an acknowledgement.
pub record MeetsSyn (c : ConfigView) (id : SocketId) (v : View) (s : Segment) (step : Step) : Type 0 where
  pub heard : IsHeard c id v s step
  pub waits : is_syn_sent v.state ≡ true
  pub no_rst : s.flags.rst ≡ false
  pub syn : s.flags.syn ≡ true
  pub acknowledges : s.flags.ack ≡ true → IsNewAck v s

-- The segment may be used: the peer's SYN was heard, and it is acceptable, with ACK, and without RST and SYN.
pub record MayBeUsed (v : View) (s : Segment) : Type 0 where
  pub synchronised : is_syn_sent v.state ≡ false
  pub acceptable : is_acceptable v.receiving s.number (span_of s) ≡ true
  pub ack : s.flags.ack ≡ true
  pub no_rst : s.flags.rst ≡ false
  pub no_syn : s.flags.syn ≡ false

-- A number lies in the window, and stands at this position.
pub record StandsAt (v : View) (next number position : ℕ) : Type 0 where
  pub within : past number v.receiving.rnext < receive_window v.receiving
  pub place : position ≡ next + past number v.receiving.rnext

-- a step brings this octet at this position of the peer's stream
pub record Brings (c : ConfigView) (id : SocketId) (position octet : ℕ) (step : Step) (earlier : List Step) : Type 0 where
  pub v : View
  pub s : Segment
  pub heard : IsHeard c id v s step
  pub used : MayBeUsed v s
  pub i : ℕ
  pub there : slice_get s.octets i ≡ Some octet
  pub at : StandsAt v (rcv_nxt id earlier) (s.number + i) position

-- .. or the FIN
pub record BringsEnd (c : ConfigView) (id : SocketId) (position : ℕ) (step : Step) (earlier : List Step) : Type 0 where
  pub v : View
  pub s : Segment
  pub heard : IsHeard c id v s step
  pub used : MayBeUsed v s
  pub fin : s.flags.fin ≡ true
  pub at : StandsAt v (rcv_nxt id earlier) (s.number + length s.octets) position

-- the peer's SYN comes with this number: it opens the connection at a listener, or comes in SYN-SENT
pub data HearsSyn (c : ConfigView) (id : SocketId) (number : ℕ) (step : Step) (earlier : List Step) : Type 0 where
  AtListener : (v : View) (s : Segment) → IsOpenedBy c id v s step → number ≡ s.number → HearsSyn c id number step earlier
  InSynSent : (v : View) (s : Segment) → MeetsSyn c id v s step → number ≡ s.number → HearsSyn c id number step earlier

-- A step tells this window, in octets: that of a SYN as it stands, any other's in SND's units (RFC 7323 section 2.2).
pub data TellsWindow (c : ConfigView) (id : SocketId) (window : ℕ) (step : Step) (earlier : List Step) : Type 0 where
  BySynAtListener : (v : View) (s : Segment) → IsOpenedBy c id v s step → window ≡ s.window → TellsWindow c id window step earlier
  BySynInSynSent : (v : View) (s : Segment) → MeetsSyn c id v s step → window ≡ s.window → TellsWindow c id window step earlier
  BySegment : (v : View) (s : Segment) → IsHeard c id v s step → MayBeUsed v s → window ≡ s.window * v.sending.unit → TellsWindow c id window step earlier

-- A step acknowledges this position of our stream: SEG.ACK lies past it, and not past what went out. In SYN-SENT it is the SYN that acknowledges ours.
pub record Acknowledges (c : ConfigView) (id : SocketId) (position : ℕ) (step : Step) (earlier : List Step) : Type 0 where
  pub v : View
  pub s : Segment
  pub heard : IsHeard c id v s step
  pub ack : s.flags.ack ≡ true
  pub no_rst : s.flags.rst ≡ false
  pub used : MayBeUsed v s ⊎ ((is_syn_sent v.state ≡ true) × (s.flags.syn ≡ true))
  pub sent : past s.acknowledgement v.sending.una ≤ outstanding v.sending
  pub past_it : position < snd_una id earlier + past s.acknowledgement v.sending.una
