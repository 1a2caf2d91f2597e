-- The law of one host, whoever its peers are.
use Rattle.std.specs.Prelude.{◌≡◌, ℕ, ◌+◌, ◌-◌, ◌<◌, true, false, List, length, drop, slice_get, Some}
use Rattle.tcp_segment.specs.Wire.{wire}
use Rattle.tcp_halves.specs.Stream.{outstanding}
use Rattle.tcp_state.specs.View.{View, is_closed, is_syn_sent}
use Rattle.sockets.specs.declared.entry.SocketId.{SocketId}
use Rattle.host.specs.ConfigView.{ConfigView}
use Rattle.host.specs.HostView.{HostView}
use Rattle.host_law.specs.Apart.{KeepsOthersOut}
use Rattle.host_law.specs.Callers.{ended_at, read_on, sent_on}
use Rattle.host_law.specs.Coming.{HearsSyn, Brings, BringsEnd, Acknowledges}
use Rattle.host_law.specs.Datagrams.{GivesWhatCame}
use Rattle.host_law.specs.DatagramsOut.{SendsWhatSendtoTook}
use Rattle.host_law.specs.Going.{SendsWhatWasTaken, Takes}
use Rattle.host_law.specs.History.{Step, Once, Always, connection_of}
use Rattle.host_law.specs.Positions.{rcv_nxt, snd_una}
use Rattle.host_law.specs.Sums.{ComesWithRightSums}

-- What is read was sent to it: each octet that `recv` gave, from position 1 on, is one that a frame brought at its position; and where it answered the end, a frame brought the FIN at the position behind all that was read.
pub record ReadsWhatCame (c : ConfigView) (id : SocketId) (steps : List Step) : Type 0 where
  pub octets : (k octet : ℕ) → slice_get (read_on id steps) k ≡ Some octet → Once (Brings c id (k + 1) octet) steps
  pub end : Once (λ step earlier. ended_at id step.before step.event ≡ true) steps → Once (BringsEnd c id (length (read_on id steps) + 1)) steps

-- Positions are counted from the peer's SYN: once it came, RCV.NXT is the number of its position, until the connection is CLOSED.
pub record CountsFromSyn (c : ConfigView) (id : SocketId) (steps : List Step) (v : View) : Type 0 where
  pub initial : ℕ
  pub syn : Once (HearsSyn c id initial) steps
  pub next : v.receiving.rnext ≡ wire initial (rcv_nxt id steps)

-- What is let go was acknowledged: each position that SND.UNA passed, by a frame; and all that was taken from there on is held, while the connection isn't CLOSED.
pub record LetsGoWhatCame (c : ConfigView) (id : SocketId) (h : HostView) (steps : List Step) : Type 0 where
  pub acknowledged : (position : ℕ) → position < snd_una id steps → Once (Acknowledges c id position) steps
  pub held : (v : View) → connection_of id h ≡ Some v → is_closed v.state ≡ false → v.sending.held ≡ drop (snd_una id steps - 1) (sent_on id steps)

-- Each position below SND.UNA went out, and while the connection isn't CLOSED each below SND.NXT.
pub record WentOut (c : ConfigView) (id : SocketId) (h : HostView) (steps : List Step) : Type 0 where
  pub una : (position : ℕ) → position < snd_una id steps → Once (Takes c id position) steps
  pub nxt : (v : View) → connection_of id h ≡ Some v → is_closed v.state ≡ false → (position : ℕ) → position < snd_una id steps + outstanding v.sending → Once (Takes c id position) steps

-- a connection keeps its two ends
abbrev pub KeepsItsEnds : Step → List Step → Type 0
KeepsItsEnds step earlier = (id : SocketId) (v w : View) → connection_of id step.before ≡ Some v → connection_of id step.after ≡ Some w → (w.local ≡ v.local) × (w.peer ≡ v.peer)

-- The law of a host with this set-up, to which these steps led: of each step, and of each id, that of a connection or of a UDP socket.
pub record HostLaw (c : ConfigView) (h : HostView) (steps : List Step) : Type 0 where
  pub ends : Always KeepsItsEnds steps
  pub counts : (id : SocketId) (v : View) → connection_of id h ≡ Some v → is_closed v.state ≡ false → is_syn_sent v.state ≡ false → CountsFromSyn c id steps v
  pub reads : (id : SocketId) → ReadsWhatCame c id steps
  pub sends : Always (SendsWhatWasTaken c) steps
  pub went_out : (id : SocketId) → WentOut c id h steps
  pub lets_go : (id : SocketId) → LetsGoWhatCame c id h steps
  pub apart : Always (KeepsOthersOut c) steps
  pub datagrams : (id : SocketId) → GivesWhatCame c id steps
  pub datagrams_out : SendsWhatSendtoTook c steps
  pub sums : Always (ComesWithRightSums c) steps
