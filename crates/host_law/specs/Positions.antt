-- Where the numbers of a connection stand in its two streams (RFC 9293 section 3.4): a SYN has position 0, the octets have those from 1 on, and the FIN has the one
-- behind them. A number of 32 bits is placed by how far it lies past RCV.NXT or SND.UNA.
use Rattle.std.specs.Prelude.{ℕ, ◌+◌, if◌then◌else◌, List, [], ◌∷◌, Option, Some}
use Rattle.tcp_segment.specs.Wire.{past}
use Rattle.tcp_state.specs.View.{View, is_syn_sent, is_closed}
use Rattle.sockets.specs.declared.entry.SocketId.{SocketId}
use Rattle.host_law.specs.History.{Step, connection_of}

-- how far RCV.NXT moves at a step; in SYN-SENT there is none, until the SYN comes
abbrev pub taken_in : Option View → Option View → ℕ
taken_in (Some v) (Some w) = if is_syn_sent v.state then 0 else past w.receiving.rnext v.receiving.rnext
taken_in _ _ = 0

-- the position of RCV.NXT in the peer's stream, whose SYN was heard
abbrev pub rcv_nxt : SocketId → List Step → ℕ
rcv_nxt id [] = 1
rcv_nxt id (step ∷ earlier) = rcv_nxt id earlier + taken_in (connection_of id step.before) (connection_of id step.after)

-- how far SND.UNA moves at a step, but for one that leaves the connection CLOSED
abbrev pub let_go : Option View → Option View → ℕ
let_go (Some v) (Some w) = if is_closed w.state then 0 else past w.sending.una v.sending.una
let_go _ _ = 0

-- the position of SND.UNA in our stream
abbrev pub snd_una : SocketId → List Step → ℕ
snd_una id [] = 0
snd_una id (step ∷ earlier) = snd_una id earlier + let_go (connection_of id step.before) (connection_of id step.after)
