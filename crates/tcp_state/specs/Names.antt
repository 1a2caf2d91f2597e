-- The names of states.
use Rattle.std.specs.Prelude.{ℕ, List, codes}
use Rattle.tcp_state.specs.declared.state.State.{State}
use Rattle.tcp_state.specs.declared.state.State.TheVariants.{Closed, Listen, SynSent, SynReceived, Established, FinWait1, FinWait2, CloseWait, Closing, LastAck, TimeWait}

-- a state's name in RFC 9293 (section 3.3.2)
abbrev pub state_text : State → List ℕ
state_text Closed = codes "CLOSED"
state_text Listen = codes "LISTEN"
state_text SynSent = codes "SYN-SENT"
state_text SynReceived = codes "SYN-RECEIVED"
state_text Established = codes "ESTABLISHED"
state_text FinWait1 = codes "FIN-WAIT-1"
state_text FinWait2 = codes "FIN-WAIT-2"
state_text CloseWait = codes "CLOSE-WAIT"
state_text Closing = codes "CLOSING"
state_text LastAck = codes "LAST-ACK"
state_text TimeWait = codes "TIME-WAIT"
