-- What a close leaves of a connection (RFC 9293 sections 3.10.4 and 3.10.5), and what stands in the table under an id.
use Rattle.std.specs.Prelude.{◌≡◌, true, [], Option, Some, find}
use Rattle.clock.specs.declared.moment.Moment.{Moment}
use Rattle.tcp_state.specs.declared.state.State.{State}
use Rattle.tcp_state.specs.declared.state.State.TheVariants.{Closed, Established, CloseWait, FinWait1, LastAck}
use Rattle.tcp_state.specs.View.{View, reset_since}
use Rattle.sockets.specs.declared.entry.SocketId.{SocketId}
use Rattle.sockets.specs.declared.entry.Entry.{Entry}
use Rattle.sockets.specs.Ids.{has_id}
use Rattle.sockets.specs.SocketsView.{SocketsView}

-- the entry of an id, a socket or not
abbrev pub entry_of : SocketsView → SocketId → Option Entry
entry_of h id = find (has_id id) h.entries

-- A connection was aborted at a moment: it is CLOSED, nobody's, and holds nothing; from that moment on the reset waits that it owes the peer, at SND.NXT.
pub record IsAborted (at : Moment) (before after : View) : Type 0 where
  pub local : after.local ≡ before.local
  pub peer : after.peer ≡ before.peer
  pub state : after.state ≡ Closed
  pub left : after.released ≡ true
  pub reset : reset_since after ≡ Some at
  pub next : after.sending.nxt ≡ before.sending.nxt
  pub held : after.sending.held ≡ []

-- the state once our side is closed: a FIN follows all that is held, where none did yet
abbrev pub beyond_close : State → State
beyond_close Established = FinWait1
beyond_close CloseWait = LastAck
beyond_close state = state

-- A connection that its caller left goes on: what is held goes out yet, and the FIN behind it, and what came stays.
pub record IsGoingOn (before after : View) : Type 0 where
  pub local : after.local ≡ before.local
  pub peer : after.peer ≡ before.peer
  pub state : after.state ≡ beyond_close before.state
  pub left : after.released ≡ true
  pub sending : after.sending ≡ before.sending
  pub receiving : after.receiving ≡ before.receiving
  pub reset : after.owes_reset ≡ before.owes_reset
  pub told : after.pending_error ≡ before.pending_error
