-- What a call moves between its caller and a connection: octets, and nothing else.
use Rattle.std.specs.Prelude.{◌≡◌, ℕ, List, ◌++◌, drop}
use Rattle.tcp_state.specs.View.{View}
use Rattle.sockets.specs.SocketsView.{SocketsView}

-- octets were given to a connection: they stand behind those that it holds, and what it sent and received is as it was
pub record HoldsMore (octets : List ℕ) (before after : View) : Type 0 where
  pub held : after.sending.held ≡ before.sending.held ++ octets
  pub una : after.sending.una ≡ before.sending.una
  pub nxt : after.sending.nxt ≡ before.sending.nxt
  pub receiving : after.receiving ≡ before.receiving
  pub state : after.state ≡ before.state
  pub told : after.pending_error ≡ before.pending_error
  pub left : after.released ≡ before.released

-- so many octets were read from it, the first that came: those behind them are left, and what it holds to send is as it was
pub record HasRead (count : ℕ) (before after : View) : Type 0 where
  pub readable : after.receiving.readable ≡ drop count before.receiving.readable
  pub rnext : after.receiving.rnext ≡ before.receiving.rnext
  pub sending : after.sending ≡ before.sending
  pub state : after.state ≡ before.state
  pub told : after.pending_error ≡ before.pending_error
  pub left : after.released ≡ before.released

-- all of a table is as it was, but for its entries
pub record IsSameBesides (before after : SocketsView) : Type 0 where
  pub addr : after.addr ≡ before.addr
  pub kept : after.kept ≡ before.kept
  pub last_port : after.last_port ≡ before.last_port
  pub last_id : after.last_id ≡ before.last_id
  pub identification : after.identification ≡ before.identification
  pub manner : after.manner ≡ before.manner
  pub sizes : after.sizes ≡ before.sizes
  pub offered : after.offered ≡ before.offered
