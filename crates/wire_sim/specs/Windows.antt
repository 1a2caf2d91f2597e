-- The windows that the hosts of a world leave each other.
use Rattle.std.specs.Prelude.{◌≡◌, ℕ, ◌+◌, ◌≤◌, ◌||◌, min, false, [], Option, Some, None}
use Rattle.tcp_segment.specs.declared.TheConstants.{MSS}
use Rattle.tcp_halves.specs.declared.buffers.TheConstants.{CAPACITY}
use Rattle.tcp_halves.specs.Stream.{receive_window}
use Rattle.tcp_state.specs.View.{View, is_opening, is_closed}
use Rattle.tcp_state.specs.Due.{first_due}
use Rattle.sockets.specs.declared.entry.SocketId.{SocketId}
use Rattle.sockets.specs.declared.role.Role.TheVariants.{Connected}
use Rattle.sockets.specs.SocketsView.{role_of}
use Rattle.sides.specs.declared.side.Side.{Side}
use Rattle.wire_sim.specs.Runs.{IsReached}
use Rattle.wire_sim.specs.WorldView.{WorldView, table_of}

-- An open connection of which nothing is due, and that has nothing to be read, leaves its peer a window of all that its host's buffers hold, or of the 65,535 octets of it that 16 bits can tell, but for a segment.
abbrev pub QuietReadersLeaveAWindow : Type 0
QuietReadersLeaveAWindow = (limit : ℕ) (w : WorldView) → IsReached limit w → (side : Side) (id : SocketId) (c : View) (listener : Option SocketId) → role_of (table_of w.network side) id ≡ Some (Connected c listener)
    → (is_opening c.state || is_closed c.state) ≡ false → first_due c ≡ None → c.receiving.readable ≡ [] → (let t = table_of w.network side in min t.sizes.buffer CAPACITY) ≤ receive_window c.receiving + MSS
