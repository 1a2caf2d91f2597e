-- What two connections of a world that are each other's ends know of one another, at every moment of every run (RFC 9293 sections 3.4 and 3.8.6).
use Rattle.std.specs.Prelude.{◌≡◌, ℕ, ◌≤◌, Option}
use Rattle.clock.specs.declared.moment.Moment.{Moment}
use Rattle.tcp_segment.specs.Wire.{past}
use Rattle.tcp_halves.specs.Heard.{settled}
use Rattle.tcp_halves.specs.Stream.{outstanding}
use Rattle.tcp_state.specs.View.{View}
use Rattle.sockets.specs.declared.entry.SocketId.{SocketId}
use Rattle.window_law.specs.Windows.{edge_from, IsOpen, HearsAcknowledgement, DrawsNone}
use Rattle.host.specs.Sound.{IsSoundHost}
use Rattle.sides.specs.declared.side.Side.{Side}
use Rattle.sides.specs.Sides.{other_side}
use Rattle.wire_sim.specs.Duties.{Has, AreEnds}
use Rattle.wire_sim.specs.Runs.{IsReached}
use Rattle.wire_sim.specs.WorldView.{WorldView, host_of}

-- Under these ids, one at each side, two connections are each other's ends, past their opening and not CLOSED. Any others may live beside them.
pub record AreJoined (w : WorldView) (side : Side) (id other : SocketId) (v d : View) : Type 0 where
  pub listener : Option SocketId
  pub other_listener : Option SocketId
  pub here : Has w side id listener v
  pub there : Has w (other_side side) other other_listener d
  pub ends : AreEnds v d
  pub opened : IsOpen v
  pub other_opened : IsOpen d

-- What the one knows of the other is so: RCV.NXT there lies between its SND.UNA and SND.NXT; SND.UNA + SND.WND, and all that went out but for a number that only a probe took, lie at RCV.NXT + RCV.WND there or before it; and both count in the same units.
pub record KnowsTheOther (v d : View) : Type 0 where
  pub received : past d.receiving.rnext v.sending.una ≤ outstanding v.sending
  pub window : v.sending.window ≤ edge_from v.sending d.receiving
  pub sent : settled v.sending ≤ edge_from v.sending d.receiving
  pub unit : v.sending.unit ≡ d.receiving.unit

abbrev pub EveryEndKnowsTheOther : Type 0
EveryEndKnowsTheOther = (limit : ℕ) (w : WorldView) → IsReached limit w → (side : Side) (id other : SocketId) (v d : View) → AreJoined w side id other v d → KnowsTheOther v d

-- An acknowledgement alone that the one sends is read by the other if it comes at once, which then knows as acknowledged all that the one received ..
abbrev pub EveryAcknowledgementIsHeard : Type 0
EveryAcknowledgementIsHeard = (limit : ℕ) (w : WorldView) → IsReached limit w → (side : Side) → IsSoundHost (host_of w.network side) → IsSoundHost (host_of w.network (other_side side)) → (id other : SocketId) (v d : View) → AreJoined w side id other v d → HearsAcknowledgement v d

-- .. and draws none, but where it is answered by what its sender must be told.
abbrev pub EveryAcknowledgementDrawsNone : Type 0
EveryAcknowledgementDrawsNone = (limit : ℕ) (w : WorldView) → IsReached limit w → (side : Side) → IsSoundHost (host_of w.network side) → IsSoundHost (host_of w.network (other_side side)) → (id other : SocketId) (v d : View) → AreJoined w side id other v d → (now : Moment) → DrawsNone v d now
