-- A world in which two connections are left to themselves, without a call of theirs and without a tick that does anything to them: what goes out of a host comes to the other in the order in which it went out, or is lost.
use Rattle.std.specs.Prelude.{◌≡◌, ℕ, ◌+◌, ◌<◌, ◌≤◌, Bool, true, false, if◌then◌else◌, List, [], ◌∷◌, ◌++◌, Option, Some, None}
use Rattle.ipv4.specs.declared.addr.Pair.{Pair}
use Rattle.ipv4.specs.Addresses.{pair_of}
use Rattle.tcp_segment.specs.declared.seq.Seq.{Seq}
use Rattle.tcp_state.specs.View.{View}
use Rattle.frames.specs.Pairs.{pair_between}
use Rattle.sockets.specs.declared.entry.SocketId.{SocketId}
use Rattle.host.specs.Carried.{Carried, carried}
use Rattle.host.specs.Sound.{IsSoundHost}
use Rattle.sides.specs.declared.side.Side.{Side}
use Rattle.sides.specs.Sides.{other_side}
use Rattle.wire_sim.specs.declared.event.Answer.{Answer}
use Rattle.wire_sim.specs.declared.event.Answer.TheVariants as reply
use Rattle.wire_sim.specs.declared.event.Event.{Event}
use Rattle.wire_sim.specs.declared.event.Event.TheVariants as event
use Rattle.wire_sim.specs.Passage.{addr_at}
use Rattle.wire_sim.specs.Runs.{IsReached, IsStep}
use Rattle.wire_sim.specs.Steps.{is_emission}
use Rattle.wire_sim.specs.Tallies.{same_pair}
use Rattle.wire_sim.specs.TwoEnds.{AreJoined}
use Rattle.wire_sim.specs.WorldView.{WorldView, host_of, clock_of}

-- A world, and which frames are on their way from one of its sides and back to it: what went out first is first.
pub record Course : Type 0 where
  pub world : WorldView
  pub out : List ℕ
  pub back : List ℕ

-- the same, as the other side sees it
abbrev pub turned : Course → Course
turned c = record { world = c.world; out = c.back; back = c.out }

-- with nothing on its way
abbrev pub still : WorldView → Course
still w = record { world = w; out = []; back = [] }

-- what a side's host has to send next carries a segment between these two ends
abbrev pub is_theirs : Pair → WorldView → Side → Option Carried → Bool
is_theirs pair w side None = false
is_theirs pair w side (Some c) = same_pair (pair_between (addr_at w.network side) c.to c.segment) pair

-- at the moment that its clock shows
abbrev pub speaks : Pair → WorldView → Side → Bool
speaks pair w side = is_theirs pair w side (carried (host_of w.network side) (clock_of w.network side))

-- it carries a reset
abbrev pub is_reset : Option Carried → Bool
is_reset None = false
is_reset (Some c) = c.segment.flags.rst

-- what goes out of it at that moment does
abbrev pub resets : WorldView → Side → Bool
resets w side = is_reset (carried (host_of w.network side) (clock_of w.network side))

-- What happens at a side: a frame goes out of its host, none between the two ends with a reset, or none does; the first that is on its way to it comes, or is lost. It counts the frames that go out with a segment between the two ends.
pub data Does (side : Side) (pair : Pair) : ℕ → Course → Course → Type 0 where
  sends : (c : Course) (index len : ℕ) (w : WorldView) → IsStep (event.Emit side) (reply.Frame index len) c.world w → (speaks pair c.world side ≡ true → resets c.world side ≡ false)
      → Does side pair (if speaks pair c.world side then 1 else 0) c (record { world = w; out = c.out ++ index ∷ []; back = c.back })
  pauses : (c : Course) (w : WorldView) → IsStep (event.Emit side) reply.NoFrame c.world w → Does side pair 0 c (record c { world = w })
  hears : (c : Course) (index : ℕ) (rest : List ℕ) (isn : Seq) (answer : Answer) (w : WorldView) → c.back ≡ index ∷ rest → IsStep (event.Deliver side index isn) answer c.world w → Does side pair 0 c (record { world = w; out = c.out; back = rest })
  loses : (c : Course) (index : ℕ) (rest : List ℕ) → c.back ≡ index ∷ rest → Does side pair 0 c (record c { back = rest })

-- what is no emission leaves both connections as they are: a call of another socket, a tick at which nothing of theirs is due, any frame of others
pub record Leaves (side : Side) (id other : SocketId) (happens : Event) (old new : WorldView) : Type 0 where
  pub answer : Answer
  pub step : IsStep happens answer old new
  pub kind : is_emission happens ≡ false
  pub v : View
  pub d : View
  pub before : AreJoined old side id other v d
  pub after : AreJoined new side id other v d

-- it happens at this side or at the other one, or something else does
pub data Happens (side : Side) (id other : SocketId) (pair : Pair) : ℕ → Course → Course → Type 0 where
  here : (count : ℕ) (c k : Course) → Does side pair count c k → Happens side id other pair count c k
  there : (count : ℕ) (c k : Course) → Does (other_side side) pair count (turned c) k → Happens side id other pair count c (turned k)
  elsewhere : (c : Course) (happens : Event) (w : WorldView) → Leaves side id other happens c.world w → Happens side id other pair 0 c (record c { world = w })

-- both hosts are sound, as each one is by `Host::sound`
pub record AreSound (w : WorldView) (side : Side) : Type 0 where
  pub near : IsSoundHost (host_of w.network side)
  pub far : IsSoundHost (host_of w.network (other_side side))

-- One after the other, in any order, while both ends stay open: so many of their frames go out.
pub data Runs (side : Side) (id other : SocketId) (pair : Pair) : ℕ → Course → Course → Type 0 where
  ends : (c : Course) → Runs side id other pair 0 c c
  goes_on : (count more : ℕ) (c k e : Course) (v d : View) → Happens side id other pair count c k → AreJoined k.world side id other v d → AreSound k.world side → Runs side id other pair more k e → Runs side id other pair (count + more) c e

-- There is a number of frames between two ends past which no more go out, whatever is lost of them and whatever else the hosts send.
abbrev pub FallsSilent : WorldView → Side → SocketId → SocketId → Pair → Type 0
FallsSilent w side id other pair = (most : ℕ) × ((count : ℕ) (e : Course) → Runs side id other pair count (still w) e → count ≤ most)

-- in every reached world, of any two open connections that are each other's ends
abbrev pub EveryTwoEndsFallSilent : Type 0
EveryTwoEndsFallSilent = (limit : ℕ) → 0 < limit → (w : WorldView) → IsReached limit w → (side : Side) → AreSound w side → (id other : SocketId) (v d : View) → AreJoined w side id other v d → FallsSilent w side id other (pair_of v.local v.peer)
