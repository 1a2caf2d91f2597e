-- Two hosts that are left to themselves, without a call and without a tick. All that goes out of them counts: segments, datagrams, control replies, and requests for neighbours.
use Rattle.std.specs.Prelude.{◌≡◌, ◌≢◌, ◌⊎◌, ℕ, ◌+◌, ◌<◌, ◌≤◌, true, false, List, [], ◌∷◌, ◌++◌, Option, None}
use Rattle.std.specs.List.{AllByRecursion}
use Rattle.ipv4.specs.Addresses.{pair_of}
use Rattle.tcp_segment.specs.declared.seq.Seq.{Seq}
use Rattle.tcp_state.specs.Due.{first_due}
use Rattle.tcp_state.specs.View.{View}
use Rattle.sockets.specs.declared.entry.SocketId.{SocketId}
use Rattle.sides.specs.declared.side.Side.{Side}
use Rattle.sides.specs.declared.side.Side.TheVariants.{A, B}
use Rattle.wire_sim.specs.declared.event.Answer.{Answer}
use Rattle.wire_sim.specs.declared.event.Answer.TheVariants as reply
use Rattle.wire_sim.specs.declared.event.Event.TheVariants as event
use Rattle.wire_sim.specs.Duties.{Has}
use Rattle.wire_sim.specs.Runs.{IsReached, IsStep}
use Rattle.wire_sim.specs.TwoEnds.{AreJoined}
use Rattle.wire_sim.specs.WorldView.{WorldView}
use Rattle.settling_law.specs.Settling.{Course, turned, still, speaks, resets, AreSound}

-- the ids of two connections, at either side
pub record Ends : Type 0 where
  pub at_a : SocketId
  pub at_b : SocketId

abbrev pub id_at : Side → Ends → SocketId
id_at A e = e.at_a
id_at B e = e.at_b

-- they are each other's ends, and open
pub record AreTogether (w : WorldView) (e : Ends) : Type 0 where
  pub v : View
  pub d : View
  pub joined : AreJoined w A e.at_a e.at_b v d

-- an id at a side is one of these
abbrev pub IsOneOf : List Ends → Side → SocketId → Type 0
IsOneOf [] side id = ⊥
IsOneOf (e ∷ rest) side id = (id ≡ id_at side e) ⊎ IsOneOf rest side id

-- no other connection of a side has anything to send
abbrev pub NoOtherSpeaks : List Ends → WorldView → Side → Type 0
NoOtherSpeaks all w side = (id : SocketId) (listener : Option SocketId) (v : View) → Has w side id listener v → first_due v ≢ None → IsOneOf all side id

-- Each connection that has anything to send is open, and one of two that are each other's ends: these are all of them. Both hosts are sound, as each one is by `Host::sound`.
pub record AreAll (all : List Ends) (w : WorldView) : Type 0 where
  pub together : AllByRecursion (AreTogether w) all
  pub no_other_at_a : NoOtherSpeaks all w A
  pub no_other_at_b : NoOtherSpeaks all w B
  pub sound : AreSound w A

-- what goes out of a side's host is no reset between two of these ends
abbrev pub IsUnreset : List Ends → WorldView → Side → Type 0
IsUnreset all w side = AllByRecursion (λ e. (v d : View) → AreJoined w A e.at_a e.at_b v d → speaks (pair_of v.local v.peer) w side ≡ true → resets w side ≡ false) all

-- What happens at a side: a frame goes out of its host, whatever it is, or none does; the first that is on its way to it comes, or is lost. It counts the frames that go out.
pub data Acts (all : List Ends) (side : Side) : ℕ → Course → Course → Type 0 where
  sends : (c : Course) (index len : ℕ) (w : WorldView) → IsStep (event.Emit side) (reply.Frame index len) c.world w → IsUnreset all c.world side → Acts all side 1 c (record { world = w; out = c.out ++ index ∷ []; back = c.back })
  pauses : (c : Course) (w : WorldView) → IsStep (event.Emit side) reply.NoFrame c.world w → Acts all side 0 c (record c { world = w })
  hears : (c : Course) (index : ℕ) (rest : List ℕ) (isn : Seq) (answer : Answer) (w : WorldView) → c.back ≡ index ∷ rest → IsStep (event.Deliver side index isn) answer c.world w → Acts all side 0 c (record { world = w; out = c.out; back = rest })
  loses : (c : Course) (index : ℕ) (rest : List ℕ) → c.back ≡ index ∷ rest → Acts all side 0 c (record c { back = rest })

-- it happens at side A, or at side B
pub data Happens (all : List Ends) : ℕ → Course → Course → Type 0 where
  here : (count : ℕ) (c k : Course) → Acts all A count c k → Happens all count c k
  there : (count : ℕ) (c k : Course) → Acts all B count (turned c) k → Happens all count c (turned k)

-- some of these, in order
pub data ArePartOf : List Ends → List Ends → Type 0 where
  nothing : ArePartOf [] []
  stays : (e : Ends) (some all : List Ends) → ArePartOf some all → ArePartOf (e ∷ some) (e ∷ all)
  leaves : (e : Ends) (some all : List Ends) → ArePartOf some all → ArePartOf some (e ∷ all)

-- One after the other, in any order: so many frames go out. Where none does, some may close, and they have nothing to send from then on; the others stay open, and no other connection has anything to send.
pub data Runs : List Ends → ℕ → Course → Course → Type 0 where
  ends : (all : List Ends) (c : Course) → Runs all 0 c c
  goes_on : (all : List Ends) (count more : ℕ) (c k e : Course) → Happens all count c k → AreAll all k.world → Runs all more k e → Runs all (count + more) c e
  closes : (all some : List Ends) (more : ℕ) (c k e : Course) → Happens all 0 c k → ArePartOf some all → AreAll some k.world → Runs some more k e → Runs all more c e

-- There is a number of frames past which no more go out of the two hosts, whichever sends first each time, and whatever is lost.
abbrev pub FallSilent : List Ends → WorldView → Type 0
FallSilent all w = (most : ℕ) × ((count : ℕ) (e : Course) → Runs all count (still w) e → count ≤ most)

-- in every reached world in which each connection that has anything to send is one of two open ones that are each other's ends, however many they are
abbrev pub EveryTwoHostsFallSilent : Type 0
EveryTwoHostsFallSilent = (limit : ℕ) → 0 < limit → (w : WorldView) → IsReached limit w → (all : List Ends) → AreAll all w → FallSilent all w
