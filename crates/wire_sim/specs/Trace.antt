-- What the callers gave to the hosts and got from them, read off the trace, and the law of the stream.
use Rattle.std.specs.Prelude.{◌≡◌, ℕ, Bool, true, false, ◌==◌, ◌&&◌, ◌||◌, if◌then◌else◌, List, [], ◌∷◌, ◌++◌, take, Option, Some, None, find}
use Rattle.ipv4.specs.declared.addr.Pair.{Pair}
use Rattle.sockets.specs.declared.entry.SocketId.{SocketId}
use Rattle.sides.specs.declared.side.Side.{Side}
use Rattle.wire_sim.specs.declared.event.Call.TheVariants as call
use Rattle.wire_sim.specs.declared.event.Event.{Event}
use Rattle.wire_sim.specs.declared.event.Event.TheVariants as event
use Rattle.wire_sim.specs.declared.event.Answer.{Answer}
use Rattle.wire_sim.specs.declared.event.Answer.TheVariants as answer
use Rattle.wire_sim.specs.declared.event.Opening.{Opening}
use Rattle.wire_sim.specs.declared.event.Happening.{Happening}
use Rattle.stream_law.specs.Begins.{Begins}
use Rattle.sides.specs.Sides.{same_side, other_side}
use Rattle.wire_sim.specs.Tallies.{is_opening_of}

-- the same socket of the same host
abbrev pub same_socket : Side → SocketId → Side → SocketId → Bool
same_socket side id s i = same_side s side && (i.0 == id.0)

-- What one event and its answer tell of a socket: octets that the host took from its caller ..
abbrev pub sent_by : Side → SocketId → Event → Answer → List ℕ
sent_by side id (event.Call s (call.Send i octets)) (answer.Sent count) = if same_socket side id s i then take count octets.items else []
sent_by side id _ _ = []

-- .. octets that it gave to that caller ..
abbrev pub read_by : Side → SocketId → Event → Answer → List ℕ
read_by side id (event.Call s (call.Recv i len)) (answer.Octets octets) = if same_socket side id s i then octets.items else []
read_by side id _ _ = []

-- .. that our side of it was closed, or the socket ..
abbrev pub closed_by : Side → SocketId → Event → Answer → Bool
closed_by side id (event.Call s (call.Shutdown i)) answer.Done = same_socket side id s i
closed_by side id (event.Call s (call.Close i)) answer.Done = same_socket side id s i
closed_by side id _ _ = false

-- .. and that the caller was told the end of the stream.
abbrev pub ended_by : Side → SocketId → Event → Answer → Bool
ended_by side id (event.Call s (call.Recv i len)) answer.EndOfStream = same_socket side id s i
ended_by side id _ _ = false

-- all octets that were accepted of `send` on a socket, joined in the order of the trace
abbrev pub sent_on : Side → SocketId → List Happening → List ℕ
sent_on side id [] = []
sent_on side id (h ∷ hs) = sent_by side id h.event h.answer ++ sent_on side id hs

-- all octets that `recv` answered on it
abbrev pub read_on : Side → SocketId → List Happening → List ℕ
read_on side id [] = []
read_on side id (h ∷ hs) = read_by side id h.event h.answer ++ read_on side id hs

-- whether our side of it was closed
abbrev pub closed_on : Side → SocketId → List Happening → Bool
closed_on side id [] = false
closed_on side id (h ∷ hs) = closed_by side id h.event h.answer || closed_on side id hs

-- whether the end was told on it
abbrev pub ended_on : Side → SocketId → List Happening → Bool
ended_on side id [] = false
ended_on side id (h ∷ hs) = ended_by side id h.event h.answer || ended_on side id hs

-- what is said of the opening by which a side's host came to hold a pair in an epoch, or this where there is none
abbrev pub of_opening : {T : Type 0} → T → (Opening → T) → Option Opening → T
of_opening nothing said None = nothing
of_opening nothing said (Some o) = said o

-- what was written at a side for a pair in an epoch, and whether the writer closed its side
abbrev pub written : List Happening → List Opening → Side → Pair → ℕ → List ℕ
written trace openings side pair epoch = of_opening [] (λ o. sent_on side o.id trace) (find (is_opening_of side pair epoch) openings)

-- whether its caller closed that side of the pair's connection
abbrev pub closed : List Happening → List Opening → Side → Pair → ℕ → Bool
closed trace openings side pair epoch = of_opening false (λ o. closed_on side o.id trace) (find (is_opening_of side pair epoch) openings)

-- what was read there, and whether the reader was told the end
abbrev pub read : List Happening → List Opening → Side → Pair → ℕ → List ℕ
read trace openings side pair epoch = of_opening [] (λ o. read_on side o.id trace) (find (is_opening_of side pair epoch) openings)

-- whether its reader was told there that the stream has ended
abbrev pub ended : List Happening → List Opening → Side → Pair → ℕ → Bool
ended trace openings side pair epoch = of_opening false (λ o. ended_on side o.id trace) (find (is_opening_of side pair epoch) openings)

-- from a writer to its reader: what was read begins what was written, and the end was told only where the writer closed its side and all that
-- it wrote was read
pub record KeepsStream (written read : List ℕ) (closed ended : Bool) : Type 0 where
  pub begins : Begins read written
  pub end : ended ≡ true → (closed ≡ true) × (read ≡ written)

-- The law of the stream: for every pair of endpoints, every epoch and both directions, from a writer to the reader at the other side.
abbrev pub StreamLaw : List Happening → List Opening → Type 0
StreamLaw trace openings = (writer : Side) (pair : Pair) (epoch : ℕ)
    → KeepsStream (written trace openings writer pair epoch) (read trace openings (other_side writer) pair epoch) (closed trace openings writer pair epoch) (ended trace openings (other_side writer) pair epoch)
