-- What the caller of a connection gave to it and got from it (POSIX send, recv, shutdown and close).
use Rattle.std.specs.Prelude.{ℕ, Bool, true, false, ◌==◌, if◌then◌else◌, List, [], ◌∷◌, ◌++◌, take, replicate, Result, Ok, Err}
use Rattle.tcp_state.specs.declared.calls.Received.{Received}
use Rattle.tcp_state.specs.declared.calls.Received.TheVariants.{Octets, EndOfStream}
use Rattle.sockets.specs.declared.entry.SocketId.{SocketId}
use Rattle.sockets.specs.declared.refusal.Refusal.{Refusal}
use Rattle.sockets.specs.declared.role.Leave.TheVariants.{Close}
use Rattle.sockets.specs.Calls.{send_answer, recv_answer, recv_front}
use Rattle.sockets.specs.Causes as table
use Rattle.host.specs.HostView.{HostView}
use Rattle.host.specs.Runs.{Event, Calls}
use Rattle.host_law.specs.History.{Step}

-- the octets that a `send` takes
abbrev pub taken : Result ℕ Refusal → List ℕ → List ℕ
taken (Ok count) octets = take count octets
taken (Err refusal) octets = []

-- those that a `recv` gives, of what it leaves in the buffer
abbrev pub given : Result Received Refusal → List ℕ → List ℕ
given (Ok (Octets count)) buffer = take count buffer
given (Ok EndOfStream) buffer = []
given (Err refusal) buffer = []

-- it answers the end of the stream
abbrev pub tells_end : Result Received Refusal → Bool
tells_end (Ok (Octets count)) = false
tells_end (Ok EndOfStream) = true
tells_end (Err refusal) = false

-- what an event is to the caller of a connection: octets that are taken ..
abbrev pub sent_at : SocketId → HostView → Event → List ℕ
sent_at id h (Calls (table.Sends named octets)) = if named.0 == id.0 then taken (send_answer h.sockets named octets) octets else []
sent_at id h _ = []

-- .. octets that are given ..
abbrev pub read_at : SocketId → HostView → Event → List ℕ
read_at id h (Calls (table.Receives named len)) = if named.0 == id.0 then given (recv_answer h.sockets named len) (recv_front h.sockets named (replicate len 0)) else []
read_at id h _ = []

-- .. the end ..
abbrev pub ended_at : SocketId → HostView → Event → Bool
ended_at id h (Calls (table.Receives named len)) = if named.0 == id.0 then tells_end (recv_answer h.sockets named len) else false
ended_at id h _ = false

-- .. or that our side is closed, by a `shutdown` or a `close`
abbrev pub closed_at : SocketId → Event → Bool
closed_at id (Calls (table.Shuts named)) = named.0 == id.0
closed_at id (Calls (table.Leaves Close named)) = named.0 == id.0
closed_at id _ = false

-- all octets that `send` took on a connection, in order
abbrev pub sent_on : SocketId → List Step → List ℕ
sent_on id [] = []
sent_on id (step ∷ earlier) = sent_on id earlier ++ sent_at id step.before step.event

-- all octets that `recv` gave
abbrev pub read_on : SocketId → List Step → List ℕ
read_on id [] = []
read_on id (step ∷ earlier) = read_on id earlier ++ read_at id step.before step.event
