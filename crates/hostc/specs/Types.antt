-- What is passed beside numbers.
use Rattle.std.specs.Prelude.{ℕ, ◌==◌, if◌then◌else◌, List, [], ◌∷◌, Option, Some, None}
use Rattle.std.specs.Int.{to_be_bytes, from_be_bytes, w32}
use Rattle.clock.specs.declared.moment.Moment.{Moment}
use Rattle.ipv4.specs.declared.addr.Addr.{Addr}
use Rattle.ipv4.specs.declared.addr.Endpoint.{Endpoint}
use Rattle.ipv4.specs.declared.addr.Pair.{Pair}
use Rattle.routes.specs.declared.route.Hop.{Hop}
use Rattle.routes.specs.declared.route.Hop.TheVariants.{Direct, Gateway}
use Rattle.sockets.specs.declared.entry.SocketId.{SocketId}
use Rattle.hostc.specs.declared.types.End.{End}

-- an address is a number whose highest octet is the first
abbrev pub addr_of : ℕ → Addr
addr_of number = record { 0 = to_be_bytes w32 number }

abbrev pub endpoint_of : ℕ → ℕ → Endpoint
endpoint_of addr port = record { addr = addr_of addr; port = port }

-- the hop by a gateway, which is 0 where there is none
abbrev pub hop_of : ℕ → Hop
hop_of gateway = if gateway == 0 then Direct else Gateway (addr_of gateway)

abbrev pub moment_of : ℕ → Moment
moment_of now = record { 0 = now }

-- after how many milliseconds each a silent peer is asked; 0 says that it isn't
abbrev pub every_of : ℕ → Option ℕ
every_of milliseconds = if milliseconds == 0 then None else Some milliseconds

abbrev pub socket_of : ℕ → SocketId
socket_of id = record { 0 = id }

-- an endpoint as it is told
abbrev pub end_of : Endpoint → End
end_of e = record { addr = from_be_bytes w32 e.addr.0; port = e.port }

-- the ends of a pair as they are told
abbrev pub ends_of : Pair → List End
ends_of pair = end_of pair.first ∷ end_of pair.second ∷ []

-- what an answer tells is written, and nothing is where there is none
abbrev pub written : {T U : Type 0} → (T → U) → Option T → U → U
written tell None old = old
written tell (Some answer) old = tell answer
