-- What happens in the world where a host does what a script's line says.
use Rattle.std.specs.Prelude.{◌≡◌, ℕ, replicate}
use Rattle.ipv4.specs.declared.addr.Endpoint.{Endpoint}
use Rattle.sides.specs.declared.side.Side.{Side}
use Rattle.sides.specs.Sides.{other_side}
use Rattle.wire_sim.specs.declared.event.Event.{Event}
use Rattle.wire_sim.specs.declared.event.Event.TheVariants as event
use Rattle.wire_sim.specs.declared.event.Call.TheVariants as call
use Rattle.wire_sim.specs.Hosts.{address_of}
use Rattle.script.specs.declared.action.Action.{Action}
use Rattle.script.specs.declared.action.Action.TheVariants.{Socket, Bind, Listen, Accept, Connect, Send, Fill, Recv, Count, SendTo, FillTo, RecvFrom, CountFrom, Shutdown, NoDelay, Close, Abort, State, Ready, Info, Tick, Emit, Deliver}

-- a port of a side's host
abbrev pub endpoint_of : Side → ℕ → Endpoint
endpoint_of side port = record { addr = address_of side; port = port }

-- the event is what the action of this side's host says
abbrev pub IsEventOf : Side → Action → Event → Type 0
IsEventOf side (Socket kind) happens = happens ≡ event.Call side (call.Socket kind)
IsEventOf side (Bind id port) happens = happens ≡ event.Call side (call.Bind id (endpoint_of side port))
IsEventOf side (Listen id backlog) happens = happens ≡ event.Call side (call.Listen id backlog)
IsEventOf side (Accept id) happens = happens ≡ event.Call side (call.Accept id)
IsEventOf side (Connect id port isn) happens = happens ≡ event.Call side (call.Connect isn id (endpoint_of (other_side side) port))
IsEventOf side (Send id text) (event.Call s (call.Send i octets)) = (s ≡ side) × (i ≡ id) × (octets.items ≡ text)
IsEventOf side (Send id text) happens = ⊥
IsEventOf side (Fill id count) (event.Call s (call.Send i octets)) = (s ≡ side) × (i ≡ id) × (octets.items ≡ replicate count 120)
IsEventOf side (Fill id count) happens = ⊥
IsEventOf side (Recv id most) happens = happens ≡ event.Call side (call.Recv id most)
IsEventOf side (Count id most) happens = happens ≡ event.Call side (call.Recv id most)
IsEventOf side (SendTo id port text) (event.Call s (call.SendTo i peer octets)) =
    (s ≡ side) × (i ≡ id) × (peer ≡ endpoint_of (other_side side) port) × (octets.items ≡ text)
IsEventOf side (SendTo id port text) happens = ⊥
IsEventOf side (FillTo id port count) (event.Call s (call.SendTo i peer octets)) =
    (s ≡ side) × (i ≡ id) × (peer ≡ endpoint_of (other_side side) port) × (octets.items ≡ replicate count 120)
IsEventOf side (FillTo id port count) happens = ⊥
IsEventOf side (RecvFrom id most) happens = happens ≡ event.Call side (call.RecvFrom id most)
IsEventOf side (CountFrom id most) happens = happens ≡ event.Call side (call.RecvFrom id most)
IsEventOf side (Shutdown id) happens = happens ≡ event.Call side (call.Shutdown id)
IsEventOf side (NoDelay id on) happens = happens ≡ event.Call side (call.SetNoDelay id on)
IsEventOf side (Close id) happens = happens ≡ event.Call side (call.Close id)
IsEventOf side (Abort id) happens = happens ≡ event.Call side (call.Abort id)
IsEventOf side (State id) happens = happens ≡ event.Call side (call.State id)
IsEventOf side (Ready id) happens = happens ≡ event.Call side (call.Ready id)
IsEventOf side (Info id) happens = happens ≡ event.Call side (call.Info id)
IsEventOf side (Tick moment) happens = happens ≡ event.Tick side moment
IsEventOf side Emit happens = happens ≡ event.Emit side
IsEventOf side (Deliver index isn) happens = happens ≡ event.Deliver side index isn
