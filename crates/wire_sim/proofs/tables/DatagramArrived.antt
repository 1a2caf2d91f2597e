-- What a UDP datagram that arrived, whole or in fragments, makes of the table.
use Rattle.std.proofs.Common.{◌≡◌, ℕ, Bool, true, false, List, Option, Some, None, Result, Ok, Err, take, ap}
use Rattle.ipv4.specs.declared.addr.Addr.{Addr}
use Rattle.ipv4.specs.Datagram.{Datagram}
use Rattle.clock.specs.declared.moment.Moment.{Moment}
use Rattle.frames.specs.declared.drop.DropCause.{DropCause}
use Rattle.reassembly.specs.Reassembly.{Outcome}
use Rattle.reassembly.specs.Reassembly.Outcome.{Waits, Completes, GivesUp}
use Rattle.udp.specs.declared.fault.UdpFault.{UdpFault}
use Rattle.udp.specs.Datagram.{UserDatagram}
use Rattle.udp.specs.Reading.{datagram_or_fault}
use Rattle.sockets.specs.declared.datagrams.Reception.{Reception}
use Rattle.sockets.specs.declared.datagrams.Reception.TheVariants.{Queued, NoRoom, NoSocket}
use Rattle.sockets.specs.Datagrams.{reception, after_reception}
use Rattle.sockets.specs.SocketsView.{SocketsView}
use Rattle.host.specs.HostView.{HostView, with_pool}
use Rattle.host.specs.Arrival.{after_user_datagram, after_payload, after_outcome, MeetsFragment, pool_for, with_noted}
use Rattle.reassembly.specs.Places.{after_take}

-- the table is as it was, or a UDP socket received a datagram
pub data UserArrived (own own' : SocketsView) : Type 0 where
  Kept : own' ≡ own → UserArrived own own'
  Came : (source : Addr) (d : UserDatagram) → own' ≡ after_reception own source d → UserArrived own own'

-- by what becomes of it
pub user-arrived : (r : Reception) (h h' : HostView) (moment : Moment) (source : Addr) (d : UserDatagram) (quote : List ℕ) → h' ≡ after_user_datagram r h moment source d quote → UserArrived h.sockets h'.sockets
user-arrived Queued h h' moment source d quote becomes = Came source d (ap (λ (w : HostView). w.sockets) becomes)
user-arrived NoRoom h h' moment source d quote becomes = Kept (ap (λ (w : HostView). w.sockets) becomes)
user-arrived NoSocket h h' moment source d quote becomes = Kept (ap (λ (w : HostView). w.sockets) becomes)

-- a fragment, by what it comes to
pub fragment-arrived : (o : Option Outcome) (late : Bool) (h h' : HostView) (moment : Moment) (d : Datagram) (answer : Result (Unit {0}) DropCause) → MeetsFragment o late h moment d answer h' → UserArrived h.sockets h'.sockets
fragment-arrived None late h h' moment d answer meets = Kept (ap (λ (w : HostView). w.sockets) meets.1)
fragment-arrived (Some outcome) true h h' moment d answer meets = Kept (ap (λ (w : HostView). w.sockets) meets.1)
fragment-arrived (Some outcome) false h h' moment d answer meets = by_outcome outcome meets.1
  where
    next : HostView
    next = with_pool h (after_take moment d (pool_for h.sockets.manner.guards d h.pool))

    by_payload : (r : Result UserDatagram UdpFault) (quote : List ℕ) → h' ≡ after_payload r (with_noted next moment d) moment d.source quote → UserArrived h.sockets h'.sockets
    by_payload (Ok u) quote becomes = user-arrived (reception h.sockets u) (with_noted next moment d) h' moment d.source u (take 68 quote) becomes
    by_payload (Err fault) quote becomes = Kept (ap (λ (w : HostView). w.sockets) becomes)

    by_outcome : (x : Outcome) → h' ≡ after_outcome x next moment d → UserArrived h.sockets h'.sockets
    by_outcome (Waits r) becomes = Kept (ap (λ (w : HostView). w.sockets) becomes)
    by_outcome GivesUp becomes = Kept (ap (λ (w : HostView). w.sockets) becomes)
    by_outcome (Completes payload quote) becomes = by_payload (datagram_or_fault d.source d.destination payload) quote becomes
