-- What every host keeps of itself.
use Rattle.std.specs.Prelude.{◌≡◌, ◌≤◌, length}
use Rattle.ipv4.specs.Addresses.{IsUnicast}
use Rattle.interface.specs.Sound.{IsSound}
use Rattle.reassembly.specs.declared.pool.TheConstants.{MOST_PLACES}
use Rattle.sockets.specs.Sound.{IsSoundTable}
use Rattle.host.specs.HostView.{HostView}

-- both sides are sound, over the same address, which is one host's, and at most 16 datagrams are put together at once
pub record IsSoundHost (h : HostView) : Type 0 where
  pub interface : IsSound h.interface
  pub table : IsSoundTable h.sockets
  pub own : h.interface.addr ≡ h.sockets.addr
  pub single : IsUnicast h.interface.addr
  pub pool : length h.pool.places ≤ MOST_PLACES
