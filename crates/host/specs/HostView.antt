-- What a reader sees of a host: the frame side, the table of sockets and connections over the same address, the pool in which fragments of
-- datagrams are put together, and the datagrams that were whole lately.
use Rattle.std.specs.Prelude.{List, [], length}
use Rattle.interface.specs.InterfaceView.{InterfaceView, fresh}
use Rattle.reassembly.specs.declared.finished.Finished.{Finished}
use Rattle.reassembly.specs.Reassembly.{PoolView, new_pool}
use Rattle.sockets.specs.SocketsView.{SocketsView, new_sockets}
use Rattle.host.specs.declared.sizes.Sizes.{Sizes}
use Rattle.host.specs.ConfigView.{ConfigView}

pub record HostView : Type 0 where
  pub interface : InterfaceView
  pub sockets : SocketsView
  pub pool : PoolView
  -- noted by a host on its guard alone
  pub lately : List Finished

-- a host on which nothing happened
abbrev pub new_host : ConfigView → HostView
new_host c = record {
  interface = fresh c.sizes.neighbours c.sizes.replies c.mac c.addr c.routes;
  sockets = new_sockets c.addr c.manner (record { entries = c.sizes.entries; buffer = c.sizes.buffer });
  pool = new_pool c.sizes.reassemblies c.sizes.reassembly_octets;
  lately = [];
}

-- how large it is
abbrev pub sizes_of : HostView → Sizes
sizes_of h = record {
  entries = h.sockets.sizes.entries;
  buffer = h.sockets.sizes.buffer;
  reassemblies = length h.pool.places;
  reassembly_octets = h.pool.octets;
  replies = h.interface.most_replies;
  neighbours = h.interface.cache.most;
}

-- the frame side is this, or the table, the pool or what was whole lately is, and all else as it was
abbrev pub with_interface : HostView → InterfaceView → HostView
with_interface h interface = record h { interface = interface }

abbrev pub with_sockets : HostView → SocketsView → HostView
with_sockets h sockets = record h { sockets = sockets }

abbrev pub with_pool : HostView → PoolView → HostView
with_pool h pool = record h { pool = pool }

abbrev pub with_lately : HostView → List Finished → HostView
with_lately h lately = record h { lately = lately }
