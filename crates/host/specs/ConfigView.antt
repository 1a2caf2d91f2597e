-- How a host is set up.
use Rattle.std.specs.Prelude.{◌≡◌, ◌%◌, true, false, List, length, slice_index}
use Rattle.ether.specs.declared.mac.Mac.{Mac}
use Rattle.ipv4.specs.declared.addr.Addr.{Addr}
use Rattle.ipv4.specs.Addresses.{IsUnicast}
use Rattle.routes.specs.declared.route.Route.{Route}
use Rattle.congestion.specs.declared.control.TheConstants.Control.{PLAIN}
use Rattle.tcp_halves.specs.declared.buffers.Manner.{Manner}
use Rattle.host.specs.declared.sizes.Sizes.{Sizes}
use Rattle.host.specs.Sizes.{IsSizes}

-- its MAC, its address and its routes, how its connections behave, and how large it is
pub record ConfigView : Type 0 where
  pub mac : Mac
  pub addr : Addr
  pub routes : List Route
  pub manner : Manner
  pub sizes : Sizes

-- The manner of a set-up that asks for no other: windows are scaled (RFC 7323 section 2), small segments wait for all that is outstanding (RFC 9293
-- section 3.7.4), congestion control is that of RFC 5681 alone, and no timeout is less than a second (RFC 6298 section 2.4).
abbrev pub usual_manner : Manner
usual_manner = record { scales = true; minshall = false; control = PLAIN; least_timeout = 1000; guards = false }

-- the MAC of one interface: the low bit of the first octet of a group's is set (IEEE 802)
abbrev pub IsOfOne : Mac → Type 0
IsOfOne mac = slice_index mac.0 0 % 2 ≡ 0

-- one host's address, one interface's MAC, and sizes in their ranges
pub record IsConfig (c : ConfigView) : Type 0 where
  pub addr : IsUnicast c.addr
  pub mac : IsOfOne c.mac
  pub octets : length c.mac.0 ≡ 6
  pub sizes : IsSizes c.sizes
