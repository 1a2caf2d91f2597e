-- What a host knows of its link, and what of its own waits to go out on it.
use Rattle.std.specs.Prelude.{ℕ, List, []}
use Rattle.ether.specs.declared.mac.Mac.{Mac}
use Rattle.ipv4.specs.declared.addr.Addr.{Addr}
use Rattle.routes.specs.declared.route.Route.{Route}
use Rattle.arp.specs.Cache.{Cache, empty}
use Rattle.interface.specs.declared.reply.Waiting.{Waiting}

-- its MAC and its address, its routes, what it heard and asked for, how many control replies may wait, and those that wait, in order
pub record InterfaceView : Type 0 where
  pub mac : Mac
  pub addr : Addr
  pub routes : List Route
  pub cache : Cache
  pub most_replies : ℕ
  pub replies : List Waiting

-- nothing was heard, and nothing waits; so many neighbours are kept at most, and so many control replies may wait
abbrev pub fresh : ℕ → ℕ → Mac → Addr → List Route → InterfaceView
fresh neighbours most_replies mac addr routes =
    record { mac = mac; addr = addr; routes = routes; cache = empty neighbours; most_replies = most_replies; replies = [] }
