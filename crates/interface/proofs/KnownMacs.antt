-- The MAC of a next hop that is known has the width of one.
use Rattle.std.proofs.Common.{◌≡◌, Bool, true, false, List, [], ◌∷◌, length, find, cond, ◌&&◌, Option, Some, None, option_map}
use Rattle.std.specs.List.{AllByRecursion}
use Rattle.ether.specs.declared.mac.Mac.{Mac}
use Rattle.ipv4.specs.declared.addr.Addr.{Addr}
use Rattle.clock.specs.declared.moment.Moment.{Moment}
use Rattle.arp.specs.declared.entry.Neighbour.{Neighbour}
use Rattle.interface.specs.InterfaceView.{InterfaceView}
use Rattle.interface.specs.Routing.{next_hop}
use Rattle.interface.specs.Sound.{IsSound}
use Rattle.interface.specs.Ways.{hop_mac, mac_of}
use Rattle.arp.specs.Cache.{is_live_pair, is_pair_of}

abbrev HasWholeMac : Neighbour → Type 0
HasWholeMac pair = length pair.mac.0 ≡ 6

found_whole : (test : Neighbour → Bool) (pairs : List Neighbour) (mac : Mac) → AllByRecursion HasWholeMac pairs → option_map (λ (pair : Neighbour). pair.mac) (find test pairs) ≡ Some mac → length mac.0 ≡ 6
found_whole test [] mac whole found = cc
found_whole test (pair ∷ rest) mac whole found = by_test (test pair) (found_whole test rest mac whole.1) found
  where
    by_test : (b : Bool) → (option_map (λ (other : Neighbour). other.mac) (find test rest) ≡ Some mac → length mac.0 ≡ 6) → option_map (λ (pair : Neighbour). pair.mac) (cond b (Some pair) (find test rest)) ≡ Some mac → length mac.0 ≡ 6
    by_test true further e =
        let same : pair.mac ≡ mac = cc in
        rw (← same) whole.0
    by_test false further e = further e

pub known_macs : (h : InterfaceView) (now : Moment) (to : Addr) (mac : Mac) → IsSound h → hop_mac h now to ≡ Some mac → length mac.0 ≡ 6
known_macs h now to mac sound known = by_hop (next_hop h.routes to) known
  where
    by_hop : (hop : Option Addr) → mac_of now h.cache hop ≡ Some mac → length mac.0 ≡ 6
    by_hop None e = cc
    by_hop (Some hop) e = found_whole (λ (pair : Neighbour). is_pair_of hop pair && is_live_pair now pair) h.cache.pairs mac sound.neighbours e
