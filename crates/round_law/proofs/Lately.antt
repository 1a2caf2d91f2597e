-- Why a neighbour that was heard lately is known a minute later.
use Rattle.std.proofs.Common.{◌≡◌, ◌+◌, ◌^◌, ◌<◌, ◌&&◌, cond, Bool, true, List, [], ◌∷◌, Option, Some, option_map, arith, sym, ◌∙◌, ap}
use Rattle.std.specs.List.{find}
use Rattle.std.proofs.lemmas.Bool.{lt-ltb}
use Rattle.clock.specs.declared.moment.Moment.{Moment}
use Rattle.clock.specs.Moments.{after}
use Rattle.ether.specs.declared.mac.Mac.{Mac}
use Rattle.ipv4.specs.declared.addr.Addr.{Addr}
use Rattle.arp.specs.declared.entry.Neighbour.{Neighbour}
use Rattle.arp.specs.Cache.{is_pair_of, is_live_pair}
use Rattle.interface.specs.InterfaceView.{InterfaceView}
use Rattle.interface.specs.Ways.{mac_of, hop_mac}
use Rattle.tcp_halves.proofs.Choices.{by}
use Rattle.round_law.specs.Exchange.{minute_past}
use Rattle.round_law.specs.Progress.{IsHeardLately}

-- what is found first by a test is found by that and another that it passes
found_too : {X : Type 0} (test more : X → Bool) (xs : List X) (x : X) → find test xs ≡ Some x → more x ≡ true → find (λ y. test y && more y) xs ≡ Some x
found_too test more [] x found passes = cc
found_too {X} test more (y ∷ ys) x found passes =
    by (find (λ z. test z && more z) (y ∷ ys) ≡ Some x) (test y)
    (λ here.
    let first : Some y ≡ Some x = ap (λ b. cond b (Some y) (find test ys)) (sym here) ∙ found in
    let same : y ≡ x = cc in
    ap (λ b. cond (b && more y) (Some y) (find (λ z. test z && more z) ys)) here ∙ (ap (λ b. cond b (Some y) (find (λ z. test z && more z) ys)) (ap more same ∙ passes) ∙ ap (λ (z : X). Some z) same))
    (λ there.
    let later : find test ys ≡ Some x = ap (λ b. cond b (Some y) (find test ys)) (sym there) ∙ found in
    ap (λ b. cond (b && more y) (Some y) (find (λ z. test z && more z) ys)) there ∙ found_too test more ys x later passes)

lives_on : (now : Moment) (pair : Neighbour) → now.0 < pair.heard.0 + 1100000 → now.0 < 2 ^ 63 → is_live_pair (minute_past now) pair ≡ true
lives_on now pair lately early =
    let later = minute_past now in
    let end = after pair.heard 1200000 in
    lt-ltb later.0 end.0 (omega (arith, lately, early))

pub known_later : (i : InterfaceView) (now : Moment) (to : Addr) (mac : Mac) → IsHeardLately i now to mac → now.0 < 2 ^ 63 → hop_mac i (minute_past now) to ≡ Some mac
known_later i now to mac heard early =
    let later = minute_past now in
    ap (mac_of later i.cache) heard.leads
    ∙ (ap (λ (o : Option Neighbour). option_map (λ pair. pair.mac) o) (found_too (is_pair_of heard.hop) (is_live_pair later) i.cache.pairs heard.pair heard.known (lives_on now heard.pair heard.lately early)) ∙ ap (λ (m : Mac). Some m) heard.its_mac)
