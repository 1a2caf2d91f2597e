-- What goes out at one moment is finite, and what waits for a request waits for a moment ahead.
use Rattle.std.proofs.Common.{◌≡◌, ◌≢◌, ℕ, zero, suc, ◌+◌, ◌<◌, ◌≤◌, ◌^◌, Bool, true, false, ◌||◌, nat_le, cond, List, [], ◌∷◌, length, remove, Option, Some, None, is_some, refl, sym, ◌∙◌, ap, subst, arith}
use Rattle.std.specs.List.{slice_get}
use Rattle.std.proofs.lemmas.Bool.Decides.{nat_tests}
use Rattle.ether.specs.declared.mac.Mac.{Mac}
use Rattle.ipv4.specs.declared.addr.Addr.{Addr}
use Rattle.clock.specs.declared.moment.Moment.{Moment}
use Rattle.arp.specs.Cache.{Cache, look, may_ask, requests_left, IsNextAsk}
use Rattle.arp.specs.Waits.{next_ask}
use Rattle.arp.proofs.Kept.{one_fewer}
use Rattle.arp.proofs.WaitsOver.{next_is, never_again}
use Rattle.interface.specs.declared.reply.Waiting.{Waiting}
use Rattle.interface.specs.declared.way.Way.{Way}
use Rattle.interface.specs.declared.way.Way.TheVariants.{To, Ask, Waits}
use Rattle.interface.specs.InterfaceView.{InterfaceView}
use Rattle.interface.specs.Routing.{next_hop}
use Rattle.interface.specs.Ways.{way, way_over, way_by_mac}
use Rattle.interface.specs.Emission.{asked, way_of_one, way_at, left_by, after_emission, frames_left}
use Rattle.interface.specs.Timing.{asked_until, asked_until_over}
use Rattle.interface.proofs.Waits.{asks, reply_asks}

one_removed : {X : Type 0} (xs : List X) (k : ℕ) (x : X) → slice_get xs k ≡ Some x → length (remove xs k) + 1 ≡ length xs
one_removed [] k x e = absurd cc
one_removed {X} (y ∷ ys) zero x e = omega arith
one_removed {X} (y ∷ ys) (suc k) x e = omega (arith, one_removed ys k x e)

within : (h : InterfaceView) (now : Moment) (o : Option Waiting) (mac : Mac) → way_of_one h now o ≡ To mac → is_some o ≡ true
within h now None mac e = absurd cc
within h now (Some w) mac e = refl

-- a reply that goes out
pub one_reply : (h : InterfaceView) (now : Moment) (place : ℕ) (mac : Mac) → way_at h now place ≡ To mac
    → (length (after_emission h now place).replies + 1 ≡ length h.replies) × (requests_left now (after_emission h now place).cache.asked ≡ requests_left now h.cache.asked)
one_reply h now place mac goes =
    (by_one (slice_get h.replies place) refl (within h now (slice_get h.replies place) mac goes), ap (λ (w : Way). requests_left now (left_by h now place w).cache.asked) goes)
  where
    left : (w : Waiting) → slice_get h.replies place ≡ Some w → length (after_emission h now place).replies + 1 ≡ length h.replies
    left w e = ap (λ (x : Way). length (left_by h now place x).replies + 1) goes ∙ one_removed h.replies place w e

    by_one : (o : Option Waiting) → slice_get h.replies place ≡ o → is_some o ≡ true → length (after_emission h now place).replies + 1 ≡ length h.replies
    by_one None e some = absurd cc
    by_one (Some w) e some = left w e

asked_in : (h : InterfaceView) (now : Moment) (o : Option Waiting) (hop : Addr) → way_of_one h now o ≡ Ask hop → may_ask now hop h.cache.asked ≡ true
asked_in h now None hop e = absurd cc
asked_in h now (Some w) hop e = reply_asks h now w.reply hop e

-- a request in its place
pub one_request : (h : InterfaceView) (now : Moment) (place : ℕ) (hop : Addr) → way_at h now place ≡ Ask hop
    → (length (after_emission h now place).replies ≡ length h.replies) × (requests_left now (after_emission h now place).cache.asked + 1 ≡ requests_left now h.cache.asked)
one_request h now place hop goes =
    let may : may_ask now hop h.cache.asked ≡ true = asked_in h now (slice_get h.replies place) hop goes in
    (ap (λ (w : Way). length (left_by h now place w).replies) goes, ap (λ (w : Way). requests_left now (left_by h now place w).cache.asked + 1) goes ∙ one_fewer now hop h.cache.asked may)

-- a request for something else
pub one_asked : (h : InterfaceView) (now : Moment) (to hop : Addr) → way h now to ≡ Ask hop
    → (length (asked h now hop).replies ≡ length h.replies) × (requests_left now (asked h now hop).cache.asked + 1 ≡ requests_left now h.cache.asked)
one_asked h now to hop goes = (refl, one_fewer now hop h.cache.asked (asks h now to hop goes))

-- either
pub fewer : (h : InterfaceView) (now : Moment) (place : ℕ) → way_at h now place ≢ Waits → frames_left (after_emission h now place) now + 1 ≡ frames_left h now
fewer h now place goes = by_way (way_at h now place) refl goes
  where
    by_way : (w : Way) → way_at h now place ≡ w → w ≢ Waits → frames_left (after_emission h now place) now + 1 ≡ frames_left h now
    by_way (To mac) e some = let left = one_reply h now place mac e in omega (arith, left.0, left.1)
    by_way (Ask hop) e some = let left = one_request h now place hop e in omega (arith, left.0, left.1)
    by_way Waits e some = absurd (some refl)

-- What waits for a request.

next_from : (hop : Addr) (cache : Cache) → length cache.asked ≤ 64 → IsNextAsk hop cache.asked (next_ask hop cache.asked)
unfolding next_ask
next_from hop cache few = next_is hop cache.asked (next_ask hop cache.asked) few refl

way_waits : (now : Moment) (cache : Cache) (hop : Addr) → is_some (look now hop cache) ≡ false → may_ask now hop cache.asked ≡ false → way_over now cache (Some hop) ≡ Waits
way_waits now cache hop unknown not_now = by_mac (look now hop cache) unknown
  where
    by_mac : (mac : Option Mac) → is_some mac ≡ false → way_by_mac now cache.asked hop mac ≡ Waits
    by_mac (Some mac) known = absurd cc
    by_mac None known = ap (λ b. cond b (Ask hop) Waits) not_now

ahead_over : (now m : Moment) (cache : Cache) (hop : Option Addr) → length cache.asked ≤ 64 → asked_until_over cache now hop ≡ Some m → (way_over now cache hop ≡ Waits) × (now.0 < m.0)
ahead_over now m cache None few is = absurd cc
ahead_over now m cache (Some hop) few is = by_tests (is_some (look now hop cache)) refl (may_ask now hop cache.asked) refl is
  where
    from : next_ask hop cache.asked ≡ Some m → may_ask now hop cache.asked ≡ nat_le m.0 now.0
    from next = let it : IsNextAsk hop cache.asked (Some m) = subst (IsNextAsk hop cache.asked) next (next_from hop cache few) in it.2 now

    by_tests : (b : Bool) → is_some (look now hop cache) ≡ b → (c : Bool) → may_ask now hop cache.asked ≡ c → cond (b || c) None (next_ask hop cache.asked) ≡ Some m
        → (way_over now cache (Some hop) ≡ Waits) × (now.0 < m.0)
    by_tests true known c may next = absurd cc
    by_tests false known true may next = absurd cc
    by_tests false known false may next =
        let not_come : nat_le m.0 now.0 ≡ false = sym (from next) ∙ may in
        (way_waits now cache hop known may, grind (arith, nat_tests, not_come))

pub ahead : (h : InterfaceView) (now m : Moment) (to : Addr) → length h.cache.asked ≤ 64 → asked_until h now to ≡ Some m → (way h now to ≡ Waits) × (now.0 < m.0)
ahead h now m to few is = ahead_over now m h.cache (next_hop h.routes to) few is

not_asked : (now : Moment) (cache : Cache) (hop : Addr) → way_over now cache (Some hop) ≡ Waits → (is_some (look now hop cache) || may_ask now hop cache.asked) ≡ false
not_asked now cache hop waits = by_mac (look now hop cache) waits
  where
    by_mac : (mac : Option Mac) → way_by_mac now cache.asked hop mac ≡ Waits → (is_some mac || may_ask now hop cache.asked) ≡ false
    by_mac (Some mac) e = absurd cc
    by_mac None e = by_test (may_ask now hop cache.asked) e
      where
        by_test : (b : Bool) → cond b (Ask hop) Waits ≡ Waits → b ≡ false
        by_test true is = absurd cc
        by_test false is = refl

or_false : (a b : Bool) → (a || b) ≡ false → b ≡ false
or_false true b e = absurd cc
or_false false b e = e

never_over : (now later : Moment) (cache : Cache) (hop : Addr) → length cache.asked ≤ 64 → later.0 < 2 ^ 64 → way_over now cache (Some hop) ≡ Waits
    → asked_until_over cache now (Some hop) ≡ None → may_ask later hop cache.asked ≡ false
unfolding next_ask
never_over now later cache hop few within waits none =
    let not_now = not_asked now cache hop waits in
    let no_next : next_ask hop cache.asked ≡ None = sym (ap (λ (b : Bool). cond b None (next_ask hop cache.asked)) not_now) ∙ none in
    never_again hop cache.asked now later few no_next (or_false (is_some (look now hop cache)) (may_ask now hop cache.asked) not_now) within

pub never : (h : InterfaceView) (now later : Moment) (to hop : Addr) → length h.cache.asked ≤ 64 → later.0 < 2 ^ 64
    → way h now to ≡ Waits → next_hop h.routes to ≡ Some hop → asked_until h now to ≡ None → may_ask later hop h.cache.asked ≡ false
never h now later to hop few within waits leads none =
    never_over now later h.cache hop few within (ap (way_over now h.cache) (sym leads) ∙ waits) (ap (asked_until_over h.cache now) (sym leads) ∙ none)
