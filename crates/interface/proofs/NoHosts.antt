-- Which addresses are no host's.
use Rattle.std.proofs.Common.{◌≡◌, ◌↔◌, zero, suc, ◌<◌, ◌&&◌, ◌||◌, Bool, true, false, List, [], ◌∷◌, length, All, Contains, refl, ◌∙◌, ap, arith}
use Rattle.std.specs.List.{list_any}
use Rattle.std.proofs.lemmas.Bool.{and_parts, and_from}
use Rattle.ipv4.specs.declared.addr.Addr.{Addr}
use Rattle.routes.specs.declared.route.Hop.{Hop}
use Rattle.routes.specs.declared.route.Hop.TheVariants.{Direct, Gateway}
use Rattle.routes.specs.declared.route.Route.{Route}
use Rattle.routes.specs.Ends.{is_direct, is_end_of}
use Rattle.routes.proofs.Ends.{end_decides}
use Rattle.interface.specs.InterfaceView.{InterfaceView}
use Rattle.interface.specs.Strangers.{IsLinkEnd, is_no_host}

-- one that passes is there, where any does
any_there : {X : Type 0} (p : X → Bool) (xs : List X) → list_any p xs ≡ true → (x : X) × Contains xs x × (p x ≡ true)
any_there p [] is = cc
any_there {X} p (y ∷ ys) is = by_first (any_there p ys) (p y) refl is
  where
    by_first : (list_any p ys ≡ true → (x : X) × Contains ys x × (p x ≡ true)) → (b : Bool) → p y ≡ b → (b || list_any p ys) ≡ true → (x : X) × Contains (y ∷ ys) x × (p x ≡ true)
    by_first further true at is = (y, (0, omega arith, refl), at)
    by_first further false at is = let rest = further is in let there = rest.1 in (rest.0, (suc there.0, omega (arith, there.1), there.2), rest.2)

any_of : {X : Type 0} (p : X → Bool) (xs : List X) (x : X) → Contains xs x → p x ≡ true → list_any p xs ≡ true
any_of p [] x (k, within, there) passes = absurd (omega (arith, within))
any_of p (y ∷ ys) x (zero, within, there) passes = let at : p y ≡ true = ap p there ∙ passes in rw at refl
any_of p (y ∷ ys) x (suc k, within, there) passes = let rest = any_of p ys x (k, omega (arith, within), there) passes in or_true (p y) rest
  where
    or_true : (a : Bool) {b : Bool} → b ≡ true → (a || b) ≡ true
    or_true true e = refl
    or_true false e = e

is_direct_hop : (hop : Hop) → is_direct hop ≡ true → hop ≡ Direct
is_direct_hop Direct is = refl
is_direct_hop (Gateway gateway) is = cc

pub no_host : (i : InterfaceView) (addr : Addr) → length addr.0 ≡ 4 → All (λ octet. octet < 256) addr.0 → (is_no_host i addr ≡ true) ↔ IsLinkEnd i addr
no_host i addr four octets = (to, from)
  where
    passes : Route → Bool
    passes route = is_direct route.hop && is_end_of addr route.prefix

    to : is_no_host i addr ≡ true → IsLinkEnd i addr
    to is =
        let found = any_there passes i.routes is in
        let route : Route = found.0 in
        let both = and_parts (is_direct route.hop) (is_end_of addr route.prefix) found.2 in
        record { route = route; listed = found.1; direct = is_direct_hop route.hop both.0; ends = (end_decides route.prefix addr four octets).0 both.1 }

    from : IsLinkEnd i addr → is_no_host i addr ≡ true
    from e = any_of passes i.routes e.route e.listed (and_from (is_direct e.route.hop) (is_end_of addr e.route.prefix) (ap is_direct e.direct) ((end_decides e.route.prefix addr four octets).1 e.ends))
