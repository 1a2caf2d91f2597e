-- Routes that are passed make a table, or make none.
use Rattle.std.proofs.Common.{◌≡◌, ℕ, ◌<◌, ◌+◌, List, [], ◌∷◌, ◌++◌, length, get_or, map, take, refl, sym, ap, subst, ◌∙◌, arith}
use Rattle.std.proofs.lemmas.List.{length-map, get_or-map, get_or-take, length-take-le, take_more, map-append}
use Rattle.std.specs.Prelude.{◌↔◌, Result, Ok, Err, IsErr}
use Rattle.ipv4.specs.declared.addr.Addr.{Addr}
use Rattle.routes.specs.declared.route.Hop.{Hop}
use Rattle.ipv4.specs.declared.prefix.Prefix.{Prefix}
use Rattle.ipv4.specs.Prefixes.{IsPrefix, bit}
use Rattle.ipv4.proofs.OnePrefix.{one_prefix}
use Rattle.routes.specs.declared.route.Route.{Route}
use Rattle.routes.specs.declared.table.AddFault.{AddFault}
use Rattle.routes.specs.declared.table.AddFault.TheVariants.{Full, SamePrefix}
use Rattle.routes.specs.declared.table.TheConstants.{MOST}
use Rattle.routes.specs.Routes.{HasPrefix}
use Rattle.hostc.specs.Types.{addr_of, hop_of}
use Rattle.hostc.specs.Setup.{said, said_by, IsTold, IsValidTable}
use Rattle.hostc.specs.declared.types.HostRoute.{HostRoute}

same_prefix : (p q : Prefix) → p.addr ≡ q.addr → p.length ≡ q.length → p ≡ q
same_prefix p q a l = one_prefix p q q.addr l (λ k h. ap (λ (x : Rattle.ipv4.specs.declared.addr.Addr.Addr). bit x k) a) (λ k h. refl)

-- as many routes as were passed, and each says what was passed in its place
as_many : (given : List HostRoute) (table : List Route) → IsTold given table → length table ≡ length given
as_many given table told = sym (length-map table said) ∙ ap length told ∙ length-map given said_by

-- over 32 routes make none
pub too_many : (given : List HostRoute) → MOST < length given → ¬ IsValidTable given
too_many given over v = let told = as_many given v.0 v.2 in let most = v.1.limit in absurd (omega (arith, told, most, over))

at_place : (given : List HostRoute) (table : List Route) (i : ℕ) (d : Route) (r : HostRoute) → IsTold given table → i < length table → i < length given → said (get_or table i d) ≡ said_by (get_or given i r)
at_place given table i d r told here there = sym (get_or-map said table i d (said d) here) ∙ ap (λ xs. get_or xs i (said d)) told ∙ get_or-map said_by given i r (said d) there

-- a route whose prefix is none
pub no_prefix : (given : List HostRoute) (i : ℕ) (r z : HostRoute) → i < length given → r ≡ get_or given i z → ¬ IsPrefix (addr_of r.prefix) r.length → ¬ IsValidTable given
no_prefix given i r z within is not v = by_table v.0 v.2
  where
    by_table : (table : List Route) → IsTold given table → ⊥
    by_table [] told = let n = as_many given [] told in absurd (omega (arith, n, within))
    by_table (first ∷ rest) told =
        let n = as_many given (first ∷ rest) told in
        let here = get_or (first ∷ rest) i first in
        let e : said here ≡ said_by r = at_place given (first ∷ rest) i first z told (omega (arith, n, within)) within ∙ ap said_by (sym is) in
        not (subst (λ x. IsPrefix x.0 x.1) e here.prefix.form)

-- a route whose prefix an earlier one has
pub same_prefix_twice : (given : List HostRoute) (routes : List Route) (i : ℕ) (r z : HostRoute) (prefix : Prefix) → i < length given → r ≡ get_or given i z
    → map said routes ≡ map said_by (take i given) → prefix.addr ≡ addr_of r.prefix → prefix.length ≡ r.length → HasPrefix routes prefix → ¬ IsValidTable given
same_prefix_twice given routes i r z prefix within is so_far pa pl has v =
    let table = v.0 in let told = v.2 in let d = has.0 in let j = has.1.0 in
    let n = as_many given table told in let m : length routes ≡ length (take i given) = as_many (take i given) routes so_far in let k : length (take i given) ≡ i = length-take-le i given (omega (arith, within)) in
    let below : j < i = omega (arith, m, k, has.1.1) in
    let earlier : said (get_or table j d) ≡ said d = at_place given table j d z told (omega (arith, n, below, within)) (omega (arith, below, within)) ∙ ap said_by (sym (get_or-take i given j z below))
    ∙ sym (at_place (take i given) routes j d z so_far has.1.1 (omega (arith, k, below))) ∙ ap said has.1.2 in
    let later : said (get_or table i d) ≡ said_by r = at_place given table i d z told (omega (arith, n, within)) within ∙ ap said_by (sym is) in
    let one : (get_or table j d).prefix ≡ prefix = same_prefix (get_or table j d).prefix d.prefix (ap (λ x. x.0) earlier) (ap (λ x. x.1) earlier) ∙ has.2 in
    let other : (get_or table i d).prefix ≡ prefix = same_prefix (get_or table i d).prefix prefix (ap (λ x. x.0) later ∙ sym pa) (ap (λ x. x.1) later ∙ sym pl) in
    v.1.apart j i d below (omega (arith, n, within)) (one ∙ sym other)

-- a route past the last place
pub full_before : (given : List HostRoute) (routes : List Route) (i : ℕ) → i < length given → map said routes ≡ map said_by (take i given) → length routes ≡ 32 → ¬ IsValidTable given
full_before given routes i within so_far full v =
    let n = as_many given v.0 v.2 in let m = as_many (take i given) routes so_far in let k = length-take-le i given (omega (arith, within)) in
    absurd (omega (arith, n, m, k, full, within, v.1.limit))

-- a route that a table doesn't take
pub not_taken : (given : List HostRoute) (routes : List Route) (i : ℕ) (r z : HostRoute) (prefix : Prefix) (answer : Result (Unit {0}) AddFault) → i < length given → r ≡ get_or given i z
    → map said routes ≡ map said_by (take i given) → prefix.addr ≡ addr_of r.prefix → prefix.length ≡ r.length
    → (answer ≡ Err SamePrefix) ↔ HasPrefix routes prefix → (answer ≡ Err Full) ↔ (¬ HasPrefix routes prefix × (length routes ≡ 32)) → IsErr answer → ¬ IsValidTable given
not_taken given routes i r z prefix (Ok done) within is so_far pa pl same full err = absurd cc
not_taken given routes i r z prefix (Err SamePrefix) within is so_far pa pl same full err = same_prefix_twice given routes i r z prefix within is so_far pa pl (same.0 refl)
not_taken given routes i r z prefix (Err Full) within is so_far pa pl same full err = full_before given routes i within so_far (full.0 refl).1

-- what is told is told with one more
pub told_one_more : (given : List HostRoute) (routes new : List Route) (i : ℕ) (r z : HostRoute) (route : Route) → i < length given → r ≡ get_or given i z → map said routes ≡ map said_by (take i given)
    → new ≡ routes ++ route ∷ [] → route.prefix.addr ≡ addr_of r.prefix → route.prefix.length ≡ r.length → route.hop ≡ hop_of r.gateway → map said new ≡ map said_by (take (i + 1) given)
told_one_more given routes new i r z route within is so_far e pa pl ph =
    let alike : said route ≡ said_by r = ap (λ (x : Addr). (x, route.prefix.length, route.hop)) pa ∙ ap (λ (x : ℕ). (addr_of r.prefix, x, route.hop)) pl ∙ ap (λ (x : Hop). (addr_of r.prefix, r.length, x)) ph in
    ap (map said) e ∙ map-append said routes (route ∷ []) ∙ ap (λ xs. xs ++ said route ∷ []) so_far ∙ ap (λ x. map said_by (take i given) ++ x ∷ []) (alike ∙ ap said_by is)
    ∙ sym (map-append said_by (take i given) (get_or given i z ∷ [])) ∙ sym (ap (map said_by) (take_more given i z within))
