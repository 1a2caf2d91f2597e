-- Tables of routes, by their entries.
use Rattle.std.proofs.Common.{◌≡◌, ◌≢◌, ℕ, ◌<◌, ◌≤◌, ◌⊎◌, ⊎_elim, List, [], ◌∷◌, ◌++◌, length, get_or, Option, Some, None, MatchOption, IfSome, AllPairs, Contains, ◌↔◌, is_some, option_map, take, drop, zero, suc, remove, ◌+◌, drop-cons, length-append, arith, refl, sym, ◌∙◌, ap, subst}
use Rattle.std.specs.Bool.{Decides}
use Rattle.std.specs.List.{HoldsAt, AllWithin}
use Rattle.std.proofs.lemmas.Bool.{cases_order}
use Rattle.std.proofs.lemmas.List.{take_more, take_all, get_or_default, take-append-drop}
use Rattle.std.proofs.lemmas.List.Edits.{length-remove}
use Rattle.std.proofs.lemmas.List.Quantifiers.{all_pairs_push, all_pairs_remove}
use Rattle.ipv4.proofs.OnePrefix.{one_prefix}
use Rattle.std.proofs.lemmas.List.Elements.{Contains-append_left, Contains-get_or, Contains-push, Contains-push_cases}
use Rattle.ipv4.specs.declared.addr.Addr.{Addr}
use Rattle.ipv4.specs.declared.prefix.Prefix.{Prefix}
use Rattle.routes.specs.declared.route.Route.{Route}
use Rattle.routes.specs.declared.route.Hop.{Hop}
use Rattle.routes.specs.Routes.{IsTable, HasPrefix, TakesOut, Matches, IsBest, Picks}

-- what a search for a prefix found
pub found : (routes : List Route) (prefix : Prefix) (place : Option ℕ)
    → MatchOption place (AllWithin (λ route. route.prefix ≢ prefix) routes 0 (length routes))
    (λ i. (i < length routes) × HoldsAt (λ route. route.prefix ≡ prefix) routes i × AllWithin (λ route. route.prefix ≢ prefix) routes 0 i)
    → MatchOption place (¬ HasPrefix routes prefix) (λ i. (i < length routes) × HoldsAt (λ route. route.prefix ≡ prefix) routes i)
found routes prefix (Some i) h = (h.0, h.1)
found routes prefix None h = none
  where
    none : HasPrefix routes prefix → ⊥
    none has =
        let route = has.0 in
        let here = has.1 in
        let same : (get_or routes here.0 route).prefix ≡ prefix = ap (λ (r : Route). r.prefix) here.2 ∙ has.2 in
        h here.0 route (omega arith) here.1 same

-- so there is a place exactly where a route has the prefix
pub found-Decides : (routes : List Route) (prefix : Prefix) (place : Option ℕ)
    → MatchOption place (¬ HasPrefix routes prefix) (λ i. (i < length routes) × HoldsAt (λ route. route.prefix ≡ prefix) routes i)
    → Decides (is_some place) (HasPrefix routes prefix)
found-Decides routes prefix None none = (λ e. absurd cc, λ has. absurd (none has))
found-Decides [] prefix (Some i) h = absurd (omega (arith, h.0))
found-Decides (first ∷ rest) prefix (Some i) h = (λ _. has_prefix, λ _. refl)
  where
    has_prefix : HasPrefix (first ∷ rest) prefix
    has_prefix = (get_or (first ∷ rest) i first, Contains-get_or (first ∷ rest) i first h.0, h.1 first)

-- no route matches the address
abbrev pub NoneMatches : List Route → Addr → Type 0
NoneMatches routes addr = (route : Route) → Contains routes route → ¬ Matches route addr

-- what is known of the routes that were seen
abbrev pub BestSoFar : List Route → Addr → Option Route → Type 0
BestSoFar seen addr best = MatchOption best (NoneMatches seen addr) (IsBest seen addr)

-- one more route that does not match
pub passed_by : (seen : List Route) (addr : Addr) (best : Option Route) (route : Route) → ¬ Matches route addr → BestSoFar seen addr best
    → BestSoFar (seen ++ route ∷ []) addr best
passed_by seen addr None route not none = λ other here m.
    ⊎_elim (λ inside. none other inside m) (λ same. not (subst (λ (r : Route). Matches r addr) (sym same) m)) (Contains-push_cases seen route other here)
passed_by seen addr (Some best) route not is = record {
  entry = Contains-append_left seen (route ∷ []) best is.entry;
  matches = is.matches;
  longest = λ other here m. ⊎_elim (λ inside. is.longest other inside m) (λ same. absurd (not (subst (λ (r : Route). Matches r addr) (sym same) m))) (Contains-push_cases seen route other here);
}

-- one more route that matches: the longer of both
pub longer_of : (seen : List Route) (addr : Addr) (best : Option Route) (route longer : Route) → Matches route addr → BestSoFar seen addr best
    → (best ≡ Some longer) ⊎ (longer ≡ route) → route.prefix.length ≤ longer.prefix.length
    → IfSome best (λ b. b.prefix.length ≤ longer.prefix.length) → IsBest (seen ++ route ∷ []) addr longer
longer_of seen addr best route longer m so_far one than_this than_best = record { entry = entry; matches = matches; longest = longest }
  where
    kept : (o : Option Route) → o ≡ Some longer → BestSoFar seen addr o → IsBest seen addr longer
    kept None e h = absurd cc
    kept (Some b) e h = let same : b ≡ longer = cc in subst (λ (r : Route). IsBest seen addr r) same h

    entry : Contains (seen ++ route ∷ []) longer
    entry = ⊎_elim (λ e. Contains-append_left seen (route ∷ []) longer (kept best e so_far).entry) (λ e. subst (λ (r : Route). Contains (seen ++ route ∷ []) r) (sym e) (Contains-push seen route)) one

    matches : Matches longer addr
    matches = ⊎_elim (λ e. (kept best e so_far).matches) (λ e. subst (λ (r : Route). Matches r addr) (sym e) m) one

    earlier : (o : Option Route) → BestSoFar seen addr o → IfSome o (λ b. b.prefix.length ≤ longer.prefix.length) → (other : Route) → Contains seen other → Matches other addr
        → other.prefix.length ≤ longer.prefix.length
    earlier None none than other inside its = absurd (none other inside its)
    earlier (Some b) is than other inside its = let h = is.longest other inside its in omega arith

    longest : (other : Route) → Contains (seen ++ route ∷ []) other → Matches other addr → other.prefix.length ≤ longer.prefix.length
    longest other here its =
        ⊎_elim (λ inside. earlier best so_far than_best other inside its)
        (λ same. let e : route.prefix.length ≡ other.prefix.length = ap (λ (r : Route). r.prefix.length) same in omega arith) (Contains-push_cases seen route other here)

-- the routes that were seen, with the one at the next place
pub one_more : (routes : List Route) (i : ℕ) (route : Route) (addr : Addr) (best : Option Route) → i < length routes → route ≡ get_or routes i route
    → BestSoFar (take i routes ++ route ∷ []) addr best → BestSoFar (take (i + 1) routes) addr best
one_more routes i route addr best within at h =
    let more : take (i + 1) routes ≡ take i routes ++ route ∷ [] = take_more routes i route within ∙ ap (λ (r : Route). take i routes ++ r ∷ []) (sym at) in
    subst (λ (seen : List Route). BestSoFar seen addr best) (sym more) h

-- all routes were seen
pub all_seen : (routes : List Route) (i : ℕ) (addr : Addr) (best : Option Route) → length routes ≤ i → BestSoFar (take i routes) addr best → BestSoFar routes addr best
all_seen routes i addr best end h = subst (λ (seen : List Route). BestSoFar seen addr best) (take_all i routes end) h

-- the hop of the best route
pub picked : (table : List Route) (addr : Addr) (best : Option Route) (hop : Option Hop) → BestSoFar table addr best → hop ≡ option_map (λ r. r.hop) best → Picks table addr hop
picked table addr None hop none e = subst (λ (h : Option Hop). Picks table addr h) (sym e) none
picked table addr (Some best) hop is e = subst (λ (h : Option Hop). Picks table addr h) (sym e) (best, is, refl)

-- of a table, one route at most is the best
pub one_best : (table : List Route) (addr : Addr) (a b : Route) → IsTable table → IsBest table addr a → IsBest table addr b → a ≡ b
one_best table addr a b is best other = ⊎_elim same_place (λ apart. absurd (⊎_elim (λ before. differ a b best.entry other.entry before alike) (λ after. differ b a other.entry best.entry after (sym alike)) apart)) (cases_order best.entry.0 other.entry.0)
  where
    alike : a.prefix ≡ b.prefix
    alike =
        let up = other.longest a best.entry best.matches in
        let down = best.longest b other.entry other.matches in
        one_prefix a.prefix b.prefix addr (omega arith) best.matches other.matches

    same_place : best.entry.0 ≡ other.entry.0 → a ≡ b
    same_place e =
        sym best.entry.2 ∙ (ap (λ (i : ℕ). get_or table i a) e ∙ (get_or_default table other.entry.0 a b other.entry.1 ∙ other.entry.2))

    differ : (x y : Route) (hx : Contains table x) (hy : Contains table y) → hx.0 < hy.0 → x.prefix ≡ y.prefix → ⊥
    differ x y hx hy before e =
        let at_y : get_or table hy.0 x ≡ y = get_or_default table hy.0 x y hy.1 ∙ hy.2 in
        is.apart hx.0 hy.0 x before hy.1 (ap (λ (r : Route). r.prefix) hx.2 ∙ (e ∙ sym (ap (λ (r : Route). r.prefix) at_y)))

-- so `pick` has one answer
pub one_pick : (table : List Route) (addr : Addr) (a b : Option Hop) → IsTable table → Picks table addr a → Picks table addr b → a ≡ b
one_pick table addr None None is p q = refl
one_pick table addr None (Some b) is p q = absurd (p q.0 q.1.entry q.1.matches)
one_pick table addr (Some a) None is p q = absurd (q p.0 p.1.entry p.1.matches)
one_pick table addr (Some a) (Some b) is p q = ap (λ (h : Hop). Some h) (sym p.2 ∙ (ap (λ (r : Route). r.hop) (one_best table addr p.0 q.0 is p.1 q.1) ∙ q.2))

-- a table with one more route, whose prefix it has not
pub table-push : (table : List Route) (route : Route) → IsTable table → ¬ HasPrefix table route.prefix → length table ≢ 32 → IsTable (table ++ route ∷ [])
table-push table route is new room = record {
  limit = let limit = is.limit in omega (arith, length-append table (route ∷ []));
  apart = all_pairs_push (λ one other. one.prefix ≢ other.prefix) table route is.apart (λ k d within same. new (get_or table k d, Contains-get_or table k d within, same));
}

-- a table without the route at a place
pub table-remove : (table : List Route) (place : ℕ) → IsTable table → place < length table → IsTable (remove table place)
table-remove table place is within = record {
  limit = let limit = is.limit in omega (arith, length-remove table place within);
  apart = all_pairs_remove (λ one other. one.prefix ≢ other.prefix) table place within is.apart;
}

-- it is the old one but for that route
pub taken_out : (table : List Route) (prefix : Prefix) (place : ℕ) (route : Route) → place < length table → HoldsAt (λ r. r.prefix ≡ prefix) table place
    → TakesOut table (remove table place) prefix
taken_out table prefix place route within is = record {
  before = take place table;
  route = get_or table place route;
  after = drop (suc place) table;
  named = is route;
  old_is = sym (take-append-drop place table) ∙ ap (λ (rest : List Route). take place table ++ rest) (drop-cons table place route within);
  new_is = refl;
}

-- of tables with the same routes
pub one_pick_of_same : (table other : List Route) (addr : Addr) (a b : Option Hop) → IsTable table → ((route : Route) → Contains table route ↔ Contains other route)
    → Picks table addr a → Picks other addr b → a ≡ b
one_pick_of_same table other addr a b is same p q = one_pick table addr a b is p (carried b q)
  where
    carried : (o : Option Hop) → Picks other addr o → Picks table addr o
    carried None none = λ route here. none route ((same route).0 here)
    carried (Some hop) q =
        (q.0, record { entry = (same q.0).1 q.1.entry; matches = q.1.matches; longest = λ route here. q.1.longest route ((same route).0 here) }, q.2)

-- no two routes of a list have one prefix
abbrev pub AreApart : List Route → Type 0
AreApart routes = AllPairs (λ one other. one.prefix ≢ other.prefix) routes

apart_behind : (first : Route) (routes : List Route) → AreApart (first ∷ routes) → AreApart routes
apart_behind first routes apart i j d before within = apart (suc i) (suc j) d (omega (arith, before)) (omega (arith, within))

-- the route between two parts of a list
between : (before : List Route) (route : Route) (after : List Route) (d : Route) → get_or (before ++ route ∷ after) (length before) d ≡ route
between [] route after d = refl
between (first ∷ before) route after d = between before route after d

-- the first one has another prefix than one behind it
first_apart : (first : Route) (before : List Route) (route : Route) (after : List Route) → AreApart (first ∷ (before ++ route ∷ after)) → first.prefix ≡ route.prefix → ⊥
first_apart first before route after apart same =
    apart 0 (suc (length before)) first (omega arith) (omega (arith, length-append before (route ∷ after)))
    (same ∙ sym (ap (λ (r : Route). r.prefix) (between before route after first)))

rest_is_one : (prefix : Prefix) (before after : List Route) (route : Route) (before' after' : List Route) (route' : Route)
    → AreApart (before ++ route ∷ after) → before ++ route ∷ after ≡ before' ++ route' ∷ after' → route.prefix ≡ prefix → route'.prefix ≡ prefix
    → before ++ after ≡ before' ++ after'
rest_is_one prefix [] after route [] after' route' apart e named named' = cc
rest_is_one prefix [] after route (first' ∷ before') after' route' apart e named named' =
    let first : route ≡ first' = cc in
    absurd (first_apart first' before' route' after' (subst AreApart e apart) (ap (λ (r : Route). r.prefix) (sym first) ∙ (named ∙ sym named')))
rest_is_one prefix (first ∷ before) after route [] after' route' apart e named named' =
    let same : first ≡ route' = cc in
    absurd (first_apart first before route after apart (ap (λ (r : Route). r.prefix) same ∙ (named' ∙ sym named)))
rest_is_one prefix (first ∷ before) after route (first' ∷ before') after' route' apart e named named' =
    let same : first ≡ first' = cc in
    let behind : before ++ route ∷ after ≡ before' ++ route' ∷ after' = cc in
    let rest = rest_is_one prefix before after route before' after' route' (apart_behind first (before ++ route ∷ after) apart) behind named named' in
    cc

-- what is left of a table is determined
pub one_rest : (old a b : List Route) (prefix : Prefix) → IsTable old → TakesOut old a prefix → TakesOut old b prefix → a ≡ b
one_rest old a b prefix is p q =
    p.new_is
    ∙ (rest_is_one prefix p.before p.after p.route q.before q.after q.route (subst AreApart p.old_is is.apart) (sym p.old_is ∙ q.old_is) p.named q.named ∙ sym q.new_is)

none_left : (prefix : Prefix) (before after : List Route) (route : Route) → AreApart (before ++ route ∷ after) → route.prefix ≡ prefix
    → (other : Route) (i : ℕ) → i < length (before ++ after) → get_or (before ++ after) i other ≡ other → other.prefix ≡ prefix → ⊥
none_left prefix [] after route apart named other i within is its =
    apart 0 (suc i) other (omega arith) (omega (arith, within)) (named ∙ (sym its ∙ sym (ap (λ (r : Route). r.prefix) is)))
none_left prefix (first ∷ before) after route apart named other zero within is its =
    first_apart first before route after apart (ap (λ (r : Route). r.prefix) is ∙ (its ∙ sym named))
none_left prefix (first ∷ before) after route apart named other (suc i) within is its =
    none_left prefix before after route (apart_behind first (before ++ route ∷ after) apart) named other i (omega (arith, within)) is its

-- and no route of it has the prefix
pub none_of_prefix : (old new : List Route) (prefix : Prefix) → IsTable old → TakesOut old new prefix → ¬ HasPrefix new prefix
none_of_prefix old new prefix is p has =
    let here : HasPrefix (p.before ++ p.after) prefix = subst (λ (l : List Route). HasPrefix l prefix) p.new_is has in
    none_left prefix p.before p.after p.route (subst AreApart p.old_is is.apart) p.named here.0 here.1.0 here.1.1 here.1.2 here.2
