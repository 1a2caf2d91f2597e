-- From when on a request for a hop may go out again, and what lists have.
use Rattle.std.proofs.Common.{◌≡◌, ◌⊎◌, inl, inr, ℕ, zero, suc, ◌+◌, ◌-◌, ◌^◌, ◌<◌, ◌≤◌, ◌||◌, nat_le, nat_lt, Bool, true, false, cond, List, [], ◌∷◌, Contains, slice_index_or, filter, fold, length, map, Option, Some, None, IfSome, refl, sym, ◌∙◌, ap, subst, arith}
use Rattle.std.specs.List.{list_any, AllByRecursion}
use Rattle.std.proofs.lemmas.Bool.Decides.{nat_tests}
use Rattle.ipv4.specs.declared.addr.Addr.{Addr}
use Rattle.clock.specs.declared.moment.Moment.{Moment}
use Rattle.clock.specs.Moments.{has_come, later, sooner}
use Rattle.arp.specs.declared.entry.Asked.{Asked}
use Rattle.arp.specs.Cache.{is_note_of, may_ask, IsNextAsk}
use Rattle.arp.specs.Waits.{first_last, following, last_of, next_ask, own_last, room_last}
use Rattle.arp.proofs.WaitsOver.{is_past, never_again, next_is, over_is}
use Rattle.interface.specs.Routing.{next_hop}
use Rattle.host.specs.ComesUp.{IsAskedFrom, IsPastAsking}
use Rattle.host.specs.HostView.{HostView}
use Rattle.host.proofs.Causes.{all-filtered}

-- Tests and lists.

pub or-left : (a b : Bool) → a ≡ true → (a || b) ≡ true
or-left true b e = refl
or-left false b e = cc

pub or-right : (a b : Bool) → b ≡ true → (a || b) ≡ true
or-right true b e = refl
or-right false b e = e

pub same-comes : (m : Moment) → has_come (Some m) m ≡ true
same-comes m = grind (arith, nat_tests)

pub any-of : {X : Type 0} (p : X → Bool) (xs : List X) (x : X) → Contains xs x → p x ≡ true → list_any p xs ≡ true
any-of p [] x at e = absurd (omega (arith, at.1))
any-of {X} p (y ∷ ys) x at e = by_place (λ there. any-of p ys x there e) at.0 at.1 at.2
  where
    by_place : (Contains ys x → list_any p ys ≡ true) → (k : ℕ) → k < length (y ∷ ys) → slice_index_or (y ∷ ys) k x ≡ x → (p y || list_any p ys) ≡ true
    by_place further zero within is = or-left (p y) (list_any p ys) (ap p is ∙ e)
    by_place further (suc k) within is = or-right (p y) (list_any p ys) (further (k, omega (arith, within), is))

pub all-of : {X : Type 0} (P : X → Type 0) (xs : List X) (x : X) → AllByRecursion P xs → Contains xs x → P x
all-of P [] x all at = absurd (omega (arith, at.1))
all-of {X} P (y ∷ ys) x all at = by_place (all-of P ys x all.1) at.0 at.1 at.2
  where
    by_place : (Contains ys x → P x) → (k : ℕ) → k < length (y ∷ ys) → slice_index_or (y ∷ ys) k x ≡ x → P x
    by_place further zero within is = subst P is all.0
    by_place further (suc k) within is = further (k, omega (arith, within), is)

behind : {X : Type 0} (y : X) (ys : List X) (x : X) → Contains ys x → Contains (y ∷ ys) x
behind y ys x at = (suc at.0, omega (arith, at.1), at.2)

-- what a list of others has
pub mapped-in : {X Y : Type 0} (f : X → Y) (xs : List X) (y : Y) → Contains (map f xs) y → (x : X) × Contains xs x × (f x ≡ y)
mapped-in f [] y at = absurd (omega (arith, at.1))
mapped-in {X} {Y} f (x ∷ xs) y at = by_place (mapped-in f xs y) at.0 at.1 at.2
  where
    by_place : (Contains (map f xs) y → (z : X) × Contains xs z × (f z ≡ y)) → (k : ℕ) → k < length (map f (x ∷ xs)) → slice_index_or (map f (x ∷ xs)) k y ≡ y → (z : X) × Contains (x ∷ xs) z × (f z ≡ y)
    by_place further zero within is = (x, (0, omega arith, refl), is)
    by_place further (suc k) within is = let rest = further (k, omega (arith, within), is) in (rest.0, behind x xs rest.0 rest.1, rest.2)

pub in-mapped : {X Y : Type 0} (f : X → Y) (xs : List X) (x : X) → Contains xs x → Contains (map f xs) (f x)
in-mapped f [] x at = absurd (omega (arith, at.1))
in-mapped {X} {Y} f (y ∷ ys) x at = by_place (in-mapped f ys x) at.0 at.1 at.2
  where
    by_place : (Contains ys x → Contains (map f ys) (f x)) → (k : ℕ) → k < length (y ∷ ys) → slice_index_or (y ∷ ys) k x ≡ x → Contains (map f (y ∷ ys)) (f x)
    by_place further zero within is = (0, omega arith, ap f is)
    by_place further (suc k) within is = behind (f y) (map f ys) (f x) (further (k, omega (arith, within), is))

-- From when on a hop may be asked for.

-- this is the last moment of one of the requests
abbrev IsLast : List Asked → Moment → Type 0
IsLast asked m = (request : Asked) × Contains asked request × (last_of request ≡ m)

lasts-in : (all asked : List Asked) → ((request : Asked) → Contains asked request → Contains all request) → AllByRecursion (λ (request : Asked). IsLast all (last_of request)) asked
lasts-in all [] noted = tt
lasts-in all (request ∷ rest) noted =
    ((request, noted request (0, omega arith, refl), refl), lasts-in all rest (λ r at. noted r (behind request rest r at)))

either-of : (P : Moment → Type 0) (t : Bool) (a b : Moment) → P a → P b → IfSome (cond t (Some a) (Some b)) P
either-of P true a b p q = p
either-of P false a b p q = q

later-of : (P : Moment → Type 0) (a : Option Moment) (b : Moment) → IfSome a P → P b → IfSome (later a (Some b)) P
later-of P None b p q = q
later-of P (Some a) b p q = either-of P (nat_le a.0 b.0) b a q p

sooner-of : (P : Moment → Type 0) (a : Option Moment) (b : Moment) → IfSome a P → P b → IfSome (sooner a (Some b)) P
sooner-of P None b p q = q
sooner-of P (Some a) b p q = either-of P (nat_le a.0 b.0) a b p q

both-of : (P : Moment → Type 0) (a b : Option Moment) → IfSome a P → IfSome b P → IfSome (later a b) P
both-of P None b p q = q
both-of P (Some a) None p q = p
both-of P (Some a) (Some b) p q = later-of P (Some a) b p q

last-of : (P : Moment → Type 0) (first : Option Moment) (asked : List Asked) → IfSome first P → AllByRecursion (λ (request : Asked). P (last_of request)) asked
    → IfSome (fold (λ (latest : Option Moment) (request : Asked). later latest (Some (last_of request))) first asked) P
last-of P first [] p all = p
last-of P first (request ∷ rest) p all = last-of P (later first (Some (last_of request))) rest (later-of P first (last_of request) p all.0) all.1

soonest-of : (P : Moment → Type 0) (first : Option Moment) (asked : List Asked) → IfSome first P → AllByRecursion (λ (request : Asked). P (last_of request)) asked
    → IfSome (fold (λ (soonest : Option Moment) (request : Asked). sooner soonest (Some (last_of request))) first asked) P
soonest-of P first [] p all = p
soonest-of P first (request ∷ rest) p all = soonest-of P (sooner first (Some (last_of request))) rest (sooner-of P first (last_of request) p all.0) all.1

last-known : (hop : Addr) (asked : List Asked) → IfSome (later (room_last asked) (own_last hop asked)) (IsLast asked)
last-known hop asked = both-of (IsLast asked) (room_last asked) (own_last hop asked) (by_room (nat_lt (length asked) 64)) (last-of (IsLast asked) None (filter (is_note_of hop) asked) tt own)
  where
    all : AllByRecursion (λ (request : Asked). IsLast asked (last_of request)) asked
    all = lasts-in asked asked (λ request at. at)

    own : AllByRecursion (λ (request : Asked). IsLast asked (last_of request)) (filter (is_note_of hop) asked)
    own = all-filtered (λ (request : Asked). IsLast asked (last_of request)) (is_note_of hop) asked all

    by_room : (b : Bool) → IfSome (cond b None (first_last asked)) (IsLast asked)
    by_room true = tt
    by_room false = soonest-of (IsLast asked) None asked tt all

next-from : (hop : Addr) (asked : List Asked) → length asked ≤ 64 → IsNextAsk hop asked (next_ask hop asked)
unfolding next_ask
next-from hop asked few = next_is hop asked (following (later (room_last asked) (own_last hop asked))) few refl

-- it lies within a second of a request, or a request was sent at the last moment of the clock

soon : (request : Asked) (m : ℕ) → (let last = last_of request in last.0 ≡ m) → nat_lt m (2 ^ 64 - 1) ≡ true → m + 1 ≤ request.at.0 + 1000
soon request m is ahead = grind (arith, nat_tests, is, ahead)

at-end : (request : Asked) → (let last = last_of request in nat_lt last.0 (2 ^ 64 - 1) ≡ false) → 2 ^ 64 - 1 ≤ request.at.0
at-end request end = grind (arith, nat_tests, end)

-- where none may go out now, there is such a moment, or the clock is at its end
pub asked-from : (h : HostView) (now : Moment) (to hop : Addr) → length h.interface.cache.asked ≤ 64 → next_hop h.interface.routes to ≡ Some hop → may_ask now hop h.interface.cache.asked ≡ false
    → ((moment : Moment) × (next_ask hop h.interface.cache.asked ≡ Some moment) × IsAskedFrom h to moment) ⊎ IsPastAsking h to
unfolding next_ask
asked-from h now to hop few leads not_now = by_last (later (room_last asked) (own_last hop asked)) refl (last-known hop asked)
  where
    asked : List Asked
    asked = h.interface.cache.asked

    Answered : Type 0
    Answered = ((moment : Moment) × (following (later (room_last asked) (own_last hop asked)) ≡ Some moment) × IsAskedFrom h to moment) ⊎ IsPastAsking h to

    next : Moment → Moment
    next last = record { 0 = last.0 + 1 }

    ahead : (last : Moment) (request : Asked) → later (room_last asked) (own_last hop asked) ≡ Some last → nat_lt last.0 (2 ^ 64 - 1) ≡ true → Contains asked request → last_of request ≡ last → Answered
    ahead last request is within noted same =
        let there : following (later (room_last asked) (own_last hop asked)) ≡ Some (next last) = ap following is ∙ ap (λ (b : Bool). cond b (Some (next last)) None) within in
        let number : (let m = last_of request in m.0 ≡ last.0) = ap (λ (m : Moment). m.0) same in
        inl (
          next last,
          there,
          record {
            hop = hop;
            leads = leads;
            from = subst (IsNextAsk hop asked) there (next-from hop asked few);
            request = request;
            noted = noted;
            soon = soon request last.0 number within;
          },
        )

    past : (last : Moment) (request : Asked) → later (room_last asked) (own_last hop asked) ≡ Some last → nat_lt last.0 (2 ^ 64 - 1) ≡ false → Contains asked request → last_of request ≡ last → Answered
    past last request is end noted same =
        let none : following (later (room_last asked) (own_last hop asked)) ≡ None = ap following is ∙ ap (λ (b : Bool). cond b (Some (next last)) None) end in
        inr (record {
          hop = hop;
          leads = leads;
          never = λ then within. never_again hop asked now then few none not_now within;
          request = request;
          noted = noted;
          at_the_end = at-end request (ap (λ (m : Moment). nat_lt m.0 (2 ^ 64 - 1)) same ∙ end);
        })

    by_test : (last : Moment) (b : Bool) → nat_lt last.0 (2 ^ 64 - 1) ≡ b → later (room_last asked) (own_last hop asked) ≡ Some last → IsLast asked last → Answered
    by_test last true within is known = ahead last known.0 is within known.1 known.2
    by_test last false end is known = past last known.0 is end known.1 known.2

    by_last : (o : Option Moment) → later (room_last asked) (own_last hop asked) ≡ o → IfSome o (IsLast asked) → Answered
    by_last None is known = let no : is_past None now ≡ false = ap (λ (o : Option Moment). is_past o now) (sym is) ∙ sym (over_is hop asked now few) ∙ not_now in cc
    by_last (Some last) is known = by_test last (nat_lt last.0 (2 ^ 64 - 1)) refl is known
