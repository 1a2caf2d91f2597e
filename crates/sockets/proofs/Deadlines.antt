-- The least deadline of the entries, and that a tick before it changes none of them.
use Rattle.std.proofs.Common.{◌≡◌, ◌⊎◌, inl, inr, ℕ, suc, ◌<◌, ◌≤◌, true, false, List, [], ◌∷◌, Option, Some, None, length, refl, sym, ◌∙◌, ap, subst, arith}
use Rattle.std.proofs.lemmas.Bool.Decides.{nat_tests}
use Rattle.std.specs.List.{fold, Contains, AllByRecursion}
use Rattle.std.proofs.lemmas.Bool.{or_parts}
use Rattle.clock.specs.declared.moment.Moment.{Moment}
use Rattle.clock.specs.Moments.{has_come, sooner}
use Rattle.tcp_state.specs.View.{View, ends_at}
use Rattle.tcp_state.specs.Alive.{alive_at}
use Rattle.tcp_state.specs.Timing.{gives_up, tick_fate, deadline}
use Rattle.sockets.specs.declared.entry.Entry.{Entry}
use Rattle.sockets.specs.declared.role.Role.{Role}
use Rattle.sockets.specs.declared.role.Role.TheVariants.{Connected}
use Rattle.sockets.specs.Entries.{deadline_of, role_after_tick, tick_fate_of, is_kept, with_role, entries_after_steps}
use Rattle.sockets.specs.SocketsView.{SocketsView, later_moment}
use Rattle.sockets.specs.Ticks.{least_deadline, IsLeastDeadline, HasNoDeadline}
use Rattle.sockets.specs.Ticks as table
use Rattle.clock.proofs.Comings.{sooner-has_come}
use Rattle.tcp_state.proofs.Deadlines.{waits}
use Rattle.tcp_state.specs.Tail.{tail_at}

-- The sooner of two moments.

record IsSooner (a b : Option Moment) (m : Moment) : Type 0 where
  one : (a ≡ Some m) ⊎ (b ≡ Some m)
  left : (d : Moment) → a ≡ Some d → m.0 ≤ d.0
  right : (d : Moment) → b ≡ Some d → m.0 ≤ d.0

own : (a d : Moment) → ◌≡◌ {A = Option Moment} (Some a) (Some d) → a.0 ≤ d.0
own a d e = let same : a ≡ d = cc in subst (λ (x : Moment). a.0 ≤ x.0) same (omega arith)

under : (a m d : Moment) → m.0 ≤ a.0 → ◌≡◌ {A = Option Moment} (Some a) (Some d) → m.0 ≤ d.0
under a m d less e = let same : a ≡ d = cc in subst (λ (x : Moment). m.0 ≤ x.0) same less

sooner_some : (a b : Option Moment) (m : Moment) → sooner a b ≡ Some m → IsSooner a b m
sooner_some a b m e = grind (arith, nat_tests)

sooner_none : (a b : Option Moment) → sooner a b ≡ None → (a ≡ None) × (b ≡ None)
sooner_none a b e = grind (arith, nat_tests)

-- The least of what is told of a list's entries, as their deadlines, from one on.

module _ (at : Role → Option Moment) where
  abbrev pub least_from : Option Moment → List Entry → Option Moment
  least_from least xs = fold (λ (least : Option Moment) (e : Entry). sooner least (at e.role)) least xs

  abbrev pub HasIt : Moment → List Entry → Type 0
  HasIt m xs = (e : Entry) × Contains xs e × (at e.role ≡ Some m)

  abbrev pub AreLater : Moment → List Entry → Type 0
  AreLater m xs = AllByRecursion (λ (e : Entry). (other : Moment) → at e.role ≡ Some other → m.0 ≤ other.0) xs

  pub record IsLeast (first : Option Moment) (xs : List Entry) (m : Moment) : Type 0 where
    pub one : (first ≡ Some m) ⊎ HasIt m xs
    pub before : (d : Moment) → first ≡ Some d → m.0 ≤ d.0
    pub others : AreLater m xs

  has_here : (x : Entry) (xs : List Entry) (m : Moment) → at x.role ≡ Some m → HasIt m (x ∷ xs)
  has_here x xs m is = (x, (0, omega arith, refl), is)

  has_there : (x : Entry) (xs : List Entry) (m : Moment) → HasIt m xs → HasIt m (x ∷ xs)
  has_there x xs m h = let k : ℕ = h.1.0 in let within : k < length xs = h.1.1 in (h.0, (suc k, omega arith, h.1.2), h.2)

  pub least : (first : Option Moment) (xs : List Entry) (m : Moment) → least_from first xs ≡ Some m → IsLeast first xs m
  least first [] m is = record { one = inl is; before = λ d e. let same : ◌≡◌ {A = Option Moment} (Some m) (Some d) = sym is ∙ e in own m d same; others = tt }
  least first (x ∷ xs) m is = joined (least (sooner first (at x.role)) xs m is)
    where
      one_of : (sooner first (at x.role) ≡ Some m) ⊎ HasIt m xs → (first ≡ Some m) ⊎ HasIt m (x ∷ xs)
      one_of (inr h) = inr (has_there x xs m h)
      one_of (inl e) = elim (sooner_some first (at x.role) m e).one [ inl f ↦ inl f | inr f ↦ inr (has_here x xs m f) ]

      some_of : (o : Option Moment) → sooner first (at x.role) ≡ o → ((d : Moment) → sooner first (at x.role) ≡ Some d → m.0 ≤ d.0) → ((d : Moment) → first ≡ Some d → m.0 ≤ d.0) × ((d : Moment) → at x.role ≡ Some d → m.0 ≤ d.0)
      some_of None e below = let none = sooner_none first (at x.role) e in (λ d f. cc (none.0), λ d f. cc (none.1))
      some_of (Some n) e below =
          let both = sooner_some first (at x.role) n e in
          let less : m.0 ≤ n.0 = below n e in
          (λ d f. let more : n.0 ≤ d.0 = both.left d f in omega arith, λ d f. let more : n.0 ≤ d.0 = both.right d f in omega arith)

      joined : IsLeast (sooner first (at x.role)) xs m → IsLeast first (x ∷ xs) m
      joined rest = let both = some_of (sooner first (at x.role)) refl rest.before in record { one = one_of rest.one; before = both.0; others = (both.1, rest.others) }

  none_from : (first : Option Moment) (xs : List Entry) → least_from first xs ≡ None → (first ≡ None) × AllByRecursion (λ (e : Entry). at e.role ≡ None) xs
  none_from first [] is = (is, tt)
  none_from first (x ∷ xs) is =
      let rest = none_from (sooner first (at x.role)) xs is in
      let both = sooner_none first (at x.role) rest.0 in
      (both.0, (both.1, rest.1))

-- .. and so of their deadlines.

pub least_found : (h : SocketsView) (moment : Moment) → least_deadline h ≡ Some moment → IsLeastDeadline h moment
least_found h moment is = let l = least deadline_of None h.entries moment is in record { has = one l.one; least = l.others }
  where
    one : (None ≡ Some moment) ⊎ HasIt deadline_of moment h.entries → HasIt deadline_of moment h.entries
    one (inl e) = cc
    one (inr has) = has

pub none_found : (h : SocketsView) → least_deadline h ≡ None → HasNoDeadline h
none_found h is = (none_from deadline_of None h.entries is).1

-- A moment before the deadline.

both_unreached : (a b : Option Moment) (now : Moment) → has_come (sooner a b) now ≡ false → (has_come a now ≡ false) × (has_come b now ≡ false)
both_unreached a b now e = or_parts (has_come a now) (has_come b now) (sym (sooner-has_come a b now) ∙ e)

kept_at : (v : View) (now : Moment) → has_come (deadline v) now ≡ false → is_kept (tick_fate v now) ≡ true
kept_at v now e =
    let all = both_unreached (sooner (sooner (sooner v.timers.retransmission v.timers.probe) (sooner v.timers.delayed_ack v.timers.overriding)) (ends_at v)) (sooner (alive_at v) (tail_at v)) now e in
    let quiet = both_unreached (alive_at v) (tail_at v) now all.1 in
    let parts = both_unreached (sooner (sooner v.timers.retransmission v.timers.probe) (sooner v.timers.delayed_ack v.timers.overriding)) (ends_at v) now all.0 in
    let first = both_unreached (sooner v.timers.retransmission v.timers.probe) (sooner v.timers.delayed_ack v.timers.overriding) now parts.0 in
    let own = both_unreached v.timers.retransmission v.timers.probe now first.0 in
    let gives : gives_up v now ≡ false = rw (own.0, own.1, quiet.0) in
    rw (parts.1, gives)

pub role_waits : (role : Role) (now : Moment) → has_come (deadline_of role) now ≡ false → (is_kept (tick_fate_of now role) ≡ true) × (role_after_tick now role ≡ role)
role_waits (Connected c l) now e = (kept_at c now e, ap (λ (v : View). Connected v l) (waits c now e))
role_waits _ now e = (refl, refl)

entries_wait : (first : Option Moment) (xs : List Entry) (now : Moment) → has_come (least_from deadline_of first xs) now ≡ false → (has_come first now ≡ false) × (entries_after_steps (tick_fate_of now) (role_after_tick now) xs ≡ xs)
entries_wait first [] now e = (e, refl)
entries_wait first (x ∷ xs) now e =
    let rest = entries_wait (sooner first (deadline_of x.role)) xs now e in
    let both = both_unreached first (deadline_of x.role) now rest.0 in
    let here = role_waits x.role now both.1 in
    let same : with_role (role_after_tick now) x ≡ x = ap (λ (r : Role). let y : Entry = record x { role = r } in y) here.1 in
    let test = here.0 in
    (both.0, rw test (ap (λ (y : Entry). y ∷ entries_after_steps (tick_fate_of now) (role_after_tick now) xs) same ∙ ap (λ (ys : List Entry). x ∷ ys) rest.1))

pub tick_waits : (h : SocketsView) (now : Moment) → has_come (least_deadline h) (later_moment h now) ≡ false → table.after_tick h now ≡ record h { kept = later_moment h now }
tick_waits h now e = ap (λ (xs : List Entry). let w : SocketsView = record h { kept = later_moment h now; entries = xs } in w) (entries_wait None h.entries (later_moment h now) e).1
