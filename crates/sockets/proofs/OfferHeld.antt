-- What holds of those that wait and of those that are offered, in every table that is reached.
use Rattle.std.proofs.Common.{◌≡◌, ℕ, ◌+◌, ◌<◌, ◌≤◌, ◌&&◌, not, Bool, true, false, List, [], ◌∷◌, ◌++◌, length, count_by, Option, Some, None, refl, sym, ◌∙◌, ap, subst, arith}
use Rattle.std.specs.List.{find, list_any, AllByRecursion}
use Rattle.std.proofs.lemmas.Bool.{eqb-false, ne_eqb, and_parts, and_from, and_right, or_parts}
use Rattle.std.proofs.lemmas.Bool.Decides.{nat_tests}
use Rattle.std.proofs.lemmas.List.{length-append}
use Rattle.std.proofs.lemmas.List.Sums.{count_by-le-length}
use Rattle.sockets.specs.declared.sizes.Sizes.{Sizes}
use Rattle.sockets.specs.declared.entry.SocketId.{SocketId}
use Rattle.sockets.specs.declared.entry.Entry.{Entry}
use Rattle.sockets.specs.declared.role.Role.{Role}
use Rattle.sockets.specs.declared.role.Role.TheVariants.{Connected}
use Rattle.ipv4.specs.declared.addr.Addr.{Addr}
use Rattle.tcp_halves.specs.declared.buffers.Manner.{Manner}
use Rattle.sockets.specs.Entries.{waits_at, is_waiting_at, is_waiting_as, is_waiting_id, backlog_of, role_after_accept, with_role}
use Rattle.sockets.specs.SocketsView.{SocketsView, new_sockets}
use Rattle.sockets.specs.Calls.{next_offered}
use Rattle.sockets.specs.Arrival.{offered_with}
use Rattle.sockets.specs.Lists.{remove_first}
use Rattle.sockets.specs.Causes.{Event, Follows, after_event}
use Rattle.sockets.specs.Traffic.{after_events}
use Rattle.sockets.specs.Order.{IsAllowed}
use Rattle.sockets.specs.Ids.{has_id, AreAscending}
use Rattle.sockets.specs.Offered.{AreAllowed, IsReached, is_ready, is_ready_as, is_id, KeepsBacklogs, OffersReady}
use Rattle.sockets.proofs.Ends.{eqb-same}
use Rattle.sockets.proofs.Followed.{IsNothing, by_test, some_same, follows_map, all_followed, all_joined}
use Rattle.sockets.proofs.Ascending.{ascends_joined, ascends_followed}
use Rattle.sockets.proofs.Opened.{found_passes}
use Rattle.sockets.proofs.OfferCounts.{one, one-true, one-false, count-cons, count-joined, count-found, count-any, count-no, count-changed, count-removed, count-filtered, count-apart, count-either, any-found, fewer, as-many-left, no-longer, all-found, all-with, all-mapped, IsPart, part-whole, part-removed, part-filtered, same-id, count-first}
use Rattle.sockets.proofs.OfferRoles.{IsPlain, is_waking}
use Rattle.sockets.proofs.OfferSteps.{IsTurned, all, elsewhere, IsCarried, IsJoined, IsStill, IsPassed, IsTaken, IsLeft, Outcome, Still, Joined, Passed, Taken, Left, outcome}

abbrev pub IsPlainEntry : Entry → Type 0
IsPlainEntry e = IsPlain e.role

-- Every entry that waits is as it was opened, at no id that was not given, and within its listener's backlog; and those offered are those that are ready.
pub record Holds (h : SocketsView) : Type 0 where
  pub ids : AreAscending 0 h.last_id h.entries
  pub plain : AllByRecursion IsPlainEntry h.entries
  pub few : length h.entries ≤ h.sizes.entries
  pub unborn : (id : SocketId) → h.last_id < id.0 → count_by (is_waiting_at id) h.entries ≡ 0
  pub backlogs : KeepsBacklogs h
  pub each : (id : SocketId) → count_by (is_id id) h.offered ≡ count_by (is_ready_as id) h.entries

-- Ids.

-- an id stands at no entry behind it ..
ids-above : (a last : ℕ) (xs : List Entry) (i : SocketId) → AreAscending a last xs → i.0 ≤ a → count_by (has_id i) xs ≡ 0
ids-above a last [] i ascends less = refl
ids-above a last (x ∷ xs) i ascends less = grind (arith, nat_tests, ascends.0, count-cons (has_id i) x xs, one-false (has_id i x), ids-above x.id.0 last xs i ascends.1)

-- .. and so at one entry at most
ids-once : (a last : ℕ) (xs : List Entry) (i : SocketId) → AreAscending a last xs → count_by (has_id i) xs ≤ 1
ids-once a last [] i ascends = omega arith
ids-once a last (x ∷ xs) i ascends = grind (arith, nat_tests, count-cons (has_id i) x xs, one-true (has_id i x), one-false (has_id i x), ids-above x.id.0 last xs i ascends.1, ids-once x.id.0 last xs i ascends.1)

-- the last id given is the highest
most-id : (a last : ℕ) (xs : List Entry) → AreAscending a last xs → a ≤ last
most-id a last [] ascends = ascends
most-id a last (x ∷ xs) ascends = let first : a < x.id.0 = ascends.0 in omega (arith, most-id x.id.0 last xs ascends.1)

-- each entry has an id that was given, and is the one that its id finds
abbrev pub IsOwn : ℕ → ℕ → List Entry → Entry → Type 0
IsOwn a last xs e = (a < e.id.0) × (e.id.0 ≤ last) × (find (has_id e.id) xs ≡ Some e)

all-own : (a last : ℕ) (xs : List Entry) → AreAscending a last xs → AllByRecursion (IsOwn a last xs) xs
all-own a last [] ascends = tt
all-own a last (x ∷ xs) ascends =
    let first : a < x.id.0 = ascends.0 in (
      (first, most-id x.id.0 last xs ascends.1, rw (eqb-same x.id.0)),
      all-mapped (IsOwn x.id.0 last xs) (IsOwn a last (x ∷ xs)) (λ e own. let later : x.id.0 < e.id.0 = own.0 in (omega arith, own.1, rw (ne_eqb x.id.0 e.id.0 (λ is. omega arith)) own.2)) xs (all-own x.id.0 last xs ascends.1),
    )

-- so has what is found, and is
pub own-found : (h : SocketsView) → Holds h → (test : Entry → Bool) (e : Entry) → find test h.entries ≡ Some e → IsOwn 0 h.last_id h.entries e
own-found h holds test e found = all-found (IsOwn 0 h.last_id h.entries) test h.entries e (all-own 0 h.last_id h.entries holds.ids) found

-- two tests of the entries of an id that never pass together
pub once : (h : SocketsView) → Holds h → (i : SocketId) (p q : Entry → Bool) → ((x : Entry) → one (p x) + one (q x) ≤ one (has_id i x)) → count_by p h.entries + count_by q h.entries ≤ 1
once h holds i p q apart = omega (arith, count-apart p q (has_id i) h.entries apart, ids-once 0 h.last_id h.entries i holds.ids)

-- Tests.

-- what is accepted is not ready
accepted-unready : (r : Role) → is_ready (role_after_accept r) ≡ false
accepted-unready (Connected c l) = refl
accepted-unready r = refl

-- the entry of this id is in SYN-RECEIVED
abbrev pub is_waking_as : SocketId → Entry → Bool
is_waking_as id e = has_id id e && is_waking e.role

-- an id has one entry that is ready, or one in SYN-RECEIVED, or neither
pub ready-or-waking : (h : SocketsView) → Holds h → (i : SocketId) → count_by (is_ready_as i) h.entries + count_by (is_waking_as i) h.entries ≤ 1
unfolding one
ready-or-waking h holds i = once h holds i (is_ready_as i) (is_waking_as i) (λ x. grind (arith, nat_tests))

-- How many are offered.

-- where no entry is ready by any id, none is
none-ready : (xs : List Entry) → ((i : SocketId) → count_by (is_ready_as i) xs ≡ 0) → count_by (λ (e : Entry). is_ready e.role) xs ≡ 0
none-ready xs none =
    let ready : Entry → Bool = λ e. is_ready e.role in
    by_test (list_any ready xs)
    (λ any.
    let there = any-found ready xs (count-any ready xs any) in
    let e : Entry = there.0 in
    absurd (omega (arith, none e.id, count-found ready (is_ready_as e.id) xs e there.1 (and_from _ _ (eqb-same e.id.0) (found_passes ready xs e there.1)))))
    (λ no. count-no ready xs no)

-- as many ids stand in a list as entries are ready, where each stands there as often as it is ready
pub as-many : (ids : List SocketId) (xs : List Entry) → ((i : SocketId) → count_by (is_id i) ids ≡ count_by (is_ready_as i) xs) → length ids ≡ count_by (λ (e : Entry). is_ready e.role) xs
unfolding one
as-many [] xs each = sym (none-ready xs (λ i. sym (each i)))
as-many (x ∷ ids) xs each =
    let ready : Entry → Bool = λ e. is_ready e.role in
    let there = any-found (is_ready_as x) xs (omega (arith, each x, count-first x ids)) in
    let e : Entry = there.0 in
    let passes = and_parts (has_id x e) (is_ready e.role) (found_passes (is_ready_as x) xs e there.1) in
    let rest : List Entry = remove_first (is_ready_as x) xs in
    omega (
      arith,
      as-many ids rest (λ i. grind (arith, nat_tests, each i, count-cons (is_id i) x ids, count-removed (is_ready_as i) (is_ready_as x) xs e there.1, passes.1, same-id e.id x passes.0)),
      count-removed ready (is_ready_as x) xs e there.1,
      one-true (is_ready e.role) passes.1,
    )

-- Those that stay.

-- what becomes of entries that are plain
pub with-plain : (Step : Entry → Option Entry → Type 0) (xs ys : List Entry) → AllByRecursion IsPlainEntry xs → Follows Step IsNothing xs ys → Follows (λ x o. IsPlainEntry x × Step x o) IsNothing xs ys
with-plain Step xs ys plain f = follows_map Step (λ x o. IsPlainEntry x × Step x o) IsNothing IsNothing IsPlainEntry (λ zs none. none) (λ x o p s. (p, s)) xs ys plain f

-- a table in which all wait where they waited, and those offered are those that are ready
carried-over : (h w : SocketsView) → Holds h → w.last_id ≡ h.last_id → w.sizes ≡ h.sizes → Follows IsCarried IsNothing h.entries w.entries → ((id : SocketId) → count_by (is_id id) w.offered ≡ count_by (is_ready_as id) w.entries) → Holds w
carried-over h w holds last sizes f each = record {
  ids = rw last (ascends_followed IsCarried (λ x y s. s.0) 0 h.last_id h.entries w.entries f holds.ids);
  plain = all_followed Step IsPlainEntry (λ x y s p. (s.1.1 s.0).plain) h.entries w.entries steps holds.plain;
  few = rw sizes (omega (arith, holds.few, no-longer IsCarried h.entries w.entries f));
  unborn = λ id above. omega (arith, holds.unborn id (rw last at above), waiting id);
  backlogs = all_followed Step Fits (λ x y s room. subst (λ (i : SocketId). count_by (is_waiting_at i) w.entries ≤ backlog_of y.role) (sym s.1.0) (omega (arith, room, (s.1.1 s.0).backlog))) h.entries w.entries steps
      (all-mapped (λ (e : Entry). count_by (is_waiting_at e.id) h.entries ≤ backlog_of e.role) Fits (λ e room. omega (arith, room, waiting e.id)) h.entries holds.backlogs);
  each = each;
}
  where
    Step : Entry → Option Entry → Type 0
    Step x o = IsPlainEntry x × IsCarried x o

    Fits : Entry → Type 0
    Fits e = count_by (is_waiting_at e.id) w.entries ≤ backlog_of e.role

    steps : Follows Step IsNothing h.entries w.entries
    steps = with-plain IsCarried h.entries w.entries holds.plain f

    waiting : (id : SocketId) → count_by (is_waiting_at id) w.entries ≤ count_by (is_waiting_at id) h.entries
    waiting id = fewer Step (is_waiting_at id) (λ x y s waits. (s.1.1 s.0).waits id waits) h.entries w.entries steps

-- what is ready as before, or no longer, waits where it waited ..
pub carried-from : (stays : Role → Bool) (h : SocketsView) (ys : List Entry) → Holds h → Follows (IsTurned stays) IsNothing h.entries ys → Follows IsCarried IsNothing h.entries ys
carried-from stays h ys holds f = follows_map (IsTurned stays) IsCarried IsNothing IsNothing IsPlainEntry (λ zs none. none) carried h.entries ys holds.plain f
  where
    carried : (x : Entry) (o : Option Entry) → IsPlainEntry x → IsTurned stays x o → IsCarried x o
    carried x None p s = tt
    carried x (Some y) p s = (s.0, λ q. (s.1 q).carries)

-- .. and ready are then those that stay so
ready-left : (stays : Role → Bool) (h : SocketsView) (ys : List Entry) → Holds h → Follows (IsTurned stays) IsNothing h.entries ys → (i : SocketId)
    → count_by (is_ready_as i) ys ≡ count_by (λ (x : Entry). has_id i x && (stays x.role && is_ready x.role)) h.entries
ready-left stays h ys holds f i =
    as-many-left (λ x o. IsPlainEntry x × IsTurned stays x o) (λ x. has_id i x && (stays x.role && is_ready x.role)) (is_ready_as i) (λ x y s. rw (s.1.0, (s.1.1 s.0).ready)) (λ x s. and_right (has_id i x) _ (s.1 s.0))
    h.entries ys (with-plain (IsTurned stays) h.entries ys holds.plain f)

still-holds : (h w : SocketsView) → Holds h → IsStill h w → Holds w
still-holds h w holds s = carried-over h w holds s.last s.sizes (carried-from all h w.entries holds s.follows) (λ i. rw s.offered (holds.each i ∙ sym (ready-left all h w.entries holds s.follows i)))

-- One passes SYN-RECEIVED.

-- while one is in SYN-RECEIVED there are fewer offered than entries
room-left : (h : SocketsView) (test : Entry → Bool) (e : Entry) → Holds h → find test h.entries ≡ Some e → is_waking e.role ≡ true → length h.offered < length h.entries
unfolding one
room-left h test e holds found waking =
    let ready : Entry → Bool = λ x. is_ready x.role in
    let wakes : Entry → Bool = λ x. is_waking x.role in
    let any : Entry → Bool = λ x. true in
    omega (
      arith,
      as-many h.offered h.entries holds.each,
      count-found test wakes h.entries e found waking,
      count-apart ready wakes any h.entries (λ x. grind (arith, nat_tests)),
      count_by-le-length any h.entries,
    )

-- so there is a place for it
pub passed-offered : (h w : SocketsView) → Holds h → (p : IsPassed h w) → w.offered ≡ h.offered ++ p.e.id ∷ []
passed-offered h w holds p = p.offered ∙ joins h.sizes.entries p.e.id h.offered (omega (arith, room-left h p.test p.e holds p.found p.waking, holds.few))
  where
    joins : (places : ℕ) (id : SocketId) (ids : List SocketId) → length ids < places → offered_with places true id ids ≡ ids ++ id ∷ []
    joins places id ids short = rw (ne_eqb (length ids) places (λ full. omega arith))

passed-each : (h w : SocketsView) → Holds h → IsPassed h w → (i : SocketId) → count_by (is_id i) w.offered ≡ count_by (is_ready_as i) w.entries
unfolding one
passed-each h w holds p i =
    rw (passed-offered h w holds p, p.entries)
    (grind (
      arith,
      nat_tests,
      holds.each i,
      count-joined (is_id i) h.offered p.e.id,
      count-changed (is_ready_as i) p.test (with_role p.change) h.entries p.e p.found,
      p.waking,
      p.ready (all-found IsPlainEntry p.test h.entries p.e holds.plain p.found),
    ))

-- One is accepted.

-- what a listener accepts next is the entry of an id that is offered, and ready
pub record IsNext (h : SocketsView) (listener id : SocketId) : Type 0 where
  pub e : Entry
  pub found : find (is_waiting_as listener id) h.entries ≡ Some e
  pub named : has_id id e ≡ true
  pub waits : waits_at listener e.role ≡ true
  pub ready : is_ready e.role ≡ true

pub next-ready : (h : SocketsView) → Holds h → (listener id : SocketId) → next_offered h listener ≡ Some id → IsNext h listener id
unfolding one
next-ready h holds listener id next =
    let waits : SocketId → Bool = is_waiting_id h.entries listener in
    let there = any-found (is_waiting_as listener id) h.entries (count-any (is_waiting_as listener id) h.entries (found_passes waits h.offered id next)) in
    let e : Entry = there.0 in
    let parts = and_parts (has_id id e) (waits_at listener e.role) (found_passes (is_waiting_as listener id) h.entries e there.1) in
    let other : Entry → Bool = λ y. has_id id y && not (is_ready y.role) in
    record {
      e = e;
      found = there.1;
      named = parts.0;
      waits = parts.1;
      ready = grind (
        arith,
        nat_tests,
        parts.0,
        count-found waits (is_id id) h.offered id next (eqb-same id.0),
        holds.each id,
        count-found (is_waiting_as listener id) other h.entries e there.1,
        once h holds id (is_ready_as id) other (λ y. grind (arith, nat_tests)),
      );
    }

taken-each : (h w : SocketsView) → Holds h → IsTaken h w → (i : SocketId) → count_by (is_id i) w.offered ≡ count_by (is_ready_as i) w.entries
unfolding one
taken-each h w holds t i =
    let n = next-ready h holds t.listener t.id t.next in
    rw (t.offered, t.entries)
    (grind (
      arith,
      nat_tests,
      holds.each i,
      count-removed (is_id i) (is_waiting_id h.entries t.listener) h.offered t.id t.next,
      count-changed (is_ready_as i) (is_waiting_as t.listener t.id) (with_role role_after_accept) h.entries n.e n.found,
      n.ready,
      same-id n.e.id t.id n.named,
      accepted-unready n.e.role,
    ))

-- A listener goes.

left-each : (h w : SocketsView) (g : IsLeft h w) → Holds g.between → (i : SocketId) → count_by (is_id i) w.offered ≡ count_by (is_ready_as i) w.entries
unfolding one
left-each h w g m i =
    rw g.offered (grind (
      arith,
      nat_tests,
      left,
      count-filtered (λ x. not (is_waiting_id g.between.entries g.listener x)) i g.between.offered,
      m.each i,
      count-any waiting g.between.entries,
      count-no waiting g.between.entries,
      once g.between m i waiting ready (λ x. grind (arith, nat_tests)),
      count-either waiting ready (is_ready_as i) g.between.entries (λ x. grind (arith, nat_tests)),
      count-apart ready (λ x. false) (is_ready_as i) g.between.entries (λ x. grind (arith, nat_tests)),
    ))
  where
    waiting : Entry → Bool
    waiting = is_waiting_as g.listener i

    -- ready, and not at this listener
    ready : Entry → Bool
    ready x = has_id i x && (not (waits_at g.listener x.role) && is_ready x.role)

    left : count_by (is_ready_as i) w.entries ≡ count_by ready g.between.entries
    left = ready-left (elsewhere g.listener) g.between w.entries m g.then_follows i

-- One joins.

joined-holds : (h w : SocketsView) → Holds h → IsJoined h w → Holds w
joined-holds h w holds j = record {
  ids = rw (j.last, j.entries) (ascends_joined 0 h.last_id h.entries j.new j.id holds.ids);
  plain = rw j.entries (all_joined IsPlainEntry h.entries j.new holds.plain j.plain);
  few = rw (j.sizes, j.entries) (simp length-append (omega (arith, holds.few, eqb-false (length h.entries) h.sizes.entries (or_parts _ _ j.place).0)));
  unborn = λ id above. rw j.entries (let higher : h.last_id < id.0 = omega (arith, j.last) in omega (arith, joined id, holds.unborn id higher, nobody id higher));
  backlogs = rw j.entries (all_joined Fits h.entries j.new old new);
  each = λ i. rw (j.offered, j.entries) (omega (arith, holds.each i, count-joined (is_ready_as i) h.entries j.new, one-false (is_ready_as i j.new) (and_right (has_id i j.new) (is_ready j.new.role) j.ready)));
}
  where
    Fits : Entry → Type 0
    Fits e = count_by (is_waiting_at e.id) (h.entries ++ j.new ∷ []) ≤ backlog_of e.role

    joined : (id : SocketId) → count_by (is_waiting_at id) (h.entries ++ j.new ∷ []) ≡ count_by (is_waiting_at id) h.entries + one (waits_at id j.new.role)
    joined id = count-joined (is_waiting_at id) h.entries j.new

    -- it waits at an id that was given
    nobody : (id : SocketId) → h.last_id < id.0 → one (waits_at id j.new.role) ≡ 0
    nobody id above =
        one-false _ (by_test (waits_at id j.new.role)
        (λ waits. let r = j.room id waits in absurd (omega (arith, (own-found h holds r.test r.listener r.found).1, ap (λ (k : SocketId). k.0) r.same))) (λ elsewhere. elsewhere))

    new : Fits j.new
    new = let higher : h.last_id < j.new.id.0 = omega (arith, j.id) in omega (arith, joined j.new.id, holds.unborn j.new.id higher, nobody j.new.id higher)

    -- at the listener there was room, elsewhere nobody comes to wait
    old : AllByRecursion Fits h.entries
    old = all-with (λ (e : Entry). count_by (is_waiting_at e.id) h.entries ≤ backlog_of e.role) (IsOwn 0 h.last_id h.entries) Fits fits h.entries holds.backlogs (all-own 0 h.last_id h.entries holds.ids)
      where
        fits : (e : Entry) → count_by (is_waiting_at e.id) h.entries ≤ backlog_of e.role → IsOwn 0 h.last_id h.entries e → Fits e
        fits e before own =
            by_test (waits_at e.id j.new.role)
            (λ waits.
            let r = j.room e.id waits in
            let there : find (has_id e.id) h.entries ≡ Some r.listener = subst (λ (k : SocketId). find (has_id k) h.entries ≡ Some r.listener) r.same (own-found h holds r.test r.listener r.found).2 in
            omega (arith, joined e.id, r.room, ap (λ (x : Entry). backlog_of x.role) (some_same _ r.listener e there own.2), one-true _ waits))
            (λ elsewhere. omega (arith, before, joined e.id, one-false _ elsewhere))

-- Every table.

-- it holds of a new table ..
pub fresh-holds : (addr : Addr) (manner : Manner) (sizes : Sizes) → Holds (new_sockets addr manner sizes)
fresh-holds addr manner sizes = record { ids = omega arith; plain = tt; few = omega arith; unborn = λ id above. refl; backlogs = tt; each = λ id. refl }

-- an event is a step of the table or two, in which those that stay wait nowhere else, or an entry joins
pub by-steps : (P : SocketsView → Type 0) → ((h w : SocketsView) → Holds h → w.last_id ≡ h.last_id → Follows IsCarried IsNothing h.entries w.entries → P h → P w) → ((h w : SocketsView) → IsJoined h w → P h → P w)
    → (h w : SocketsView) → Holds h → Outcome h w → P h → P w
by-steps P carried joined h w holds (Still s) p = carried h w holds s.last (carried-from all h w.entries holds s.follows) p
by-steps P carried joined h w holds (Joined j) p = joined h w j p
by-steps P carried joined h w holds (Passed s) p = carried h w holds s.last s.follows p
by-steps P carried joined h w holds (Taken s) p = carried h w holds s.last s.follows p
by-steps P carried joined h w holds (Left g) p =
    let m = still-holds h g.between holds g.first in carried g.between w m g.last (carried-from (elsewhere g.listener) g.between w.entries m g.then_follows) (carried h g.between holds g.first.last (carried-from all h g.between.entries holds g.first.follows) p)

-- .. and after every event
by-outcome : (h w : SocketsView) → Holds h → Outcome h w → Holds w
by-outcome h w holds (Joined j) = joined-holds h w holds j
by-outcome h w holds (Still s) = still-holds h w holds s
by-outcome h w holds (Passed p) = carried-over h w holds p.last p.sizes p.follows (passed-each h w holds p)
by-outcome h w holds (Taken t) = carried-over h w holds t.last t.sizes t.follows (taken-each h w holds t)
by-outcome h w holds (Left g) = let m = still-holds h g.between holds g.first in carried-over g.between w m g.last g.sizes (carried-from (elsewhere g.listener) g.between w.entries m g.then_follows) (left-each h w g m)

pub event-holds : (h : SocketsView) (e : Event) → IsAllowed h e → Holds h → Holds (after_event h e)
event-holds h e allowed holds = by-outcome h (after_event h e) holds (outcome h e allowed)

pub all-hold : (h : SocketsView) (events : List Event) → AreAllowed h events → Holds h → Holds (after_events h events)
all-hold h [] allowed holds = holds
all-hold h (e ∷ rest) allowed holds = all-hold (after_event h e) rest allowed.1 (event-holds h e allowed.0 holds)

pub reached-holds : (h : SocketsView) → IsReached h → Holds h
reached-holds h r = subst Holds r.is (all-hold (new_sockets r.addr r.manner r.sizes) r.events r.allowed (fresh-holds r.addr r.manner r.sizes))

-- What becomes of those offered.

-- some are left out, or one that was in SYN-RECEIVED joins at the end
pub data Turns (h w : SocketsView) : Type 0 where
  Fewer : IsPart w.offered h.offered → Turns h w
  Last : (id : SocketId) → 1 ≤ count_by (is_waking_as id) h.entries → w.offered ≡ h.offered ++ id ∷ [] → Turns h w

-- what an event makes of the list
pub turns : (h w : SocketsView) → Holds h → Outcome h w → Turns h w
turns h w holds (Still s) = Fewer (rw s.offered (part-whole h.offered))
turns h w holds (Joined j) = Fewer (rw j.offered (part-whole h.offered))
turns h w holds (Taken t) = Fewer (rw t.offered (part-removed (is_waiting_id h.entries t.listener) h.offered))
turns h w holds (Left g) = Fewer (rw (g.offered, g.first.offered) (part-filtered (λ x. not (is_waiting_id g.between.entries g.listener x)) h.offered))
turns h w holds (Passed p) = Last p.e.id (count-found p.test (is_waking_as p.e.id) h.entries p.e p.found (and_from _ _ (eqb-same p.e.id.0) p.waking)) (passed-offered h w holds p)

-- The laws.

pub backlogs-kept : (h : SocketsView) → IsReached h → KeepsBacklogs h
backlogs-kept h r = (reached-holds h r).backlogs

-- none stands twice among those offered
pub once-offered : (h : SocketsView) → Holds h → (i : SocketId) → count_by (is_id i) h.offered ≤ 1
once-offered h holds i = omega (arith, holds.each i, ready-or-waking h holds i)

pub ready-offered : (h : SocketsView) → IsReached h → OffersReady h
ready-offered h r =
    let holds = reached-holds h r in
    let number : length h.offered ≡ count_by (λ (e : Entry). is_ready e.role) h.entries = as-many h.offered h.entries holds.each in
    record {
      each = holds.each;
      once = once-offered h holds;
      number = number;
      within = omega (arith, count_by-le-length (λ (e : Entry). is_ready e.role) h.entries);
      few = holds.few;
    }
