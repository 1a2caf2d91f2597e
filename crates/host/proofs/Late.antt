-- A datagram whose time runs out is reported to its source, where its fragment zero came.
use Rattle.std.proofs.Common.{◌≡◌, ℕ, zero, suc, ◌+◌, ◌<◌, ◌≤◌, ◌&&◌, not, Bool, true, false, cond, List, [], ◌∷◌, Contains, slice_index_or, length, take, Option, Some, None, option_map, is_some, refl, sym, ◌∙◌, ap, subst, arith, length-append}
use Rattle.std.specs.List.{cons_option, filter_map}
use Rattle.std.proofs.lemmas.Bool.Decides.{nat_tests}
use Rattle.std.proofs.lemmas.List.Elements.{Contains-append_left, Contains-push}
use Rattle.clock.specs.declared.moment.Moment.{Moment}
use Rattle.arp.proofs.History.{length-filter-le}
use Rattle.icmp.specs.declared.error.Reason.TheVariants.{ReassemblyTimeExceeded}
use Rattle.interface.specs.declared.reply.Reply.{Reply}
use Rattle.interface.specs.declared.reply.Reply.TheVariants.{Error}
use Rattle.interface.specs.declared.reply.Waiting.{Waiting}
use Rattle.interface.specs.InterfaceView.{InterfaceView}
use Rattle.interface.specs.Replies.{is_full, owed, queued}
use Rattle.interface.specs.Timing.{after_tick as interface_after_tick, stays}
use Rattle.interface.specs.Routing.{next_hop}
use Rattle.interface.specs.Ways.{is_routed}
use Rattle.routes.specs.declared.route.Route.{Route}
use Rattle.reassembly.specs.declared.expired.Expired.{Expired}
use Rattle.reassembly.specs.Places.{expired, expired_of, is_over}
use Rattle.reassembly.specs.Reassembly.{Reassembly}
use Rattle.sockets.specs.SocketsView.{later_moment}
use Rattle.host.specs.HostView.{HostView}
use Rattle.host.specs.Ticks.{after_tick, all_reported, reported}
use Rattle.host.proofs.Owed.{joins, roomy}

-- Which run out.

more-expired : (o : Option Expired) (rest : List Expired) (e : Expired) → Contains rest e → Contains (cons_option o rest) e
more-expired None rest e at = at
more-expired (Some x) rest e at = (suc at.0, omega (arith, at.1), at.2)

first-expired : (o : Option Expired) (rest : List Expired) (e : Expired) → o ≡ Some e → Contains (cons_option o rest) e
first-expired None rest e is = cc
first-expired (Some x) rest e is = (0, omega arith, (let same : x ≡ e = cc in same))

is-expired : (moment : Moment) (r : Reassembly) (quote : List ℕ) → is_over moment r ≡ true → r.quote ≡ Some quote → expired_of moment (Some r) ≡ Some (record { key = r.key; quote = quote })
is-expired moment r quote over is =
    ap (λ (b : Bool). cond b (option_map (λ (q : List ℕ). let e : Expired = record { key = r.key; quote = q } in e) r.quote) None) over
    ∙ ap (option_map (λ (q : List ℕ). let e : Expired = record { key = r.key; quote = q } in e)) is

expired-in : (moment : Moment) (pool : List (Option Reassembly)) (r : Reassembly) (quote : List ℕ) → Contains pool (Some r) → is_over moment r ≡ true → r.quote ≡ Some quote
    → Contains (filter_map (expired_of moment) pool) (record { key = r.key; quote = quote })
expired-in moment [] r quote at over is = absurd (omega (arith, at.1))
expired-in moment (p ∷ ps) r quote at over is = by_place (λ there. expired-in moment ps r quote there over is) at.0 at.1 at.2
  where
    e : Expired
    e = record { key = r.key; quote = quote }

    by_place : (Contains ps (Some r) → Contains (filter_map (expired_of moment) ps) e) → (k : ℕ) → k < length (p ∷ ps) → slice_index_or (p ∷ ps) k (Some r) ≡ Some r → Contains (cons_option (expired_of moment p) (filter_map (expired_of moment) ps)) e
    by_place further zero within same = first-expired (expired_of moment p) (filter_map (expired_of moment) ps) e (ap (expired_of moment) same ∙ is-expired moment r quote over is)
    by_place further (suc k) within same = more-expired (expired_of moment p) (filter_map (expired_of moment) ps) e (further (k, omega (arith, within), same))

pub expired-few : (moment : Moment) (pool : List (Option Reassembly)) → length (filter_map (expired_of moment) pool) ≤ length pool
expired-few moment [] = omega arith
expired-few moment (p ∷ ps) = by_one (expired_of moment p) (expired-few moment ps)
  where
    by_one : (o : Option Expired) → length (filter_map (expired_of moment) ps) ≤ length ps → length (cons_option o (filter_map (expired_of moment) ps)) ≤ suc (length ps)
    by_one None few = omega (arith, few)
    by_one (Some e) few = omega (arith, few)

-- Each is reported, where there is room for all.

owed-routes : (is_owed : Bool) (moment : Moment) (r : Reply) (i : InterfaceView) → (let after = owed is_owed moment r i in after.routes) ≡ i.routes
owed-routes is_owed moment r i = by_test (is_owed && not (is_full i))
  where
    by_test : (b : Bool) → (let after = cond b (queued moment r i) i in after.routes) ≡ i.routes
    by_test true = refl
    by_test false = refl

owed-most : (is_owed : Bool) (moment : Moment) (r : Reply) (i : InterfaceView) → length (let after = owed is_owed moment r i in after.replies) ≤ length i.replies + 1
owed-most is_owed moment r i = by_test (is_owed && not (is_full i))
  where
    by_test : (b : Bool) → length (let after = cond b (queued moment r i) i in after.replies) ≤ length i.replies + 1
    by_test true = omega (arith, length-append i.replies (record { since = moment; reply = r } ∷ []))
    by_test false = omega arith

owed-places : (is_owed : Bool) (moment : Moment) (r : Reply) (i : InterfaceView) → (let after = owed is_owed moment r i in after.most_replies) ≡ i.most_replies
owed-places is_owed moment r i = by_test (is_owed && not (is_full i))
  where
    by_test : (b : Bool) → (let after = cond b (queued moment r i) i in after.most_replies) ≡ i.most_replies
    by_test true = refl
    by_test false = refl

owed-keeps : (is_owed : Bool) (moment : Moment) (r : Reply) (i : InterfaceView) (w : Waiting) → Contains i.replies w → Contains (let after = owed is_owed moment r i in after.replies) w
owed-keeps is_owed moment r i w at = by_test (is_owed && not (is_full i))
  where
    by_test : (b : Bool) → Contains (let after = cond b (queued moment r i) i in after.replies) w
    by_test true = Contains-append_left i.replies (record { since = moment; reply = r } ∷ []) w at
    by_test false = at

all-keep : (moment : Moment) (datagrams : List Expired) (i : InterfaceView) (w : Waiting) → Contains i.replies w → Contains (let after = all_reported moment i datagrams in after.replies) w
all-keep moment [] i w at = at
all-keep moment (d ∷ ds) i w at =
    all-keep moment ds (reported moment i d) w (owed-keeps (is_routed i d.key.source) moment (Error d.key.source ReassemblyTimeExceeded (take 68 d.quote)) i w at)

error-of : Moment → Expired → Waiting
error-of moment e = record { since = moment; reply = Error e.key.source ReassemblyTimeExceeded (take 68 e.quote) }

one-reported : (moment : Moment) (i : InterfaceView) (e : Expired) → length i.replies < i.most_replies → is_routed i e.key.source ≡ true → Contains (let after = reported moment i e in after.replies) (error-of moment e)
unfolding error-of
one-reported moment i e few routed =
    let r : Reply = Error e.key.source ReassemblyTimeExceeded (take 68 e.quote) in
    let w : Waiting = record { since = moment; reply = r } in
    subst (λ (x : InterfaceView). Contains x.replies w) (sym (joins (is_routed i e.key.source) moment r i routed (roomy i few))) (Contains-push i.replies w)

reported-in : (moment : Moment) (datagrams : List Expired) (i : InterfaceView) (e : Expired) → length i.replies + length datagrams ≤ i.most_replies → Contains datagrams e → is_routed i e.key.source ≡ true
    → Contains (let after = all_reported moment i datagrams in after.replies) (error-of moment e)
reported-in moment [] i e few at routed = absurd (omega (arith, at.1))
reported-in moment (d ∷ ds) i e few at routed = by_place (λ there. reported-in moment ds (reported moment i d) e less there still) at.0 at.1 at.2
  where
    own : Reply
    own = Error d.key.source ReassemblyTimeExceeded (take 68 d.quote)

    less : length (let after = reported moment i d in after.replies) + length ds ≤ (let after = reported moment i d in after.most_replies)
    less = omega (arith, few, owed-most (is_routed i d.key.source) moment own i, owed-places (is_routed i d.key.source) moment own i)

    still : is_routed (reported moment i d) e.key.source ≡ true
    still = ap (λ (routes : List Route). is_some (next_hop routes e.key.source)) (owed-routes (is_routed i d.key.source) moment own i) ∙ routed

    room : length i.replies < i.most_replies
    room = omega (arith, few)

    by_place : (Contains ds e → Contains (let after = all_reported moment (reported moment i d) ds in after.replies) (error-of moment e)) → (k : ℕ) → k < length (d ∷ ds) → slice_index_or (d ∷ ds) k e ≡ e
        → Contains (let after = all_reported moment (reported moment i d) ds in after.replies) (error-of moment e)
    by_place further zero within same =
        all-keep moment ds (reported moment i d) (error-of moment e)
        (subst (λ (x : Expired). Contains (let after = reported moment i x in after.replies) (error-of moment e)) (sym same) (one-reported moment i e room routed))
    by_place further (suc k) within same = further (k, omega (arith, within), same)

pub late-reported : (h : HostView) (now : Moment) (r : Reassembly) (quote : List ℕ) → Contains h.pool.places (Some r) → (let moment = later_moment h.sockets now in r.since.0 + 60000 ≤ moment.0) → r.quote ≡ Some quote
    → is_routed h.interface r.key.source ≡ true → length h.interface.replies + length h.pool.places ≤ h.interface.most_replies
    → let after = after_tick h now in
    Contains after.interface.replies (record { since = later_moment h.sockets now; reply = Error r.key.source ReassemblyTimeExceeded (take 68 quote) })
unfolding error-of
late-reported h now r quote at late is routed few =
    let moment : Moment = later_moment h.sockets now in
    let over : is_over moment r ≡ true = grind (arith, nat_tests, late) in
    let i : InterfaceView = interface_after_tick h.interface moment in
    let room : length i.replies + length (expired moment h.pool) ≤ i.most_replies = omega (arith, few, length-filter-le (stays h.interface moment) h.interface.replies, expired-few moment h.pool.places) in
    reported-in moment (expired moment h.pool) i (record { key = r.key; quote = quote }) room (expired-in moment h.pool.places r quote at over is) routed
