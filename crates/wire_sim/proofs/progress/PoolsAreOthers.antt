-- What a host of a world puts together came from the other host, and so did all whose time runs out.
use Rattle.std.proofs.Common.{◌≡◌, ◌⊎◌, inl, inr, ℕ, zero, suc, ◌<◌, Bool, true, false, if◌then◌else◌, List, [], ◌∷◌, length, replicate, fold, get_or, Option, Some, None, option_map, Result, Ok, Err, arith, refl, sym, ◌∙◌, ap, subst, All, cond}
use Rattle.std.specs.List.{AllByRecursion, cons_option, slice_set, slice_index_or, filter_map}
use Rattle.std.specs.Option.{option_map_or}
use Rattle.std.proofs.lemmas.List.Elements.{All-append, All-cons, All-nil, All-weaker, recursion_from_All}
use Rattle.clock.specs.declared.moment.Moment.{Moment}
use Rattle.ipv4.specs.declared.addr.Addr.{Addr}
use Rattle.ipv4.specs.declared.addr.Endpoint.{Endpoint}
use Rattle.ipv4.specs.Datagram.{Datagram}
use Rattle.reassembly.specs.declared.expired.Expired.{Expired}
use Rattle.reassembly.specs.Events.{Event, after_event}
use Rattle.reassembly.specs.Events.Event.{Takes, Ages, GivesWay}
use Rattle.reassembly.specs.Fragments.{ends_within}
use Rattle.reassembly.specs.Octets.{whole_of}
use Rattle.reassembly.specs.Places.{after_take_at, after_time, expired, expired_of, is_over, oldest, outcome_at, place_for, without}
use Rattle.reassembly.specs.Reassembly.{Reassembly, conflicts, continued, left, outcome, quoted, with_fragment, PoolView, new_pool, Outcome}
use Rattle.reassembly.specs.Reassembly.Outcome.{Waits, Completes, GivesUp}
use Rattle.sockets.specs.declared.entry.SocketId.{SocketId}
use Rattle.sockets.specs.declared.refusal.Refusal.{Refusal}
use Rattle.sockets.specs.Datagrams.{after_sendto, end_sent_from, sendto_answer}
use Rattle.sockets.specs.Entries.{source_of}
use Rattle.sockets.specs.SocketsView.{SocketsView}
use Rattle.datagram_law.specs.Accepted.{Accepted}
use Rattle.datagram_law.specs.Carried.{IsOfOne}
use Rattle.datagram_law.specs.Pools.{IsPoolOf, TakesOfOne}
use Rattle.sides.specs.declared.side.Side.{Side}
use Rattle.sides.specs.declared.side.Side.TheVariants.{A, B}
use Rattle.sides.specs.Sides.{other_side}
use Rattle.wire_sim.specs.declared.event.Answer.{Answer}
use Rattle.wire_sim.specs.declared.event.Answer.TheVariants as reply
use Rattle.wire_sim.specs.declared.event.Call.{Call}
use Rattle.wire_sim.specs.declared.event.Call.TheVariants as call
use Rattle.wire_sim.specs.declared.event.Event.{Event as WorldEvent}
use Rattle.wire_sim.specs.declared.event.Event.TheVariants as event
use Rattle.wire_sim.specs.Datagrams.{accepted_by, accepted_by_call, accepted_in}
use Rattle.wire_sim.specs.Passage.{addr_at}
use Rattle.wire_sim.specs.Runs.{IsReached, begins, goes_on, IsStep}
use Rattle.wire_sim.specs.Steps.{MeetsCall}
use Rattle.wire_sim.specs.WorldView.{WorldView, host_of, table_of}
use Rattle.wire_sim.proofs.HostsRun.{sound-at}
use Rattle.wire_sim.proofs.datagrams.RunsKeepDatagrams.{hosts-keep}
use Rattle.wire_sim.proofs.lists.FoundAfterChange.{All-map}
use Rattle.wire_sim.proofs.passage.FramesPass.{config_of, hosts-stay}
use Rattle.wire_sim.proofs.tables.CallsOnTable.{outcome as call_outcome}

-- A pool whose fragments are all from one address.

abbrev IsFrom : Addr → Option Reassembly → Type 0
IsFrom source None = Unit {0}
IsFrom source (Some r) = r.key.source ≡ source

abbrev AreFrom : Addr → List (Option Reassembly) → Type 0
AreFrom source places = AllByRecursion (IsFrom source) places

from-got : (source : Addr) (places : List (Option Reassembly)) (i : ℕ) → AreFrom source places → IsFrom source (slice_index_or places i None)
from-got source [] i all = tt
from-got source (o ∷ places) zero all = all.0
from-got source (o ∷ places) (suc i) all = from-got source places i all.1

from-set : (source : Addr) (places : List (Option Reassembly)) (i : ℕ) (o : Option Reassembly) → AreFrom source places → IsFrom source o → AreFrom source (slice_set places i o)
from-set source [] i o all one = tt
from-set source (p ∷ places) zero o all one = (one, all.1)
from-set source (p ∷ places) (suc i) o all one = (all.0, from-set source places i o all.1 one)

from-continued : (source : Addr) (now : Moment) (d : Datagram) (o : Option Reassembly) → d.source ≡ source → IsFrom source o → IsFrom source (Some (continued now d o))
from-continued source now d None of one = of
from-continued source now d (Some r) of one = one

from-left : (source : Addr) (d : Datagram) (r : Reassembly) → r.key.source ≡ source → IsFrom source (left (outcome d r))
unfolding outcome
from-left source d r is = by_conflict (conflicts d r.end (length r.octets))
  where
    next : Reassembly
    next = with_fragment r d

    by_whole : (o : Option (List ℕ)) → IsFrom source (left (option_map_or (λ payload. Completes payload (quoted next.quote)) o (Waits next)))
    by_whole None = is
    by_whole (Some payload) = tt

    by_conflict : (b : Bool) → IsFrom source (left (if b then GivesUp else option_map_or (λ payload. Completes payload (quoted next.quote)) (whole_of next.end next.octets) (Waits next)))
    by_conflict true = tt
    by_conflict false = by_whole (whole_of next.end next.octets)

-- one that reaches past the room gives its datagram up
from-within : (source : Addr) (o : Outcome) (fit : Bool) → IsFrom source (left o) → IsFrom source (left (cond fit o GivesUp))
from-within source o true is = is
from-within source o false is = tt

from-taken : (source : Addr) (now : Moment) (d : Datagram) (pool : PoolView) (o : Option ℕ) → d.source ≡ source → AreFrom source pool.places → AreFrom source (after_take_at now d pool o)
from-taken source now d pool None of all = all
from-taken source now d pool (Some i) of all =
    let r : Reassembly = continued now d (slice_index_or pool.places i None) in
    from-set source pool.places i (left (outcome_at now d pool i)) all
    (from-within source (outcome d r) (ends_within pool.octets d) (from-left source d r (from-continued source now d (slice_index_or pool.places i None) of (from-got source pool.places i all))))

from-aged : (source : Addr) (now : Moment) (o : Option Reassembly) → IsFrom source o → IsFrom source (after_time now o)
from-aged source now None one = tt
from-aged source now (Some r) one = by_test (is_over now r)
  where
    by_test : (b : Bool) → IsFrom source (if b then None else Some r)
    by_test true = tt
    by_test false = one

-- the fragment that is taken, where one is, is from there
abbrev TakesFrom : Addr → Event → Type 0
TakesFrom source (Takes now d) = d.source ≡ source
TakesFrom source (Ages now) = Unit {0}
TakesFrom source GivesWay = Unit {0}

from-without : (source : Addr) (places : List (Option Reassembly)) (o : Option ℕ) → AreFrom source places → AreFrom source (without o places)
from-without source places None all = all
from-without source places (Some i) all = from-set source places i None all tt

from-event : (source : Addr) (pool : PoolView) (e : Event) → TakesFrom source e → AreFrom source pool.places → AreFrom source (after_event pool e).places
from-event source pool (Takes now d) of all = from-taken source now d pool (place_for d pool) of all
from-event source pool (Ages now) of all = All-map (IsFrom source) (after_time now) (from-aged source now) pool.places all
from-event source pool GivesWay of all = from-without source pool.places (oldest pool.places) all

from-events : (source : Addr) (pool : PoolView) (events : List Event) → AllByRecursion (TakesFrom source) events → AreFrom source pool.places → AreFrom source (fold after_event pool events).places
from-events source pool [] of all = all
from-events source pool (e ∷ events) of all = from-events source (after_event pool e) events of.1 (from-event source pool e of.0 all)

from-free : (source : Addr) (count : ℕ) → AreFrom source (replicate count None)
from-free source zero = tt
from-free source (suc n) = (tt, from-free source n)

-- so is all of which the time runs out
abbrev IsTold : Addr → Option Expired → Type 0
IsTold source None = Unit {0}
IsTold source (Some x) = x.key.source ≡ source

told-from : (source : Addr) (now : Moment) (o : Option Reassembly) → IsFrom source o → IsTold source (expired_of now o)
told-from source now None one = tt
told-from source now (Some r) one = by_test (is_over now r)
  where
    by_quote : (quote : Option (List ℕ)) → IsTold source (option_map (λ q. record { key = r.key; quote = q }) quote)
    by_quote None = tt
    by_quote (Some q) = one

    by_test : (b : Bool) → IsTold source (if b then option_map (λ q. record { key = r.key; quote = q }) r.quote else None)
    by_test true = by_quote r.quote
    by_test false = tt

expired-more : (source : Addr) (o : Option Expired) (xs : List Expired) → IsTold source o → AllByRecursion (λ (x : Expired). x.key.source ≡ source) xs → AllByRecursion (λ (x : Expired). x.key.source ≡ source) (cons_option o xs)
expired-more source None xs one all = all
expired-more source (Some x) xs one all = (one, all)

expired-from : (source : Addr) (now : Moment) (places : List (Option Reassembly)) → AreFrom source places → AllByRecursion (λ (x : Expired). x.key.source ≡ source) (filter_map (expired_of now) places)
expired-from source now [] all = tt
expired-from source now (o ∷ places) all = expired-more source (expired_of now o) (filter_map (expired_of now) places) (told-from source now o all.0) (expired-from source now places all.1)

-- What a host accepts is from its own address.

abbrev IsFromHere : Addr → Accepted → Type 0
IsFromHere source a = a.source.addr ≡ source

source-addr : (own : Addr) (bound : Option Endpoint) → (let e = source_of own bound in e.addr) ≡ own
source-addr own None = refl
source-addr own (Some local) = refl

addr-sent : (h : SocketsView) (id : SocketId) (peer : Endpoint) (octets : List ℕ) (routed : Bool) → (let new = after_sendto h id peer octets routed in new.addr) ≡ h.addr
addr-sent h id peer octets routed = by_end (end_sent_from h id peer octets routed) refl
  where
    by_end : (r : Result Endpoint Refusal) → end_sent_from h id peer octets routed ≡ r → (let new = after_sendto h id peer octets routed in new.addr) ≡ h.addr
    by_end (Err refusal) is = rw is
    by_end (Ok local) is = rw is

call-from : (routed : Addr → Bool) (now : Moment) (c : Call) (answer : Answer) (h new : SocketsView) → MeetsCall routed now c h answer new → All (IsFromHere h.addr) (accepted_by_call c answer h new)
call-from routed now (call.SendTo id peer octets) (reply.Sent count) h new m =
    All-cons (IsFromHere h.addr) _ [] (source-addr new.addr _ ∙ by_outcome (call_outcome (sendto_answer h id peer octets.items (routed peer.addr)) (λ n. reply.Sent n) (after_sendto h id peer octets.items (routed peer.addr)) h (reply.Sent count) new m)) (All-nil (IsFromHere h.addr))
  where
    by_outcome : ((v : ℕ) × (sendto_answer h id peer octets.items (routed peer.addr) ≡ Ok v) × (reply.Sent count ≡ reply.Sent v) × (new ≡ after_sendto h id peer octets.items (routed peer.addr)))
        ⊎ ((e : Refusal) × (sendto_answer h id peer octets.items (routed peer.addr) ≡ Err e) × (reply.Sent count ≡ reply.Refused e) × (new ≡ h)) → new.addr ≡ h.addr
    by_outcome (inl x) = ap (λ (t : SocketsView). t.addr) x.3 ∙ addr-sent h id peer octets.items (routed peer.addr)
    by_outcome (inr x) = ap (λ (t : SocketsView). t.addr) x.3
call-from routed now c answer h new m = All-nil (IsFromHere h.addr)

-- by an event of a world
event-from : (limit : ℕ) (w v : WorldView) (run : IsReached limit w) (happens : WorldEvent) (answer : Answer) → IsStep happens answer w v → (side : Side) → All (IsFromHere (let c = config_of limit w run side in c.addr)) (accepted_by side happens answer w v)
event-from limit w v run (event.Call at c) answer step side = by_side at side step
  where
    own : (s : Side) → IsStep (event.Call s c) answer w v → All (IsFromHere (let k = config_of limit w run s in k.addr)) (accepted_by_call c answer (table_of w.network s) (table_of v.network s))
    own s step =
        let there : (let t = table_of w.network s in t.addr) ≡ (let k = config_of limit w run s in k.addr) = (let stays = hosts-stay limit w run s in let sound = sound-at w v step s in sym sound.own ∙ stays.addr) in
        subst (λ (a : Addr). All (IsFromHere a) (accepted_by_call c answer (table_of w.network s) (table_of v.network s))) there (call-from _ _ c answer (table_of w.network s) (table_of v.network s) step.network.0.table)

    by_side : (at side : Side) → IsStep (event.Call at c) answer w v → All (IsFromHere (let k = config_of limit w run side in k.addr)) (accepted_by side (event.Call at c) answer w v)
    by_side A A step = own A step
    by_side B B step = own B step
    by_side A B step = All-nil (IsFromHere (let k = config_of limit w run B in k.addr))
    by_side B A step = All-nil (IsFromHere (let k = config_of limit w run A in k.addr))
event-from limit w v run (event.Tick at moment) answer step side = All-nil (IsFromHere (let c = config_of limit w run side in c.addr))
event-from limit w v run (event.Emit at) answer step side = All-nil (IsFromHere (let c = config_of limit w run side in c.addr))
event-from limit w v run (event.Deliver at index isn) answer step side = All-nil (IsFromHere (let c = config_of limit w run side in c.addr))

accepted-from : (limit : ℕ) (w : WorldView) (run : IsReached limit w) (side : Side) → All (IsFromHere (let c = config_of limit w run side in c.addr)) (accepted_in limit w run side)
accepted-from limit w (begins a b a_is b_is apart few) side = All-nil (IsFromHere (let c = config_of limit w (begins a b a_is b_is apart few) side in c.addr))
accepted-from limit _ (goes_on w v happens answer run step) side =
    All-append (IsFromHere (let c = config_of limit w run side in c.addr)) (accepted_in limit w run side) (accepted_by side happens answer w v) (accepted-from limit w run side) (event-from limit w v run happens answer step side)

-- The pool of a side's host.

one-from : (source : Addr) (accepted : List Accepted) (k : ℕ) (a : Accepted) → AllByRecursion (IsFromHere source) accepted → k < length accepted → get_or accepted k a ≡ a → a.source.addr ≡ source
one-from source [] k a all within is = absurd (omega (arith, within))
one-from source (x ∷ xs) zero a all within is = ap (λ (y : Accepted). y.source.addr) (sym is) ∙ all.0
one-from source (x ∷ xs) (suc k) a all within is = one-from source xs k a all.1 (omega (arith, within)) is

of-one-from : (source : Addr) (accepted : List Accepted) (d : Datagram) → AllByRecursion (IsFromHere source) accepted → IsOfOne accepted d → d.source ≡ source
of-one-from source accepted d all (k, a, within, there, is) = is.source ∙ one-from source accepted k a all within there

pool-from : (source : Addr) (accepted : List Accepted) (pool : PoolView) → All (IsFromHere source) accepted → IsPoolOf accepted pool → AreFrom source pool.places
pool-from source accepted pool all of =
    subst (λ (p : PoolView). AreFrom source p.places) of.after
    (from-events source (new_pool of.number pool.octets) of.events (recursion_from_All (TakesFrom source) of.events (All-weaker (TakesOfOne accepted) (TakesFrom source) takes of.events of.taken)) (from-free source of.number))
  where
    takes : (e : Event) → TakesOfOne accepted e → TakesFrom source e
    takes (Takes now d) one = of-one-from source accepted d (recursion_from_All (IsFromHere source) accepted all) one
    takes (Ages now) one = tt
    takes GivesWay one = tt

pub reports-from : (limit : ℕ) (w : WorldView) (run : IsReached limit w) (side : Side) (now : Moment)
    → AllByRecursion (λ (x : Expired). x.key.source ≡ addr_at w.network (other_side side)) (let h = host_of w.network side in expired now h.pool)
reports-from limit w run side now =
    let stays = hosts-stay limit w run (other_side side) in
    expired-from (addr_at w.network (other_side side)) now _ (subst (λ (a : Addr). AreFrom a (let h = host_of w.network side in h.pool.places)) (sym stays.addr) (by_side side))
  where
    by_side : (s : Side) → AreFrom (let c = config_of limit w run (other_side s) in c.addr) (let h = host_of w.network s in h.pool.places)
    by_side A = let k = hosts-keep limit w run in pool-from _ (accepted_in limit w run B) _ (accepted-from limit w run B) k.here.pool
    by_side B = let k = hosts-keep limit w run in pool-from _ (accepted_in limit w run A) _ (accepted-from limit w run A) k.there.pool
