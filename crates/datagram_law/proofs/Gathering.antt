-- What a pool gathered for a datagram is of that one.
use Rattle.std.proofs.Common.{◌≡◌, ℕ, Bool, true, false, cond, List, [], ◌∷◌, ◌++◌, fold, refl, ◌∙◌, ap, All}
use Rattle.std.proofs.lemmas.List.Elements.{All-append, All-cons, All-nil, All-push, All-weaker, recursion_from_All}
use Rattle.std.specs.List.{AllByRecursion}
use Rattle.ipv4.specs.Datagram.{Datagram}
use Rattle.reassembly.specs.declared.key.Key.{Key}
use Rattle.reassembly.specs.Events.{Event, after_event, after_events, has_place, taken_for, gathered_after, gathered_from, gathered}
use Rattle.reassembly.specs.Events.Event.{Takes, Ages, GivesWay}
use Rattle.reassembly.specs.Fragments.{key_of}
use Rattle.reassembly.specs.Keys.{same_key}
use Rattle.reassembly.specs.Reassembly.{PoolView, new_pool}
use Rattle.reassembly.proofs.OverEvents.{octets_kept, same_key_is}
use Rattle.datagram_law.specs.Accepted.{Accepted}
use Rattle.datagram_law.specs.Carried.{IsOfOne}
use Rattle.datagram_law.specs.Pools.{TakesOfOne, IsPoolOf}
use Rattle.datagram_law.proofs.InTurn.{still}

-- of one of these, and with this key
abbrev pub IsFor : List Accepted → Key → Datagram → Type 0
IsFor accepted key d = IsOfOne accepted d × (key_of d ≡ key)

taken : (accepted : List Accepted) (key : Key) (event : Event) → TakesOfOne accepted event → All (IsFor accepted key) (taken_for key event)
taken accepted key (Ages now) h = All-nil (IsFor accepted key)
taken accepted key GivesWay h = All-nil (IsFor accepted key)
taken accepted key (Takes now d) h = step (same_key (key_of d) key) refl
  where
    step : (b : Bool) → same_key (key_of d) key ≡ b → All (IsFor accepted key) (cond b (d ∷ []) [])
    step true e = All-cons (IsFor accepted key) d [] (h, same_key_is (key_of d) key e) (All-nil (IsFor accepted key))
    step false e = All-nil (IsFor accepted key)

one_more : (accepted : List Accepted) (key : Key) (pool : PoolView) (fragments : List Datagram) (event : Event)
    → All (IsFor accepted key) fragments → TakesOfOne accepted event → All (IsFor accepted key) (gathered_after key pool fragments event)
one_more accepted key pool fragments event are h = step (has_place key (after_event pool event))
  where
    step : (b : Bool) → All (IsFor accepted key) (cond b (fragments ++ taken_for key event) [])
    step true = All-append (IsFor accepted key) fragments (taken_for key event) are (taken accepted key event h)
    step false = All-nil (IsFor accepted key)

from : (accepted : List Accepted) (key : Key) (pool : PoolView) (fragments : List Datagram) (events : List Event)
    → All (IsFor accepted key) fragments → AllByRecursion (TakesOfOne accepted) events → All (IsFor accepted key) (gathered_from key pool fragments events)
from accepted key pool fragments [] are h = are
from accepted key pool fragments (event ∷ events) are h =
    from accepted key (after_event pool event) (gathered_after key pool fragments event) events (one_more accepted key pool fragments event are h.0) h.1

pub gathered_are : (accepted : List Accepted) (number octets : ℕ) (key : Key) (events : List Event) → All (TakesOfOne accepted) events
    → All (IsFor accepted key) (gathered number octets key events)
gathered_are accepted number octets key events h =
    from accepted key (new_pool number octets) [] events (All-nil (IsFor accepted key)) (recursion_from_All (TakesOfOne accepted) events h)

-- pools

pub new : (accepted : List Accepted) (number octets : ℕ) → IsPoolOf accepted (new_pool number octets)
new accepted number octets = record { number = number; events = []; after = refl; taken = All-nil (TakesOfOne accepted) }

fold-append_one : (pool : PoolView) (events : List Event) (event : Event)
    → fold after_event pool (events ++ event ∷ []) ≡ after_event (fold after_event pool events) event
fold-append_one pool [] event = refl
fold-append_one pool (e ∷ events) event = fold-append_one (after_event pool e) events event

pub one_event : (accepted : List Accepted) (pool : PoolView) (event : Event) → IsPoolOf accepted pool → TakesOfOne accepted event
    → IsPoolOf accepted (after_event pool event)
one_event accepted pool event is h = record {
  number = is.number;
  events = is.events ++ event ∷ [];
  after = ap (λ octets. after_events is.number octets (is.events ++ event ∷ [])) (octets_kept event pool)
      ∙ fold-append_one (new_pool is.number pool.octets) is.events event ∙ ap (λ (p : PoolView). after_event p event) is.after;
  taken = All-push (TakesOfOne accepted) is.events event is.taken h;
}

takes_still : (accepted more : List Accepted) (event : Event) → TakesOfOne accepted event → TakesOfOne (accepted ++ more) event
takes_still accepted more (Takes now d) h = still _ accepted more h
takes_still accepted more (Ages now) h = h
takes_still accepted more GivesWay h = h

pub pool_still : (accepted more : List Accepted) (pool : PoolView) → IsPoolOf accepted pool → IsPoolOf (accepted ++ more) pool
pool_still accepted more pool is = record {
  number = is.number;
  events = is.events;
  after = is.after;
  taken = All-weaker (TakesOfOne accepted) (TakesOfOne (accepted ++ more)) (takes_still accepted more) is.events is.taken;
}
