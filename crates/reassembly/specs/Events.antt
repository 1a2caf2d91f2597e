-- Whatever befalls a pool: fragments are taken, the time is told and the oldest gives way, in any order.
use Rattle.std.specs.Prelude.{◌≡◌, ℕ, ◌≤◌, Bool, true, if◌then◌else◌, List, [], ◌∷◌, ◌++◌, length, fold, Some}
use Rattle.std.specs.List.{list_any}
use Rattle.clock.specs.declared.moment.Moment.{Moment}
use Rattle.ipv4.specs.Datagram.{Datagram}
use Rattle.reassembly.specs.declared.key.Key.{Key}
use Rattle.reassembly.specs.declared.assembled.Loss.TheVariants.{NoRoom, GivenUp}
use Rattle.reassembly.specs.declared.assembled.Assembled.{Assembled}
use Rattle.reassembly.specs.declared.assembled.Assembled.TheVariants.{Waiting, Whole, Dropped}
use Rattle.reassembly.specs.Fragments.{key_of, latest_quote, is_contradictory, IsPayload}
use Rattle.reassembly.specs.Keys.{same_key}
use Rattle.reassembly.specs.Places.{is_of, after_take, after_age, without_oldest}
use Rattle.reassembly.specs.Reassembly.{PoolView, new_pool}

pub data Event : Type 0 where
  -- a fragment is taken at this moment
  Takes : Moment → Datagram → Event
  -- this moment is told
  Ages : Moment → Event
  -- the oldest gives way
  GivesWay : Event

abbrev pub after_event : PoolView → Event → PoolView
after_event pool (Takes now d) = after_take now d pool
after_event pool (Ages now) = after_age now pool
after_event pool GivesWay = without_oldest pool

-- a new pool of so many places with room for so many octets, after these events
abbrev pub after_events : ℕ → ℕ → List Event → PoolView
after_events places octets events = fold after_event (new_pool places octets) events

-- a datagram with this key has a place
abbrev pub has_place : Key → PoolView → Bool
has_place key pool = list_any (is_of key) pool.places

-- the fragment that is taken, where it has this key
abbrev pub taken_for : Key → Event → List Datagram
taken_for key (Takes now d) = if same_key (key_of d) key then d ∷ [] else []
taken_for key (Ages now) = []
taken_for key GivesWay = []

-- the fragments with a key that were taken since it had no place last: those before an event, and the one that is taken by it
abbrev pub gathered_after : Key → PoolView → List Datagram → Event → List Datagram
gathered_after key pool fragments event = if has_place key (after_event pool event) then fragments ++ taken_for key event else []

abbrev pub gathered_from : Key → PoolView → List Datagram → List Event → List Datagram
gathered_from key pool fragments [] = fragments
gathered_from key pool fragments (event ∷ events) = gathered_from key (after_event pool event) (gathered_after key pool fragments event) events

abbrev pub gathered : ℕ → ℕ → Key → List Event → List Datagram
gathered places octets key events = gathered_from key (new_pool places octets) [] events

-- The answer is right for these fragments of one datagram: it is their payload with the quote of the last fragment zero of them, or
-- they make none yet, or they contradict each other. A fragment that finds no place is of none.
abbrev pub IsRight : List Datagram → Assembled → Type 0
IsRight fragments (Whole whole) = IsPayload fragments whole.octets.now × (latest_quote fragments ≡ Some whole.quote.now)
IsRight fragments Waiting = (payload : List ℕ) → IsPayload fragments payload → ⊥
IsRight fragments (Dropped GivenUp) = is_contradictory fragments ≡ true
IsRight fragments (Dropped NoRoom) = Unit {0}

-- The answer is right for parts of one payload: it is that payload or none, and they are not given up.
abbrev pub IsRightFor : List ℕ → Assembled → Type 0
IsRightFor payload (Whole whole) = whole.octets.now ≡ payload
IsRightFor payload Waiting = Unit {0}
IsRightFor payload (Dropped GivenUp) = ⊥
IsRightFor payload (Dropped NoRoom) = Unit {0}

-- a whole datagram is lent with no more than so many octets
abbrev pub LendsWithin : ℕ → Assembled → Type 0
LendsWithin octets (Whole whole) = length whole.octets.now ≤ octets
LendsWithin octets Waiting = Unit {0}
LendsWithin octets (Dropped loss) = Unit {0}
