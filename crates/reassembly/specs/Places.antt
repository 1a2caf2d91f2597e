-- The places of a pool, and what a fragment or the time changes in them (RFC 791 section 3.2, RFC 1122 section 3.3.2).
use Rattle.std.specs.Prelude.{◌≡◌, ◌≢◌, ℕ, ◌+◌, ◌<◌, ◌≤◌, Bool, true, false, ◌&&◌, nat_le, nat_lt, if◌then◌else◌, List, length, map, fold, count_by, position, slice_index_or, slice_set, Option, Some, None, is_none, is_some, option_map}
use Rattle.std.specs.List.{filter_map, list_all}
use Rattle.std.specs.Option.{option_or}
use Rattle.ipv4.specs.Datagram.{Datagram}
use Rattle.reassembly.specs.declared.expired.Expired.{Expired}
use Rattle.reassembly.specs.declared.key.Key.{Key}
use Rattle.clock.specs.declared.moment.Moment.{Moment}
use Rattle.clock.specs.Moments.{sooner}
use Rattle.reassembly.specs.declared.assembled.Loss.TheVariants.{NoRoom}
use Rattle.reassembly.specs.declared.assembled.Assembled.{Assembled}
use Rattle.reassembly.specs.declared.assembled.Assembled.TheVariants.{Dropped}
use Rattle.reassembly.specs.Fragments.{key_of, ends_within}
use Rattle.reassembly.specs.Keys.{same_key}
use Rattle.reassembly.specs.Reassembly.{Reassembly, Outcome, PoolView, deadline_of, is_over_after, continued, outcome_within, left, Answers}

-- a datagram with this key is put together there
abbrev pub is_of : Key → Option Reassembly → Bool
is_of key None = false
is_of key (Some r) = same_key r.key key

-- The place for a fragment: the one where its datagram is put together, else the first free one, where the fragment ends within the
-- octets that this has room for.
abbrev pub place_for : Datagram → PoolView → Option ℕ
place_for d pool = option_or (position (is_of (key_of d)) pool.places) (if ends_within pool.octets d then position is_none pool.places else None)

-- a place has room for it, whether one is free or not
abbrev pub fits : PoolView → Datagram → Bool
fits pool d = nat_lt 0 (length pool.places) && ends_within pool.octets d

-- what a fragment comes to there
abbrev pub outcome_at : Moment → Datagram → PoolView → ℕ → Outcome
outcome_at now d pool i = outcome_within pool.octets d (continued now d (slice_index_or pool.places i None))

-- where it has no place, nothing changes; else the outcome is left in its place
abbrev pub after_take_at : Moment → Datagram → PoolView → Option ℕ → List (Option Reassembly)
after_take_at now d pool None = pool.places
after_take_at now d pool (Some i) = slice_set pool.places i (left (outcome_at now d pool i))

abbrev pub AnswersAt : Moment → Datagram → PoolView → Option ℕ → Assembled → Type 0
AnswersAt now d pool None taken = taken ≡ Dropped NoRoom
AnswersAt now d pool (Some i) taken = Answers (outcome_at now d pool i) taken

abbrev pub after_take : Moment → Datagram → PoolView → PoolView
after_take now d pool = record pool { places = after_take_at now d pool (place_for d pool) }

abbrev pub AnswersTake : Moment → Datagram → PoolView → Assembled → Type 0
AnswersTake now d pool taken = AnswersAt now d pool (place_for d pool) taken

-- The time.

abbrev pub is_over : Moment → Reassembly → Bool
is_over now r = is_over_after r.since now

abbrev pub after_time : Moment → Option Reassembly → Option Reassembly
after_time now None = None
after_time now (Some r) = if is_over now r then None else Some r

-- what is told of it where it is over and a fragment zero came
abbrev pub expired_of : Moment → Option Reassembly → Option Expired
expired_of now None = None
expired_of now (Some r) = if is_over now r then option_map (λ quote. record { key = r.key; quote = quote }) r.quote else None

abbrev pub after_age : Moment → PoolView → PoolView
after_age now pool = record pool { places = map (after_time now) pool.places }

abbrev pub expired : Moment → PoolView → List Expired
expired now pool = filter_map (expired_of now) pool.places

-- the soonest deadline of all
abbrev pub next_deadline : PoolView → Option Moment
next_deadline pool = fold (λ soonest place. sooner soonest (option_map deadline_of place)) None pool.places

-- What gives way.

-- nothing that is put together there began before this moment
abbrev pub began_from : Moment → Option Reassembly → Bool
began_from since None = true
began_from since (Some r) = nat_le since.0 r.since.0

-- a datagram is put together there, and none of all began before it
abbrev pub is_oldest : List (Option Reassembly) → Option Reassembly → Bool
is_oldest places None = false
is_oldest places (Some r) = list_all (began_from r.since) places

-- the place of the oldest; of several that began at one moment, the first place
abbrev pub oldest : List (Option Reassembly) → Option ℕ
oldest places = position (is_oldest places) places

-- a place becomes free
abbrev pub without : Option ℕ → List (Option Reassembly) → List (Option Reassembly)
without None places = places
without (Some i) places = slice_set places i None

-- the oldest gives way; where no place is taken, nothing changes
abbrev pub without_oldest : PoolView → PoolView
without_oldest pool = record pool { places = without (oldest pool.places) pool.places }

-- One datagram is gone: none that was put together began before it, and none at its moment stood in an earlier place. Its place is free,
-- and every other place is as it was.
pub record LosesOldest (places new : List (Option Reassembly)) : Type 0 where
  pub place : ℕ
  pub gone : Reassembly
  pub stood : slice_index_or places place None ≡ Some gone
  pub oldest : (i : ℕ) (other : Reassembly) → slice_index_or places i None ≡ Some other → gone.since.0 ≤ other.since.0
  pub first : (i : ℕ) (other : Reassembly) → i < place → slice_index_or places i None ≡ Some other → gone.since.0 < other.since.0
  pub free : slice_index_or new place None ≡ None
  pub others : (i : ℕ) → i ≢ place → slice_index_or new i None ≡ slice_index_or places i None
  pub fewer : count_by is_some places ≡ count_by is_some new + 1
  pub same_length : length new ≡ length places
