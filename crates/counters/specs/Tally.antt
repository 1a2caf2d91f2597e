-- What each counter is to count, of all that came and went out, and of all that ticks gave up.
use Rattle.std.specs.Prelude.{◌≡◌, ℕ, ◌==◌, Bool, true, false, List, sum_by, count_by, Option, Some, None, Ok, Err}
use Rattle.frames.specs.declared.drop.DropCause.{DropCause}
use Rattle.frames.specs.declared.drop.DropCause.TheVariants.{Short, OtherMac, OtherType, IpHeader, IpSum, OtherAddress, UpperHeader, UpperSum, Fragment}
use Rattle.frames.specs.Drops.{number_of}
use Rattle.host.specs.declared.given_up.GivenUp.{GivenUp}
use Rattle.host.specs.declared.lack.Lack.{Lack}
use Rattle.host.specs.declared.lack.Lack.TheVariants.{Backlog, Table, Memory, Replies, Queue, Reassembly, Route}
use Rattle.counters.specs.declared.counters.Counters.{Counters}
use Rattle.counters.specs.Counting.{Event, Came, Went, Ticked, held, lack_for, nothing_given_up}

-- a frame came, of so many octets ..
abbrev pub is_coming : Event → Bool
is_coming (Came len answer found) = true
is_coming (Went len) = false
is_coming (Ticked more) = false

abbrev pub octets_coming : Event → ℕ
octets_coming (Came len answer found) = len
octets_coming (Went len) = 0
octets_coming (Ticked more) = 0

-- .. or went out
abbrev pub is_going : Event → Bool
is_going (Came len answer found) = false
is_going (Went len) = true
is_going (Ticked more) = false

abbrev pub octets_going : Event → ℕ
octets_going (Came len answer found) = 0
octets_going (Went len) = len
octets_going (Ticked more) = 0

-- a frame came that was dropped for this cause
abbrev pub is_dropped_for : DropCause → Event → Bool
is_dropped_for cause (Came len (Ok done) found) = false
is_dropped_for cause (Came len (Err other) found) = number_of other == number_of cause
is_dropped_for cause (Went len) = false
is_dropped_for cause (Ticked more) = false

-- what there may be no room at, in the order of its counts
abbrev pub place_of : Lack → ℕ
place_of Backlog = 1
place_of Table = 2
place_of Memory = 3
place_of Replies = 4
place_of Queue = 5
place_of Reassembly = 6
place_of Route = 7

abbrev pub is_this : Lack → Option Lack → Bool
is_this what None = false
is_this what (Some found) = place_of found == place_of what

-- a frame came that was dropped for want of room, of which there was none at this
abbrev pub is_dropped_at : Lack → Event → Bool
is_dropped_at what (Came len (Ok done) found) = false
is_dropped_at what (Came len (Err cause) found) = is_this what (lack_for cause found)
is_dropped_at what (Went len) = false
is_dropped_at what (Ticked more) = false

-- what a tick gave up; nothing where it was none
abbrev pub given_up_at : Event → GivenUp
given_up_at (Ticked more) = more
given_up_at (Came len answer found) = nothing_given_up
given_up_at (Went len) = nothing_given_up

-- each count is that of its events, as far as 64 bits hold it
pub record IsTallyOf (events : List Event) (c : Counters) : Type 0 where
  pub frames_in : c.frames_in ≡ held (count_by is_coming events)
  pub octets_in : c.octets_in ≡ held (sum_by octets_coming events)
  pub frames_out : c.frames_out ≡ held (count_by is_going events)
  pub octets_out : c.octets_out ≡ held (sum_by octets_going events)
  pub short : c.drops.short ≡ held (count_by (is_dropped_for Short) events)
  pub other_mac : c.drops.other_mac ≡ held (count_by (is_dropped_for OtherMac) events)
  pub other_type : c.drops.other_type ≡ held (count_by (is_dropped_for OtherType) events)
  pub ip_header : c.drops.ip_header ≡ held (count_by (is_dropped_for IpHeader) events)
  pub ip_sum : c.drops.ip_sum ≡ held (count_by (is_dropped_for IpSum) events)
  pub other_address : c.drops.other_address ≡ held (count_by (is_dropped_for OtherAddress) events)
  pub upper_header : c.drops.upper_header ≡ held (count_by (is_dropped_for UpperHeader) events)
  pub upper_sum : c.drops.upper_sum ≡ held (count_by (is_dropped_for UpperSum) events)
  pub fragment : c.drops.fragment ≡ held (count_by (is_dropped_for Fragment) events)
  pub backlog : c.lacks.backlog ≡ held (count_by (is_dropped_at Backlog) events)
  pub table : c.lacks.table ≡ held (count_by (is_dropped_at Table) events)
  pub memory : c.lacks.memory ≡ held (count_by (is_dropped_at Memory) events)
  pub replies : c.lacks.replies ≡ held (count_by (is_dropped_at Replies) events)
  pub queue : c.lacks.queue ≡ held (count_by (is_dropped_at Queue) events)
  pub reassembly : c.lacks.reassembly ≡ held (count_by (is_dropped_at Reassembly) events)
  pub route : c.lacks.route ≡ held (count_by (is_dropped_at Route) events)
  pub replies_given_up : c.given_up.replies ≡ held (sum_by (λ e. (given_up_at e).replies) events)
  pub resets_given_up : c.given_up.resets ≡ held (sum_by (λ e. (given_up_at e).resets) events)
  pub datagrams_given_up : c.given_up.datagrams ≡ held (sum_by (λ e. (given_up_at e).datagrams) events)
