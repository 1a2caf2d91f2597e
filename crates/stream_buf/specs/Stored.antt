-- How the octets that came lie in a ring: those in order from the front on, and behind them those ahead of a gap, at their own places,
-- with filler at the others. The contracts of `RecvBuf` do not rest on this page.
use Rattle.std.specs.Prelude.{ℕ, ◌-◌, ◌^◌, ◌≤◌, ◌<◌, ◌&&◌, ◌||◌, nat_lt, nat_le, Bool, false, if◌then◌else◌, List, [], ◌∷◌, ◌++◌, length, map, take, drop, replicate, Option, None}
use Rattle.std.specs.List.{slice_get, range_with_len}
use Rattle.stream_buf.specs.Ring.{Buffer, overlaid}
use Rattle.stream_buf.specs.declared.ranges.Range.{Range}
use Rattle.stream_buf.specs.Ranges.{AreApart, AreWithin}
use Rattle.stream_buf.specs.declared.receive.TheConstants.{MOST_RANGES}
use Rattle.stream_buf.specs.Receiving.{ReceiveView}

-- a place is in a range
abbrev pub is_in : ℕ → Range → Bool
is_in place r = nat_le r.start place && nat_lt place r.end

-- a place is in one of these
abbrev pub is_kept : List Range → ℕ → Bool
is_kept [] place = false
is_kept (r ∷ rs) place = is_in place r || is_kept rs place

-- the octet that is kept at a distance, of those that lie behind what is readable
abbrev pub kept_at : List Range → List ℕ → ℕ → Option ℕ
kept_at ranges ahead distance = if is_kept ranges distance then slice_get ahead distance else None

-- a place for each octet that may still come
unfoldable pub kept_places : List Range → List ℕ → ℕ → List (Option ℕ)
kept_places ranges ahead room = map (kept_at ranges ahead) (range_with_len 0 room)

-- a receive buffer, of whose ring so many octets are readable
abbrev pub receive_view : Buffer → ℕ → List Range → ReceiveView
receive_view octets readable ranges = record {
  readable = take readable octets.items;
  kept = kept_places ranges (drop readable octets.items) (octets.capacity - readable);
  capacity = octets.capacity;
}

-- what is readable is there, and so is what is kept, in ranges of which there are no more than the most
pub record IsStored (octets : Buffer) (readable : ℕ) (ranges : List Range) : Type 0 where
  pub apart : AreApart 1 ranges
  pub few : length ranges ≤ MOST_RANGES
  pub fits : (length octets.items ≤ octets.capacity) × (octets.capacity < 2 ^ 64)
  pub there : readable ≤ length octets.items
  pub ahead : AreWithin (length octets.items - readable) ranges

-- octets with filler behind them, so many in all, where they are fewer
abbrev pub filled_to : ℕ → List ℕ → List ℕ
filled_to len octets = octets ++ replicate (len - length octets) 0

-- these octets stand from a place on, over those that are there
abbrev pub laid_at : ℕ → List ℕ → List ℕ → List ℕ
laid_at at new octets = overlaid at new (filled_to at octets)
