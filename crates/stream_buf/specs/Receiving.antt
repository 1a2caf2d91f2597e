-- The octets that came: those in order, which the caller can read, and those ahead of a gap, which are kept until it is filled
-- (RFC 9293 sections 3.3.1 and 3.10.7.4).
use Rattle.std.specs.Prelude.{◌≡◌, ℕ, suc, ◌+◌, ◌≤◌, ◌==◌, ◌||◌, nat_le, min, Bool, true, false, if◌then◌else◌, List, [], ◌∷◌, ◌++◌, length, take, drop, map, replicate, Option, Some, None, unwrap_or}
use Rattle.stream_buf.specs.declared.ranges.Range.{Range}
use Rattle.stream_buf.specs.declared.receive.TheConstants.{MOST_RANGES}

-- A receive buffer: what is readable, what is kept ahead of it, by its distance from RCV.NXT, with a place for each octet that
-- may still come, and how many octets it may hold.
pub record ReceiveView : Type 0 where
  pub readable : List ℕ
  pub kept : List (Option ℕ)
  pub capacity : ℕ

-- nothing came
abbrev pub nothing_received : ℕ → ReceiveView
nothing_received capacity = record { readable = []; kept = replicate capacity None; capacity = capacity }

-- the octets that stand without a gap from the first place on
abbrev pub front : List (Option ℕ) → List ℕ
front [] = []
front (None ∷ places) = []
front (Some octet ∷ places) = octet ∷ front places

-- the places behind those
abbrev pub behind_front : List (Option ℕ) → List (Option ℕ)
behind_front places = drop (length (front places)) places

-- the run that is open in front of a place, if one is: from where it began up to there
abbrev pub open_run : Option ℕ → ℕ → List Range
open_run None place = []
open_run (Some start) place = record { start = start; end = place } ∷ []

-- the longest runs of kept octets from a place on; the first of them is the one that is open in front of it, if one is
abbrev pub runs_from : Option ℕ → ℕ → List (Option ℕ) → List Range
runs_from start place [] = open_run start place
runs_from start place (None ∷ places) = open_run start place ++ runs_from None (place + 1) places
runs_from start place (Some octet ∷ places) = runs_from (Some (unwrap_or start place)) (place + 1) places

-- the longest runs of kept octets, in order, each by its first place and the one behind its last (RFC 2018 section 3)
abbrev pub runs : List (Option ℕ) → List Range
runs places = runs_from None 0 places

-- how many ranges begin in these places, where the place before the first keeps an octet or doesn't
abbrev pub ranges_after : Bool → List (Option ℕ) → ℕ
ranges_after before [] = 0
ranges_after before (None ∷ places) = ranges_after false places
ranges_after true (Some octet ∷ places) = ranges_after true places
ranges_after false (Some octet ∷ places) = suc (ranges_after true places)

-- how many ranges there are: longest runs of kept octets without a gap
abbrev pub ranges : List (Option ℕ) → ℕ
ranges places = ranges_after false places

-- how many octets are kept ahead of a gap
abbrev pub kept_count : List (Option ℕ) → ℕ
kept_count [] = 0
kept_count (None ∷ places) = kept_count places
kept_count (Some octet ∷ places) = suc (kept_count places)

-- these octets stand at the places from a distance on, over what stood there
abbrev pub laid : List (Option ℕ) → ℕ → List ℕ → List (Option ℕ)
laid places distance octets = take distance places ++ map (λ octet. Some octet) octets ++ drop (distance + length octets) places

-- octets at a distance are taken: they begin at RCV.NXT, or what would be kept then has no more than the most ranges
abbrev pub is_taken : ReceiveView → ℕ → List ℕ → Bool
is_taken b distance octets = distance == 0 || nat_le (ranges (behind_front (laid b.kept distance octets))) MOST_RANGES

-- the octets that join what is readable: all that stand without a gap from RCV.NXT on
abbrev pub joined : ReceiveView → ℕ → List ℕ → List ℕ
joined b distance octets = if is_taken b distance octets then front (laid b.kept distance octets) else []

-- octets came at a distance from RCV.NXT
abbrev pub after_insert : ReceiveView → ℕ → List ℕ → ReceiveView
after_insert b distance octets =
    if is_taken b distance octets
    then record b { readable = b.readable ++ front (laid b.kept distance octets); kept = behind_front (laid b.kept distance octets) }
    else b

-- how many octets a read of so many takes
abbrev pub read_count : ReceiveView → ℕ → ℕ
read_count b len = min len (length b.readable)

-- those octets: the first ones
abbrev pub read_octets : ReceiveView → ℕ → List ℕ
read_octets b len = take (read_count b len) b.readable

-- the caller read so many octets at most: the first ones are gone, and as many octets more may come
abbrev pub after_read : ReceiveView → ℕ → ReceiveView
after_read b len = record b {
  readable = drop (read_count b len) b.readable;
  kept = b.kept ++ replicate (read_count b len) None;
}

-- none of these places keeps an octet any longer
abbrev pub forgotten : List (Option ℕ) → List (Option ℕ)
forgotten places = replicate (length places) None

-- nothing more comes: what is kept ahead of a gap is forgotten
abbrev pub after_forgetting : ReceiveView → ReceiveView
after_forgetting b = record b { kept = forgotten b.kept }

-- what holds of each receive buffer: there is a place for each octet that may still come, none is kept at RCV.NXT, and there are
-- no more than the most ranges
pub record IsReceiving (b : ReceiveView) : Type 0 where
  pub places : length b.readable + length b.kept ≡ b.capacity
  pub gap : front b.kept ≡ []
  pub few : ranges b.kept ≤ MOST_RANGES
