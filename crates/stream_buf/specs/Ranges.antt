-- Ranges of places ahead of a gap, and how they join. The contracts of `RecvBuf` do not rest on this page; a law of the runs that it
-- keeps cites `AreApart` and `covered`.
use Rattle.std.specs.Prelude.{ℕ, suc, ◌+◌, ◌-◌, ◌<◌, ◌≤◌, ◌&&◌, nat_lt, nat_le, min, max, Bool, if◌then◌else◌, List, [], ◌∷◌, sum_by}
use Rattle.stream_buf.specs.declared.ranges.Range.{Range}

abbrev pub range : ℕ → ℕ → Range
range start end = record { start = start; end = end }

-- how many places these ranges have
abbrev pub covered : List Range → ℕ
covered ranges = sum_by (λ r. r.end - r.start) ranges

-- two ranges have a place in common, or one begins where the other ends
abbrev pub touches : Range → Range → Bool
touches r s = nat_le r.start s.end && nat_le s.start r.end

-- the places from the first to the last one of both
abbrev pub hull : Range → Range → Range
hull r s = range (min r.start s.start) (max r.end s.end)

-- these ranges are in order, none is empty, there is a gap between two of them, and the first begins at a place or behind it
abbrev pub AreApart : ℕ → List Range → Type 0
AreApart place [] = Unit {0}
AreApart place (r ∷ rs) = (place ≤ r.start) × (r.start < r.end) × AreApart (suc r.end) rs

-- none of these ranges reaches past a place
abbrev pub AreWithin : ℕ → List Range → Type 0
AreWithin place [] = Unit {0}
AreWithin place (r ∷ rs) = (r.end ≤ place) × AreWithin place rs

-- one range more among those that are apart, which joins those that it touches
abbrev pub with_range : List Range → Range → List Range
with_range [] new = new ∷ []
with_range (r ∷ rs) new =
    if nat_lt r.end new.start
    then r ∷ with_range rs new
    else (if nat_le r.start new.end then with_range rs (hull r new) else new ∷ r ∷ rs)

-- a range as it is told from so many places further on, and from so many places before
abbrev pub nearer : ℕ → Range → Range
nearer count r = range (r.start - count) (r.end - count)

abbrev pub further : ℕ → Range → Range
further count r = range (r.start + count) (r.end + count)
