-- What the peer reports that it keeps ahead of a gap, by distances past SND.UNA, and what that tells (RFC 6675 sections 3 and 4).
use Rattle.std.specs.Prelude.{ℕ, ◌-◌, ◌^◌, ◌≤◌, ◌&&◌, ◌||◌, nat_lt, nat_le, min, max, Bool, if◌then◌else◌, List, [], ◌∷◌, length, filter}
use Rattle.std.specs.List.{list_any}
use Rattle.stream_buf.specs.declared.ranges.Range.{Range}
use Rattle.stream_buf.specs.declared.scoreboard.Tolerance.{Tolerance}
use Rattle.stream_buf.specs.declared.receive.TheConstants.{MOST_RANGES}
use Rattle.stream_buf.specs.Ranges.{AreApart, AreWithin, with_range, covered, nearer}

pub record IsScoreboard (reported : List Range) : Type 0 where
  pub apart : AreApart 1 reported
  pub within : AreWithin (2 ^ 32 - 1) reported
  pub few : length reported ≤ MOST_RANGES

-- a place is reported
abbrev pub has_place : ℕ → Range → Bool
has_place place r = nat_le r.start place && nat_lt place r.end

abbrev pub is_reported : List Range → ℕ → Bool
is_reported reported place = list_any (has_place place) reported

-- One more report. It has to be of places that are outstanding, past the first of them; and one that makes too many ranges is forgotten, which costs that they go out again, and nothing else.
abbrev pub is_taken : List Range → ℕ → Range → Bool
is_taken reported outstanding new = nat_lt 0 new.start && nat_lt new.start new.end && nat_le new.end outstanding && nat_le (length (with_range reported new)) MOST_RANGES

abbrev pub with_report : List Range → ℕ → Range → List Range
with_report reported outstanding new = if is_taken reported outstanding new then with_range reported new else reported

-- So many places are acknowledged. A range that begins no further on is forgotten: the peer has acknowledged it, or let it go.
abbrev pub passed : ℕ → List Range → List Range
passed count [] = []
passed count (r ∷ rs) = if nat_le r.start count then passed count rs else nearer count r ∷ passed count rs

-- the first place from one on that is not reported
abbrev pub first_gap : List Range → ℕ → ℕ
first_gap [] place = place
first_gap (r ∷ rs) place = if nat_lt place r.start then place else first_gap rs (max place r.end)

-- how many places stand between one and the next range, so many at most
abbrev pub gap_len : List Range → ℕ → ℕ → ℕ
gap_len [] place most = most
gap_len (r ∷ rs) place most = if nat_lt place r.start then min most (r.start - place) else gap_len rs place most

-- how many places below one are not reported
abbrev pub unreported : List Range → ℕ → ℕ
unreported [] place = place
unreported (r ∷ rs) place = unreported rs place - (min r.end place - min r.start place)

-- so much is reported that what stands before all of it is lost: more ranges, or more octets, than are tolerated (IsLost)
abbrev pub tells_loss : Tolerance → List Range → Bool
tells_loss t past = nat_lt t.ranges (length past) || nat_lt t.octets (covered past)

abbrev pub is_lost : Tolerance → List Range → ℕ → Bool
is_lost t reported place = tells_loss t (filter (λ r. nat_lt place r.start) reported)

-- the place before which all is lost that is not reported; 0 where nothing is
abbrev pub lost_end : Tolerance → List Range → ℕ
lost_end t [] = 0
lost_end t (r ∷ rs) =
    if tells_loss t rs then lost_end t rs
    else if tells_loss t (r ∷ rs) then r.start
    else 0

-- the place behind all that are reported; 0 where none is
abbrev pub reported_end : List Range → ℕ
reported_end [] = 0
reported_end (r ∷ rs) = max r.end (reported_end rs)
