-- What goes out by what the peer reports that it keeps ahead of a gap (RFC 2018, RFC 6675).
use Rattle.std.specs.Prelude.{ℕ, ◌+◌, ◌-◌, ◌*◌, ◌^◌, ◌==◌, ◌&&◌, ◌||◌, nat_le, min, max, Bool, if◌then◌else◌, List, [], ◌∷◌}
use Rattle.std.specs.Option.{unwrap_or}
use Rattle.stream_buf.specs.declared.ranges.Range.{Range}
use Rattle.stream_buf.specs.declared.scoreboard.Tolerance.{Tolerance}
use Rattle.stream_buf.specs.declared.receive.TheConstants.{MOST_RANGES}
use Rattle.stream_buf.specs.Ranges.{range}
use Rattle.stream_buf.specs.Scoreboard.{with_report, unreported, lost_end, reported_end}
use Rattle.tcp_segment.specs.declared.blocks.Block.{Block}
use Rattle.tcp_segment.specs.Wire.{past}
use Rattle.congestion.specs.Control.{is_selective}
use Rattle.congestion.specs.Window.{is_recovering, allowed}
use Rattle.tcp_halves.specs.Halves.{Sending}
use Rattle.tcp_halves.specs.Stream.{outstanding}
use Rattle.tcp_state.specs.View.{View}

-- reports are taken: our set-up wants them, and both sides' SYNs said so (RFC 2018 section 2)
abbrev pub selects : View → Bool
selects v = is_selective v.congestion.control && v.reporting.sacks

-- a recovery that they rule
abbrev pub repairs_gaps : View → Bool
repairs_gaps v = selects v && is_recovering v.congestion

-- They say what is in the network, but after an expiry, until all is acknowledged that was outstanding at it (RFC 6675 section 5.1).
abbrev pub counts_pipe : View → Bool
counts_pipe v = selects v && (is_recovering v.congestion || (v.resend.recover == 0))

-- The blocks of a segment join what is reported, the first one first. Each is told by its numbers.
abbrev pub place_of : Sending → Block → Range
place_of s block = range (past block.left.0 s.una) (past block.right.0 s.una)

abbrev pub with_blocks : List Range → Sending → List Block → List Range
with_blocks reported s [] = reported
with_blocks reported s (block ∷ rest) = with_blocks (with_report reported (outstanding s) (place_of s block)) s rest

-- Octets that come late are a gap for a while: so much may be reported past a place that isn't lost. Two ranges, or two segments' octets (RFC 6675 section 2, DupThresh); or where others came late, twice as many octets as were reported past those,
-- and any number of ranges.
abbrev pub tolerated : ℕ → ℕ → ℕ
tolerated smss reach = max (2 * smss) (min (2 ^ 32 - 1) (2 * reach))

unfoldable pub tolerance_of : ℕ → ℕ → Tolerance
tolerance_of smss reach = let octets = tolerated smss reach in record { ranges = if nat_le octets (2 * smss) then 2 else MOST_RANGES; octets = octets }

abbrev pub tolerance : View → Tolerance
tolerance v = tolerance_of v.sending.smss v.resend.reach

abbrev pub is_usual : View → Bool
is_usual v = let t = tolerance v in t.ranges == 2

-- Where what is lost ends, and what went out again in the recovery that runs (HighRxt), by distances past SND.UNA. Once a probe of the tail went out, what was outstanding then
-- and stands before anything that is reported is lost, too: it went out two round trips before that probe (RFC 8985 sections 6.2 and 7.1).
abbrev pub loss_end : View → ℕ
loss_end v = max (lost_end (tolerance v) v.resend.reported) (min v.resend.tail (reported_end v.resend.reported))

abbrev pub repaired_end : View → ℕ
repaired_end v = if is_recovering v.congestion then unwrap_or v.resend.mark 0 else 0

-- How many octets are in the network: of those outstanding that are not reported, those that are not lost, and once more those that went out again (RFC 6675 section 4, SetPipe).
abbrev pub pipe : View → ℕ
pipe v = let left = unreported v.resend.reported in left (outstanding v.sending) - left (loss_end v) + left (repaired_end v)

-- How many may be outstanding by new octets: the network takes as many as the congestion window has room for beside those in it (RFC 6675 section 5).
abbrev pub allowance : View → ℕ
allowance v = if counts_pipe v then v.congestion.cwnd + outstanding v.sending - pipe v else allowed v.congestion
