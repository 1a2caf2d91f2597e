-- What acknowledgements report of octets that are kept ahead of a gap (RFC 2018).
use Rattle.std.specs.Prelude.{ℕ, ◌&&◌, List, [], if◌then◌else◌}
use Rattle.tcp_segment.specs.declared.blocks.Block.{Block}
use Rattle.tcp_segment.specs.Segment.{Segment, sack_permitted_of}
use Rattle.tcp_halves.specs.Halves.{Receiving}
use Rattle.tcp_halves.specs.Numbers.{is_before}
use Rattle.tcp_halves.specs.Blocks.{reported}
use Rattle.tcp_state.specs.declared.reporting.Reporting.{Reporting}
use Rattle.tcp_state.specs.declared.emission.Due.{Due}
use Rattle.tcp_state.specs.declared.emission.Due.TheVariants.{Ack}
use Rattle.tcp_state.specs.View.{View}

-- the peer's SYN settles it: both sides' SYNs have to say that reports are taken (section 2)
abbrev pub settled : Reporting → Segment → Reporting
settled p syn = record p { sacks = p.sacks && sack_permitted_of syn }

-- octets of a segment came while a number was expected: where theirs is past that, they began ahead of a gap
abbrev pub noted : Reporting → ℕ → ℕ → Reporting
noted p rnext number = record p { latest = if is_before rnext number then record { 0 = number } else p.latest }

abbrev pub report_of : Reporting → Receiving → List Block
report_of p r = if p.sacks then reported r p.latest.0 else []

-- an acknowledgement alone reports, and no other segment does (section 3)
abbrev pub blocks_of : View → Due → List Block
blocks_of v Ack = report_of v.reporting v.receiving
blocks_of v _ = []
