-- How long what takes numbers waits for the hop to its peer, which isn't known (RFC 1122 sections 2.4 and 4.2.3.5, RFC 9293 section 3.8.3).
use Rattle.std.specs.Prelude.{ℕ, ◌&&◌, ◌||◌, if◌then◌else◌, Option, Some, None}
use Rattle.clock.specs.declared.moment.Moment.{Moment}
use Rattle.clock.specs.declared.moment.TheConstants.{HOP_WAIT}
use Rattle.clock.specs.Moments.{after, has_come}
use Rattle.tcp_state.specs.declared.calls.Refusal.TheVariants.{ETIMEDOUT}
use Rattle.tcp_state.specs.declared.connection.Fate.{Fate}
use Rattle.tcp_state.specs.declared.connection.Fate.TheVariants.{Stays, Removed}
use Rattle.tcp_state.specs.declared.hop.TheConstants.{HOP_PATIENCE}
use Rattle.tcp_state.specs.View.{View, is_syn_received, after_reset}

-- as long as a SYN that nobody answers is sent; but what a listener opened waits as long as a reset: its peer spoke a moment ago
abbrev pub hop_wait : View → ℕ
hop_wait v = if v.passive && is_syn_received v.state then HOP_WAIT else HOP_PATIENCE

abbrev pub end_of_hop_wait : Option Moment → ℕ → Option Moment
end_of_hop_wait None wait = None
end_of_hop_wait (Some since) wait = Some (after since wait)

-- the moment at which that wait is over
abbrev pub unheard_until : View → Option Moment
unheard_until v = end_of_hop_wait v.unheard (hop_wait v)

-- A tick at which the hop is not known: where the wait is over, the connection ends as by the last expiry.
abbrev pub after_hopless : View → Moment → View
after_hopless v now = if has_come (unheard_until v) now then after_reset v (Some ETIMEDOUT) else v

-- taken out is what its caller closed, and what a listener opened and is not established
abbrev pub hopless_fate : View → Moment → Fate
hopless_fate v now = if has_come (unheard_until v) now && (v.released || (v.passive && is_syn_received v.state)) then Removed else Stays
