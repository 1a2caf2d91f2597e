-- The timers of a connection: when each runs, and what a tick makes of it (RFC 6298 section 5, RFC 9293 sections 3.8.1, 3.8.6 and 3.10.8).
use Rattle.std.specs.Prelude.{◌≡◌, ℕ, ◌==◌, ◌&&◌, ◌||◌, not, nat_le, nat_lt, Bool, true, false, if◌then◌else◌, length, Option, Some, None, is_some}
use Rattle.clock.specs.declared.moment.Moment.{Moment}
use Rattle.clock.specs.Moments.{after, has_come, sooner}
use Rattle.retransmit.specs.Deadlines.{next_of}
use Rattle.congestion.specs.Control.{repairs}
use Rattle.congestion.specs.Events.{after_event}
use Rattle.congestion.specs.Events.Event.{Expiry}
use Rattle.tcp_state.specs.declared.calls.Refusal.TheVariants.{ETIMEDOUT}
use Rattle.tcp_state.specs.declared.connection.Fate.{Fate}
use Rattle.tcp_state.specs.declared.connection.Fate.TheVariants.{Stays, Removed}
use Rattle.tcp_state.specs.declared.resend.TheConstants.{MOST_EXPIRIES}
use Rattle.tcp_state.specs.declared.timing.TheConstants.{DELAYED_ACK_WAIT, OVERRIDE_WAIT}
use Rattle.tcp_state.specs.Resend.{resend_expired, resend_probes}
use Rattle.tcp_halves.specs.Stream.{outstanding}
use Rattle.tcp_halves.specs.Windows.{waits_for_more}
use Rattle.tcp_state.specs.Selective.{allowance}
use Rattle.tcp_state.specs.New.{waits_no_longer, sends_new, sends_fin}
use Rattle.tcp_state.specs.View.{View, is_opening, is_syn_received, is_closed, awaits_fin_ack, ends_at, is_at_end, after_stop, after_reset}
use Rattle.tcp_state.specs.Alive.{alive_at, is_silent, after_silence}
use Rattle.tcp_state.specs.Tail.{tail_at}

-- When each timer runs.

-- octets, or the FIN of a closed side, are unacknowledged or unsent
abbrev pub has_unacknowledged : View → Bool
has_unacknowledged v = not (length v.sending.held == 0) || awaits_fin_ack v.state

-- the peer's window is closed, and is probed (section 3.8.6.1)
abbrev pub probes : View → Bool
probes v = not (is_opening v.state) && (v.sending.window == 0) && has_unacknowledged v

-- something is outstanding that is not probed with
abbrev pub retransmits : View → Bool
retransmits v = nat_lt 0 (outstanding v.sending) && not (probes v)

-- an acknowledgement waits for a second segment (section 3.8.6.3)
abbrev pub awaits_second : View → Bool
awaits_second v = v.delays_ack && not v.owes_ack

-- new octets wait for more (section 3.8.6.2.1)
abbrev pub awaits_more : View → Bool
awaits_more v = not (is_opening v.state) && waits_for_more v.sending (allowance v) (waits_no_longer v)

-- it goes on where it runs, and else begins
abbrev pub running : Option Moment → Moment → ℕ → Option Moment
running (Some deadline) now milliseconds = Some deadline
running None now milliseconds = Some (after now milliseconds)

-- it starts with the first number that is outstanding, and anew where SND.UNA moved (RFC 6298 sections 5.1 to 5.3)
abbrev pub retransmission_timer : View → Bool → Moment → Option Moment
retransmission_timer v moved now =
    if retransmits v then running (if moved then None else v.timers.retransmission) now v.resend.timeout.rto else None

-- the first wait is the retransmission timeout
abbrev pub probe_timer : View → Moment → Option Moment
probe_timer v now = if probes v then running v.timers.probe now v.resend.timeout.rto else None

abbrev pub delayed_ack_timer : View → Moment → Option Moment
delayed_ack_timer v now = if awaits_second v then running v.timers.delayed_ack now DELAYED_ACK_WAIT else None

-- once it runs, only the going out of new octets ends it
abbrev pub override_timer : View → Moment → Option Moment
override_timer v now = if awaits_more v then running v.timers.overriding now OVERRIDE_WAIT else v.timers.overriding

-- the wait of the probe timer that doesn't go on is the timeout
abbrev pub interval_of : View → ℕ
interval_of v = if probes v && is_some v.timers.probe then v.resend.interval else v.resend.timeout.rto

-- A segment that takes numbers is due, and nothing is outstanding: the SYN while the connection opens; new octets, or the FIN alone, that may go out; or a probe that is owed.
abbrev pub awaits_first : View → Bool
awaits_first v = (outstanding v.sending == 0) && (is_opening v.state || sends_new v || sends_fin v || (v.resend.owes_probe && probes v))

-- a wait goes on where it stands, and else begins
abbrev pub waiting_since : Option Moment → Moment → Moment
waiting_since (Some since) now = since
waiting_since None now = now

-- since when such a segment has been due
abbrev pub unheard_since : View → Moment → Option Moment
unheard_since v now = if awaits_first v then Some (waiting_since v.unheard now) else None

-- At the end of each event its timers run, stop or begin as the connection wants them, and no probe is due of a window that is open. `moved` tells whether the event moved SND.UNA.
abbrev pub clocked : Bool → View → Moment → View
clocked moved v now = record v {
  resend = record v.resend { interval = interval_of v; owes_probe = v.resend.owes_probe && probes v };
  timers = record {
    retransmission = retransmission_timer v moved now;
    probe = probe_timer v now;
    delayed_ack = delayed_ack_timer v now;
    overriding = override_timer v now;
  };
  unheard = unheard_since v now;
}

-- The timers run exactly where something waits for them, the override where new octets began to; and a moment stands exactly where a segment that takes numbers is due while nothing is outstanding. So it is for each connection after each event.
pub record KeepsTime (v : View) : Type 0 where
  pub retransmission : is_some v.timers.retransmission ≡ retransmits v
  pub probe : is_some v.timers.probe ≡ probes v
  pub delayed_ack : is_some v.timers.delayed_ack ≡ awaits_second v
  pub overriding : awaits_more v ≡ true → is_some v.timers.overriding ≡ true
  pub interval : is_some v.timers.probe ≡ false → v.resend.interval ≡ v.resend.timeout.rto
  pub owed : v.resend.owes_probe ≡ true → probes v ≡ true
  pub closed : is_closed v.state ≡ true → v.timers.overriding ≡ None
  pub unheard : is_some v.unheard ≡ awaits_first v

-- What a tick does.

-- the timer has come whose expiry counts: that of what is outstanding or of the probe
abbrev pub expires : View → Moment → Bool
expires v now = has_come v.timers.retransmission now || has_come v.timers.probe now

-- it expired as often as it may without progress: the next expiry ends the connection (RFC 9293 section 3.8.3)
abbrev pub expires_for_good : View → Moment → Bool
expires_for_good v now = expires v now && nat_le MOST_EXPIRIES v.resend.expiries

-- and so does the next silence of a peer that was asked as often as that (section 3.8.4)
abbrev pub is_silent_for_good : View → Moment → Bool
is_silent_for_good v now = is_silent v now && nat_le MOST_EXPIRIES v.alive.unanswered

abbrev pub gives_up : View → Moment → Bool
gives_up v now = expires_for_good v now || is_silent_for_good v now

-- what is outstanding counts as lost, and the congestion window begins again with one segment (RFC 5681 section 3.1)
abbrev pub retransmission_expired : View → View
retransmission_expired v = record v {
  resend = resend_expired v.resend (repairs v.congestion.control) (outstanding v.sending);
  timers = record v.timers { retransmission = None };
  congestion = after_event v.congestion (Expiry (outstanding v.sending));
}

abbrev pub probe_expired : View → Moment → View
probe_expired v now = let resend = resend_probes v.resend in record v { resend = resend; timers = record v.timers { probe = Some (after now resend.interval) } }

abbrev pub after_expiry : View → Moment → View
after_expiry v now =
    if has_come v.timers.retransmission now then retransmission_expired v
    else if has_come v.timers.probe now then probe_expired v now
    else v

abbrev pub delayed_ack_expired : View → Moment → View
delayed_ack_expired v now = if has_come v.timers.delayed_ack now then record v { owes_ack = v.owes_ack || v.delays_ack } else v

abbrev pub override_expired : View → Moment → View
override_expired v now =
    if has_come v.timers.overriding now then record v { resend = record v.resend { overridden = true }; timers = record v.timers { overriding = None } } else v

-- each timer acts whose moment has come, once
abbrev pub after_timers : View → Moment → View
after_timers v now = override_expired (delayed_ack_expired (after_expiry v now) now) now

-- the timers act that have come
abbrev pub after_expiries : View → Moment → View
after_expiries v now = if has_come (next_of v.timers) now then clocked false (after_timers v now) now else v

-- A tick ends the connection whose wait is over, and tells nobody, and the one that is given up; else it asks a peer that said nothing for too long, or sends the last segment again of which nothing was heard, and lets the timers act that have come.
abbrev pub after_tick : View → Moment → View
after_tick v now =
    if is_at_end v now then after_stop v
    else if gives_up v now then after_reset v (Some ETIMEDOUT)
    else after_expiries (after_silence v now) now

-- what a tick left to be done: something goes out again, a probe or an acknowledgement goes out, or new octets wait no longer
abbrev pub wants_out : View → Bool
wants_out v = is_some v.resend.mark || v.resend.owes_probe || v.owes_ack || v.resend.overridden || v.alive.owed

-- taken out is what its caller closed, and what a listener opened and is not established
abbrev pub tick_fate : View → Moment → Fate
tick_fate v now =
    if is_at_end v now then (if v.released then Removed else Stays)
    else if gives_up v now then (if v.released || (v.passive && is_syn_received v.state) then Removed else Stays)
    else Stays

-- the moment at which a tick does something
abbrev pub deadline : View → Option Moment
deadline v = sooner (sooner (next_of v.timers) (ends_at v)) (sooner (alive_at v) (tail_at v))
