-- How it is printed how a connection stands: a line for each field, with its name and its value.
use Rattle.std.specs.Prelude.{ℕ, List, [], ◌∷◌, ◌++◌, Option, Some, None, option_map, map, codes}
use Rattle.std.specs.Fmt.{decimal}
use Rattle.std.specs.List.{flat_map, join_with_byte}
use Rattle.clock.specs.declared.moment.Moment.{Moment}
use Rattle.tcp_state.specs.declared.info.Info.{Info}
use Rattle.tcp_state.specs.Names.{state_text}
use Rattle.sockets.specs.Calls.{refusal_of}
use Rattle.sockets.specs.Names.{refusal_text}

-- a value, or `none` where there is none
abbrev pub or_none : Option (List ℕ) → List ℕ
or_none (Some value) = value
or_none None = codes "none"

-- a moment's milliseconds
abbrev pub moment_text : Option Moment → List ℕ
moment_text moment = or_none (option_map (λ m. decimal m.0) moment)

-- how much waits, each way
abbrev pub waiting_fields : Info → List (List ℕ × List ℕ)
waiting_fields i =
    (codes "in_flight", decimal i.in_flight)
    ∷ (codes "held", decimal i.held)
    ∷ (codes "unsent", decimal i.unsent)
    ∷ (codes "readable", decimal i.readable)
    ∷ (codes "kept", decimal i.kept)
    ∷ []

-- the windows, and how much goes out by them
abbrev pub window_fields : Info → List (List ℕ × List ℕ)
window_fields i =
    (codes "peer_window", decimal i.peer_window)
    ∷ (codes "own_window", decimal i.own_window)
    ∷ (codes "smss", decimal i.smss)
    ∷ (codes "cwnd", decimal i.cwnd)
    ∷ (codes "ssthresh", decimal i.ssthresh)
    ∷ []

-- what the round trips tell: eight times their mean, and four times its variation
abbrev pub estimate_fields : Info → List (List ℕ × List ℕ)
estimate_fields i =
    (codes "srtt_8", or_none (option_map (λ e. decimal e.s8) i.estimate))
    ∷ (codes "rttvar_4", or_none (option_map (λ e. decimal e.v4) i.estimate))
    ∷ []

-- the timeout, and what was lost
abbrev pub timeout_fields : Info → List (List ℕ × List ℕ)
timeout_fields i =
    (codes "rto", decimal i.rto)
    ∷ (codes "expiries", decimal i.expiries)
    ∷ (codes "resent", decimal i.resent)
    ∷ (codes "error", or_none (option_map (λ e. refusal_text (refusal_of e)) i.error))
    ∷ []

-- the moments at which something is due of itself
abbrev pub moment_fields : Info → List (List ℕ × List ℕ)
moment_fields i =
    (codes "retransmission", moment_text i.timers.retransmission)
    ∷ (codes "probe", moment_text i.timers.probe)
    ∷ (codes "delayed_ack", moment_text i.timers.delayed_ack)
    ∷ (codes "override", moment_text i.timers.overriding)
    ∷ (codes "ends", moment_text i.ends_at)
    ∷ []

-- all fields, in order
abbrev pub info_fields : Info → List (List ℕ × List ℕ)
info_fields i =
    (codes "state", state_text i.state) ∷ (waiting_fields i ++ (window_fields i ++ (estimate_fields i ++ (timeout_fields i ++ moment_fields i))))

-- the line of a field: its name and its value, with a blank between them
abbrev pub field_line : (List ℕ × List ℕ) → List ℕ
field_line (name, value) = name ++ (codes " " ++ value)

-- the lines of all fields, with a newline (10) between them
abbrev pub info_text : Info → List ℕ
info_text i = join_with_byte 10 (map field_line (info_fields i))

-- the line of a field that stands below another, behind a newline; and those of several
abbrev pub line_below : (List ℕ × List ℕ) → List ℕ
line_below field = codes "\n" ++ field_line field

abbrev pub below : List (List ℕ × List ℕ) → List ℕ
below fields = flat_map line_below fields
