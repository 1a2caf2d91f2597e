-- Whether the peer is still there, where nothing comes from it and nothing of ours waits for it (SO_KEEPALIVE, RFC 9293 section 3.8.4, RFC 1122 section 4.2.3.6).
use Rattle.std.specs.Prelude.{◌≡◌, ℕ, suc, ◌*◌, ◌<◌, ◌⊎◌, ◌==◌, ◌&&◌, min, Bool, true, false, if◌then◌else◌, length, Option, Some, None}
use Rattle.clock.specs.declared.moment.Moment.{Moment}
use Rattle.clock.specs.Moments.{after, has_come}
use Rattle.tcp_state.specs.declared.alive.KeepAlive.{KeepAlive}
use Rattle.tcp_state.specs.declared.alive.TheConstants.{MOST_KEEPALIVE}
use Rattle.tcp_state.specs.declared.resend.TheConstants.{MOST_EXPIRIES, MOST_INTERVAL}
use Rattle.tcp_state.specs.declared.state.State.{State}
use Rattle.tcp_state.specs.declared.state.State.TheVariants.{Established, FinWait2, CloseWait}
use Rattle.tcp_state.specs.View.{View}
use Rattle.tcp_state.specs.Tail.{tail_after}

-- its caller wants to know from this moment on, after so many milliseconds each; or no more
abbrev pub asked : Option ℕ → Moment → KeepAlive
asked every now = record { every = every; since = now; wait = 0; unanswered = 0; owed = false }

abbrev pub after_set_keepalive : View → Option ℕ → Moment → View
after_set_keepalive v every now = record v { alive = asked every now }

-- a segment of the peer came: the wait begins anew
abbrev pub heard_now : KeepAlive → Moment → KeepAlive
heard_now a now = asked a.every now

-- the states in which a connection may wait for its peer as long as that likes: it is open, and our side is too, or our FIN is acknowledged
abbrev pub may_rest : State → Bool
may_rest Established = true
may_rest CloseWait = true
may_rest FinWait2 = true
may_rest _ = false

-- nothing of ours waits to go out or to be acknowledged, which the peer would be asked by
abbrev pub rests : View → Bool
rests v = may_rest v.state && (length v.sending.held == 0)

-- how long the wait is that runs: what the caller said, a day at most, or that for the answer to a probe, a minute at most
abbrev pub wait_of : KeepAlive → ℕ → ℕ
wait_of a every = if a.unanswered == 0 then min MOST_KEEPALIVE every else min MOST_INTERVAL a.wait

abbrev pub end_of_silence : Option ℕ → KeepAlive → Option Moment
end_of_silence None a = None
end_of_silence (Some every) a = Some (after a.since (wait_of a every))

-- until when nothing may come
abbrev pub alive_at : View → Option Moment
alive_at v = if rests v then end_of_silence v.alive.every v.alive else None

-- nothing came for as long as that
abbrev pub is_silent : View → Moment → Bool
is_silent v now = has_come (alive_at v) now

-- The answer to the first probe is waited for as long as the timeout, that to each further one twice as long as to the one before, a minute at most.
abbrev pub next_wait : KeepAlive → ℕ → ℕ
next_wait a timeout = if a.unanswered == 0 then timeout else min MOST_INTERVAL (2 * a.wait)

-- a probe is due, and its answer is waited for
abbrev pub unanswered_again : KeepAlive → ℕ → Moment → KeepAlive
unanswered_again a timeout now = record a { since = now; wait = next_wait a timeout; unanswered = min MOST_EXPIRIES (suc a.unanswered); owed = true }

abbrev pub alive_after : View → Moment → KeepAlive
alive_after v now = if is_silent v now then unanswered_again v.alive v.resend.timeout.rto now else v.alive

-- .. and the tail of what is outstanding is probed, where nothing is heard of that for too long
abbrev pub after_silence : View → Moment → View
after_silence v now = record v { alive = alive_after v now; resend = tail_after v now }

-- the next silence doesn't end the connection: no peer is asked, or it was asked fewer than twelve times since it last said something
abbrev pub IsPatient : View → Type 0
IsPatient v = (v.alive.every ≡ None) ⊎ (v.alive.unanswered < 12)

-- a probe of the peer is due
abbrev pub is_alive_due : View → Bool
is_alive_due v = v.alive.owed && rests v
