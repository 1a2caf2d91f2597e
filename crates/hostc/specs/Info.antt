-- What is told of a connection, as numbers: those of `struct host_info` behind its size, in their order.
use Rattle.std.specs.Prelude.{ℕ, ℤ, pos, neg_ℤ, min, List, [], ◌∷◌, ◌++◌, length, take, drop, Option, Some, None, option_map}
use Rattle.clock.specs.declared.moment.Moment.{Moment}
use Rattle.tcp_state.specs.declared.info.Info.{Info}
use Rattle.tcp_state.specs.declared.calls.Refusal as connection
use Rattle.sockets.specs.declared.state.SocketState.TheVariants.{Stream}
use Rattle.sockets.specs.Calls.{refusal_of}
use Rattle.hostc.specs.Numbers.{state_number, told, refused}

-- -1 where there is none
abbrev pub told_or_none : Option ℕ → ℤ
told_or_none None = neg_ℤ (pos 1)
told_or_none (Some number) = told number

-- the number of a pending error, negative, and 0 where there is none
abbrev pub error_number : Option connection.Refusal → ℤ
error_number None = pos 0
error_number (Some error) = refused (refusal_of error)

abbrev pub moment_number : Option Moment → ℤ
moment_number moment = told_or_none (option_map (λ m. m.0) moment)

abbrev pub info_numbers : Info → List ℤ
info_numbers i =
    told (state_number (Stream i.state))
    ∷ told i.in_flight ∷ told i.held ∷ told i.unsent
    ∷ told i.readable ∷ told i.kept
    ∷ told i.peer_window ∷ told i.own_window
    ∷ told i.smss ∷ told i.cwnd ∷ told i.ssthresh
    ∷ told_or_none (option_map (λ e. e.s8) i.estimate) ∷ told_or_none (option_map (λ e. e.v4) i.estimate)
    ∷ told i.rto ∷ told i.expiries ∷ told i.resent
    ∷ error_number i.error
    ∷ moment_number i.timers.retransmission ∷ moment_number i.timers.probe ∷ moment_number i.timers.delayed_ack ∷ moment_number i.timers.overriding
    ∷ moment_number i.ends_at
    ∷ []

-- the first of these numbers over the first of those that stand there, as many as there are of both
abbrev pub told_over : List ℤ → List ℤ → List ℤ
told_over old numbers = let count = min (length old) (length numbers) in take count numbers ++ drop count old
