-- What may be asked of a connection: by its caller, before it sends or reads, and of a segment, before it is heard.
use Rattle.std.specs.Prelude.{ℕ, Bool, true, false, if◌then◌else◌, length, Result, Ok, Err}
use Rattle.tcp_state.specs.declared.calls.Refusal.{Refusal}
use Rattle.tcp_state.specs.declared.calls.Refusal.TheVariants.{EPIPE}
use Rattle.tcp_state.specs.declared.connection.Fate.{Fate}
use Rattle.tcp_state.specs.declared.connection.Fate.TheVariants.{Stays, Removed, Rejected}
use Rattle.tcp_halves.specs.Stream.{send_room}
use Rattle.tcp_state.specs.View.{View, is_opening, is_write_closed}
use Rattle.tcp_state.specs.Calls.{unless_pending}

-- how many octets a send would take at most: none while the connection is opening
abbrev pub room_answer : View → Result ℕ Refusal
room_answer v =
    unless_pending v.pending_error (
    if is_opening v.state then Ok 0
    else if is_write_closed v.state then Err EPIPE
    else Ok (send_room v.sending)
    )

-- how many octets a receive would give at most: none while the connection is opening
abbrev pub len_answer : View → Result ℕ Refusal
len_answer v =
    unless_pending v.pending_error (
    if is_opening v.state then Ok 0
    else Ok (length v.receiving.readable)
    )

-- a segment of which this becomes is answered by a reset
abbrev pub is_rejection : Fate → Bool
is_rejection Rejected = true
is_rejection Stays = false
is_rejection Removed = false
