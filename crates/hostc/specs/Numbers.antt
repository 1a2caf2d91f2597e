-- What calls answer, as numbers: not negative where they are done, and the number of a refusal or of a cause to drop a frame, negative.
use Rattle.std.specs.Prelude.{ℕ, ◌-◌, ◌^◌, ◌==◌, if◌then◌else◌, min, ℤ, pos, neg_ℤ, Option, Some, None, Result, Ok, Err}
use Rattle.frames.specs.declared.drop.DropCause.{DropCause}
use Rattle.frames.specs.Drops.{number_of}
use Rattle.tcp_state.specs.declared.state.State.TheVariants.{Closed, Listen, SynSent, SynReceived, Established, FinWait1, FinWait2, CloseWait, Closing, LastAck, TimeWait}
use Rattle.tcp_state.specs.declared.calls.Received.{Received}
use Rattle.tcp_state.specs.declared.calls.Received.TheVariants.{Octets, EndOfStream}
use Rattle.sockets.specs.declared.entry.Kind.{Kind}
use Rattle.sockets.specs.declared.entry.Kind.TheVariants.{Tcp, Udp}
use Rattle.sockets.specs.declared.refusal.Refusal.{Refusal}
use Rattle.sockets.specs.declared.refusal.Refusal.TheVariants.{EBADF, EINVAL, EADDRINUSE, EADDRNOTAVAIL, EISCONN, ENOTCONN, EALREADY, EAGAIN, ECONNREFUSED, ECONNRESET, ETIMEDOUT, EPIPE, EMSGSIZE, ENETUNREACH, EMFILE, ENOMEM, EOPNOTSUPP, EDESTADDRREQ}
use Rattle.sockets.specs.declared.state.SocketState.{SocketState}
use Rattle.sockets.specs.declared.state.SocketState.TheVariants.{Datagram, Stream}

-- the number behind the E of a refusal's text
abbrev pub refusal_number : Refusal → ℕ
refusal_number EBADF = 1
refusal_number EINVAL = 2
refusal_number EADDRINUSE = 3
refusal_number EADDRNOTAVAIL = 4
refusal_number EISCONN = 5
refusal_number ENOTCONN = 6
refusal_number EALREADY = 7
refusal_number EAGAIN = 8
refusal_number ECONNREFUSED = 9
refusal_number ECONNRESET = 10
refusal_number ETIMEDOUT = 11
refusal_number EPIPE = 12
refusal_number EMSGSIZE = 13
refusal_number ENETUNREACH = 14
refusal_number EMFILE = 15
refusal_number ENOMEM = 16
refusal_number EOPNOTSUPP = 17
refusal_number EDESTADDRREQ = 18

-- a state's number: those of a connection in the order of RFC 9293 section 3.3.2, but CLOSED first, and then DATAGRAM
abbrev pub state_number : SocketState → ℕ
state_number (Stream Closed) = 0
state_number (Stream Listen) = 1
state_number (Stream SynSent) = 2
state_number (Stream SynReceived) = 3
state_number (Stream Established) = 4
state_number (Stream FinWait1) = 5
state_number (Stream FinWait2) = 6
state_number (Stream CloseWait) = 7
state_number (Stream Closing) = 8
state_number (Stream LastAck) = 9
state_number (Stream TimeWait) = 10
state_number Datagram = 11

-- the kind of a socket by its number
abbrev pub kind_of : ℕ → Option Kind
kind_of number = if number == 1 then Some Tcp else if number == 2 then Some Udp else None

-- how many octets were read, none at the end of the stream
abbrev pub received_count : Received → ℕ
received_count (Octets count) = count
received_count EndOfStream = 0

-- a number that isn't negative, and the greatest that can be told in place of one that is over it
abbrev pub told : ℕ → ℤ
told number = pos (min number (2 ^ 63 - 1))

abbrev pub refused : Refusal → ℤ
refused refusal = neg_ℤ (pos (refusal_number refusal))

-- what a call answers
abbrev pub answered : Result ℕ Refusal → ℤ
answered (Ok number) = told number
answered (Err refusal) = refused refusal

-- 0 where a call that answers nothing is not refused
abbrev pub done : Option Refusal → Result ℕ Refusal
done None = Ok 0
done (Some refusal) = Err refusal

-- what a call answers, as this number of it
abbrev pub numbered : {T : Type 0} → (T → ℕ) → Result T Refusal → Result ℕ Refusal
numbered number (Ok answer) = Ok (number answer)
numbered number (Err refusal) = Err refusal

-- 1 where there is one
abbrev pub whether : {T : Type 0} → Option T → ℕ
whether None = 0
whether (Some found) = 1

-- a length, and 0 where there is none
abbrev pub length_or_none : Option ℕ → ℕ
length_or_none None = 0
length_or_none (Some len) = len

-- 0 where a frame was taken
abbrev pub taken : Result (Unit {0}) DropCause → ℤ
taken (Ok done) = pos 0
taken (Err cause) = neg_ℤ (pos (number_of cause))
