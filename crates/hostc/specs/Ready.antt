-- What a socket is ready for, as a number: a bit for each that holds.
use Rattle.std.specs.Prelude.{ℕ, ◌+◌, ◌/◌, ◌%◌, ◌==◌, Bool, if◌then◌else◌, Option, Some, None}
use Rattle.sockets.specs.declared.entry.SocketId.{SocketId}
use Rattle.sockets.specs.declared.ready.Ready.{Ready}

-- a bit that is set, or isn't
abbrev pub bit : Bool → ℕ → ℕ
bit holds number = if holds then number else 0

abbrev pub bits_of : Ready → ℕ
bits_of ready = bit ready.accept 1 + bit ready.read 2 + bit ready.write 4 + bit ready.ended 8 + bit ready.failed 16 + bit ready.opening 32

-- whether a number has a bit set
abbrev pub has_bit : ℕ → ℕ → Bool
has_bit bits number = (bits / number) % 2 == 1

-- what a number asks for; further bits of it ask for nothing
abbrev pub mask_of : ℕ → Ready
mask_of bits = record { accept = has_bit bits 1; read = has_bit bits 2; write = has_bit bits 4; ended = has_bit bits 8; failed = has_bit bits 16; opening = has_bit bits 32 }

-- an id, and 0, which names nothing, where there is none
abbrev pub id_or_none : Option SocketId → ℕ
id_or_none None = 0
id_or_none (Some id) = id.0
