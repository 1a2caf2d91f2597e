-- The octets on their way out: what the caller wrote and the peer has not acknowledged (RFC 9293 section 3.3.1).
use Rattle.std.specs.Prelude.{ℕ, ◌+◌, ◌-◌, min, List, [], ◌++◌, length, take, drop, slice_range}

-- a send buffer: the octets that were written and not acknowledged, in order, and how many it may hold
pub record SendView : Type 0 where
  pub held : List ℕ
  pub capacity : ℕ

-- nothing was written
abbrev pub nothing_held : ℕ → SendView
nothing_held capacity = record { held = []; capacity = capacity }

-- how many octets it can still take
abbrev pub send_room : SendView → ℕ
send_room b = b.capacity - length b.held

-- how many of these octets are taken: as many as have room, from the first on
abbrev pub written_count : SendView → List ℕ → ℕ
written_count b octets = min (length octets) (send_room b)

-- octets were written: those that have room stand behind what is held
abbrev pub after_write : SendView → List ℕ → SendView
after_write b octets = record b { held = b.held ++ take (written_count b octets) octets }

-- so many octets are acknowledged: the first ones are held no longer
abbrev pub after_acked : SendView → ℕ → SendView
after_acked b count = record b { held = drop count b.held }

-- so many octets that are held, from a place on
abbrev pub copied : SendView → ℕ → ℕ → List ℕ
copied b offset len = slice_range b.held offset (offset + len)
