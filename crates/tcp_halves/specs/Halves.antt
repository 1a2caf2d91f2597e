-- The two halves of a connection (RFC 9293 section 3.3.1).
use Rattle.std.specs.Prelude.{ℕ, Bool, List, Option}
use Rattle.tcp_halves.specs.declared.buffers.Manner.{Manner}

-- what the buffers of a connection are made for: how many octets each has room for, and how the connection behaves, by its host's set-up
pub record Room : Type 0 where
  pub capacity : ℕ
  pub manner : Manner

-- the sending half: the octets taken from the caller and not acknowledged, SND.UNA, SND.NXT (the number after the
-- highest sent), SND.WND, the largest window that the peer ever advertised, SND.WL1, SND.WL2, the size of the segments that the peer takes, how many octets are
-- held at most, how many octets a unit of the peer's windows has (RFC 7323 section 2.3), and whether a window's probe took the number before SND.NXT, which the peer may have refused:
-- nothing behind that number went out, and it is not acknowledged
pub record Sending : Type 0 where
  pub held : List ℕ
  pub una : ℕ
  pub nxt : ℕ
  pub window : ℕ
  pub max_window : ℕ
  pub wl1 : ℕ
  pub wl2 : ℕ
  pub smss : ℕ
  pub size : ℕ
  pub unit : ℕ
  pub probed : Bool

-- the receiving half: the octets in order that the caller has not read, those kept ahead of a gap, by their distance from RCV.NXT, with a place for each
-- octet that may still come, RCV.NXT, the number after the last that a window advertised has room for, how many octets the half holds at most, how many places
-- were made for them, and how many octets a unit of the windows has that are told
pub record Receiving : Type 0 where
  pub readable : List ℕ
  pub kept : List (Option ℕ)
  pub rnext : ℕ
  pub edge : ℕ
  pub size : ℕ
  pub capacity : ℕ
  pub unit : ℕ
