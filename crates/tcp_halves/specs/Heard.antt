-- Two ends of one connection, for the law that what brings nothing is heard (RFC 9293 sections 3.4, 3.8.6.1 and 3.10.7.4).
use Rattle.std.specs.Prelude.{◌≡◌, ℕ, ◌-◌, ◌<◌, ◌≤◌, ◌^◌, true, if◌then◌else◌}
use Rattle.tcp_segment.specs.Wire.{past}
use Rattle.tcp_halves.specs.Halves.{Sending, Receiving}
use Rattle.tcp_halves.specs.Stream.{outstanding}

-- How many numbers past SND.UNA went out that the peer can't have refused: all but one that only a probe of its closed window took.
abbrev pub settled : Sending → ℕ
settled s = outstanding s - (if s.probed then 1 else 0)

-- The one end's octets go to the other: RCV.NXT there stands at SND.UNA, at SND.NXT or between; and what only a probe took is one number.
pub record HaveMet (s : Sending) (r : Receiving) : Type 0 where
  pub una : s.una < 2 ^ 32
  pub nxt : s.nxt < 2 ^ 32
  pub rnext : r.rnext < 2 ^ 32
  pub probed : s.probed ≡ true → outstanding s ≡ 1
  pub between : past r.rnext s.una ≤ outstanding s
