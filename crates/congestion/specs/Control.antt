-- What the set-up of a host says of the congestion window (RFC 5681 section 3.1, RFC 6582, RFC 6928).
use Rattle.std.specs.Prelude.{ℕ, ◌^◌, ◌*◌, ◌==◌, nat_lt, min, max, Bool, true, false, if◌then◌else◌}
use Rattle.congestion.specs.declared.control.Recovery.{Recovery}
use Rattle.congestion.specs.declared.control.Recovery.TheVariants.{Plain, NewReno, Selective}
use Rattle.congestion.specs.declared.control.Control.{Control}

abbrev pub repairs_losses : Recovery → Bool
repairs_losses Plain = false
repairs_losses NewReno = true
repairs_losses Selective = true

-- whether a recovery goes on at a partial ACK (RFC 6582), with limited transmit (RFC 3042) and octets that are counted (RFC 3465)
abbrev pub repairs : Control → Bool
repairs c = repairs_losses c.recovery

-- whether acknowledgements report which octets are kept ahead of a gap, where the peer takes that (RFC 2018)
abbrev pub is_selective_recovery : Recovery → Bool
is_selective_recovery Selective = true
is_selective_recovery _ = false

abbrev pub is_selective : Control → Bool
is_selective c = is_selective_recovery c.recovery

-- RFC 5681 alone
abbrev pub plain : Control
plain = record { recovery = Plain; first_threshold = 65535; first_segments = 0 }

-- the first threshold: 65,535 octets at least, and 2 ^ 30 at most
abbrev pub initial_ssthresh : Control → ℕ
initial_ssthresh c = max 65535 (min (2 ^ 30) c.first_threshold)

-- two to four segments (RFC 5681 section 3.1)
abbrev pub usual_segments : ℕ → ℕ
usual_segments smss = if nat_lt 2190 smss then 2 else if nat_lt 1095 smss then 3 else 4

-- the first window: a single segment where a SYN or a SYN-ACK went out again (RFC 5681 section 3.1); else as many as the set-up says, ten at most (RFC 6928)
abbrev pub initial_segments : Control → ℕ → Bool → ℕ
initial_segments c smss resent =
    if resent then 1
    else if c.first_segments == 0 then usual_segments smss
    else min 10 c.first_segments

abbrev pub initial_cwnd : Control → ℕ → Bool → ℕ
initial_cwnd c smss resent = initial_segments c smss resent * smss
