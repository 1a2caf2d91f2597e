-- What the checksums of the protocols above IPv4 cover (RFC 9293 section 3.1, RFC 768).
use Rattle.std.specs.Prelude.{ℕ, List, ◌++◌, length}
use Rattle.inet_sum.specs.Sum.{pseudo_octets}
use Rattle.ipv4.specs.declared.addr.Addr.{Addr}

-- the pseudo header of a segment or datagram of this protocol and of so many octets, and these octets
abbrev pub summed_for : ℕ → Addr → Addr → List ℕ → List ℕ
summed_for protocol src dst octets =
    pseudo_octets (record { src = src.0; dst = dst.0; protocol = protocol; length = length octets }) ++ octets
