-- Which datagrams may be answered by an error (RFC 1122 section 3.2.2).
use Rattle.std.specs.Prelude.{◌≡◌, ℕ, ◌≤◌, Bool, IsTrue, List, [], ◌∷◌, slice_index}
use Rattle.ipv4.specs.declared.addr.Addr.{Addr}
use Rattle.ipv4.specs.Addresses.{IsUnicast}
use Rattle.ipv4.specs.Datagram.{Datagram}
use Rattle.icmp.specs.Errors.{IsErrorKind}

-- the octets begin with the type of an error
abbrev pub BeginsAsError : List ℕ → Type 0
BeginsAsError [] = ⊥
BeginsAsError (kind ∷ rest) = IsErrorKind kind

-- it carries an error: its protocol is that of ICMP messages, and the type is one of an error
pub record IsError (d : Datagram) : Type 0 where
  pub protocol : d.protocol ≡ 1
  pub kind : BeginsAsError d.payload

-- the address of every host of a link (RFC 919 section 7)
abbrev pub IsBroadcast : Addr → Type 0
IsBroadcast addr = addr.0 ≡ 255 ∷ 255 ∷ 255 ∷ 255 ∷ []

-- the address of a group of hosts: one of class D (RFC 1112 section 4)
pub record IsMulticast (addr : Addr) : Type 0 where
  pub least : 224 ≤ slice_index addr.0 0
  pub most : slice_index addr.0 0 ≤ 239

-- an error may be sent to the source of this datagram, which came in a broadcast of the link or not
pub record MayAnswer (d : Datagram) (link_broadcast : Bool) : Type 0 where
  pub no_error : IsError d → ⊥
  pub no_broadcast : IsBroadcast d.destination → ⊥
  pub no_multicast : IsMulticast d.destination → ⊥
  pub no_link_broadcast : IsTrue link_broadcast → ⊥
  pub first_fragment : d.offset ≡ 0
  pub single_source : IsUnicast d.source
