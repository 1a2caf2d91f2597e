-- The pair of endpoints of the segment that a frame carries, whoever it is for (RFC 9293 section 4).
use Rattle.std.specs.Prelude.{◌≡◌, ℕ, ◌==◌, ◌&&◌, not, if◌then◌else◌, List, Option, Some, None, Result, Ok, Err}
use Rattle.ether.specs.Frame.{Frame, Spells as SpellsFrame}
use Rattle.ether.specs.Reading.{frame_in}
use Rattle.ipv4.specs.declared.addr.Addr.{Addr}
use Rattle.ipv4.specs.declared.addr.Endpoint.{Endpoint}
use Rattle.ipv4.specs.declared.addr.Pair.{Pair}
use Rattle.ipv4.specs.declared.fault.Ipv4Fault.{Ipv4Fault}
use Rattle.ipv4.specs.Addresses.{pair_of}
use Rattle.ipv4.specs.Datagram.{Datagram, Spells as SpellsDatagram}
use Rattle.ipv4.specs.Reading.{datagram_in}
use Rattle.tcp_segment.specs.Segment.{Segment, Spells as SpellsSegment}
use Rattle.tcp_segment.specs.Reading.{segment_in}
use Rattle.frames.specs.Heard.{IsWhole}
use Rattle.frames.specs.Meaning.{ipv4_type, is_fragment}

-- an endpoint by its parts
abbrev pub end_at : Addr → ℕ → Endpoint
end_at addr port = record { addr = addr; port = port }

-- the two ends of a segment between these addresses
abbrev pub pair_between : Addr → Addr → Segment → Pair
pair_between source destination s = pair_of (end_at source s.source) (end_at destination s.destination)

-- of a segment
abbrev pub segment_pair : Addr → Addr → Option Segment → Option Pair
segment_pair source destination None = None
segment_pair source destination (Some s) = Some (pair_between source destination s)

-- of a datagram: a whole one that carries TCP (6)
abbrev pub datagram_pair : Result Datagram Ipv4Fault → Option Pair
datagram_pair (Err fault) = None
datagram_pair (Ok d) =
    if not (is_fragment d) && d.protocol == 6 then segment_pair d.source d.destination (segment_in d.source d.destination d.payload) else None

-- of a frame
abbrev pub frame_pair : Option Frame → Option Pair
frame_pair None = None
frame_pair (Some f) = if f.kind == ipv4_type then datagram_pair (datagram_in f.payload) else None

-- of octets: none where they carry no segment
unfoldable pub pair_in : List ℕ → Option Pair
pair_in octets = frame_pair (frame_in octets)

-- The octets are a frame with a whole datagram with a segment whose two ends are this pair. `laws::carried_pairs` says that
-- this is the pair that is read.
pub record CarryPair (octets : List ℕ) (pair : Pair) : Type 0 where
  pub frame : Frame
  pub datagram : Datagram
  pub segment : Segment
  pub framed : SpellsFrame frame octets
  pub type : frame.kind ≡ ipv4_type
  pub carried : SpellsDatagram datagram frame.payload
  pub whole : IsWhole datagram
  pub protocol : datagram.protocol ≡ 6
  pub spelled : SpellsSegment datagram.source datagram.destination segment datagram.payload
  pub ends : pair ≡ pair_between datagram.source datagram.destination segment
