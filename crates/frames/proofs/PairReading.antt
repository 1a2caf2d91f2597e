-- The pair of a segment that a frame carries, read layer by layer.
use Rattle.std.proofs.Common.{◌≡◌, ◌≢◌, ◌==◌, ℕ, cond, List, Option, Some, None, ap}
use Rattle.std.proofs.lemmas.Bool.{eq-eqb}
use Rattle.ether.specs.Frame.{Frame}
use Rattle.ether.specs.Reading.{frame_in}
use Rattle.ipv4.specs.Reading.{datagram_in}
use Rattle.frames.specs.Meaning.{ipv4_type}
use Rattle.frames.specs.Pairs.{datagram_pair, frame_pair, pair_in}
use Rattle.frames.proofs.Deciding.{number-Decides, refuted}

pub as_frame : (octets : List ℕ) (read : Option Frame) → frame_in octets ≡ read → pair_in octets ≡ frame_pair read
unfolding pair_in
as_frame octets read found = ap frame_pair found

pub of_ipv4 : (f : Frame) → f.kind ≡ ipv4_type → frame_pair (Some f) ≡ datagram_pair (datagram_in f.payload)
of_ipv4 f is = ap (λ b. cond b (datagram_pair (datagram_in f.payload)) None) (eq-eqb f.kind ipv4_type is)

pub of_other : (f : Frame) → f.kind ≢ ipv4_type → frame_pair (Some f) ≡ None
of_other f other = ap (λ b. cond b (datagram_pair (datagram_in f.payload)) None) (refuted (f.kind == ipv4_type) (number-Decides f.kind ipv4_type) other)
