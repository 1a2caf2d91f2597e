-- Frames as they are told and written (RFC 894).
use Rattle.std.specs.Prelude.{ℕ, ◌+◌, List, length}
use Rattle.ether.specs.Frame.{Frame, head_octets}
use Rattle.codecc.specs.declared.types.CodecEther.{CodecEther}

-- a frame as it is told: its payload begins behind 14 octets
abbrev pub told_frame : Frame → CodecEther
told_frame f = record { payload_len = length f.payload; kind = f.kind; destination = f.destination.0; source = f.source.0 }

-- the octets of its head
abbrev pub frame_header : CodecEther → List ℕ
frame_header c = head_octets (record { 0 = c.destination }) (record { 0 = c.source }) c.kind

abbrev pub frame_len : CodecEther → ℕ
frame_len c = 14 + c.payload_len
