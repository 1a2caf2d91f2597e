-- What a connection has due can be sent, and fits into a frame.
use Rattle.std.proofs.Common.{ℕ, ◌+◌, ◌*◌, ◌<◌, ◌≤◌, ◌^◌, if◌then◌else◌, Bool, true, false, length, arith}
use Rattle.tcp_segment.specs.Segment.{FieldsFit}
use Rattle.tcp_segment.specs.Sent.{CanBeSent, sent_segment, sent_offset}
use Rattle.tcp_state.proofs.BlocksTold.{blocks_fit}
use Rattle.tcp_state.specs.declared.emission.Due.{Due}
use Rattle.tcp_state.specs.declared.emission.Due.TheVariants.{Rst, Syn, Text, Probe, Ack, KeepAlive}
use Rattle.tcp_state.specs.View.{View, IsSound}
use Rattle.tcp_state.specs.Due.{MayGoOut, head_of, octets_of, number_of, flags_of}
use Rattle.tcp_state.proofs.AckNumbers.{bare_fits}
use Rattle.tcp_state.proofs.Sizes.{emitted_short}
use Rattle.tcp_state.proofs.Saying.{window_fits}
use Rattle.sockets.specs.Sound.{IsSoundConnection}

number_fits : (v : View) (due : Due) → IsSound v → number_of v due < 2 ^ 32
number_fits v Rst sound = bare_fits v sound
number_fits v Syn sound = sound.una
number_fits v (Text stretch) sound = omega arith
number_fits v Probe sound = sound.una
number_fits v Ack sound = bare_fits v sound
number_fits v KeepAlive sound = omega arith

acknowledgement_fits : (b : Bool) (n : ℕ) → n < 2 ^ 32 → (if b then n else 0) < 2 ^ 32
acknowledgement_fits true n fits = fits
acknowledgement_fits false n fits = omega arith

fields_fit : (v : View) (due : Due) → IsSoundConnection v → FieldsFit (sent_segment (head_of v due) (octets_of v due))
fields_fit v due k = record {
  source = k.local.port;
  destination = k.peer.port;
  number = number_fits v due k.sound;
  acknowledgement = acknowledgement_fits (flags_of v due).ack v.receiving.rnext k.sound.rnext;
  window = window_fits v due k.sound;
  urgent = omega arith;
}

-- what may go out can be sent
pub due-can : (v : View) (due : Due) → IsSoundConnection v → MayGoOut v due → CanBeSent v.local.addr v.peer.addr (head_of v due) (octets_of v due)
due-can v due k may = record {
  src_octets = k.local.addr;
  dst_octets = k.peer.addr;
  fields = fields_fit v due k;
  blocks = blocks_fit v due;
  len = omega (arith, emitted_short v due may);
}

-- a segment with its header has 1,480 octets at most
pub due-fits : (c : View) (due : Due) → MayGoOut c due → 4 * sent_offset (head_of c due) + length (octets_of c due) ≤ 1480
due-fits = emitted_short
