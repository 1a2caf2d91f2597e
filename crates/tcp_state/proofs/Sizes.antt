-- How long a segment that may go out is.
use Rattle.std.proofs.Common.{◌+◌, ◌*◌, ◌≤◌, length, drop, arith}
use Rattle.std.proofs.lemmas.List.{length-take}
use Rattle.tcp_state.specs.declared.emission.Due.{Due}
use Rattle.tcp_state.specs.declared.emission.Due.TheVariants.{Rst, Syn, Text, Probe, Ack, KeepAlive}
use Rattle.tcp_state.specs.declared.emission.Stretch.{Stretch}
use Rattle.tcp_state.specs.View.{View}
use Rattle.tcp_state.specs.Due.{MayGoOut, IsHeld, octets_of_stretch, head_of, emitted_len, probe_stretch}
use Rattle.tcp_segment.proofs.Sending.{most_offset}

stretch_short : (v : View) (stretch : Stretch) → IsHeld v stretch → 4 * 5 + length (octets_of_stretch v stretch) ≤ 1480
stretch_short v stretch held = omega (arith, length-take stretch.count (drop stretch.offset v.sending.held), held.size)

-- a header of 20 octets and as many of text as a segment has room for, or one that is longer alone
pub emitted_short : (v : View) (due : Due) → MayGoOut v due → emitted_len v due ≤ 1480
emitted_short v Rst may = omega (arith)
emitted_short v Syn may = omega (arith, most_offset (head_of v Syn))
emitted_short v (Text stretch) may = stretch_short v stretch may
emitted_short v Probe may = stretch_short v (probe_stretch v) may
emitted_short v Ack may = omega (arith, most_offset (head_of v Ack))
emitted_short v KeepAlive may = omega (arith)
