-- How a receiver's fields are seen.
use Rattle.tcp_halves.specs.declared.receiver.Receiver.TheInside.{Inside}
use Rattle.tcp_halves.specs.Halves.{Receiving}

abbrev pub received_by : Inside → Receiving
received_by r = record { readable = r.buffer.readable; kept = r.buffer.kept; rnext = r.rnext.0; edge = r.edge.0; size = r.size; capacity = r.buffer.capacity; unit = r.unit }
