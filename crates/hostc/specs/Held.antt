-- What a handle owns: a host with its counters in a box, or nothing.
use Rattle.std.specs.Prelude.{Option, None, Some}
use base.Fml.{Fml, feq, ffalse}
use denote.RawPtr.{Ptr, null_ptr}
use Rattle.libc.specs.Heap.{chunk}
use Rattle.std.specs.Box.Ownership.{box_owns}
use Rattle.host.specs.HostView.{HostView}
use Rattle.counters.specs.declared.counters.Counters.{Counters}
use Rattle.hostc.specs.contracts.counted.Counted.{the_row}

abbrev pub held : Ptr → Option HostView → Option Counters → Fml
held p None None = feq Ptr p null_ptr
held p (Some h) (Some c) = box_owns chunk the_row p (record { host = h; counters = c })
held p (Some h) None = ffalse
held p None (Some c) = ffalse
