-- What goes out of a connection and of a table.
use Rattle.std.proofs.Common.{◌≡◌, ◌⊎◌, inl, inr, Bool, false, List, arith, refl, ap}
use Rattle.std.proofs.Common.{Option, Some}
use Rattle.std.specs.List.{find}
use Rattle.tcp_segment.specs.Sent.{sent_segment}
use Rattle.tcp_state.specs.declared.emission.Due.{Due}
use Rattle.tcp_state.specs.declared.emission.Due.TheVariants.{Rst, Syn, Text, Probe, Ack, KeepAlive}
use Rattle.clock.specs.declared.moment.Moment.{Moment}
use Rattle.tcp_state.specs.View.{View}
use Rattle.tcp_state.specs.Due.{MayGoOut, first_due, head_of, octets_of, flags_of, after_emitted}
use Rattle.sockets.specs.declared.emission.Outgoing.{Outgoing}
use Rattle.sockets.specs.declared.entry.SocketId.{SocketId}
use Rattle.sockets.specs.declared.entry.Entry.{Entry}
use Rattle.sockets.specs.declared.role.Role.TheVariants.{Connected}
use Rattle.stream_law.specs.ChannelViews.{IsOfWidth}
use Rattle.stream_law.proofs.Emitted.{syn-out, stretch-out, probe-out, ack-out}
use Rattle.sockets.specs.Entries.{role_after_emission}
use Rattle.host.proofs.DueSegments.{due-can, due-fits}
use Rattle.sockets.specs.Sound.{IsSoundConnection}
use Rattle.tcp_state.specs.Edges.{after_first}

-- what is due is a reset or has no RST
pub due-kind : (v : View) (due : Due) → (due ≡ Rst) ⊎ ((let f = flags_of v due in f.rst) ≡ false)
due-kind v Rst = inl refl
due-kind v Syn = inr refl
due-kind v (Text stretch) = inr refl
due-kind v Probe = inr refl
due-kind v Ack = inr refl
due-kind v KeepAlive = inr refl

-- its going out leaves the state
pub emitted-state : (v : View) (due : Due) (now : Moment) → (let w = after_emitted v due now in w.state) ≡ v.state
emitted-state v Rst now = refl
emitted-state v Syn now = (syn-out v now).state
emitted-state v (Text stretch) now = (stretch-out v stretch now).state
emitted-state v Probe now = (probe-out v now).state
emitted-state v Ack now = (ack-out v now).state
emitted-state v KeepAlive now = refl

-- what may go out is of its width
pub due-width : (v : View) (due : Due) → IsSoundConnection v → MayGoOut v due → IsOfWidth (sent_segment (head_of v due) (octets_of v due))
due-width v due k may =
    let can = due-can v due k may in
    record { number = can.fields.number; acknowledgement = can.fields.acknowledgement; octets = omega (arith, due-fits v due may) }

-- What a table emits.

-- the first entry that passes a test is this connection, with this segment due
pub record Emits (xs : List Entry) (goes : Entry → Bool) (e : Entry) (c : View) (listener : Option SocketId) (due : Due) : Type 0 where
  pub found : find goes xs ≡ Some e
  pub role : e.role ≡ Connected c listener
  pub first : first_due c ≡ Some due

-- the emission makes of a connection what its segment makes of it
pub emitted_at-connected : (now : Moment) (what : Outgoing) (c : View) (listener : Option SocketId) (due : Due) → first_due c ≡ Some due
    → role_after_emission now what (Connected c listener) ≡ Connected (after_emitted c due now) listener
emitted_at-connected now what c listener due first = ap (λ (o : Option Due). Connected (after_first c o now) listener) first
