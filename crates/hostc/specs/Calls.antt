-- A call on a handle is the host's own, of the host that the handle holds.
use Rattle.std.specs.Prelude.{◌≡◌, ◌+◌, ◌⊎◌, ◌↔◌, ℕ, ℤ, pos, neg_ℤ, List, Option, Some, None, Result, Err, IfOk, IfErr, OnErr, IsTrue}
use Rattle.clock.specs.declared.moment.Moment.{Moment}
use Rattle.frames.specs.declared.drop.DropCause.{DropCause}
use Rattle.sockets.specs.declared.entry.Kind.{Kind}
use Rattle.sockets.specs.declared.entry.SocketId.{SocketId}
use Rattle.sockets.specs.declared.refusal.Refusal.{Refusal}
use Rattle.sockets.specs.declared.refusal.Refusal.TheVariants.{EBADF, EINVAL, EMFILE, ENOMEM}
use Rattle.sockets.specs.SocketsView.{SocketsView}
use Rattle.sockets.specs.Calls.{is_table_full, IsMade}
use Rattle.host.specs.Arrival.{IsDelivered}
use Rattle.host.specs.GiveWay.{with_place, with_way}
use Rattle.host.specs.HostView.{HostView, with_sockets}
use Rattle.hostc.specs.Numbers.{refused, answered, numbered, taken}

-- of a handle that holds no host: EBADF
abbrev pub of_host : {T : Type 0} → (HostView → Result T Refusal) → Option HostView → Result T Refusal
of_host answer None = Err EBADF
of_host answer (Some h) = answer h

-- a call on the host that a handle holds: it answers, and leaves the host so; EBADF where the handle holds none
abbrev pub Asks : {T : Type 0} → (HostView → Result T Refusal → HostView → Type 0) → Option HostView → Result T Refusal → Option HostView → Type 0
Asks calls None answer new = (answer ≡ Err EBADF) × (new ≡ None)
Asks calls (Some old) answer new = (left : HostView) × calls old answer left × (new ≡ Some left)

-- what is left in a buffer: all of it where there is no host
abbrev pub left_in : {T : Type 0} → (HostView → T) → Option HostView → T → T
left_in left None old = old
left_in left (Some h) old = left h

-- the host with the table that a call leaves, and as it was where the call is refused
abbrev pub after_call : Option Refusal → HostView → SocketsView → HostView
after_call None h table = with_sockets h table
after_call (Some refusal) h table = h

-- what the making of a socket comes to
pub record IsSocketMade (kind : Kind) (old : HostView) (answer : Result SocketId Refusal) (new : HostView) : Type 0 where
  pub full : (answer ≡ Err EMFILE) ↔ IsTrue (is_table_full old.sockets)
  pub other : IfErr answer (λ e. (e ≡ EMFILE) ⊎ (e ≡ ENOMEM))
  pub ok : IfOk answer (λ id. (id.0 ≡ old.sockets.last_id + 1) × IsMade kind old.sockets new.sockets × (new ≡ with_sockets old new.sockets))
  pub err : OnErr answer (new ≡ old)

-- of the kind of this number: EINVAL where there is none; a place is made for it first, on guard
abbrev pub MakesSocket : Option Kind → HostView → ℤ → HostView → Type 0
MakesSocket None old answer new = (answer ≡ refused EINVAL) × (new ≡ old)
MakesSocket (Some kind) old answer new = (made : Result SocketId Refusal) × IsSocketMade kind (with_place old) made new × (answer ≡ answered (numbered (λ id. id.0) made))

abbrev pub SocketCall : Option Kind → Option HostView → ℤ → Option HostView → Type 0
SocketCall kind None answer new = (answer ≡ refused EBADF) × (new ≡ None)
SocketCall kind (Some old) answer new = (left : HostView) × MakesSocket kind old answer left × (new ≡ Some left)

-- a frame is delivered to the host, once way was made for it, on guard; no cause has the number 11
abbrev pub Delivery : Option HostView → Moment → ℕ → List ℕ → ℤ → Option HostView → Type 0
Delivery None now isn octets answer new = (answer ≡ neg_ℤ (pos 11)) × (new ≡ None)
Delivery (Some old) now isn octets answer new =
    (verdict : Result (Unit {0}) DropCause) × (left : HostView) × IsDelivered (with_way old octets) now isn octets verdict left × (answer ≡ taken verdict) × (new ≡ Some left)
