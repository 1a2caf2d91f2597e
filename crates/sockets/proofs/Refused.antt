-- A call that is refused leaves the entry as it was.
use Rattle.std.proofs.Common.{◌≡◌, ℕ, ◌||◌, if◌then◌else◌, Bool, List, Option, Some, None, is_some, Result, Ok, Err, arith, refl, ap}
use Rattle.std.proofs.lemmas.Grind.{common_steps}
use Rattle.tcp_state.specs.declared.calls.Refusal.{Refusal as ConnectionRefusal}
use Rattle.tcp_segment.specs.Segment.{Segment}
use Rattle.clock.specs.declared.moment.Moment.{Moment}
use Rattle.tcp_state.specs.declared.connection.Fate.TheVariants.{Rejected}
use Rattle.tcp_state.specs.View.{View, is_opening}
use Rattle.tcp_state.specs.Calls.{send_answer, after_send, after_shutdown}
use Rattle.tcp_state.proofs.Unchanged.{rejected_leaves_at}
use Rattle.sockets.specs.declared.entry.Entry.{Entry}
use Rattle.sockets.specs.declared.role.Role.{Role}
use Rattle.sockets.specs.declared.role.Role.TheVariants.{Connected}
use Rattle.sockets.specs.declared.refusal.Refusal.{Refusal}
use Rattle.sockets.specs.Entries.{role_after_send, role_after_shutdown, role_after_nodelay, role_after_keepalive, role_after_segment, fate_of, with_role}
use Rattle.sockets.specs.Calls.{role_send_answer, role_shutdown_refusal, role_nodelay_refusal, of_connection}

-- what a connection takes is nothing where it refuses
pub after_send_refused : (v : View) (octets : List ℕ) (now : Moment) (e : ConnectionRefusal) → send_answer v octets ≡ Err e → after_send v octets now ≡ v
after_send_refused v octets now e refused = grind (arith, common_steps)

refused_by_connection : (c : View) (octets : List ℕ) (now : Moment) (e : Refusal) (r : Result ℕ ConnectionRefusal) → send_answer c octets ≡ r → of_connection r ≡ Err e → after_send c octets now ≡ c
refused_by_connection c octets now e (Ok n) same refused = cc
refused_by_connection c octets now e (Err x) same refused = after_send_refused c octets now x same

pub sent_refused : (role : Role) (octets : List ℕ) (now : Moment) (e : Refusal) → role_send_answer role octets ≡ Err e → role_after_send now octets role ≡ role
sent_refused (Connected c listener) octets now e refused =
    ap (λ (v : View). Connected v listener) (refused_by_connection c octets now e (send_answer c octets) refl refused)
sent_refused _ octets now e refused = refl

-- closing our side is nothing where it is refused
shut-refused : (c : View) (now : Moment) (e : Refusal) → role_shutdown_refusal (Connected c None) ≡ Some e → (if is_some c.pending_error || is_opening c.state then c else after_shutdown c now) ≡ c
shut-refused c now e refused = grind (arith, common_steps)

pub shutdown-refused : (role : Role) (now : Moment) (e : Refusal) → role_shutdown_refusal role ≡ Some e → role_after_shutdown now role ≡ role
shutdown-refused (Connected c listener) now e refused = ap (λ (v : View). Connected v listener) (shut-refused c now e refused)
shutdown-refused _ now e refused = refl

-- nor does the wish for no delay change what has no connection
pub nodelay-refused : (role : Role) (on : Bool) (now : Moment) (e : Refusal) → role_nodelay_refusal role ≡ Some e → role_after_nodelay on now role ≡ role
nodelay-refused (Connected c listener) on now e refused = cc
nodelay-refused _ on now e refused = refl

-- .. nor the wish that a silent peer is asked
pub keepalive-refused : (role : Role) (every : Option ℕ) (now : Moment) (e : Refusal) → role_nodelay_refusal role ≡ Some e → role_after_keepalive every now role ≡ role
keepalive-refused (Connected c listener) every now e refused = cc
keepalive-refused _ every now e refused = refl

-- a segment that the connection refuses leaves the entry as it was
pub entry_refused_segment : (e : Entry) (s : Segment) (now : Moment) → fate_of s e.role ≡ Rejected → with_role (role_after_segment now s) e ≡ e
entry_refused_segment e s now refused = ap (λ role. let y : Entry = record e { role = role } in y) (role_refused e.role refused)
  where
    role_refused : (role : Role) → fate_of s role ≡ Rejected → role_after_segment now s role ≡ role
    role_refused (Connected c listener) refused = ap (λ (v : View). Connected v listener) (rejected_leaves_at c s now refused)
    role_refused _ refused = refl
