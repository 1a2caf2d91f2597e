-- An entry that isn't busy has nothing to send, and waits for no hop; a connection that was accepted waits at no listener.
use Rattle.std.proofs.Common.{◌≡◌, ℕ, cond, ◌||◌, nat_lt, Bool, true, false, if◌then◌else◌, List, [], ◌∷◌, length, Option, Some, None, is_some, refl, sym, ◌∙◌, ap, arith}
use Rattle.std.proofs.lemmas.Bool.{or_parts}
use Rattle.std.proofs.lemmas.Bool.Decides.{nat_tests}
use Rattle.ipv4.specs.declared.addr.Addr.{Addr}
use Rattle.clock.specs.declared.moment.Moment.{Moment}
use Rattle.tcp_state.specs.Due.{first_due}
use Rattle.tcp_state.specs.Hop.{hopless_fate, after_hopless}
use Rattle.tcp_state.specs.View.{View}
use Rattle.tcp_state.specs.declared.connection.Fate.{Fate}
use Rattle.tcp_state.specs.declared.connection.Fate.TheVariants.{Stays}
use Rattle.udp_socket.specs.SocketView as queues
use Rattle.udp_socket.specs.Waits as datagrams
use Rattle.sockets.specs.declared.entry.Entry.{Entry}
use Rattle.sockets.specs.declared.entry.SocketId.{SocketId}
use Rattle.sockets.specs.declared.role.Role.{Role}
use Rattle.sockets.specs.declared.role.Role.TheVariants.{Idle, Listener, Connected, Datagrams}
use Rattle.sockets.specs.Entries.{is_kept, dues_of, with_role, listener_close_fate_of, role_after_listener_close, is_pending, waits_at, is_waiting_at}
use Rattle.sockets.specs.Lost.{waits_until, give_up_fate_of, role_after_giving_up, give_up_at, is_hopless}
use Rattle.std.specs.List.{count_by}
use Rattle.sockets.specs.GivenUp.{outbox_of}
use Rattle.sockets.specs.Lost.{is_given_up}
use Rattle.sockets.specs.GiveWay.{is_unanswered_at}
use Rattle.sockets.specs.Outlook.{is_busy, is_pending_entry}

none_of : {T : Type 0} (o : Option T) → is_some o ≡ false → o ≡ None
none_of None e = refl
none_of (Some x) e = let bad : true ≡ false = e in cc

none_in : {T : Type 0} (xs : List T) → nat_lt 0 (length xs) ≡ false → xs ≡ []
none_in [] e = refl
none_in (x ∷ xs) e = let some : nat_lt 0 (length (x ∷ xs)) ≡ true = grind (arith, nat_tests) in let bad : true ≡ false = sym some ∙ e in cc

-- a connection that rests
record IsResting (c : View) : Type 0 where
  due : first_due c ≡ None
  resets : c.owes_reset ≡ false
  hop : c.unheard ≡ None

resting : (c : View) → (is_some (first_due c) || is_some (waits_until c)) ≡ false → IsResting c
resting c e =
    let parts = or_parts (is_some (first_due c)) (is_some (waits_until c)) e in
    by_owed c.owes_reset refl c.unheard refl parts.0 parts.1
  where
    by_owed : (b : Bool) → c.owes_reset ≡ b → (w : Option Moment) → c.unheard ≡ w → is_some (first_due c) ≡ false → is_some (waits_until c) ≡ false → IsResting c
    by_owed true owes w was none quiet = let some : is_some (waits_until c) ≡ true = rw owes refl in let bad : true ≡ false = sym some ∙ quiet in cc
    by_owed false owes (Some since) was none quiet = let some : is_some (waits_until c) ≡ true = rw (owes, was) refl in let bad : true ≡ false = sym some ∙ quiet in cc
    by_owed false owes None was none quiet = record { due = none_of (first_due c) none; resets = owes; hop = was }

-- nothing is due
pub rests-dues : (role : Role) → is_busy role ≡ false → dues_of role ≡ []
rests-dues (Connected c listener) e = let due = (resting c e).due in rw due refl
rests-dues (Datagrams bound socket) e = let none = none_in socket.outbox e in rw none refl
rests-dues (Listener local backlog) e = refl
rests-dues (Idle buffers bound) e = refl

either_way : {T : Type 0} (b : Bool) (x : T) → (if b then x else x) ≡ x
either_way true x = refl
either_way false x = refl

-- nothing is given up ..
pub rests-give_up_at : (lost : Addr → Bool) (role : Role) → is_busy role ≡ false → give_up_at lost role ≡ None
rests-give_up_at lost (Connected c listener) e =
    let r = resting c e in
    let owes = r.resets in
    let was = r.hop in
    let none : waits_until c ≡ None = rw (owes, was) refl in
    ap (λ (o : Option Moment). if lost c.peer.addr then o else None) none ∙ either_way (lost c.peer.addr) None
rests-give_up_at lost (Datagrams bound socket) e = let none = none_in socket.outbox e in rw none refl
rests-give_up_at lost (Listener local backlog) e = refl
rests-give_up_at lost (Idle buffers bound) e = refl

-- .. and so the entry stays as it is
pub rests-giving_up : (lost : Addr → Bool) (now : Moment) (role : Role) → is_busy role ≡ false → (is_kept (give_up_fate_of lost now role) ≡ true) × (role_after_giving_up lost now role ≡ role)
rests-giving_up lost now (Connected c listener) e =
    let r = resting c e in
    let owes = r.resets in
    let was = r.hop in
    let fate : hopless_fate c now ≡ Stays = rw was refl in
    let after : after_hopless c now ≡ c = rw was refl in
    let stays : give_up_fate_of lost now (Connected c listener) ≡ Stays = rw owes (ap (λ (f : Fate). if lost c.peer.addr then f else Stays) fate ∙ either_way (lost c.peer.addr) Stays) in (
      ap is_kept stays,
      ap (λ (v : View). Connected (if is_hopless lost c then v else c) listener) after ∙ ap (λ (v : View). Connected v listener) (either_way (is_hopless lost c) c),
    )
rests-giving_up lost now (Datagrams bound socket) e =
    let none = none_in socket.outbox e in
    let same : datagrams.after_giving_up socket lost now ≡ socket = rw none refl in
    (refl, ap (λ (s : queues.SocketView). Datagrams bound s) same)
rests-giving_up lost now (Listener local backlog) e = (refl, refl)
rests-giving_up lost now (Idle buffers bound) e = (refl, refl)

-- An entry that isn't concerned stays as it is.

same_role : (x : Entry) (r : Role) → r ≡ x.role → record x { role = r } ≡ x
same_role x r is = ap (λ (role : Role). let y : Entry = record x { role = role } in y) is

pub idle_giving_up : (lost : Addr → Bool) (now : Moment) (x : Entry) → is_busy x.role ≡ false → (is_kept (give_up_fate_of lost now x.role) ≡ true) × (with_role (role_after_giving_up lost now) x ≡ x)
idle_giving_up lost now x e = let r = rests-giving_up lost now x.role e in (r.0, same_role x (role_after_giving_up lost now x.role) r.1)

pub idle_listener_close : (now : Moment) (id : SocketId) (x : Entry) → waits_at id x.role ≡ false → (is_kept (listener_close_fate_of id x.role) ≡ true) × (with_role (role_after_listener_close now id) x ≡ x)
idle_listener_close now id x e = (rw e refl, rw e refl)

-- Of what is given up it has nothing.

pub rests-resets : (lost : Addr → Bool) (now : Moment) (role : Role) → is_busy role ≡ false → cond {A = ℕ} (is_given_up lost now role) 1 0 ≡ 0
rests-resets lost now (Connected c listener) e = let owes = (resting c e).resets in rw owes refl
rests-resets lost now (Datagrams bound socket) e = refl
rests-resets lost now (Listener local backlog) e = refl
rests-resets lost now (Idle buffers bound) e = refl

pub rests-datagrams : (lost : Addr → Bool) (now : Moment) (role : Role) → is_busy role ≡ false → count_by (datagrams.is_given_up lost now) (outbox_of role) ≡ 0
rests-datagrams lost now (Connected c listener) e = refl
rests-datagrams lost now (Datagrams bound socket) e = let none = none_in socket.outbox e in rw none refl
rests-datagrams lost now (Listener local backlog) e = refl
rests-datagrams lost now (Idle buffers bound) e = refl

-- What was accepted doesn't wait, and what doesn't wait is no unanswered one.

pub accepted_waits_not : (listener : SocketId) (x : Entry) → is_pending_entry x ≡ false → is_waiting_at listener x ≡ false
accepted_waits_not listener x accepted = by_role x.role accepted
  where
    by_role : (role : Role) → is_pending role ≡ false → waits_at listener role ≡ false
    by_role (Connected c (Some l)) e = let bad : true ≡ false = e in cc
    by_role (Connected c None) e = refl
    by_role (Listener local backlog) e = refl
    by_role (Idle buffers bound) e = refl
    by_role (Datagrams bound socket) e = refl

pub answered_or_gone : (listener : SocketId) (x : Entry) → is_waiting_at listener x ≡ false → is_unanswered_at listener x ≡ false
answered_or_gone listener x e = rw e refl
