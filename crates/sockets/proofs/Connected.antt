-- What an accepted connect makes of the table.
use Rattle.std.proofs.Common.{◌≡◌, ℕ, Bool, Option, Some, None, option_map, option_and_then, Result, Ok, Err, refl, ◌∙◌, ap, subst, arith}
use Rattle.std.proofs.lemmas.Grind.{common_steps}
use Rattle.std.specs.Option.{ok_or}
use Rattle.std.specs.List.{find}
use Rattle.ipv4.specs.declared.addr.Endpoint.{Endpoint}
use Rattle.clock.specs.declared.moment.Moment.{Moment}
use Rattle.tcp_state.specs.declared.state.State.{State}
use Rattle.tcp_state.specs.declared.calls.Refusal.{Refusal as Error}
use Rattle.sockets.specs.declared.entry.SocketId.{SocketId}
use Rattle.sockets.specs.declared.entry.Entry.{Entry}
use Rattle.sockets.specs.declared.role.Role.{Role}
use Rattle.sockets.specs.declared.role.Role.TheVariants.{Connected}
use Rattle.sockets.specs.declared.refusal.Refusal.{Refusal}
use Rattle.sockets.specs.declared.refusal.Refusal.TheVariants.{EBADF, EADDRINUSE}
use Rattle.sockets.specs.Entries.{is_socket, role_after_connect}
use Rattle.sockets.specs.SocketsView.{SocketsView, role_of, with_socket, later_moment}
use Rattle.sockets.specs.Calls.{had_connection, open_answer, reach_refusal, port_for, bound_of, last_port_after, port_connected, after_connect}

pub had_opens_none : (state : State) (told : Option Error) (bound : Option Endpoint) → had_connection state told ≡ Ok bound → ⊥
had_opens_none state told bound e = grind (arith, common_steps)

-- a role that may open a connection is bound where it says
bound_same : (role : Role) (bound : Option Endpoint) → open_answer role ≡ Ok bound → bound_of role ≡ bound
bound_same (Connected c l) bound opens = absurd (had_opens_none c.state c.pending_error bound opens)
bound_same _ bound opens = cc

pub after_connect-given : (h : SocketsView) (now : Moment) (isn : ℕ) (id : SocketId) (peer : Endpoint) (routed : Bool) (role : Role) (bound : Option Endpoint) (port : ℕ) → role_of h id ≡ Some role → open_answer role ≡ Ok bound → reach_refusal h peer routed ≡ None → port_for h bound peer ≡ Some port
    → after_connect h now isn id peer routed ≡ with_socket (record h { last_port = last_port_after h bound port }) id (role_after_connect (record { addr = h.addr; port = port }) peer isn (later_moment h now))
after_connect-given h now isn id peer routed role bound port is opens reached given =
    let bound_there : option_and_then bound_of (role_of h id) ≡ bound = ap (λ (o : Option Role). option_and_then bound_of o) is ∙ bound_same role bound opens in
    rw (is, opens, reached, given) (ap (λ (b : Option Endpoint). with_socket (record h { last_port = last_port_after h b port }) id (role_after_connect (record { addr = h.addr; port = port }) peer isn (later_moment h now))) bound_there)

pub after_connect-accepted : (h : SocketsView) (now : Moment) (isn : ℕ) (id : SocketId) (peer : Endpoint) (routed : Bool) (x : Entry) (bound : Option Endpoint) (port : ℕ) → find (is_socket id) h.entries ≡ Some x → open_answer x.role ≡ Ok bound → reach_refusal h peer routed ≡ None → port_for h bound peer ≡ Some port
    → after_connect h now isn id peer routed ≡ with_socket (record h { last_port = last_port_after h bound port }) id (role_after_connect (record { addr = h.addr; port = port }) peer isn (later_moment h now))
after_connect-accepted h now isn id peer routed x bound port found = after_connect-given h now isn id peer routed x.role bound port (ap (λ (o : Option Entry). option_map (λ (e : Entry). e.role) o) found)

-- a socket that is given this port by a connect
pub record IsConnecting (h : SocketsView) (id : SocketId) (peer : Endpoint) (routed : Bool) (port : ℕ) : Type 0 where
  pub role : Role
  pub bound : Option Endpoint
  pub is : role_of h id ≡ Some role
  pub opens : open_answer role ≡ Ok bound
  pub reached : reach_refusal h peer routed ≡ None
  pub given : port_for h bound peer ≡ Some port

pub connecting : (h : SocketsView) (id : SocketId) (peer : Endpoint) (routed : Bool) (port : ℕ) → port_connected h id peer routed ≡ Ok port → IsConnecting h id peer routed port
connecting h id peer routed port connects = by_role (role_of h id) refl
  where
    by_port : (role : Role) (bound : Option Endpoint) → role_of h id ≡ Some role → open_answer role ≡ Ok bound → reach_refusal h peer routed ≡ None → (o : Option ℕ) → port_for h bound peer ≡ o → IsConnecting h id peer routed port
    by_port role bound is opens reached None given = let refused : port_connected h id peer routed ≡ Err EADDRINUSE = rw (is, opens, reached, given) in cc
    by_port role bound is opens reached (Some n) given =
        let taken : port_connected h id peer routed ≡ Ok n = rw (is, opens, reached, given) in
        let same : n ≡ port = cc in
        record { role = role; bound = bound; is = is; opens = opens; reached = reached; given = subst (λ (m : ℕ). port_for h bound peer ≡ Some m) same given }

    by_reach : (role : Role) (bound : Option Endpoint) → role_of h id ≡ Some role → open_answer role ≡ Ok bound → (o : Option Refusal) → reach_refusal h peer routed ≡ o → IsConnecting h id peer routed port
    by_reach role bound is opens None reached = by_port role bound is opens reached (port_for h bound peer) refl
    by_reach role bound is opens (Some refusal) reached = let refused : port_connected h id peer routed ≡ Err refusal = rw (is, opens, reached) in cc

    by_open : (role : Role) → role_of h id ≡ Some role → (r : Result (Option Endpoint) Refusal) → open_answer role ≡ r → IsConnecting h id peer routed port
    by_open role is (Err refusal) opens = let refused : port_connected h id peer routed ≡ Err refusal = rw (is, opens) in cc
    by_open role is (Ok bound) opens = by_reach role bound is opens (reach_refusal h peer routed) refl

    by_role : (o : Option Role) → role_of h id ≡ o → IsConnecting h id peer routed port
    by_role None is = let refused : port_connected h id peer routed ≡ Err EBADF = rw is in cc
    by_role (Some role) is = by_open role is (open_answer role) refl

-- a value that was there
pub some_from_ok : {T E : Type 0} (o : Option T) (e : E) (v : T) → Ok v ≡ ok_or o e → o ≡ Some v
some_from_ok None e v same = cc
some_from_ok (Some w) e v same = cc
