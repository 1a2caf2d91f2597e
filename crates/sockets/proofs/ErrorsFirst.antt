-- Why the error of a connection is told in place of all else.
use Rattle.std.proofs.Common.{◌≡◌, ℕ, ◌==◌, Bool, false, List, Option, Some, Err}
use Rattle.ipv4.specs.declared.addr.Endpoint.{Endpoint}
use Rattle.tcp_state.specs.declared.calls.Refusal.{Refusal as Error}
use Rattle.tcp_state.specs.View.{View}
use Rattle.sockets.specs.declared.entry.SocketId.{SocketId}
use Rattle.sockets.specs.declared.role.Role.TheVariants.{Connected}
use Rattle.sockets.specs.SocketsView.{SocketsView, role_of}
use Rattle.sockets.specs.Calls.{refusal_of, connect_refusal, send_answer, recv_answer, shutdown_refusal}

pub connect_told : (h : SocketsView) (id : SocketId) (c : View) (listener : Option SocketId) (error : Error) (peer : Endpoint) (routed : Bool) → role_of h id ≡ Some (Connected c listener) → c.pending_error ≡ Some error
    → connect_refusal h id peer routed ≡ Some (refusal_of error)
connect_told h id c listener error peer routed named told = rw (named, told)

pub send_told : (h : SocketsView) (id : SocketId) (c : View) (listener : Option SocketId) (error : Error) (octets : List ℕ) → role_of h id ≡ Some (Connected c listener) → c.pending_error ≡ Some error
    → send_answer h id octets ≡ Err (refusal_of error)
send_told h id c listener error octets named told = rw (named, told)

pub recv_told : (h : SocketsView) (id : SocketId) (c : View) (listener : Option SocketId) (error : Error) (len : ℕ) → role_of h id ≡ Some (Connected c listener) → c.pending_error ≡ Some error → (len == 0) ≡ false
    → recv_answer h id len ≡ Err (refusal_of error)
recv_told h id c listener error len named told some = rw (named, some, told)

pub shutdown_told : (h : SocketsView) (id : SocketId) (c : View) (listener : Option SocketId) (error : Error) → role_of h id ≡ Some (Connected c listener) → c.pending_error ≡ Some error
    → shutdown_refusal h id ≡ Some (refusal_of error)
shutdown_told h id c listener error named told = rw (named, told)
