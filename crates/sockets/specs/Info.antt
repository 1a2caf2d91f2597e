-- What is told of the connection of a socket.
use Rattle.std.specs.Prelude.{Result, Ok, Err}
use Rattle.tcp_state.specs.declared.info.Info.{Info}
use Rattle.tcp_state.specs.Info.{info_of}
use Rattle.sockets.specs.declared.entry.SocketId.{SocketId}
use Rattle.sockets.specs.declared.role.Role.{Role}
use Rattle.sockets.specs.declared.role.Role.TheVariants.{Idle, Listener, Connected, Datagrams}
use Rattle.sockets.specs.declared.refusal.Refusal.{Refusal}
use Rattle.sockets.specs.declared.refusal.Refusal.TheVariants.{ENOTCONN, EOPNOTSUPP}
use Rattle.sockets.specs.SocketsView.{SocketsView}
use Rattle.sockets.specs.Calls.{answer_at}

-- a connection in any state is told of; a UDP socket and a listener have none, and no other socket has had one
abbrev pub role_info : Role → Result Info Refusal
role_info (Connected c listener) = Ok (info_of c)
role_info (Idle buffers bound) = Err ENOTCONN
role_info (Listener local backlog) = Err EOPNOTSUPP
role_info (Datagrams bound socket) = Err EOPNOTSUPP

abbrev pub info_answer : SocketsView → SocketId → Result Info Refusal
info_answer h id = answer_at h id role_info
