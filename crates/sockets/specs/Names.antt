-- The numbers and names of refusals, and the names of the states of sockets.
use Rattle.std.specs.Prelude.{ℕ, List, codes}
use Rattle.tcp_state.specs.Names.{state_text}
use Rattle.sockets.specs.declared.refusal.Refusal.{Refusal}
use Rattle.sockets.specs.declared.refusal.Refusal.TheVariants.{EBADF, EINVAL, EADDRINUSE, EADDRNOTAVAIL, EISCONN, ENOTCONN, EALREADY, EAGAIN, ECONNREFUSED, ECONNRESET, ETIMEDOUT, EPIPE, EMSGSIZE, ENETUNREACH, EMFILE, ENOMEM, EOPNOTSUPP, EDESTADDRREQ}
use Rattle.sockets.specs.declared.state.SocketState.{SocketState}
use Rattle.sockets.specs.declared.state.SocketState.TheVariants.{Datagram, Stream}

-- a refusal's number and name
abbrev pub refusal_text : Refusal → List ℕ
refusal_text EBADF = codes "E1 EBADF"
refusal_text EINVAL = codes "E2 EINVAL"
refusal_text EADDRINUSE = codes "E3 EADDRINUSE"
refusal_text EADDRNOTAVAIL = codes "E4 EADDRNOTAVAIL"
refusal_text EISCONN = codes "E5 EISCONN"
refusal_text ENOTCONN = codes "E6 ENOTCONN"
refusal_text EALREADY = codes "E7 EALREADY"
refusal_text EAGAIN = codes "E8 EAGAIN"
refusal_text ECONNREFUSED = codes "E9 ECONNREFUSED"
refusal_text ECONNRESET = codes "E10 ECONNRESET"
refusal_text ETIMEDOUT = codes "E11 ETIMEDOUT"
refusal_text EPIPE = codes "E12 EPIPE"
refusal_text EMSGSIZE = codes "E13 EMSGSIZE"
refusal_text ENETUNREACH = codes "E14 ENETUNREACH"
refusal_text EMFILE = codes "E15 EMFILE"
refusal_text ENOMEM = codes "E16 ENOMEM"
refusal_text EOPNOTSUPP = codes "E17 EOPNOTSUPP"
refusal_text EDESTADDRREQ = codes "E18 EDESTADDRREQ"

-- a UDP socket's state, or the name of a connection's (RFC 9293 section 3.3.2)
abbrev pub socket_state_text : SocketState → List ℕ
socket_state_text Datagram = codes "DATAGRAM"
socket_state_text (Stream state) = state_text state
