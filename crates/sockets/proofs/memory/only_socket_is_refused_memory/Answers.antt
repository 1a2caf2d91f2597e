use Rattle.sockets.proofs.NoMemory.{of_bind, of_listen, of_accept, of_connect, of_send, of_recv, of_sendto, of_recvfrom, of_shutdown_call, of_nodelay, of_keepalive, of_close, of_state, of_sockname, of_peername, of_info, of_readiness, of_recv_len, of_send_room}
use Rattle.sockets.proofs.memory.only_socket_is_refused_memory.Goals as goal

pub returns : goal.returns
returns c = record { bind = of_bind; listen = of_listen; accept = of_accept; connect = of_connect; send = of_send; recv = of_recv; sendto = of_sendto; recvfrom = of_recvfrom; shutdown = of_shutdown_call; nodelay = of_nodelay; keepalive = of_keepalive; close = of_close; state = of_state; sockname = of_sockname; peername = of_peername; info = of_info; ready = of_readiness; readable = of_recv_len; room = of_send_room }
