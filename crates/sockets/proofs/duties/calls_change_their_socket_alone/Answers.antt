use Rattle.sockets.specs.Entries.{role_after_listen, role_after_send, role_after_recv, role_after_shutdown}
use Rattle.sockets.proofs.Calling.{others_still, same_besides}
use Rattle.sockets.proofs.duties.calls_change_their_socket_alone.Goals as goal

pub returns : goal.returns
returns c = record {
  listen = λ h id other backlog. others_still h id other (role_after_listen backlog);
  send = λ h id other octets. others_still h id other (role_after_send h.kept octets);
  recv = λ h id other len. others_still h id other (role_after_recv len);
  shutdown = λ h id other. others_still h id other (role_after_shutdown h.kept);
  table = λ h id backlog octets len. (same_besides h id (role_after_listen backlog), same_besides h id (role_after_send h.kept octets), same_besides h id (role_after_recv len), same_besides h id (role_after_shutdown h.kept));
}
