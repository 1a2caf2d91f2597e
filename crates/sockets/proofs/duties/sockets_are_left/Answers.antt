use Rattle.sockets.proofs.Closings.{alone_left, connection_removed, waiting_removed, waiting_aborted, others_stay, offered_left, nameless}
use Rattle.sockets.proofs.duties.sockets_are_left.Goals as goal

pub returns : goal.returns
returns c = record {
  alone = λ h how id r o. alone_left h how id o r;
  ended = λ h how id v o. connection_removed h how id o v;
  waiting_closed = λ h how id i v o. waiting_removed h how id o i v;
  waiting = λ h how id i v o. waiting_aborted h how id o i v;
  others = λ h how id i x o. others_stay h how id o i x;
  offered = offered_left;
  nameless = λ h how id r o. nameless h id o how r;
}
