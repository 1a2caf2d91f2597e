-- So many datagrams as the loop has passed stand behind the others, or are given up.
use Rattle.std.proofs.Common.{◌≡◌, ◌++◌, Bool, List, take, drop, filter}
use Rattle.ipv4.specs.declared.addr.Addr.{Addr}
use Rattle.udp_socket.specs.SocketView.{Outgoing}
use Rattle.udp_socket.specs.Stored.{first_if}
use Rattle.udp_socket.proofs.GivingUp.{stays}
use Rattle.udp_socket.proofs.socket.UdpSocket.give_up.Given as goal

abbrev pub invariant-loop : goal.invariant-loop
invariant-loop g l =
    (l.self.inbox ≡ l.fn.self.inbox)
    × (l.self.parts ≡ 0)
    × ((kept : List Outgoing) × (l.self.outbox ≡ drop l.counter l.fn.self.outbox ++ (first_if l.first_stays l.fn.self.outbox ++ kept)))
    × ((test : Addr → Bool) → ((addr : Addr) (answer : Bool) → goal.F-post g l.fn.lost addr answer → answer ≡ test addr)
    → l.self.outbox ≡ drop l.counter l.fn.self.outbox ++ filter (stays test l.fn.now) (take l.counter l.fn.self.outbox))
