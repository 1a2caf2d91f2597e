-- In each place is the datagram that waits there, or the segment in the first.
use Rattle.std.proofs.Common.{◌∙◌, sym, arith}
use Rattle.sockets.proofs.Emitting.{no_datagram, no_segment, that_datagram}
use Rattle.sockets.proofs.role.Role.due_at.Goals as goal

pub returns-then-place-gt0 : goal.returns-then-place-gt0
returns-then-place-gt0 c = sym (no_segment c.args.self.now c.in-Connected.connection c.in-Connected.listener c.args.place c.in-Connected.is (omega (arith, c.if-place-gt0.true)))

pub returns-in_err-peer-in-Datagrams : goal.returns-in_err-peer-in-Datagrams
returns-in_err-peer-in-Datagrams c =
    c.from_residual-in_err-peer-in-Datagrams.ensures
    ∙ sym (no_datagram c.args.self.now c.in-Datagrams.bound c.in-Datagrams.socket c.args.place c.in-Datagrams.is (sym c.peer_at.ensures ∙ c.in_err-peer-in-Datagrams.was))

pub returns-in_ok-peer-in-Datagrams : goal.returns-in_ok-peer-in-Datagrams
returns-in_ok-peer-in-Datagrams c =
    sym (that_datagram c.args.self.now c.in-Datagrams.bound c.in-Datagrams.socket c.args.place c.in_ok-peer-in-Datagrams.peer c.in-Datagrams.is (sym c.peer_at.ensures ∙ c.in_ok-peer-in-Datagrams.was))
