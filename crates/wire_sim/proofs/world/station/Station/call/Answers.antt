-- What was asked for is what the buffer holds.
use Rattle.std.proofs.Common.{◌≡◌, ℕ, ap, sym, ◌∙◌, vec_len, subst}
use Rattle.wire_sim.specs.declared.event.Call.{Call}
use Rattle.sockets.specs.Calls.{recv_answer}
use Rattle.wire_sim.specs.Steps.{recv_len, call_recv_len, MeetsReceived, HostMeetsCall}
use Rattle.wire_sim.proofs.world.station.Station.call.Goals as goal

pub returns-in-Recv-clause-answer : goal.returns-in-Recv-clause-answer
returns-in-Recv-clause-answer c =
    let room : vec_len c.args.buffer ≡ recv_len c.in-Recv.len = c.requires ∙ ap call_recv_len c.in-Recv.is in
    subst (λ (x : Call). HostMeetsCall c.args.self.now.clock x c.args.self.now.host c.received.result c.received.new.host) (sym c.in-Recv.is) (record {
      table = subst (λ (n : ℕ). MeetsReceived c.args.self.now.host.sockets c.in-Recv.id n (recv_answer c.args.self.now.host.sockets c.in-Recv.id n) c.received.result c.received.new.host.sockets) room c.received.ensures.answer;
      others = c.received.ensures.others;
    })
