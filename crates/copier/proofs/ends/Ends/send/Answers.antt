use Rattle.std.proofs.Common.{◌≡◌, ◌-◌, ◌≤◌, Ok, length, take, arith, sym, ◌∙◌, ap}
use Rattle.std.proofs.lemmas.List.{length-take, take-take}
use Rattle.host.specs.HostView.{HostView}
use Rattle.sockets.specs.Calls.{send_answer}
use Rattle.wire_sim.proofs.tables.CallsOnTable.{sends-on}
use Rattle.copier.specs.declared.ends.Ends.{Ends}
use Rattle.copier.proofs.Moving.{writes-octets}
use Rattle.copier.proofs.ends.Ends.send.Goals as goal

pub returns-in-Ok-clause-writes : goal.returns-in-Ok-clause-writes
returns-in-Ok-clause-writes c =
    let e : Ends = c.args.self.now in
    let octets = take c.min-most.result c.args.octets.now in
    let answered : send_answer e.a.sockets e.sender octets ≡ Ok c.in-Ok.count = sym c.send.ensures.answer ∙ c.in-Ok.is in
    let long = length-take c.min-most.result c.args.octets.now in
    let most = c.min-most.ensures in
    let s = sends-on e.a.sockets e.sender octets c.in-Ok.count answered in
    let takes = s.takes in
    let few : c.in-Ok.count ≤ length octets = omega (arith, takes) in
    writes-octets e _ octets c.args.octets.now c.in-Ok.count c.sound.ensures.a c.sound.ensures.b (omega (arith, long, most)) few answered
    (ap (λ (h : HostView). let x : Ends = record e { a = h; allowance = e.allowance - c.in-Ok.count } in x) c.in-Ok.ensures.ok)
    (take-take c.in-Ok.count c.min-most.result c.args.octets.now (omega (arith, few, long)))
