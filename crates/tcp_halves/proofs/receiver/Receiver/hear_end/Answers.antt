use Rattle.std.proofs.Common.{rules, ◌≡◌, ◌<◌, ◌^◌, subst}
use Rattle.tcp_halves.specs.Halves.{Receiving}
use Rattle.tcp_halves.specs.Received.{received_by}
use Rattle.tcp_halves.specs.Stream.{receive_window, after_end}
use Rattle.tcp_halves.proofs.Keeping.{IsKeeping, end_keeps}
use Rattle.tcp_halves.proofs.receiver.Receiver.hear_end.Goals as goal

pub invariant_of-self : goal.invariant_of-self
invariant_of-self c =
    let r : Receiving = received_by c.self.inside in
    let small : r.rnext < 2 ^ 32 = search rules in
    let is : IsKeeping r = record { small = small; sized = c.self.invariant.0; most = c.self.invariant.1; fits = c.self.invariant.2; buffer = c.self.invariant.3; kept = c.self.invariant.4; some = c.self.invariant.5; few = c.self.invariant.6; told = c.self.invariant.7 } in
    let room : 0 < receive_window r = search rules in
    let new : after_end r ≡ received_by (record { buffer = c.forget_kept.new.self; rnext = c.add-self-inside.result; edge = c.self.inside.edge; size = c.self.inside.size; unit = c.self.inside.unit }) = search rules in
    let k = subst IsKeeping new (end_keeps r is room) in
    (k.sized, k.most, k.fits, k.buffer, k.kept, k.some, k.few, k.told)

pub returns-clause-buffer : goal.returns-clause-buffer
returns-clause-buffer c = (invariant_of-self c).3
