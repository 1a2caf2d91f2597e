use Rattle.std.proofs.Common.{rules, ◌≡◌, ◌<◌, ◌≤◌, ◌^◌, length, subst}
use Rattle.tcp_halves.specs.Halves.{Receiving}
use Rattle.tcp_halves.specs.Received.{received_by}
use Rattle.tcp_halves.specs.Stream.{after_read}
use Rattle.tcp_halves.proofs.Keeping.{IsKeeping, read_keeps}
use Rattle.tcp_halves.proofs.receiver.Receiver.read.Goals as goal

pub invariant_of-self : goal.invariant_of-self
invariant_of-self c =
    let r : Receiving = received_by c.self.inside in
    let small : r.rnext < 2 ^ 32 = search rules in
    let is : IsKeeping r = record { small = small; sized = c.self.invariant.0; most = c.self.invariant.1; fits = c.self.invariant.2; buffer = c.self.invariant.3; kept = c.self.invariant.4; some = c.self.invariant.5; few = c.self.invariant.6; told = c.self.invariant.7 } in
    let within : c.read.result ≤ length r.readable = search rules in
    let new : after_read r c.read.result ≡ received_by (record { buffer = c.read.new.self; rnext = c.self.inside.rnext; edge = c.self.inside.edge; size = c.self.inside.size; unit = c.self.inside.unit }) = search rules in
    let k = subst IsKeeping new (read_keeps r c.read.result within is) in
    (k.sized, k.most, k.fits, k.buffer, k.kept, k.some, k.few, k.told)

pub returns-clause-buffer : goal.returns-clause-buffer
returns-clause-buffer c = (invariant_of-self c).3

pub returns-clause-kept : goal.returns-clause-kept
returns-clause-kept c = (invariant_of-self c).4
