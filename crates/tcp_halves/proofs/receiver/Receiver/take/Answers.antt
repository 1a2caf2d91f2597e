use Rattle.std.proofs.Common.{rules, ◌≡◌, ◌%◌, ◌+◌, ◌<◌, ◌^◌, length, sym, subst, arith}
use Rattle.stream_buf.specs.Receiving.{ReceiveView}
use Rattle.tcp_halves.specs.Halves.{Receiving}
use Rattle.tcp_halves.specs.Received.{received_by}
use Rattle.tcp_halves.specs.Stream.{distance_of, octets_within, after_octets}
use Rattle.tcp_halves.proofs.Keeping.{IsKeeping, none_within, octets_keep, seen, taken_is, taken_count}
use Rattle.tcp_halves.proofs.receiver.Receiver.take.Goals as goal

pub overflow_cast-count : goal.overflow_cast-count
overflow_cast-count c =
    let r : Receiving = received_by c.self.inside in
    let b : ReceiveView = c.self.inside.buffer in
    let small : r.rnext < 2 ^ 32 = search rules in
    let is : IsKeeping r = record { small = small; sized = c.self.invariant.0; most = c.self.invariant.1; fits = c.self.invariant.2; buffer = c.self.invariant.3; kept = c.self.invariant.4; some = c.self.invariant.5; few = c.self.invariant.6; told = c.self.invariant.7 } in
    let at : c.distance-distance.result ≡ distance_of r c.args.number.0 = search rules in
    let cut : c.within-within.result.now ≡ octets_within r c.args.number.0 c.args.octets.now = search rules in
    let few = taken_count r c.args.number.0 c.args.octets.now b c.distance-distance.result c.insert_at-count.result c.within-within.result.now is
    (seen b r.rnext r.edge r.size r.unit) at cut c.insert_at-count.ensures.count in
    omega (arith, few)

pub invariant_of-self : goal.invariant_of-self
invariant_of-self c =
    let r : Receiving = received_by c.self.inside in
    let b : ReceiveView = c.self.inside.buffer in
    let small : r.rnext < 2 ^ 32 = search rules in
    let is : IsKeeping r = record { small = small; sized = c.self.invariant.0; most = c.self.invariant.1; fits = c.self.invariant.2; buffer = c.self.invariant.3; kept = c.self.invariant.4; some = c.self.invariant.5; few = c.self.invariant.6; told = c.self.invariant.7 } in
    let at : c.distance-distance.result ≡ distance_of r c.args.number.0 = search rules in
    let cut : c.within-within.result.now ≡ octets_within r c.args.number.0 c.args.octets.now = search rules in
    let moves : c.add-self-inside.result.0 ≡ (r.rnext + c.insert_at-count.result) % 2 ^ 32 = search rules in
    let new = taken_is r c.args.number.0 c.args.octets.now b c.insert_at-count.new.self c.distance-distance.result c.insert_at-count.result c.add-self-inside.result.0 c.within-within.result.now
    (seen b r.rnext r.edge r.size r.unit) at cut c.insert_at-count.ensures.after c.insert_at-count.ensures.count moves in
    let k = subst IsKeeping new (octets_keep r c.args.number.0 c.args.octets.now is) in
    (k.sized, k.most, k.fits, k.buffer, k.kept, k.some, k.few, k.told)

pub returns-clause-fits : goal.returns-clause-fits
returns-clause-fits c = (invariant_of-self c).2

pub returns-clause-buffer : goal.returns-clause-buffer
returns-clause-buffer c = (invariant_of-self c).3

pub returns-clause-kept : goal.returns-clause-kept
returns-clause-kept c = (invariant_of-self c).4

pub returns-then-is_empty-clause-after : goal.returns-then-is_empty-clause-after
returns-then-is_empty-clause-after c =
    let r : Receiving = received_by c.self.inside in
    let small : r.rnext < 2 ^ 32 = search rules in
    let is : IsKeeping r = record { small = small; sized = c.self.invariant.0; most = c.self.invariant.1; fits = c.self.invariant.2; buffer = c.self.invariant.3; kept = c.self.invariant.4; some = c.self.invariant.5; few = c.self.invariant.6; told = c.self.invariant.7 } in
    let none : length (octets_within r c.args.number.0 c.args.octets.now) ≡ 0 = search rules in
    let same = none_within r c.args.number.0 c.args.octets.now is none in
    subst (λ x. x ≡ after_octets x c.args.number.0 c.args.octets.now) c.self.view_is (sym same)
