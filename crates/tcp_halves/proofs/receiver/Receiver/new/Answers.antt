use Rattle.std.proofs.Common.{rules, ◌≡◌, sym, subst}
use Rattle.tcp_halves.specs.Stream.{size_in, own_unit}
use Rattle.tcp_halves.proofs.Keeping.{IsKeeping, nothing_keeps, new_is}
use Rattle.tcp_halves.proofs.receiver.Receiver.new.Goals as goal

pub invariant_of-result : goal.invariant_of-result
invariant_of-result c =
    let size : c.size_in-size.result ≡ size_in c.args.manner.scales c.args.buffer.capacity = search rules in
    let unit : c.own_unit.result ≡ own_unit c.args.manner.scales = search rules in
    let is = new_is c.args.buffer c.args.manner c.size_in-size.result c.own_unit.result c.requires.empty size unit in
    let k = subst IsKeeping is (nothing_keeps c.args.buffer.capacity c.args.manner c.requires.most) in
    (k.sized, k.most, k.fits, k.buffer, k.kept, k.some, k.few, k.told)

pub returns-clause-value : goal.returns-clause-value
returns-clause-value c =
    let size : c.size_in-size.result ≡ size_in c.args.manner.scales c.args.buffer.capacity = search rules in
    let unit : c.own_unit.result ≡ own_unit c.args.manner.scales = search rules in
    sym (new_is c.args.buffer c.args.manner c.size_in-size.result c.own_unit.result c.requires.empty size unit)

pub returns-clause-kept : goal.returns-clause-kept
returns-clause-kept c = (invariant_of-result c).4

pub returns-clause-buffer : goal.returns-clause-buffer
returns-clause-buffer c = (invariant_of-result c).3
