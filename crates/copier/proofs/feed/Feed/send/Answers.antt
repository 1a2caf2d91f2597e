use Rattle.std.proofs.Common.{◌-◌, drop, arith, refl}
use Rattle.std.proofs.lemmas.List.{length-take}
use Rattle.copier.proofs.Feeding.{fed-sent}
use Rattle.copier.proofs.feed.Feed.send.Goals as goal

pub returns-clause-fed : goal.returns-clause-fed
returns-clause-fed c =
    let f = c.args.self.now in
    let few = c.in_ok-count.ensures.few in
    let long = length-take (f.to - f.from) (drop f.from f.octets) in
    λ given remaining.
    fed-sent given remaining f _ c.args.ends.now c.send.new.self c.in_ok-count.count few refl refl refl refl refl (omega (arith, few, long)) c.in_ok-count.ensures.writes
