use Rattle.std.proofs.Common.{◌∙◌, sym, subst}
use Rattle.stream_buf.specs.Ranges.{AreApart}
use Rattle.stream_buf.proofs.Joining.{apart_with}
use Rattle.stream_buf.proofs.ranges.Ranges.add.Goals as goal

pub returns-clause-apart : goal.returns-clause-apart
returns-clause-apart c =
    subst (AreApart 1) (c.gather-place.ensures.joined ∙ sym c.insert.ensures.items)
    (apart_with c.self.inside.list.items 1 c.args.new c.self.invariant c.requires.places.0 c.requires.places.1)

pub invariant_of-self : goal.invariant_of-self
invariant_of-self c =
    subst (AreApart 1) (c.gather-place.ensures.joined ∙ sym c.insert.ensures.items)
    (apart_with c.self.inside.list.items 1 c.args.new c.self.invariant c.requires.places.0 c.requires.places.1)
