use Rattle.std.proofs.Common.{refl, sym, ◌∙◌, arith}
use Rattle.sides.specs.declared.side.Side.TheVariants.{A}
use Rattle.copier.proofs.Passing.{none_of}
use Rattle.copier.proofs.Moving.{passes, hears-at_a}
use Rattle.copier.proofs.ends.Ends.hear_at_a.Goals as goal

pub returns-then-is_some-clause-hears : goal.returns-then-is_some-clause-hears
returns-then-is_some-clause-hears c = passes c.args.self.now _ A c.args.frame.now c.sound.ensures.a c.sound.ensures.b refl

pub returns-clause-hears : goal.returns-clause-hears
returns-clause-hears c = hears-at_a c.args.self.now _ (record { 0 = 2000 }) c.args.frame.now c.deliver.result c.deliver.new.self c.sound.ensures.a c.sound.ensures.b (omega arith)
    (sym c.would_open.ensures ∙ none_of c.would_open.result (sym c.is_some.ensures ∙ c.if-is_some.false)) c.deliver.ensures refl
