use Rattle.std.proofs.Common.{take, ℕ, ap, ◌∙◌}
use Rattle.std.proofs.lemmas.List.{take_min}
use Rattle.interface.proofs.room.Quoted.of.Goals as goal

pub returns : goal.returns
returns c =
    c.filled.ensures
    ∙ ap (λ (n : ℕ). take n c.args.quote.now) c.min.ensures
    ∙ take_min 68 c.args.quote.now
