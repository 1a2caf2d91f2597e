use Rattle.std.proofs.Common.{◌≡◌, ℕ, ◌≤◌, false, List, MatchOption, subst, ◌∙◌, ap}
use Rattle.marks.specs.Bits.{has, IsFirst}
use Rattle.marks.specs.First.{first_from}
use Rattle.marks.proofs.Stored.{first_is}
use Rattle.marks.proofs.flags.Marks.first_from.Goals as goal

pub returns : goal.returns
returns c =
    let m = c.self.inside in
    let found = subst (λ (ws : List ℕ). MatchOption c.first_from.result ((k : ℕ) → c.args.from ≤ k → has ws k ≡ false) (λ place. IsFirst ws c.args.from place)) c.as_slice.ensures.value c.first_from.ensures in
    first_is m.words.items m.len c.args.from c.self.invariant.0.clear c.first_from.result found
    ∙ ap (λ v. first_from (λ is_marked. is_marked) c.args.from v.items) c.self.view_is
