use Rattle.std.proofs.Common.{not, nat_eq, ◌∙◌, ap}
use Rattle.std.specs.List.{list_any}
use Rattle.marks.specs.Marked.{marked}
use Rattle.marks.proofs.Counted.{is_mark, none_counted}
use Rattle.marks.proofs.flags.Marks.is_clear.Goals as goal

pub returns : goal.returns
returns c =
    let m = c.self.inside in
    ap (λ n. nat_eq n 0) c.self.invariant.1
    ∙ none_counted (marked m.words.items m.len)
    ∙ ap (λ v. not (list_any is_mark v.items)) c.self.view_is
