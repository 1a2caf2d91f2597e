-- What the halves of the table find.
use Rattle.std.proofs.Common.{rules, ◌∙◌}
use Rattle.std.proofs.lemmas.List.Sorted.{answers_always}
use Rattle.sockets.specs.declared.entry.Entry.{Entry}
use Rattle.sockets.proofs.Ascending.{searched}
use Rattle.sockets.proofs.table.place_of.Goals as goal

pub returns : goal.returns
returns c =
    let facts = c.binary_search_by_key.ensures in
    let by_key = facts.position (λ (e : Entry). e.id.0) (answers_always _ _ _ (λ f a r g called. search rules)) in
    c.ok.ensures.value ∙ searched c.args.entries.now c.requires c.args.id _ facts.bound by_key
