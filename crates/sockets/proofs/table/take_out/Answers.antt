-- What is left is filed, and noted, as before.
use Rattle.std.proofs.Common.{◌≡◌, List, get_or, Option, sym, ◌∙◌, ap, subst}
use Rattle.std.specs.List.{remove}
use Rattle.sockets.specs.declared.entry.Entry.{Entry}
use Rattle.sockets.specs.declared.index.Filed.{Filed}
use Rattle.sockets.specs.Index.{filed, index_of, with_filed}
use Rattle.sockets.specs.Outlook.{IsOutlook}
use Rattle.sockets.proofs.Filed.{sorted_index, index_without}
use Rattle.sockets.proofs.table.take_out.Goals as goal

pub unfile-requires : goal.unfile-requires
unfile-requires c =
    let xs : List Entry = c.args.entries.now.items in
    let x : Entry = c.index-deref-place.result in
    let filing : filed (get_or xs c.args.place x) ≡ c.filing.result = ap (λ (l : List Entry). filed (get_or l c.args.place x)) (sym c.deref.ensures.0) ∙ ap (λ (e : Entry). filed e) (sym c.index-deref-place.is) ∙ sym c.filing.ensures in
    (index_of (remove xs c.args.place), sorted_index (remove xs c.args.place), c.requires.index ∙ index_without xs c.args.place x c.requires.place ∙ ap (λ (o : Option Filed). with_filed o (index_of (remove xs c.args.place))) filing)

pub returns-clause-index : goal.returns-clause-index
returns-clause-index c =
    let xs : List Entry = c.args.entries.now.items in
    let x : Entry = c.index-deref-place.result in
    let rest : List Filed = index_of (remove xs c.args.place) in
    let filing : filed (get_or xs c.args.place x) ≡ c.filing.result = ap (λ (l : List Entry). filed (get_or l c.args.place x)) (sym c.deref.ensures.0) ∙ ap (λ (e : Entry). filed e) (sym c.index-deref-place.is) ∙ sym c.filing.ensures in
    c.unfile.ensures.items rest (sorted_index (remove xs c.args.place)) (c.requires.index ∙ index_without xs c.args.place x c.requires.place ∙ ap (λ (o : Option Filed). with_filed o rest) filing)
    ∙ ap index_of (sym c.remove.ensures.items)

pub returns-clause-known : goal.returns-clause-known
returns-clause-known c = λ most known.
    subst (λ (ws : List Entry). IsOutlook c.remove-2.new.self most ws) (sym c.remove.ensures.items) (c.remove-2.ensures most c.args.entries.now.items c.requires.place known)
