-- The place behind all that stand before it is its own.
use Rattle.std.proofs.Common.{Option, ◌∙◌, ap, sym, subst}
use Rattle.sockets.specs.Index.{AreSorted, with_filed}
use Rattle.sockets.specs.declared.index.Filed.{Filed}
use Rattle.sockets.proofs.Filed.{filed_there}
use Rattle.sockets.proofs.index.file.Goals as goal

pub place_for-place-requires : goal.place_for-place-requires
place_for-place-requires c = subst AreSorted (sym c.deref.ensures.0) c.requires.sorted

pub returns-clause-items : goal.returns-clause-items
returns-clause-items c =
    c.insert.ensures.items
    ∙ filed_there c.in-Some.filed c.args.index.now.items _ c.place_for-place.result c.requires.sorted c.deref.ensures.0 c.place_for-place.ensures.within
    (λ parted. c.place_for-place.ensures.place)
    ∙ ap (λ (o : Option Filed). with_filed o c.args.index.now.items) (sym c.in-Some.is)
