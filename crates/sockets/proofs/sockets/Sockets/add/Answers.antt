-- The next id joins the others, and no connection is filed.
use Rattle.std.proofs.Common.{◌≡◌, ◌∙◌, ◌+◌, List, refl, sym, ap, subst}
use Rattle.sockets.specs.SocketsView.{SocketsView}
use Rattle.sockets.proofs.Roomy.{places_stay}
use Rattle.sockets.proofs.Ascending.{ascends_pushed}
use Rattle.sockets.proofs.Filed.{index_pushed_none}
use Rattle.sockets.specs.declared.entry.Entry.{Entry}
use Rattle.sockets.specs.Outlook.{IsOutlook}
use Rattle.sockets.proofs.sockets.Sockets.add.Goals as goal

pub invariant_of-self : goal.invariant_of-self
invariant_of-self c =
    let next : c.args.entry.id.0 ≡ c.self.inside.last_id + 1 = c.requires.id ∙ ap (λ (w : SocketsView). w.last_id + 1) (sym c.self.view_is) in (
      (c.self.invariant.0.0, places_stay c.push-2.ensures.most refl refl c.self.invariant.0.1),
      ascends_pushed _ _ _ _ c.args.entry next refl c.push-2.ensures.items c.self.invariant.1,
      index_pushed_none _ _ _ c.args.entry c.self.invariant.2 c.push-2.ensures.items c.requires.unfiled,
      subst (λ (ws : List Entry). IsOutlook c.push.new.self c.self.inside.sizes.entries ws) (sym c.push-2.ensures.items) (c.push.ensures _ _ c.self.invariant.3),
    )
