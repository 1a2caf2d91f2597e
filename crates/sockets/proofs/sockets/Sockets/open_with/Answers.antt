use Rattle.std.proofs.Common.{◌≡◌, ◌≤◌, length, refl, ap, sym, subst, arith, List}
use Rattle.sockets.specs.declared.entry.Entry.{Entry}
use Rattle.sockets.specs.SocketsView.{SocketsView}
use Rattle.sockets.specs.Index.{index_of}
use Rattle.sockets.proofs.Roomy.{places_stay}
use Rattle.sockets.proofs.Ascending.{ascends_pushed}
use Rattle.sockets.proofs.Filed.{index_pushed, sorted_index, length_index}
use Rattle.sockets.specs.Outlook.{IsOutlook}
use Rattle.sockets.proofs.sockets.Sockets.open_with.Goals as goal

-- the next id joins the others, and its connection is filed
pub invariant_of-self : goal.invariant_of-self
invariant_of-self c =
    let xs : List Entry = c.self.inside.entries.items in (
      (c.self.invariant.0.0, places_stay c.push-2.ensures.most c.refile.ensures.most refl c.self.invariant.0.1),
      ascends_pushed _ _ _ _ c.passive-entry.result refl (ap (λ (e : Entry). e.id.0) c.passive-entry.ensures) c.push-2.ensures.items c.self.invariant.1,
      index_pushed _ xs _ c.passive-entry.result c.push-2.ensures.items (c.refile.ensures.items (index_of xs) (sorted_index xs) c.self.invariant.2),
      subst (λ (ws : List Entry). IsOutlook c.push.new.self c.self.inside.sizes.entries ws) (sym c.push-2.ensures.items) (c.push.ensures _ _ c.self.invariant.3),
    )

-- there is room to file it
pub refile-requires : goal.refile-requires
refile-requires c =
    let xs : List Entry = c.self.inside.entries.items in
    let most : length (index_of xs) ≤ length xs = length_index xs in
    let entries : length xs ≡ length c.args.self.now.entries = ap (λ (w : SocketsView). length w.entries) c.self.view_is in
    let sizes : c.self.inside.sizes.entries ≡ (let s = c.args.self.now.sizes in s.entries) = ap (λ (w : SocketsView). w.sizes.entries) c.self.view_is in
    (index_of xs, sorted_index xs, c.self.invariant.2, omega (arith, c.requires.place, c.self.invariant.0.1.ends))
