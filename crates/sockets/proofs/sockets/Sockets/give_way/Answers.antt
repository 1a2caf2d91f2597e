-- The one entry that the id names goes, or none does.
use Rattle.std.proofs.Common.{refl, ◌≡◌, ◌∙◌, List, Some, None, sym, ap}
use Rattle.std.specs.List.{position, remove}
use Rattle.tcp_state.specs.declared.connection.Fate.TheVariants.{Removed}
use Rattle.sockets.specs.declared.entry.Entry.{Entry}
use Rattle.sockets.specs.GiveWay.{gives_way, after_giving_way}
use Rattle.sockets.specs.Ids.{has_id}
use Rattle.sockets.specs.Lists.{remove_first}
use Rattle.sockets.specs.SocketsView.{SocketsView}
use Rattle.sockets.specs.contracts.sockets.Sockets.{the_view}
use Rattle.sockets.proofs.Roomy.{places_stay}
use Rattle.sockets.proofs.Ascending.{ascends_settled, lent_in_order}
use Rattle.sockets.proofs.Firsts.{remove_first-position, found_by_place, find-position_none}
use Rattle.sockets.proofs.GivenRoom.{unremoved}
use Rattle.sockets.proofs.sockets.Sockets.give_way.Goals as goal

-- the entries that are lent stand in order
pub giving_way-requires : goal.giving_way-requires
giving_way-requires c = lent_in_order _ _ _ c.deref.ensures.0 c.self.invariant.1

-- the others stay in order
pub invariant_of-self : goal.invariant_of-self
invariant_of-self c = ((c.self.invariant.0.0, places_stay c.settle.ensures.most.0 c.settle.ensures.most.1 refl c.self.invariant.0.1), ascends_settled _ Removed _ _ _ c.self.invariant.1 c.settle.ensures.entries, c.settle.ensures.index, c.settle.ensures.known _ c.self.invariant.3)

pub returns-in-Some : goal.returns-in-Some
returns-in-Some c =
    let Q : Entry → _ = gives_way (has_id c.args.id) in
    let xs : List Entry = c.self.inside.entries.items in
    let at : position Q xs ≡ Some c.in-Some.place = ap (position Q) (sym c.deref.ensures.0) ∙ sym c.giving_way.ensures ∙ c.in-Some.is in
    let gone : remove xs c.in-Some.place ≡ remove_first Q xs = sym (remove_first-position Q xs c.in-Some.place (found_by_place Q xs c.in-Some.place at).0 at) in
    ap (λ (es : List Entry). let w : SocketsView = record (the_view c.self.inside) { entries = es } in w) (c.settle.ensures.entries ∙ gone) ∙ ap (λ (h : SocketsView). after_giving_way h (has_id c.args.id)) c.self.view_is

pub returns-in-None : goal.returns-in-None
returns-in-None c =
    let Q : Entry → _ = gives_way (has_id c.args.id) in
    let xs : List Entry = c.self.inside.entries.items in
    let none : position Q xs ≡ None = ap (position Q) (sym c.deref.ensures.0) ∙ sym c.giving_way.ensures ∙ c.in-None.is in
    let stays : remove_first Q xs ≡ xs = unremoved Q xs (find-position_none Q xs none) in
    sym c.self.view_is ∙ ap (λ (es : List Entry). let w : SocketsView = record (the_view c.self.inside) { entries = es } in w) (sym stays) ∙ ap (λ (h : SocketsView). after_giving_way h (has_id c.args.id)) c.self.view_is

pub settle-requires-clause-known : goal.settle-requires-clause-known
settle-requires-clause-known c = (c.self.inside.sizes.entries, c.self.invariant.3)
