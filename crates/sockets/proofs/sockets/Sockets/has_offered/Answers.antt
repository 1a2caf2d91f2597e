-- Where the first of those offered has a place that waits at the listener, it is found.
use Rattle.std.proofs.Common.{◌∙◌, ℕ, Option, is_some, sym, ap}
use Rattle.sockets.specs.Entries.{is_waiting_id}
use Rattle.sockets.specs.SocketsView.{SocketsView}
use Rattle.sockets.proofs.Ascending.{lent_in_order}
use Rattle.sockets.proofs.Firsts.{some-place}
use Rattle.sockets.proofs.Offered.{turn-found}
use Rattle.sockets.proofs.sockets.Sockets.has_offered.Goals as goal

pub returns : goal.returns
returns c =
    let h : SocketsView = c.args.self.now in
    let turn = turn-found _ h c.args.id _ _ _ c.self.view_is c.deref.ensures.0 c.deref-2.ensures.0 c.next_offered.ensures in
    c.is_some.ensures ∙ ap (λ (o : Option ℕ). is_some o) (sym turn) ∙ some-place (is_waiting_id h.entries c.args.id) h.offered

-- the entries that are lent stand in order
pub next_offered-requires : goal.next_offered-requires
next_offered-requires c = lent_in_order _ _ _ c.deref-2.ensures.0 c.self.invariant.1
