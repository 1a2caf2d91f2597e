-- The connection that the first id of those offered names which waits at the listener.
use Rattle.std.proofs.Common.{◌∙◌}
use Rattle.sockets.specs.Entries.{is_waiting_id}
use Rattle.sockets.specs.SocketsView.{SocketsView}
use Rattle.sockets.specs.Calls.{is_next_at}
use Rattle.sockets.proofs.Firsts.{find-position_none}
use Rattle.sockets.proofs.Offered.{next-none, next-place, turn-found}
use Rattle.sockets.proofs.Ascending.{lent_in_order}
use Rattle.sockets.proofs.sockets.Sockets.next_accepted.Goals as goal

pub returns-in_default-clause-none : goal.returns-in_default-clause-none
returns-in_default-clause-none c = λ none.
    let h : SocketsView = c.args.self.now in
    let turn = turn-found _ h c.args.id _ _ _ c.self.view_is c.deref.ensures.0 c.deref-2.ensures.0 c.next_offered.ensures in
    next-none h c.args.id (find-position_none (is_waiting_id h.entries c.args.id) h.offered (turn ∙ c.in_default.is))

pub returns-in_default-waiting_as-clause-none : goal.returns-in_default-waiting_as-clause-none
returns-in_default-waiting_as-clause-none c = λ none.
    let h : SocketsView = c.args.self.now in
    let turn = turn-found _ h c.args.id _ _ _ c.self.view_is c.deref.ensures.0 c.deref-2.ensures.0 c.next_offered.ensures in
    find-position_none (is_next_at h c.args.id) h.entries
    (next-place _ h c.args.id c.in-Some.turn _ _ _ _ c.self.view_is (turn ∙ c.in-Some.is) c.deref-3.ensures.0 c.deref-4.ensures.0 c.waiting_as.ensures ∙ c.in_default-waiting_as.is)

pub returns-clause-place : goal.returns-clause-place
returns-clause-place c =
    let h : SocketsView = c.args.self.now in
    let turn = turn-found _ h c.args.id _ _ _ c.self.view_is c.deref.ensures.0 c.deref-2.ensures.0 c.next_offered.ensures in
    next-place _ h c.args.id c.in-Some.turn _ _ _ _ c.self.view_is (turn ∙ c.in-Some.is) c.deref-3.ensures.0 c.deref-4.ensures.0 c.waiting_as.ensures ∙ c.in-Some-waiting_as.is

-- the entries that are lent stand in order
pub next_offered-requires : goal.next_offered-requires
next_offered-requires c = lent_in_order _ _ _ c.deref-2.ensures.0 c.self.invariant.1

pub waiting_as-requires : goal.waiting_as-requires
waiting_as-requires c = lent_in_order _ _ _ c.deref-4.ensures.0 c.self.invariant.1
