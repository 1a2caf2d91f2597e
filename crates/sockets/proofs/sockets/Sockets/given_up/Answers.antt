-- The datagrams of the table that are given up are those of each entry, added up.
use Rattle.std.proofs.Common.{ap, arith}
use Rattle.sockets.specs.SocketsView.{SocketsView}
use Rattle.sockets.proofs.Outboxes.{given_in, owed_in}
use Rattle.sockets.proofs.sockets.Sockets.given_up.Goals as goal

pub returns : goal.returns
returns g c = λ test computes.
    let told = c.given_up_in.ensures test computes in
    let at = c.later_moment-now.ensures in
    let table = ap (λ (w : SocketsView). w.entries) c.self.view_is in
    (owed_in c.args.self.now test c.args.now _ _ _ told.0 at table, given_in c.args.self.now test c.args.now _ _ _ told.1 at table)

pub given_up_in-requires-clause-few : goal.given_up_in-requires-clause-few
given_up_in-requires-clause-few g c = omega (arith, c.len-held.ensures.fits, c.self.invariant.0.1.entries, c.self.invariant.0.1.sized.most_entries)
