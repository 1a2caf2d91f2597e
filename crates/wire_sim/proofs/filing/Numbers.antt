-- An opening that is looked for is filed under the number that it is looked for by.
use Rattle.std.proofs.Common.{◌≡◌, ℕ, true, ap, ◌∙◌}
use Rattle.ipv4.specs.declared.addr.Pair.{Pair}
use Rattle.sockets.specs.declared.entry.SocketId.{SocketId}
use Rattle.sides.specs.declared.side.Side.{Side}
use Rattle.wire_sim.specs.declared.event.Opening.{Opening}
use Rattle.wire_sim.specs.Tallies.{same_pair, is_opening_of, is_opening_at}
use Rattle.wire_sim.specs.Filing.{pair_number, epoch_number, by_pair, by_epoch, by_socket}
use Rattle.wire_sim.proofs.openings.OpeningIsFound.{opening-of_parts, opening-at_parts}
use Rattle.wire_sim.proofs.tables.PairOfPorts.{same_pair-true}

pub pair-filed : (pair : Pair) (o : Opening) → same_pair o.pair pair ≡ true → by_pair o ≡ pair_number pair
pair-filed pair o is = ap pair_number (same_pair-true o.pair pair is)

pub epoch-filed : (side : Side) (pair : Pair) (epoch : ℕ) (o : Opening) → is_opening_of side pair epoch o ≡ true → by_epoch o ≡ epoch_number pair epoch
epoch-filed side pair epoch o is =
    let parts = opening-of_parts side pair epoch o is in
    ap (λ (p : Pair). epoch_number p o.epoch) parts.1 ∙ ap (epoch_number pair) parts.2

pub socket-filed : (side : Side) (id : SocketId) (o : Opening) → is_opening_at side id o ≡ true → by_socket o ≡ id.0
socket-filed side id o is = ap (λ (i : SocketId). i.0) (opening-at_parts side id o is).1
