use Rattle.std.proofs.Common.{◌≡◌, ◌+◌, arith, length, subst, vec_len}
use Rattle.wire_sim.specs.WorldRoom.{RoomyWorld}
use Rattle.wire_sim.specs.WorldView.{network_view}
use Rattle.wire_sim.proofs.rounds.ReadsInTurn.{HasRead, read_none, read_more}
use Rattle.wire_sim.proofs.runs.RoomLasts.{keeps-all, keeps-on}
use Rattle.wire_sim.proofs.world.World.read_all.Goals as goal

pub loop-octets-init : goal.loop-octets-init
loop-octets-init c =
    record {
      read = subst (λ (v : RoomyWorld). HasRead c.args.side c.args.id 0 v.seen v.seen) c.self.view_is
          (read_none c.args.side c.args.id (record { network = network_view c.self.inside.network; trace = c.self.inside.trace.items }) c.sound.ensures.a c.sound.ensures.b);
      room = keeps-all c.args.self.now.room;
    }

pub loop-octets-smaller : goal.loop-octets-smaller
loop-octets-smaller c =
    let more = read_more c.args.side c.args.id c.loop-octets.count _ c.in-Octets.octets _ _ _ c.in-Octets.is c.loop-octets.invariant.read c.in_ok-octets.ensures.taken in
    omega (arith, more.fewer.some, more.fewer.fewer)

pub loop-octets-preserved : goal.loop-octets-preserved
loop-octets-preserved c =
    let more = read_more c.args.side c.args.id c.loop-octets.count _ c.in-Octets.octets _ _ _ c.in-Octets.is c.loop-octets.invariant.read c.in_ok-octets.ensures.taken in
    let as_many : length c.in-Octets.octets.items ≡ vec_len c.in-Octets.octets = omega (arith, c.in-Octets.octets.ok) in
    record {
      read = rw c.len.ensures (subst (λ n. HasRead c.args.side c.args.id (c.loop-octets.count + n) c.args.self.now.seen c.step.new.self.seen) as_many more.read);
      room = keeps-on c.loop-octets.invariant.room c.step.ensures.room;
    }
