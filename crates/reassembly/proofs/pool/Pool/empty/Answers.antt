use Rattle.std.proofs.Common.{None, slice_set, ◌∙◌, ap}
use Rattle.std.proofs.lemmas.List.{map-set}
use Rattle.reassembly.specs.Inside.{PlaceView, datagrams}
use Rattle.reassembly.specs.Reassembly.{PoolView}
use Rattle.reassembly.proofs.Views.{pool_shown}
use Rattle.reassembly.proofs.pool.Pool.empty.Goals as goal

pub returns : goal.returns
returns c =
    pool_shown c.self.inside.octets (datagrams (slice_set c.self.inside.places.items c.args.i c.empty.new.self))
    (slice_set c.args.self.now.places c.args.i None) c.args.self.now (ap (λ (p : PoolView). p.octets) c.self.view_is)
    (map-set (λ (p : PlaceView). p.datagram) c.self.inside.places.items c.args.i c.empty.new.self
    ∙ ap (λ (p : PoolView). slice_set p.places c.args.i c.empty.new.self.datagram) c.self.view_is
    ∙ ap (λ (p : PlaceView). slice_set c.args.self.now.places c.args.i p.datagram) c.empty.ensures)
