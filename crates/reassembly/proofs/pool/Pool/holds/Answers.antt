use Rattle.std.proofs.Common.{◌∙◌, ap}
use Rattle.std.specs.List.{list_any}
use Rattle.reassembly.specs.Inside.{PlaceView}
use Rattle.reassembly.specs.Places.{is_of}
use Rattle.reassembly.specs.Reassembly.{PoolView}
use Rattle.reassembly.proofs.Views.{any_of}
use Rattle.reassembly.proofs.pool.Pool.holds.Goals as goal

pub returns : goal.returns
returns c =
    c.is_held.ensures
    ∙ ap (list_any (λ (place : PlaceView). is_of c.args.key place.datagram)) c.deref.ensures.value
    ∙ any_of (is_of c.args.key) c.self.inside.places.items
    ∙ ap (λ (p : PoolView). list_any (is_of c.args.key) p.places) c.self.view_is
