use Rattle.std.proofs.Common.{◌∙◌, ap}
use Rattle.std.specs.List.{position}
use Rattle.reassembly.specs.Inside.{PlaceView}
use Rattle.reassembly.specs.Places.{is_of}
use Rattle.reassembly.specs.Reassembly.{PoolView}
use Rattle.reassembly.proofs.Views.{position_of}
use Rattle.reassembly.proofs.pool.Pool.place_of.Goals as goal

pub returns-clause-value : goal.returns-clause-value
returns-clause-value c =
    c.index_of.ensures.value
    ∙ ap (position (λ (place : PlaceView). is_of c.args.key place.datagram)) c.deref.ensures.value
    ∙ position_of (is_of c.args.key) c.self.inside.places.items
    ∙ ap (λ (p : PoolView). position (is_of c.args.key) p.places) c.self.view_is
