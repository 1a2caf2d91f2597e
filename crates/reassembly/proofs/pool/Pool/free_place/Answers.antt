use Rattle.std.proofs.Common.{is_none, ◌∙◌, ap}
use Rattle.std.specs.List.{position}
use Rattle.reassembly.specs.Inside.{PlaceView}
use Rattle.reassembly.specs.Reassembly.{PoolView}
use Rattle.reassembly.proofs.Views.{position_of}
use Rattle.reassembly.proofs.pool.Pool.free_place.Goals as goal

pub returns-clause-value : goal.returns-clause-value
returns-clause-value c =
    c.index_of_free.ensures.value
    ∙ ap (position (λ (place : PlaceView). is_none place.datagram)) c.deref.ensures.value
    ∙ position_of is_none c.self.inside.places.items
    ∙ ap (λ (p : PoolView). position is_none p.places) c.self.view_is
