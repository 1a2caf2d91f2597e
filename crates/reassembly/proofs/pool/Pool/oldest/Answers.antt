use Rattle.std.proofs.Common.{◌∙◌, ap}
use Rattle.std.specs.List.{position}
use Rattle.reassembly.specs.Inside.{PlaceView, datagrams}
use Rattle.reassembly.specs.Places.{is_oldest, oldest}
use Rattle.reassembly.specs.Reassembly.{PoolView}
use Rattle.reassembly.proofs.Views.{position_of}
use Rattle.reassembly.proofs.pool.Pool.oldest.Goals as goal

pub returns-clause-value : goal.returns-clause-value
returns-clause-value c =
    c.index_of_oldest.ensures.value
    ∙ ap (λ places. position (λ (place : PlaceView). is_oldest (datagrams places) place.datagram) places) c.deref.ensures.value
    ∙ position_of (is_oldest (datagrams c.self.inside.places.items)) c.self.inside.places.items
    ∙ ap (λ (p : PoolView). oldest p.places) c.self.view_is
