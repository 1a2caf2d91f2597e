use Rattle.std.proofs.Common.{refl, subst}
use Rattle.decode.specs.Layers.{IsUpperShown, nothing}
use Rattle.decode.proofs.LayerLemmas.{shows-nothing}
use Rattle.decode.proofs.layers.show_upper.Goals as goal

pub returns-in-Unread : goal.returns-in-Unread
returns-in-Unread c = (nothing, subst (λ upper. IsUpperShown upper c.args.datagram.now nothing) c.in-Unread.ensures refl, shows-nothing _)
