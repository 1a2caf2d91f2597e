use Rattle.std.proofs.Common.{refl, subst}
use Rattle.decode.specs.Layers.{IsPayloadShown, dropped}
use Rattle.decode.specs.declared.unreadable.Unreadable.TheVariants.{OtherType}
use Rattle.decode.proofs.LayerLemmas.{shows-drop}
use Rattle.decode.proofs.layers.show_payload.Goals as goal

pub returns-in-Other : goal.returns-in-Other
returns-in-Other c = (dropped OtherType, subst (λ carried. IsPayloadShown carried c.args.octets.now (dropped OtherType)) c.in-Other.ensures refl, shows-drop OtherType _)
