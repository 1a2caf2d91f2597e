use Rattle.std.proofs.Common.{◌≡◌, refl, subst, Ok, Err}
use Rattle.std.proofs.lemmas.Result.{IfOk-weaker}
use Rattle.ether.specs.Frame.{IsParsed}
use Rattle.ether.specs.declared.view.FrameFault.{FrameFault}
use Rattle.ether.specs.declared.view.FrameFault.TheVariants as frame
use Rattle.decode.specs.Lines.{ether_line}
use Rattle.decode.specs.Layers.{above, dropped}
use Rattle.decode.specs.declared.unreadable.Unreadable.TheVariants.{Short}
use Rattle.decode.proofs.LayerLemmas.{shows-drop, shows-above}
use Rattle.decode.proofs.layers.show_frame.Goals as goal

pub returns-in_ok-push_ether-in-Ok : goal.returns-in_ok-push_ether-in-Ok
returns-in_ok-push_ether-in-Ok c =
    IfOk-weaker c.show_payload.result _ _ (λ cause rest. (
      above (ether_line c.in-Ok.frame) rest.0,
      (Ok c.in-Ok.frame, c.in-Ok.ensures.parsed, (rest.0, rw c.kind.ensures at rw c.payload.ensures at rest.1, refl)),
      shows-above rest.0 cause (ether_line c.in-Ok.frame) _ _ _ c.in_ok-push_ether-in-Ok.ensures rest.2,
    )) c.show_payload.ensures

is-short : (fault : FrameFault) → fault ≡ frame.Short
is-short frame.Short = refl

pub returns-in-Err-Short : goal.returns-in-Err-Short
returns-in-Err-Short c = (dropped Short, (Err frame.Short, subst (λ fault. IsParsed c.args.octets.now (Err fault)) (is-short c.in-Err-Short.field-0) c.in-Err-Short.ensures.parsed, refl), shows-drop Short _)
