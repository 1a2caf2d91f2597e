use Rattle.std.proofs.Common.{refl, subst, sym, ap}
use Rattle.std.proofs.lemmas.Result.{IfOk-weaker}
use Rattle.decode.specs.Lines.{ipv4_line}
use Rattle.decode.specs.Layers.{IsDatagramShown, above, dropped}
use Rattle.decode.proofs.LayerLemmas.{shows-drop, shows-above}
use Rattle.decode.proofs.layers.show_datagram.Goals as goal

pub returns-in_ok-push_ipv4-in-Ok : goal.returns-in_ok-push_ipv4-in-Ok
returns-in_ok-push_ipv4-in-Ok c =
    IfOk-weaker c.show_upper.result _ _ (λ cause rest. (
      above (ipv4_line c.in-Ok.datagram) rest.0,
      subst (λ read. IsDatagramShown read (above (ipv4_line c.in-Ok.datagram) rest.0)) (sym c.in-Ok.is) (rest.0, rest.1, refl),
      shows-above rest.0 cause (ipv4_line c.in-Ok.datagram) _ _ _ c.in_ok-push_ipv4-in-Ok.ensures rest.2,
    )) c.show_upper.ensures

pub returns-in-Err : goal.returns-in-Err
returns-in-Err c = (
  dropped c.ipv4_cause.result,
  subst (λ read. IsDatagramShown read (dropped c.ipv4_cause.result)) (sym c.in-Err.is) (ap dropped c.ipv4_cause.ensures),
  shows-drop c.ipv4_cause.result _,
)
