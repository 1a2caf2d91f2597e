-- A copy of an event is the same event.
use Rattle.std.proofs.Common.{Some, None}
use Rattle.std.proofs.lemmas.List.Elements.{same_from_all_zip}
use Rattle.wire_sim.specs.declared.event.Call.TheVariants as call
use Rattle.wire_sim.specs.declared.event.Event.{Event}
use Rattle.wire_sim.specs.declared.event.Event.TheVariants as event
use Rattle.wire_sim.specs.Runs.{SameEvent}
use Rattle.wire_sim.specs.contracts.event.EventClone.TheImpl.{by_variants}

-- the copy of an event says the same
pub cloned : (e x : Event) → by_variants e x → SameEvent x e
cloned (event.Call s (call.Socket ka)) (event.Call t (call.Socket kb)) is = (is.0, let e0 = is.1 in cc)
cloned (event.Call s (call.Bind ia la)) (event.Call t (call.Bind ib lb)) is = (is.0, let e0 = is.1.0 in let e1 = is.1.1 in cc)
cloned (event.Call s (call.Listen ia na)) (event.Call t (call.Listen ib nb)) is = (is.0, let e0 = is.1.0 in let e1 = is.1.1 in cc)
cloned (event.Call s (call.Accept ia)) (event.Call t (call.Accept ib)) is = (is.0, let e0 = is.1 in cc)
cloned (event.Call s (call.Connect na ia pa)) (event.Call t (call.Connect nb ib pb)) is = (is.0, let e0 = is.1.0 in let e1 = is.1.1.0 in let e2 = is.1.1.1 in cc)
cloned (event.Call s (call.Send ia oa)) (event.Call t (call.Send ib ob)) is = (is.0, (is.1.0, same_from_all_zip _ oa.items ob.items is.1.1.0 (λ x y r. r)))
cloned (event.Call s (call.Recv ia na)) (event.Call t (call.Recv ib nb)) is = (is.0, let e0 = is.1.0 in let e1 = is.1.1 in cc)
cloned (event.Call s (call.SendTo ia pa oa)) (event.Call t (call.SendTo ib pb ob)) is = (is.0, (is.1.0, is.1.1.0, same_from_all_zip _ oa.items ob.items is.1.1.1.0 (λ x y r. r)))
cloned (event.Call s (call.RecvFrom ia na)) (event.Call t (call.RecvFrom ib nb)) is = (is.0, let e0 = is.1.0 in let e1 = is.1.1 in cc)
cloned (event.Call s (call.Shutdown ia)) (event.Call t (call.Shutdown ib)) is = (is.0, let e0 = is.1 in cc)
cloned (event.Call s (call.SetNoDelay ia oa)) (event.Call t (call.SetNoDelay ib ob)) is = (is.0, let e0 = is.1.0 in let e1 = is.1.1 in cc)
cloned (event.Call s (call.SetKeepAlive ia None)) (event.Call t (call.SetKeepAlive ib None)) is = (is.0, let e0 = is.1.0 in cc)
cloned (event.Call s (call.SetKeepAlive ia (Some ea))) (event.Call t (call.SetKeepAlive ib (Some eb))) is = (is.0, let e0 = is.1.0 in let e1 = is.1.1 in cc)
cloned (event.Call s (call.SetKeepAlive ia None)) (event.Call t (call.SetKeepAlive ib (Some eb))) is = absurd is.1.1
cloned (event.Call s (call.SetKeepAlive ia (Some ea))) (event.Call t (call.SetKeepAlive ib None)) is = absurd is.1.1
cloned (event.Call s (call.Close ia)) (event.Call t (call.Close ib)) is = (is.0, let e0 = is.1 in cc)
cloned (event.Call s (call.Abort ia)) (event.Call t (call.Abort ib)) is = (is.0, let e0 = is.1 in cc)
cloned (event.Call s (call.GiveWay ia)) (event.Call t (call.GiveWay ib)) is = (is.0, let e0 = is.1 in cc)
cloned (event.Call s (call.State ia)) (event.Call t (call.State ib)) is = (is.0, let e0 = is.1 in cc)
cloned (event.Call s (call.Ready ia)) (event.Call t (call.Ready ib)) is = (is.0, let e0 = is.1 in cc)
cloned (event.Call s (call.Info ia)) (event.Call t (call.Info ib)) is = (is.0, let e0 = is.1 in cc)
cloned (event.Call s (call.SockName ia)) (event.Call t (call.SockName ib)) is = (is.0, let e0 = is.1 in cc)
cloned (event.Call s (call.PeerName ia)) (event.Call t (call.PeerName ib)) is = (is.0, let e0 = is.1 in cc)
cloned (event.Call s a) (event.Call t b) is = absurd is.1
cloned (event.Tick sa ma) (event.Tick sb mb) is = let e0 = is.0 in let e1 = is.1 in cc
cloned (event.Emit sa) (event.Emit sb) is = let e0 = is in cc
cloned (event.Deliver sa ka na) (event.Deliver sb kb nb) is = let e0 = is.0 in let e1 = is.1.0 in let e2 = is.1.1 in cc
cloned e x is = elim is [ ]
