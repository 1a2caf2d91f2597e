-- What was accepted and read in a run is what its trace tells.
use Rattle.std.proofs.Common.{◌≡◌, ℕ, true, false, Bool, cond, List, [], ◌∷◌, ◌++◌, append-nil, append_assoc, map, refl, sym, ◌∙◌, ap}
use Rattle.std.proofs.lemmas.List.{map-append}
use Rattle.ipv4.specs.declared.addr.Endpoint.{Endpoint}
use Rattle.sockets.specs.SocketsView.{SocketsView}
use Rattle.datagram_law.specs.Accepted.{Accepted}
use Rattle.sides.specs.declared.side.Side.{Side}
use Rattle.wire_sim.specs.declared.event.Call.{Call}
use Rattle.wire_sim.specs.declared.event.Call.TheVariants as call
use Rattle.wire_sim.specs.declared.event.Event.{Event}
use Rattle.wire_sim.specs.declared.event.Event.TheVariants as event
use Rattle.wire_sim.specs.declared.event.Answer.{Answer}
use Rattle.wire_sim.specs.declared.event.Answer.TheVariants as reply
use Rattle.wire_sim.specs.declared.event.Happening.{Happening}
use Rattle.wire_sim.specs.Datagrams.{ReadDatagram, accepted_by, accepted_by_call, read_by, read_by_call, accepted_in, read_in, sent_by_call, read_from_call, told_by_call, told_in, EveryDatagramIsTraced}
use Rattle.wire_sim.specs.Runs.{begins, goes_on}
use Rattle.sides.specs.Sides.{same_side}
use Rattle.wire_sim.specs.WorldView.{WorldView, table_of}

-- one thing more that happened
told-more : (told : Call → Answer → List (Endpoint × List ℕ)) (side : Side) (trace : List Happening) (h : Happening) → told_in told side (trace ++ h ∷ []) ≡ told_in told side trace ++ told_by_call told side h.event h.answer
told-more told side [] h = append-nil (told_by_call told side h.event h.answer)
told-more told side (x ∷ trace) h =
    ap (λ rest. told_by_call told side x.event x.answer ++ rest) (told-more told side trace h)
    ∙ sym (append_assoc (told_by_call told side x.event x.answer) (told_in told side trace) (told_by_call told side h.event h.answer))

-- what is told of one that was accepted, and of one that was read
abbrev sent_of : Accepted → Endpoint × List ℕ
sent_of a = (a.peer, a.octets)

abbrev read_of : ReadDatagram → Endpoint × List ℕ
read_of r = (r.from, r.octets)

sent-told : (c : Call) (answer : Answer) (old new : SocketsView) → map sent_of (accepted_by_call c answer old new) ≡ sent_by_call c answer
sent-told (call.SendTo id peer octets) (reply.Sent count) old new = refl
sent-told c answer old new = refl

read-told : (c : Call) (answer : Answer) (old : SocketsView) → map read_of (read_by_call c answer old) ≡ read_from_call c answer
read-told (call.RecvFrom id len) (reply.Datagram octets from) old = refl
read-told c answer old = refl

sent-event : (side : Side) (happens : Event) (answer : Answer) (old new : WorldView) → map sent_of (accepted_by side happens answer old new) ≡ told_by_call sent_by_call side happens answer
sent-event side (event.Call at c) answer old new = by_side (same_side at side)
  where
    by_side : (b : Bool) → map sent_of (cond b (accepted_by_call c answer (table_of old.network at) (table_of new.network at)) []) ≡ cond b (sent_by_call c answer) []
    by_side true = sent-told c answer (table_of old.network at) (table_of new.network at)
    by_side false = refl
sent-event side (event.Tick at moment) answer old new = refl
sent-event side (event.Emit at) answer old new = refl
sent-event side (event.Deliver at index isn) answer old new = refl

read-event : (side : Side) (happens : Event) (answer : Answer) (old : WorldView) → map read_of (read_by side happens answer old) ≡ told_by_call read_from_call side happens answer
read-event side (event.Call at c) answer old = by_side (same_side at side)
  where
    by_side : (b : Bool) → map read_of (cond b (read_by_call c answer (table_of old.network at)) []) ≡ cond b (read_from_call c answer) []
    by_side true = read-told c answer (table_of old.network at)
    by_side false = refl
read-event side (event.Tick at moment) answer old = refl
read-event side (event.Emit at) answer old = refl
read-event side (event.Deliver at index isn) answer old = refl

-- of every run
pub traces-tell : EveryDatagramIsTraced
traces-tell limit _ (begins a b a_is b_is apart small) side = (refl, refl)
traces-tell limit _ (goes_on w v happens answer run step) side =
    let h : Happening = record { event = happens; answer = answer } in
    let before = traces-tell limit w run side in (
      map-append sent_of (accepted_in limit w run side) (accepted_by side happens answer w v)
          ∙ (ap (λ xs. xs ++ map sent_of (accepted_by side happens answer w v)) before.0
          ∙ (ap (λ xs. told_in sent_by_call side w.trace ++ xs) (sent-event side happens answer w v)
          ∙ (sym (told-more sent_by_call side w.trace h) ∙ ap (told_in sent_by_call side) (sym step.trace)))),
      map-append read_of (read_in limit w run side) (read_by side happens answer w)
          ∙ (ap (λ xs. xs ++ map read_of (read_by side happens answer w)) before.1
          ∙ (ap (λ xs. told_in read_from_call side w.trace ++ xs) (read-event side happens answer w)
          ∙ (sym (told-more read_from_call side w.trace h) ∙ ap (told_in read_from_call side) (sym step.trace)))),
    )
