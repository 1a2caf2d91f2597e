-- Why no entry of a host is passed over.
use Rattle.std.proofs.Common.{◌≡◌, ◌≢◌, Bool, Option, Some, None, refl, sym, ◌∙◌, subst}
use Rattle.std.specs.List.{find}
use Rattle.clock.specs.declared.moment.Moment.{Moment}
use Rattle.ipv4.specs.declared.addr.Addr.{Addr}
use Rattle.sockets.specs.declared.entry.Entry.{Entry}
use Rattle.sockets.specs.declared.entry.SocketId.{SocketId}
use Rattle.sockets.specs.Emission.{in_turn, after_segment_sent}
use Rattle.sockets.specs.Entries.{sends}
use Rattle.sockets.specs.SocketsView.{SocketsView, later_moment}
use Rattle.sockets.specs.Turns as table
use Rattle.sockets.proofs.TurnsRound.{IsAhead, begins, passes, sender_is, sender_none, turn_after}
use Rattle.host.specs.Emission.{Emission, Replies, Sends, Asks, Nothing, emission, goes_out_from, after_emission, left_by}
use Rattle.host.specs.HostView.{HostView}
use Rattle.host.specs.Runs.{Event, Calls, Ticks, Delivers, Emits, IsNumbered, Makes, HasRun}
use Rattle.host.specs.Turns.{sender, sender_by, HasFrame, PassesOver, HasWaited, Sent, GoesOn}
use Rattle.host.proofs.Ran.{keeps-ordered}
use Rattle.host.proofs.Tables.{IsQuiet, event-turns}

module _ (first waiting : SocketId) where
  -- whoever sends stands last then
  sent-last : (h : SocketsView) (goes : Addr → Bool) (now : Moment) → table.sender h goes ≡ Some first → IsAhead first waiting (let after = after_segment_sent h goes now in after.turn.0)
  sent-last h goes now is = by_entry (find (in_turn h (sends goes)) h.entries) refl
    where
      by_entry : (x : Option Entry) → find (in_turn h (sends goes)) h.entries ≡ x → IsAhead first waiting (let after = after_segment_sent h goes now in after.turn.0)
      by_entry None found = let bad : ◌≡◌ {A = Option SocketId} None (Some first) = sym (sender_none h goes found) ∙ is in cc
      by_entry (Some z) found =
          let same : Some z.id ≡ Some first = sym (sender_is h goes z found) ∙ is in
          let ids : z.id ≡ first = cc in
          subst (λ (i : SocketId). IsAhead first waiting i.0) (sym (turn_after h goes now z found ∙ ids)) (begins first waiting)

  -- an emission that passes it over leaves it in front, and is not of the first
  emitted : (h : HostView) (now : Moment) → HasRun h → IsAhead first waiting (let t = h.sockets in t.turn.0) → HasFrame waiting h now → sender h now ≢ Some waiting
      → (sender h now ≢ Some first) × IsAhead first waiting (let w = after_emission h now in let t = w.sockets in t.turn.0)
  emitted h now run ahead has other = by_emission (emission h (later_moment h.sockets now)) other
    where
      by_emission : (x : Emission) → sender_by h (later_moment h.sockets now) x ≢ Some waiting
          → (sender_by h (later_moment h.sockets now) x ≢ Some first) × IsAhead first waiting (let w = left_by h (later_moment h.sockets now) x in let t = w.sockets in t.turn.0)
      by_emission (Replies place) apart = (λ is. cc, ahead)
      by_emission (Sends mac to) apart = passes first waiting h.sockets (goes_out_from h (later_moment h.sockets now)) (later_moment h.sockets now) (keeps-ordered h run) ahead has apart
      by_emission (Asks hop) apart = (λ is. cc, ahead)
      by_emission Nothing apart = (λ is. cc, ahead)

  began : (h : HostView) (moment : Moment) (x : Emission) → sender_by h moment x ≡ Some first → IsAhead first waiting (let w = left_by h moment x in let t = w.sockets in t.turn.0)
  began h moment (Replies place) is = let bad : ◌≡◌ {A = Option SocketId} None (Some first) = is in cc
  began h moment (Sends mac to) is = sent-last h.sockets (goes_out_from h moment) moment is
  began h moment (Asks hop) is = let bad : ◌≡◌ {A = Option SocketId} None (Some first) = is in cc
  began h moment Nothing is = let bad : ◌≡◌ {A = Option SocketId} None (Some first) = is in cc

  -- so it stands in front all the while
  waits : (h : HostView) → HasWaited first waiting h → IsAhead first waiting (let t = h.sockets in t.turn.0)
  waits _ (Sent old now run is) = began old (later_moment old.sockets now) (emission old (later_moment old.sockets now)) is
  waits new (GoesOn event old _ waited run sound small makes over) = by_event event small makes over (waits old waited)
    where
      quietly : (e : Event) → IsNumbered e → Makes e old new → IsQuiet e → IsAhead first waiting (let t = old.sockets in t.turn.0) → IsAhead first waiting (let t = new.sockets in t.turn.0)
      quietly e small makes quiet ahead = subst (λ (i : SocketId). IsAhead first waiting i.0) (sym (event-turns e old new sound small makes quiet)) ahead

      by_event : (e : Event) → IsNumbered e → Makes e old new → PassesOver waiting old e → IsAhead first waiting (let t = old.sockets in t.turn.0) → IsAhead first waiting (let t = new.sockets in t.turn.0)
      by_event (Calls call) small makes over ahead = quietly (Calls call) small makes over ahead
      by_event (Ticks now) small makes over ahead = quietly (Ticks now) small makes tt ahead
      by_event (Delivers now isn octets) small makes over ahead = quietly (Delivers now isn octets) small makes tt ahead
      by_event (Emits now) small makes over ahead = subst (λ (w : HostView). IsAhead first waiting (let t = w.sockets in t.turn.0)) (sym makes) (emitted old now run ahead over.0 over.1).1

pub goes_round : (first waiting : SocketId) (h : HostView) (now : Moment) → HasWaited first waiting h → HasRun h → waiting ≢ first → HasFrame waiting h now → sender h now ≢ Some first
goes_round first waiting h now waited run other has is =
    (emitted first waiting h now run (waits first waiting h waited) has (λ its. let both : Some waiting ≡ Some first = sym its ∙ is in let same : waiting ≡ first = cc in other same)).0 is
