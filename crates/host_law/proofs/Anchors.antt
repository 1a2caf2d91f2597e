-- Positions are counted from the peer's SYN.
use Rattle.std.proofs.Common.{◌≡◌, ◌⊎◌, ◌+◌, ◌%◌, ◌^◌, if◌then◌else◌, true, false, List, [], ◌∷◌, Option, Some, None, is_some, inl, inr, arith, refl, sym, ◌∙◌, ap, subst}
use Rattle.clock.specs.declared.moment.Moment.{Moment}
use Rattle.tcp_segment.specs.Segment.{Segment}
use Rattle.tcp_segment.specs.Wire.{past, wire}
use Rattle.tcp_halves.specs.Halves.{Sending}
use Rattle.tcp_halves.proofs.Choices.{either, by, clash}
use Rattle.tcp_state.specs.Arrival.{after_segment, after_segment_at, is_lost, after_lost}
use Rattle.tcp_state.specs.Calls.{after_send, after_recv, after_shutdown, after_close}
use Rattle.tcp_state.specs.Due.{first_due}
use Rattle.tcp_state.specs.Edges.{Event, Hears, Emits, Sends, Receives, Shuts, Closes, after_event, after_first}
use Rattle.tcp_state.specs.View.{View, IsSound, is_closed, is_syn_sent}
use Rattle.tcp_state.proofs.Segments.{by_clock}
use Rattle.tcp_state.proofs.StillStreams.{emissions_leave}
use Rattle.guard_law.proofs.Opening.{stays}
use Rattle.sockets.specs.declared.entry.SocketId.{SocketId}
use Rattle.host.specs.ConfigView.{ConfigView}
use Rattle.host.specs.HostView.{HostView, new_host}
use Rattle.host_law.specs.Coming.{IsHeard, AtListener, InSynSent}
use Rattle.host_law.specs.History.{Step, connection_of}
use Rattle.host_law.specs.HostLaw.{CountsFromSyn}
use Rattle.host_law.specs.Positions.{taken_in, rcv_nxt}
use Rattle.host_law.proofs.Befalls as befalls
use Rattle.host_law.proofs.Befalls.{Befalls, IsGone, IsOfConnection, Quietly}
use Rattle.host_law.proofs.SendingHalf.{Syns, each_segment, meets_syn, quiet}
use Rattle.host_law.proofs.Windows.{Leaves, unmoved, closing, sent, received, closed}

-- None comes to SYN-SENT.

abbrev Back : View → View → Type 0
Back v w = is_syn_sent w.state ≡ true → is_syn_sent v.state ≡ true

back : (v : View) (e : Event) → Back v (after_event v e)
back v e waits = by (is_syn_sent v.state ≡ true) (is_syn_sent v.state) (λ is. is) (λ past. clash (is_syn_sent (after_event v e).state) waits (stays v e past).past)

quietly_back : (v w : View) → Quietly v w → Back v w
quietly_back v _ (befalls.stays _) waits = waits
quietly_back v w (befalls.moves _ _ e is rest) waits = back v e (quietly_back (after_event v e) w rest waits)

-- A segment.

-- a connection that lives past SYN-SENT did so, or this is the SYN that it waited for
abbrev Meets : View → Segment → View → Type 0
Meets v s w = is_closed w.state ≡ false → is_syn_sent w.state ≡ false
    → ((is_syn_sent v.state ≡ false) × (is_closed v.state ≡ false)) ⊎ (Syns v s × (w.receiving.rnext ≡ (s.number + 1) % 2 ^ 32))

met : (v : View) (s : Segment) → is_closed v.state ≡ false → Meets v s (after_segment v s)
met v s lives = each_segment (Meets v s) v s (record {
  dropped = λ on heard. inl (heard, lives);
  drawn = λ on heard. inl (heard, lives);
  reset = λ on heard. cc;
  crossed = λ syns on heard. inr (syns, refl);
  opened = λ on syns right lives heard. inr (syns, refl);
  acknowledged = λ on used lives heard. inl (used.synchronised, on);
  read = λ on used lives heard. inl (used.synchronised, on);
})

meets : (v : View) (s : Segment) (now : Moment) → Meets v s (after_segment_at v s now)
meets v s now = by_clock (Meets v s) v s now (λ lives heard. inl (heard, lives))
    (λ lives. either View (Meets v s) (is_lost v s) (after_lost v s) (after_segment v s) (λ lost on heard. cc) (λ kept. met v s lives))

-- Over the steps of a host.

pub record IsAnchored (c : ConfigView) (id : SocketId) (h : HostView) (steps : List Step) : Type 0 where
  pub waits : (v : View) → connection_of id h ≡ Some v → is_syn_sent v.state ≡ true → rcv_nxt id steps ≡ 1
  pub counts : (v : View) → connection_of id h ≡ Some v → IsSound v → is_closed v.state ≡ false → is_syn_sent v.state ≡ false → CountsFromSyn c id steps v
  pub absent : connection_of id h ≡ None → IsGone id h ⊎ (rcv_nxt id steps ≡ 1)

pub unanchored : (c : ConfigView) (id : SocketId) → IsAnchored c id (new_host c) []
unanchored c id = record { waits = λ v e. cc; counts = λ v e. cc; absent = λ e. inr refl }

module _ (c : ConfigView) (id : SocketId) (step : Step) (earlier : List Step) where
  abbrev steps : List Step
  steps = step ∷ earlier

  position : (o p : Option View) → connection_of id step.before ≡ o → connection_of id step.after ≡ p → rcv_nxt id steps ≡ rcv_nxt id earlier + taken_in o p
  position o p before after = ap (λ x. rcv_nxt id earlier + taken_in x (connection_of id step.after)) before ∙ ap (λ x. rcv_nxt id earlier + taken_in o x) after

  record Keeps (p : Option View) : Type 0 where
    pub waits : (w : View) → p ≡ Some w → is_syn_sent w.state ≡ true → rcv_nxt id steps ≡ 1
    pub counts : (w : View) → p ≡ Some w → IsSound w → is_closed w.state ≡ false → is_syn_sent w.state ≡ false → CountsFromSyn c id steps w
    pub absent : p ≡ None → IsGone id step.after ⊎ (rcv_nxt id steps ≡ 1)

  this_one : (w : View) → (is_syn_sent w.state ≡ true → rcv_nxt id steps ≡ 1) → (IsSound w → is_closed w.state ≡ false → is_syn_sent w.state ≡ false → CountsFromSyn c id steps w) → Keeps (Some w)
  this_one w waits counts = record {
    waits = λ x is. subst (λ y. is_syn_sent y.state ≡ true → rcv_nxt id steps ≡ 1) (one w x is) waits;
    counts = λ x is. subst (λ y. IsSound y → is_closed y.state ≡ false → is_syn_sent y.state ≡ false → CountsFromSyn c id steps y) (one w x is) counts;
    absent = λ none. cc;
  }
    where
      one : (a b : View) → Some a ≡ Some b → a ≡ b
      one a b e = cc

  still_waits : (v w : View) → connection_of id step.before ≡ Some v → connection_of id step.after ≡ Some w → Back v w → IsAnchored c id step.before earlier → is_syn_sent w.state ≡ true → rcv_nxt id steps ≡ 1
  still_waits v w before after back was waits =
      let waited = back waits in
      let none : taken_in (Some v) (Some w) ≡ 0 = ap (λ b. if b then 0 else past w.receiving.rnext v.receiving.rnext) waited in
      let first = was.waits v before waited in
      let place = position (Some v) (Some w) before after in
      omega (arith, place, none, first)

  moved_on : (v w : View) → connection_of id step.before ≡ Some v → connection_of id step.after ≡ Some w → is_syn_sent v.state ≡ false → is_closed v.state ≡ false → IsSound v → IsSound w → IsAnchored c id step.before earlier → CountsFromSyn c id steps w
  moved_on v w before after heard lived sound sound_now was =
      let k = was.counts v before sound lived heard in
      let some : taken_in (Some v) (Some w) ≡ past w.receiving.rnext v.receiving.rnext = ap (λ b. if b then 0 else past w.receiving.rnext v.receiving.rnext) heard in
      let place : rcv_nxt id steps ≡ rcv_nxt id earlier + past w.receiving.rnext v.receiving.rnext = position (Some v) (Some w) before after ∙ ap (λ n. rcv_nxt id earlier + n) some in
      record { initial = k.initial; syn = inr k.syn; next = omega (arith, place, k.next, sound_now.rnext) }

  left : (v w : View) → connection_of id step.before ≡ Some v → connection_of id step.after ≡ Some w → Back v w → Leaves v w → IsOfConnection c id step → IsAnchored c id step.before earlier → Keeps (Some w)
  left v w before after back leaves is was =
      this_one w (still_waits v w before after back was) (λ sound lives heard. let k = leaves lives heard in moved_on v w before after k.past_syn_sent k.lives (is.sound v before) sound was)

  heard_first : (v w : View) (s : Segment) → connection_of id step.before ≡ Some v → connection_of id step.after ≡ Some w → IsHeard c id v s step → Syns v s → w.receiving.rnext ≡ (s.number + 1) % 2 ^ 32
      → IsAnchored c id step.before earlier → CountsFromSyn c id steps w
  heard_first v w s before after comes syns next was =
      let none : taken_in (Some v) (Some w) ≡ 0 = ap (λ b. if b then 0 else past w.receiving.rnext v.receiving.rnext) syns.waits in
      let first = was.waits v before syns.waits in
      let place = position (Some v) (Some w) before after in
      let at : rcv_nxt id steps ≡ 1 = omega (arith, place, none, first) in
      record { initial = s.number; syn = inl (InSynSent v s (meets_syn comes syns) refl); next = next ∙ ap (wire s.number) (sym at) }

  step_on : (o p : Option View) → connection_of id step.before ≡ o → connection_of id step.after ≡ p → Befalls c id step o p → IsOfConnection c id step → IsAnchored c id step.before earlier → Keeps p
  step_on _ _ before after (befalls.absent none_told stays) is was = record {
    waits = λ w e. cc;
    counts = λ w e. cc;
    absent = λ none. elim (was.absent before) [ inl gone ↦ inl (stays gone) | inr new ↦ let place = position None None before after in inr (omega (arith, place, new)) ];
  }
  step_on _ _ before after (befalls.connects room local peer isn now small none_told new_one) is was =
      this_one _ (λ waits. elim (was.absent before) [ inl gone ↦ absurd (new_one gone) | inr new ↦ let place = position None (Some _) before after in omega (arith, place, new) ]) (λ sound lives heard. cc)
  step_on _ _ before after (befalls.accepts room local peer isn s now small none_told new_one opened) is was =
      this_one _ (λ waits. cc) (λ sound lives heard. elim (was.absent before) [
        | inl gone ↦ absurd (new_one gone)
        | inr new ↦
            let place = position None (Some _) before after in
            let at : rcv_nxt id steps ≡ 1 = omega (arith, place, new) in
            record { initial = s.number; syn = inl (AtListener _ s opened refl); next = ap (wire s.number) (sym at) }
      ])
  step_on _ _ before after (befalls.quietly v w none_told in_turn) is was =
      left v w before after (quietly_back v w in_turn) (λ lives heard. let k = quiet v w in_turn lives in unmoved v w (is.sound v before) (ap (λ (t : Sending). t.window) k.sending) (ap (λ (t : Sending). t.una) k.sending) k.state lives heard) is was
  step_on _ _ before after (befalls.hears v s now none_told comes) is was =
      let w = after_segment_at v s now in
      this_one w (still_waits v w before after (back v (Hears s now)) was) (λ sound lives heard. elim (meets v s now lives heard) [
        | inl was_heard ↦ moved_on v w before after was_heard.0 was_heard.1 (is.sound v before) sound was
        | inr first ↦ heard_first v w s before after comes first.0 first.1 was
      ])
  step_on _ _ before after (befalls.emits v now none_told out) is was =
      let k = emissions_leave v now in let w = after_first v (first_due v) now in
      left v w before after (back v (Emits now)) (unmoved v w (is.sound v before) (ap (λ (t : Sending). t.window) k.0) (ap (λ (t : Sending). t.una) k.0) k.2) is was
  step_on _ _ before after (befalls.sends v octets now fine given none none_told) is was = left v (after_send v octets now) before after (back v (Sends octets now)) (sent v octets now (is.sound v before)) is was
  step_on _ _ before after (befalls.reads v len fine unleft none given told) is was = left v (after_recv v len) before after (back v (Receives len)) (received v len (is.sound v before)) is was
  step_on _ _ before after (befalls.shuts v now none_told closes fine) is was =
      let w = after_shutdown v now in
      left v w before after (λ waits. back v (Shuts now) (ap (λ o. is_syn_sent (if is_some o then v else w).state) fine ∙ waits)) (closing v w (is.sound v before) refl refl refl) is was
  step_on _ _ before after (befalls.closes v now none_told closes) is was = left v (after_close v now) before after (back v (Closes now)) (closed v now (is.sound v before)) is was
  step_on _ _ before after (befalls.leaves v none_told gone) is was = record { waits = λ w e. cc; counts = λ w e. cc; absent = λ none. inl gone }

  pub keeps_anchored : IsOfConnection c id step → IsAnchored c id step.before earlier → IsAnchored c id step.after steps
  keeps_anchored is was =
      let k = step_on (connection_of id step.before) (connection_of id step.after) refl refl is.befalls is was in
      record { waits = k.waits; counts = k.counts; absent = k.absent }
