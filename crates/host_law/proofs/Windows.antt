-- The window within which a connection sends is left of one that a frame of its peer told.
use Rattle.std.proofs.Common.{◌≡◌, ◌⊎◌, ℕ, ◌+◌, ◌-◌, ◌*◌, ◌≤◌, ◌==◌, ◌||◌, if◌then◌else◌, true, false, List, [], ◌∷◌, length, take, Option, Some, is_some, inl, inr, refl, sym, ◌∙◌, ap, subst, arith}
use Rattle.clock.specs.declared.moment.Moment.{Moment}
use Rattle.tcp_segment.specs.Segment.{Segment}
use Rattle.tcp_segment.specs.Wire.{past}
use Rattle.tcp_halves.specs.Halves.{Sending}
use Rattle.tcp_halves.specs.Windows.{window_in, updates_window}
use Rattle.tcp_halves.proofs.Choices.{by, either}
use Rattle.tcp_state.specs.declared.state.State.{State}
use Rattle.tcp_state.specs.declared.state.State.TheVariants.{Established, CloseWait}
use Rattle.tcp_state.specs.Arrival.{owing_ack, after_establishment, is_of_fin, is_off, fin_acknowledged, after_new_ack, after_ack, after_window, after_segment, after_segment_at, is_lost, after_lost}
use Rattle.tcp_halves.specs.Stream.{is_new_ack, after_read}
use Rattle.tcp_state.specs.Timing.{clocked}
use Rattle.tcp_state.proofs.Events.{holding}
use Rattle.tcp_state.specs.Calls.{send_count, after_send, recv_count, after_recv, after_shutdown, beyond_shutdown, after_release, after_close, is_removed_by_close, is_aborted_by_close}
use Rattle.tcp_state.specs.Due.{first_due}
use Rattle.tcp_state.specs.Edges.{after_first}
use Rattle.tcp_state.specs.View.{View, IsSound, is_opening, is_syn_received, is_write_finished, is_closed, is_syn_sent, is_write_closed}
use Rattle.tcp_state.proofs.Segments.{after_reading, by_clock, reading_sends}
use Rattle.tcp_state.proofs.StillStreams.{emissions_leave}
use Rattle.sockets.specs.declared.entry.SocketId.{SocketId}
use Rattle.host.specs.ConfigView.{ConfigView}
use Rattle.host.specs.HostView.{HostView, new_host}
use Rattle.host_law.specs.Coming.{MayBeUsed, TellsWindow, BySynAtListener, BySynInSynSent, BySegment}
use Rattle.host_law.specs.Callers.{sent_on}
use Rattle.host_law.specs.Going.{IsLeftOf}
use Rattle.host_law.specs.Positions.{snd_una}
use Rattle.host_law.specs.History.{Step, Once, connection_of}
use Rattle.host_law.proofs.Befalls as befalls
use Rattle.host_law.proofs.Befalls.{Befalls, IsOfConnection, Quietly}
use Rattle.host_law.proofs.Sending.{KeepsSent, moves}
use Rattle.host_law.proofs.SendingHalf.{Stands, Syns, each_segment, meets_syn, quiet, opening_is, opened_is, opening_flight}

-- A segment.

-- it tells this window
abbrev Told : View → Segment → ℕ → Type 0
Told v s window = (Syns v s × (window ≡ s.window)) ⊎ (MayBeUsed v s × (window ≡ window_in v.sending s.window))

-- SND.UNA has position 0 while the connection opens, and stands past the SYN then
pub record IsAt (v : View) (una : ℕ) : Type 0 where
  pub opening : is_opening v.state ≡ true → una ≡ 0
  pub opened : is_opening v.state ≡ false → 1 ≤ una

-- past SYN-SENT the window goes on: what SND.UNA moves by, past the SYN, comes off
pub record GoesFrom (v : View) (window una : ℕ) : Type 0 where
  pub past_syn_sent : is_syn_sent v.state ≡ false
  pub lives : is_closed v.state ≡ false
  pub off : ℕ
  pub narrows : window ≡ v.sending.window - off
  pub moved : (at : ℕ) → IsAt v at → (at + past una v.sending.una) - 1 ≡ (at - 1) + off

abbrev pub GoesOn : View → View → Type 0
GoesOn v w = GoesFrom v w.sending.window w.sending.una

stays_on : (v w : View) → IsSound v → w.sending.window ≡ v.sending.window → w.sending.una ≡ v.sending.una → is_syn_sent v.state ≡ false → is_closed v.state ≡ false → GoesOn v w
stays_on v w sound window una on lives = record {
  past_syn_sent = on;
  lives = lives;
  off = 0;
  narrows = omega (arith, window);
  moved = λ at is. let fits = sound.una in omega (arith, fits, una);
}

-- .. also with these timers, or other octets received
along : (v w x : View) → x.sending.window ≡ w.sending.window → x.sending.una ≡ w.sending.una → GoesOn v w → GoesOn v x
along v w x window una k = record {
  past_syn_sent = k.past_syn_sent;
  lives = k.lives;
  off = k.off;
  narrows = window ∙ k.narrows;
  moved = λ at is. ap (λ n. (at + past n v.sending.una) - 1) una ∙ k.moved at is;
}

-- the window goes on, or is told
abbrev Believes : View → Segment → View → Type 0
Believes v s w = is_closed w.state ≡ false → is_syn_sent w.state ≡ false → GoesOn v w ⊎ Told v s w.sending.window

takes_off : (v w : View) (ack : ℕ) → is_opening v.state ≡ false → is_syn_sent v.state ≡ false → is_closed v.state ≡ false → w.sending.window ≡ v.sending.window - past ack v.sending.una → w.sending.una ≡ ack → GoesOn v w
takes_off v w ack opened on lives window una = record {
  past_syn_sent = on;
  lives = lives;
  off = past ack v.sending.una;
  narrows = window;
  moved = λ at is. let some = is.opened opened in let same : past w.sending.una v.sending.una ≡ past ack v.sending.una = ap (λ n. past n v.sending.una) una in omega (arith, some, same);
}

establishes : (v : View) → IsSound v → is_syn_received v.state ≡ true → is_syn_sent v.state ≡ false → is_closed v.state ≡ false → GoesOn v (after_establishment v)
establishes v sound received on lives = record {
  past_syn_sent = on;
  lives = lives;
  off = 0;
  narrows = omega arith;
  moved = λ at is. let first = is.opening (opening_is v.state received) in let flight = opening_flight v sound (opening_is v.state received) in omega (arith, first, flight);
}

acked : (v : View) (ack : ℕ) → IsSound v → is_syn_sent v.state ≡ false → is_closed v.state ≡ false → GoesOn v (after_ack v ack) × ((after_ack v ack).sending.unit ≡ v.sending.unit)
acked v ack sound on lives =
    let P : View → Type 0 = λ w. GoesOn v w × (w.sending.unit ≡ v.sending.unit) in
    let here : P v = (stays_on v v sound refl refl on lives, refl) in
    either View P (is_syn_received v.state) _ _
    (λ received. either View P (is_new_ack v.sending ack) (after_establishment v) v (λ new. (establishes v sound received on lives, refl)) (λ old. here))
    (λ established. let opened = opened_is v.state on established in
    either View P (is_new_ack v.sending ack) _ _
    (λ new. either View P (is_of_fin v ack) (fin_acknowledged (after_new_ack v ack)) (after_new_ack v ack)
    (λ fin. (takes_off v (fin_acknowledged (after_new_ack v ack)) ack opened on lives refl refl, refl)) (λ plain. (takes_off v (after_new_ack v ack) ack opened on lives refl refl, refl)))
    (λ old. either View P (is_off v ack) (owing_ack v) v (λ beyond. (stays_on v (owing_ack v) sound refl refl on lives, refl)) (λ within. here)))

updated : (v w : View) (s : Segment) → w.sending.unit ≡ v.sending.unit
    → (((after_window w s).sending.window ≡ w.sending.window) × ((after_window w s).sending.una ≡ w.sending.una)) ⊎ ((after_window w s).sending.window ≡ window_in v.sending s.window)
updated v w s unit =
    either Sending (λ t. ((t.window ≡ w.sending.window) × (t.una ≡ w.sending.una)) ⊎ (t.window ≡ window_in v.sending s.window)) (updates_window w.sending s.number s.acknowledgement) _ w.sending
    (λ updates. inr (ap (λ n. s.window * n) unit)) (λ same. inl (refl, refl))

read : (v : View) (s : Segment) → IsSound v → is_closed v.state ≡ false → MayBeUsed v s → GoesOn v (after_reading v s) ⊎ ((after_reading v s).sending.window ≡ window_in v.sending s.window)
read v s sound lives used =
    let w = after_ack v s.acknowledgement in
    let k = acked v s.acknowledgement sound used.synchronised lives in
    let sends = reading_sends v s in
    elim (updated v w s k.1) [
      | inl same ↦ inl (along v w (after_reading v s) (ap (λ (t : Sending). t.window) sends ∙ same.0) (ap (λ (t : Sending). t.una) sends ∙ same.1) k.0)
      | inr is ↦ inr (ap (λ (t : Sending). t.window) sends ∙ is)
    ]

heard : (v : View) (s : Segment) → IsSound v → is_closed v.state ≡ false → Believes v s (after_segment v s)
heard v s sound lives = each_segment (Believes v s) v s (record {
  dropped = λ on heard. inl (stays_on v v sound refl refl heard lives);
  drawn = λ on heard. inl (stays_on v (owing_ack v) sound refl refl heard lives);
  reset = λ on heard. cc;
  crossed = λ syns on heard. inr (inl (syns, refl));
  opened = λ on syns right lives heard. inr (inl (syns, refl));
  acknowledged = λ on used lives heard. inl (acked v s.acknowledgement sound used.synchronised on).0;
  read = λ on used lives heard. elim (read v s sound on used) [
    | inl goes ↦ inl goes
    | inr told ↦ inr (inr (used, told))
  ];
})

hears : (v : View) (s : Segment) (now : Moment) → IsSound v → Believes v s (after_segment_at v s now)
hears v s now sound = by_clock (Believes v s) v s now (λ lives heard. inl (stays_on v v sound refl refl heard lives))
    (λ lives. either View (Believes v s) (is_lost v s) (after_lost v s) (after_segment v s) (λ lost on heard. cc) (λ kept. heard v s sound lives))

-- Any other event.

-- it leaves the window of a connection that lives on
abbrev pub Leaves : View → View → Type 0
Leaves v w = is_closed w.state ≡ false → is_syn_sent w.state ≡ false → GoesOn v w

pub unmoved : (v w : View) → IsSound v → w.sending.window ≡ v.sending.window → w.sending.una ≡ v.sending.una → w.state ≡ v.state → Leaves v w
unmoved v w sound window una state lives on = stays_on v w sound window una (sym (ap is_syn_sent state) ∙ on) (sym (ap is_closed state) ∙ lives)

shut_on : (t : State) → (is_closed (beyond_shutdown t) ≡ is_closed t) × (is_syn_sent (beyond_shutdown t) ≡ is_syn_sent t)
shut_on Established = (refl, refl)
shut_on CloseWait = (refl, refl)
shut_on _ = (refl, refl)

pub closing : (v w : View) → IsSound v → w.sending.window ≡ v.sending.window → w.sending.una ≡ v.sending.una → w.state ≡ beyond_shutdown v.state → Leaves v w
closing v w sound window una state lives on = let shut = shut_on v.state in stays_on v w sound window una (sym (ap is_syn_sent state ∙ shut.1) ∙ on) (sym (ap is_closed state ∙ shut.0) ∙ lives)

pub sent : (v : View) (octets : List ℕ) (now : Moment) → IsSound v → Leaves v (after_send v octets now)
sent v octets now sound =
    either View (Leaves v) (is_some v.pending_error || is_opening v.state || is_write_closed v.state) v _ (λ refused. unmoved v v sound refl refl refl)
    (λ takes. either View (Leaves v) (length (take (send_count v octets) octets) == 0) v _ (λ none. unmoved v v sound refl refl refl) (λ some. unmoved v (clocked false (holding v (take (send_count v octets) octets)) now) sound refl refl refl))

pub received : (v : View) (len : ℕ) → IsSound v → Leaves v (after_recv v len)
received v len sound = either View (Leaves v) (is_some v.pending_error || is_opening v.state || (length v.receiving.readable == 0)) v _ (λ none. unmoved v v sound refl refl refl) (λ some. unmoved v (record v { receiving = after_read v.receiving (recv_count v len) }) sound refl refl refl)

pub closed : (v : View) (now : Moment) → IsSound v → Leaves v (after_close v now)
closed v now sound = either View (Leaves v) (is_removed_by_close v) v _ (λ removed. unmoved v v sound refl refl refl)
    (λ stays. either View (Leaves v) (is_aborted_by_close v) _ _ (λ aborts lives past. cc) (λ leaves. closing v (after_release v now) sound refl refl refl))

-- Over the steps of a host.

pub record KeepsWindow (c : ConfigView) (id : SocketId) (h : HostView) (steps : List Step) : Type 0 where
  pub told : (v : View) → connection_of id h ≡ Some v → is_closed v.state ≡ false → is_syn_sent v.state ≡ false → Once (IsLeftOf c id (snd_una id steps) v.sending.window) steps

pub untold : (c : ConfigView) (id : SocketId) → KeepsWindow c id (new_host c) []
untold c id = record { told = λ v e. cc }

-- what was left of it loses what comes off
narrower : (c : ConfigView) (id : SocketId) (una una' window window' off : ℕ) → una ≤ una' → una' - 1 ≡ (una - 1) + off → window' ≡ window - off → (steps : List Step) → Once (IsLeftOf c id una window) steps → Once (IsLeftOf c id una' window') steps
narrower c id una una' window window' off on moved less [] once = once
narrower c id una una' window window' off on moved less (step ∷ earlier) (inl it) =
    let since = it.since in
    let left = it.left in
    inl (record { told = it.told; tells = it.tells; since = omega (arith, since, on); left = omega (arith, since, left, on, moved, less) })
narrower c id una una' window window' off on moved less (step ∷ earlier) (inr once) = inr (narrower c id una una' window window' off on moved less earlier once)

stood : (v : View) (una : ℕ) (sent : List ℕ) → Stands v una sent → IsAt v una
stood v una sent stands = record {
  opening = λ opening. (stands.opening opening).0;
  opened = λ opened. by (1 ≤ una) (is_write_finished v.state) (λ finished. let at = stands.finished opened finished in omega (arith, at)) (λ going. let holds = stands.going opened going in holds.some);
}

module _ (c : ConfigView) (id : SocketId) (step : Step) (earlier : List Step) where
  abbrev steps : List Step
  steps = step ∷ earlier

  abbrev Keeps : Option View → Type 0
  Keeps p = (w : View) → p ≡ Some w → is_closed w.state ≡ false → is_syn_sent w.state ≡ false → Once (IsLeftOf c id (snd_una id steps) w.sending.window) steps

  this_one : (w : View) → (is_closed w.state ≡ false → is_syn_sent w.state ≡ false → Once (IsLeftOf c id (snd_una id steps) w.sending.window) steps) → Keeps (Some w)
  this_one w told x is = let same : w ≡ x = cc in subst (λ y. is_closed y.state ≡ false → is_syn_sent y.state ≡ false → Once (IsLeftOf c id (snd_una id steps) y.sending.window) steps) same told

  told_now : (window : ℕ) → TellsWindow c id window step earlier → Once (IsLeftOf c id (snd_una id steps) window) steps
  told_now window tells = inl (record { told = window; tells = tells; since = omega arith; left = omega arith })

  goes_on : (v w : View) → connection_of id step.before ≡ Some v → connection_of id step.after ≡ Some w → is_closed w.state ≡ false → GoesOn v w → KeepsSent c id step.before earlier → KeepsWindow c id step.before earlier
      → Once (IsLeftOf c id (snd_una id steps) w.sending.window) steps
  goes_on v w before after lives k sent was =
      let at = stood v (snd_una id earlier) (sent_on id earlier) (sent.live v before k.lives).stands in
      let moved : snd_una id steps ≡ snd_una id earlier + past w.sending.una v.sending.una =
      moves c id step earlier (Some v) (Some w) before after ∙ ap (λ b. snd_una id earlier + (if b then 0 else past w.sending.una v.sending.una)) lives in
      let off = k.moved (snd_una id earlier) at in
      inr (narrower c id (snd_una id earlier) (snd_una id steps) v.sending.window w.sending.window k.off (omega (arith, moved)) (ap (λ n. n - 1) moved ∙ off) k.narrows earlier (was.told v before k.lives k.past_syn_sent))

  left : (v w : View) → connection_of id step.before ≡ Some v → connection_of id step.after ≡ Some w → Leaves v w → KeepsSent c id step.before earlier → KeepsWindow c id step.before earlier → Keeps (Some w)
  left v w before after leaves sent was = this_one w (λ lives on. goes_on v w before after lives (leaves lives on) sent was)

  step_on : (o p : Option View) → connection_of id step.before ≡ o → connection_of id step.after ≡ p → Befalls c id step o p → IsOfConnection c id step → KeepsSent c id step.before earlier → KeepsWindow c id step.before earlier → Keeps p
  step_on _ _ before after (befalls.absent none stays) is sent was = λ w e. cc
  step_on _ _ before after (befalls.connects room local peer isn now small none_told new_one) is sent was = this_one _ (λ lives past. cc)
  step_on _ _ before after (befalls.accepts room local peer isn s now small none_told new_one opened) is sent was = this_one _ (λ lives past. told_now s.window (BySynAtListener _ s opened refl))
  step_on _ _ before after (befalls.quietly v w none_told in_turn) is sent was =
      left v w before after (λ lives past. let k = quiet v w in_turn lives in unmoved v w (is.sound v before) (ap (λ (t : Sending). t.window) k.sending) (ap (λ (t : Sending). t.una) k.sending) k.state lives past) sent was
  step_on _ _ before after (befalls.hears v s now none_told comes) is sent was = this_one _ (λ lives past. elim (hears v s now (is.sound v before) lives past) [
    | inl k ↦ goes_on v (after_segment_at v s now) before after lives k sent was
    | inr told ↦ elim told [
      | inl by_syn ↦ told_now _ (BySynInSynSent v s (meets_syn comes by_syn.0) by_syn.1)
      | inr by_segment ↦ told_now _ (BySegment v s comes by_segment.0 by_segment.1)
    ]
  ])
  step_on _ _ before after (befalls.emits v now none_told out) is sent was =
      let k = emissions_leave v now in
      let w = after_first v (first_due v) now in
      left v w before after (unmoved v w (is.sound v before) (ap (λ (t : Sending). t.window) k.0) (ap (λ (t : Sending). t.una) k.0) k.2) sent was
  step_on _ _ before after (befalls.sends v octets now fine given none none_told) is was_sent was = left v _ before after (sent v octets now (is.sound v before)) was_sent was
  step_on _ _ before after (befalls.reads v len fine unleft none given told) is sent was = left v _ before after (received v len (is.sound v before)) sent was
  step_on _ _ before after (befalls.shuts v now none_told closes fine) is sent was = let w = after_shutdown v now in left v w before after (closing v w (is.sound v before) refl refl refl) sent was
  step_on _ _ before after (befalls.closes v now none_told closes) is sent was = left v _ before after (closed v now (is.sound v before)) sent was
  step_on _ _ before after (befalls.leaves v none gone) is sent was = λ w e. cc

  pub keeps_window : IsOfConnection c id step → KeepsSent c id step.before earlier → KeepsWindow c id step.before earlier → KeepsWindow c id step.after steps
  keeps_window is sent was = record { told = step_on (connection_of id step.before) (connection_of id step.after) refl refl is.befalls is sent was }
