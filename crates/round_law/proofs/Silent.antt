-- Why a tick leaves what has nothing to send, and no connection but a CLOSED one, as it is.
use Rattle.std.proofs.Common.{◌≡◌, ℕ, ◌≤◌, ◌==◌, ◌||◌, ◌&&◌, not, nat_lt, if◌then◌else◌, Bool, true, false, List, [], ◌∷◌, length, filter, Option, Some, None, is_some, arith, refl, sym, ◌∙◌, ap, subst}
use Rattle.clock.specs.declared.moment.Moment.{Moment}
use Rattle.clock.specs.Moments.{has_come}
use Rattle.ipv4.specs.declared.addr.Addr.{Addr}
use Rattle.ipv4.specs.declared.addr.Endpoint.{Endpoint}
use Rattle.retransmit.specs.Deadlines.{next_of}
use Rattle.tcp_halves.specs.Stream.{outstanding}
use Rattle.tcp_halves.specs.Windows.{sendable, is_worth_sending}
use Rattle.tcp_halves.proofs.Choices.{by, and_false}
use Rattle.tcp_state.specs.Selective.{allowance}
use Rattle.tcp_state.specs.declared.state.State.{State}
use Rattle.tcp_state.specs.declared.state.State.TheVariants.{Closed}
use Rattle.tcp_state.specs.declared.emission.Due.{Due}
use Rattle.tcp_state.specs.View.{View, IsSound, is_opening, is_syn_sent, is_closed, is_write_finished, awaits_fin_ack, end_of_wait, is_at_end}
use Rattle.tcp_state.specs.Alive.{may_rest, end_of_silence, is_silent, after_silence}
use Rattle.tcp_state.specs.Timing.{KeepsTime, probes, clocked, expires, is_silent_for_good, gives_up, after_timers, after_tick, tick_fate}
use Rattle.tcp_state.specs.New.{sends_new, sends_fin, waits_no_longer}
use Rattle.tcp_state.specs.Hop.{unheard_until, end_of_hop_wait, hop_wait, after_hopless}
use Rattle.tcp_state.specs.Due.{first_due}
use Rattle.tcp_state.proofs.OwedAlone.{none_out, unprobed}
use Rattle.tcp_state.proofs.Minute.{runs_not}
use Rattle.tcp_state.proofs.Deadlines.{timers_come}
use Rattle.udp_socket.specs.SocketView.{Outgoing as OutDatagram}
use Rattle.udp_socket.specs.Waits.{is_given_up as is_datagram_given_up, parts_left}
use Rattle.sockets.specs.declared.role.Role.{Role}
use Rattle.sockets.specs.declared.role.Role.TheVariants.{Idle, Listener, Connected, Datagrams}
use Rattle.sockets.specs.Entries.{in_connection, is_kept, segment_due, datagrams_due, dues_of, role_after_tick, tick_fate_of}
use Rattle.sockets.specs.Lost.{is_hopless, give_up_fate_of, role_after_giving_up}
use Rattle.sockets.specs.Sound.{IsSoundRole}
use Rattle.sockets.specs.Timing.{KeepsTimeIn}
use Rattle.tcp_state.proofs.TailProbes.{few_rest, nobody_waits}

none_long : (xs : List ℕ) → length xs ≤ 0 → xs ≡ []
none_long [] few = refl
none_long (x ∷ xs) few = absurd (omega (arith, few))

none_some : {X : Type 0} (o : Option X) → is_some o ≡ false → o ≡ None
none_some None none = refl
none_some (Some x) none = cc

neither_both : (a b : Bool) → a ≡ false → (a && b) ≡ false
neither_both true b none = cc
neither_both false b none = refl

-- A CLOSED connection.

closed_is : (t : State) → is_closed t ≡ true → t ≡ Closed
closed_is Closed closed = refl
closed_is _ closed = cc

second_not : (closed owes delays : Bool) → (closed && (owes || delays)) ≡ false → closed ≡ true → (delays && not owes) ≡ false
second_not true true delays e is = cc
second_not true false delays e is = ap (λ b. b && true) e
second_not false owes delays e is = cc

module _ (c : View) (now : Moment) (sound : IsSound c) (keeps : KeepsTime c) (closed : is_closed c.state ≡ true) where
  is : c.state ≡ Closed
  is = closed_is c.state closed

  opened : is_opening c.state ≡ false
  opened = ap is_opening is

  shut : awaits_fin_ack c.state ≡ false
  shut = ap awaits_fin_ack is

  empty : c.sending.held ≡ []
  empty = none_long c.sending.held (subst (λ (t : State). length c.sending.held ≤ (if is_opening t || is_write_finished t then 0 else c.sending.size)) is sound.held)

  none_expires : expires c now ≡ false
  none_expires =
      ap (λ b. b || has_come c.timers.probe now) (runs_not c.timers.retransmission now (keeps.retransmission ∙ ap (λ n. nat_lt 0 n && not (probes c)) (none_out c sound opened shut empty)))
      ∙ runs_not c.timers.probe now (keeps.probe ∙ unprobed c shut empty)

  none_comes : has_come (next_of c.timers) now ≡ false
  none_comes =
      timers_come c now
      ∙ (ap (λ b. b || (has_come c.timers.delayed_ack now || has_come c.timers.overriding now)) none_expires
      ∙ (ap (λ b. b || has_come c.timers.overriding now) (runs_not c.timers.delayed_ack now (keeps.delayed_ack ∙ second_not (is_syn_sent c.state || is_closed c.state) c.owes_ack c.delays_ack sound.ack (ap (λ (t : State). is_syn_sent t || is_closed t) is)))
      ∙ ap (λ (o : Option Moment). has_come o now) (keeps.closed closed)))

  no_end : is_at_end c now ≡ false
  no_end = ap (λ (t : State). has_come (end_of_wait t c.released c.since) now) is

  unasked : is_silent c now ≡ false
  unasked = ap (λ (t : State). has_come (if may_rest t && (length c.sending.held == 0) then end_of_silence c.alive.every c.alive else None) now) is

  goes_on : gives_up c now ≡ false
  goes_on = ap (λ b. b || is_silent_for_good c now) (neither_both (expires c now) _ none_expires) ∙ neither_both (is_silent c now) _ unasked

  pub closed_still : after_tick c now ≡ c
  closed_still =
      rw (no_end, goes_on)
      (ap (λ b. if b then clocked false (after_timers (after_silence c now) now) now else after_silence c now) none_comes
      ∙ nobody_waits c now unasked (few_rest c now (let none = none_out c sound opened shut empty in omega (arith, none))))

  pub closed_stays : is_kept (tick_fate c now) ≡ true
  closed_stays = rw (no_end, goes_on) refl

  unwaited : c.unheard ≡ None
  unwaited =
      let held : length c.sending.held ≡ 0 = ap length empty in
      let few : sendable c.sending (allowance c) ≡ 0 = omega (arith, held) in
      none_some c.unheard (keeps.unheard
      ∙ (ap (λ b. (outstanding c.sending == 0) && (b || sends_new c || sends_fin c || (c.resend.owes_probe && probes c))) opened
      ∙ (ap (λ n. (outstanding c.sending == 0) && (nat_lt 0 n && is_worth_sending c.sending (allowance c) (waits_no_longer c) || sends_fin c || (c.resend.owes_probe && probes c))) few
      ∙ (ap (λ b. (outstanding c.sending == 0) && (b && (outstanding c.sending == length c.sending.held) && nat_lt (outstanding c.sending) c.sending.window || (c.resend.owes_probe && probes c))) shut
      ∙ (ap (λ b. (outstanding c.sending == 0) && (c.resend.owes_probe && b)) (unprobed c shut empty)
      ∙ (ap (λ b. (outstanding c.sending == 0) && b) (and_false c.resend.owes_probe)
      ∙ and_false (outstanding c.sending == 0)))))))

  waits_for_ever : has_come (unheard_until c) now ≡ false
  waits_for_ever = ap (λ (o : Option Moment). has_come (end_of_hop_wait o (hop_wait c)) now) unwaited

  pub closed_unheard : after_hopless c now ≡ c
  closed_unheard = rw waits_for_ever refl

  pub closed_kept : (lost : Addr → Bool) (listener : _) → c.owes_reset ≡ false → is_kept (give_up_fate_of lost now (Connected c listener)) ≡ true
  closed_kept lost listener owes = by (is_kept (give_up_fate_of lost now (Connected c listener)) ≡ true) (lost c.peer.addr) (λ away. rw (owes, away, waits_for_ever) refl) (λ near. rw (owes, near) refl)

-- Any entry.

no_reset : (c : View) → first_due c ≡ None → c.owes_reset ≡ false
no_reset c none = by (c.owes_reset ≡ false) c.owes_reset (λ owes. let first : first_due c ≡ Some Due.Rst = rw owes refl in cc) (λ owes. owes)

no_due : (peer : Endpoint) (o : Option Due) → segment_due peer o ≡ [] → o ≡ None
no_due peer None none = refl
no_due peer (Some due) none = cc

no_datagram : (outbox : List OutDatagram) → datagrams_due 0 outbox ≡ [] → outbox ≡ []
no_datagram [] none = refl
no_datagram (o ∷ rest) none = cc

-- it is kept, and as it was
pub record Stays (lost : Addr → Bool) (now : Moment) (r : Role) : Type 0 where
  pub kept : is_kept (tick_fate_of now r) ≡ true
  pub same : role_after_tick now r ≡ r
  pub not_lost : is_kept (give_up_fate_of lost now r) ≡ true
  pub not_given_up : role_after_giving_up lost now r ≡ r

pub silent_stays : (lost : Addr → Bool) (now : Moment) (r : Role) → dues_of r ≡ [] → in_connection true (λ c. is_closed c.state) r ≡ true → IsSoundRole r → KeepsTimeIn r → Stays lost now r
silent_stays lost now (Connected c listener) none closed sound keeps = record {
  kept = closed_stays c now sound.sound keeps.0 closed;
  same = ap (λ (d : View). Connected d listener) (closed_still c now sound.sound keeps.0 closed);
  not_lost = closed_kept c now sound.sound keeps.0 closed lost listener (no_reset c (no_due c.peer (first_due c) none));
  not_given_up = ap (λ (d : View). Connected d listener)
      (by ((if is_hopless lost c then after_hopless c now else c) ≡ c) (is_hopless lost c) (λ away. rw away (closed_unheard c now sound.sound keeps.0 closed)) (λ near. rw near refl));
}
silent_stays lost now (Datagrams bound socket) none closed sound keeps =
    let empty = no_datagram socket.outbox none in record {
      kept = refl;
      same = refl;
      not_lost = refl;
      not_given_up = ap (λ (l : List OutDatagram). Datagrams bound (record socket { outbox = filter (λ o. not (is_datagram_given_up lost now o)) l; parts = parts_left lost now l socket.parts })) empty
          ∙ ap (λ (l : List OutDatagram). Datagrams bound (record socket { outbox = l })) (sym empty);
    }
silent_stays lost now (Listener local backlog) none closed sound keeps = record { kept = refl; same = refl; not_lost = refl; not_given_up = refl }
silent_stays lost now (Idle buffers bound) none closed sound keeps = record { kept = refl; same = refl; not_lost = refl; not_given_up = refl }
