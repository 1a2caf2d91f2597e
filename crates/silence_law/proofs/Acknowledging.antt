-- What a segment that comes acknowledges.
use Rattle.std.proofs.Common.{◌≡◌, ℕ, ◌+◌, ◌-◌, ◌≤◌, ◌==◌, ◌||◌, inl, inr, not, nat_lt, if◌then◌else◌, Bool, true, false, length, arith, refl, sym, ◌∙◌, ap, subst}
use Rattle.std.proofs.lemmas.Bool.{leb-true, lt-ltb}
use Rattle.std.proofs.lemmas.Bool.Decides.{leb_tells}
use Rattle.std.proofs.lemmas.List.{length-drop}
use Rattle.clock.specs.declared.moment.Moment.{Moment}
use Rattle.tcp_segment.specs.Segment.{Segment}
use Rattle.tcp_segment.specs.Wire.{past}
use Rattle.tcp_halves.specs.Stream.{outstanding, is_new_ack}
use Rattle.tcp_halves.specs.Windows.{window_in}
use Rattle.tcp_halves.proofs.Choices.{either, by, clash, and_left, and_right, both}
use Rattle.tcp_state.specs.declared.state.State.{State}
use Rattle.tcp_state.specs.declared.state.State.TheVariants.{Established, FinWait1, FinWait2, Closing, LastAck}
use Rattle.tcp_state.specs.View.{View, IsSound, is_opening, is_syn_sent, is_syn_received, is_closed, awaits_fin_ack, most_outstanding}
use Rattle.tcp_state.specs.Arrival.{owing_ack, is_receiving, beyond_fin, beyond_end, after_new_ack, is_of_fin, fin_acknowledged, is_off, after_ack, after_window, after_text, after_segment_at}
use Rattle.tcp_state.specs.Most.{one_if}
use Rattle.tcp_state.proofs.Losses.{past_opening}
use Rattle.tcp_state.proofs.Onward.{told_una}
use Rattle.tcp_state.proofs.Recovering.{heard_left}
use Rattle.tcp_state.proofs.Segments.{after_reading, by_fin, by_hearing, by_clock}
use Rattle.tcp_state.proofs.StillHeld.{segment_leaves, segment_moves}

-- Our FIN awaits its acknowledgement afterwards only where it did before, and what came acknowledges no more than what was held.
abbrev AwaitsStill : View → View → Type 0
AwaitsStill v w = awaits_fin_ack w.state ≡ true → (awaits_fin_ack v.state ≡ true) × (past w.sending.una v.sending.una ≤ length v.sending.held)

done : (t : State) → awaits_fin_ack t ≡ true → awaits_fin_ack (beyond_fin t) ≡ true → ⊥
done FinWait1 a b = cc
done Closing a b = cc
done LastAck a b = cc
done _ a b = cc

ended : (t : State) → awaits_fin_ack (beyond_end t) ≡ true → awaits_fin_ack t ≡ true
ended Established e = cc
ended FinWait1 e = refl
ended FinWait2 e = cc
ended _ e = e

waits : (v : View) → IsSound v → AwaitsStill v v
waits v sound awaits = (awaits, omega (arith, sound.una))

ack_waits : (v : View) (ack : ℕ) → IsSound v → is_opening v.state ≡ false → AwaitsStill v (after_ack v ack)
ack_waits v ack sound opened =
    let P : View → Type 0 = AwaitsStill v in
    let past_syn = (past_opening v.state opened).1 in
    let new_one = after_new_ack v ack in
    let gained = past ack v.sending.una in
    either View P (is_syn_received v.state) _ _ (λ received. clash (is_syn_received v.state) received past_syn)
    (λ past_it. either View P (is_new_ack v.sending ack) (if is_of_fin v ack then fin_acknowledged new_one else new_one) _
    (λ new. either View P (is_of_fin v ack) (fin_acknowledged new_one) new_one
    (λ fin awaits. absurd (done v.state (and_left (awaits_fin_ack v.state) _ fin) awaits))
    (λ octets awaits. (
      awaits,
      elim (leb_tells gained (length v.sending.held)) [
        | inl within ↦ within.1
        | inr beyond ↦ clash (is_of_fin v ack) (both (awaits_fin_ack v.state) (nat_lt (length v.sending.held) gained) awaits (lt-ltb (length v.sending.held) gained beyond.1)) octets
      ],
    )))
    (λ old. either View P (is_off v ack) (owing_ack v) v (λ off. waits v sound) (λ on. waits v sound)))

reading_waits : (v : View) (s : Segment) → IsSound v → is_opening v.state ≡ false → AwaitsStill v (after_reading v s)
reading_waits v s sound opened =
    let P : View → Type 0 = AwaitsStill v in
    let a = after_ack v s.acknowledgement in
    let acked : P a = ack_waits v s.acknowledgement sound opened in
    let told = after_window a s in
    let una : told.sending.una ≡ a.sending.una = told_una a.sending s.number s.acknowledgement (window_in a.sending s.window) in
    let heard : P told = λ awaits. let k = acked awaits in (k.0, subst (λ n. past n v.sending.una ≤ length v.sending.held) (sym una) k.1) in
    let text : P (after_text told s) = either View P ((length s.octets == 0) || not (is_receiving told.state)) told _ (λ none. heard) (λ some. heard) in
    by_fin P (after_text told s) s (λ counts awaits. text (ended (after_text told s).state awaits)) text text

fin_awaits : (v : View) (s : Segment) (now : Moment) → IsSound v → is_opening v.state ≡ false → AwaitsStill v (after_segment_at v s now)
fin_awaits v s now sound opened =
    let P : View → Type 0 = AwaitsStill v in
    let gone = past_opening v.state opened in
    by_clock P v s now (waits v sound) (λ lives. by_hearing P v s (λ awaits. let bad : false ≡ true = awaits in cc) (record {
      dropped = waits v sound;
      drawn = waits v sound;
      reset = λ acts awaits. let bad : false ≡ true = awaits in cc;
      crossed = λ still. clash (is_syn_sent v.state) still gone.0;
      opened = λ still right. clash (is_syn_sent v.state) still gone.0;
      acknowledged = λ taken. ack_waits v s.acknowledgement sound opened;
      read = λ read. reading_waits v s sound opened;
    }))

pub next_stays : (v : View) (s : Segment) (now : Moment) → IsSound v → (after_segment_at v s now).sending.nxt ≡ v.sending.nxt
next_stays v s now sound = by_clock (λ w. w.sending.nxt ≡ v.sending.nxt) v s now refl (λ lives. (heard_left v s sound).1)

-- so many numbers are acknowledged
pub record Gains (v w : View) : Type 0 where
  pub by : ℕ
  pub una : past w.sending.una v.sending.una ≡ by
  pub within : by ≤ outstanding v.sending
  pub nxt : w.sending.nxt ≡ v.sending.nxt
  pub fewer : most_outstanding w + by ≤ most_outstanding v

flag_or : (a b : Bool) → a ≡ false → one_if (a || b) ≡ one_if b
flag_or true b e = cc
flag_or false b e = refl

pub gains : (v : View) (s : Segment) (now : Moment) → IsSound v → is_opening v.state ≡ false → (let w = after_segment_at v s now in is_closed w.state ≡ false → is_opening w.state ≡ false → Gains v w)
gains v s now sound opened lives open_yet =
    let w = after_segment_at v s now in
    let gained = past w.sending.una v.sending.una in
    let within : gained ≤ outstanding v.sending = elim (segment_moves v s now opened lives) [
      | inl same ↦ omega (arith, ap (λ n. past n v.sending.una) same, sound.una)
      | inr moved ↦
          let most = leb-true (past s.acknowledgement v.sending.una) (outstanding v.sending) (and_right (nat_lt 0 (past s.acknowledgement v.sending.una)) _ moved.1) in
          omega (arith, ap (λ n. past n v.sending.una) moved.2, most)
    ] in
    let held : length w.sending.held ≡ length v.sending.held - gained = ap length (segment_leaves v s now sound lives) ∙ length-drop gained v.sending.held in
    let awaits = fin_awaits v s now sound opened in
    let was = flag_or (is_opening v.state) (awaits_fin_ack v.state) opened in
    let is = flag_or (is_opening w.state) (awaits_fin_ack w.state) open_yet in
    let flight = sound.flight in
    record {
      by = gained;
      una = refl;
      within = within;
      nxt = next_stays v s now sound;
      fewer = by (most_outstanding w + gained ≤ most_outstanding v) (awaits_fin_ack w.state)
          (λ still.
          let k = awaits still in
          let one : one_if (awaits_fin_ack w.state) ≡ 1 = ap one_if still in
          let other : one_if (awaits_fin_ack v.state) ≡ 1 = ap one_if k.0 in
          let few = k.1 in
          omega (arith, held, was, is, one, other, few))
          (λ no_more.
          let none : one_if (awaits_fin_ack w.state) ≡ 0 = ap one_if no_more in
          omega (arith, held, was, is, none, within, flight));
    }
