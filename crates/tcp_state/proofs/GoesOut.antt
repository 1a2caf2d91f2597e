-- What is due is a segment that may go out.
use Rattle.std.proofs.Common.{◌≡◌, ℕ, suc, ◌+◌, ◌<◌, ◌≤◌, ◌==◌, ◌&&◌, ◌||◌, not, nat_lt, min, if◌then◌else◌, Bool, true, false, length, Some, inl, inr, arith, refl, sym, ◌∙◌, ap, subst}
use Rattle.std.proofs.lemmas.Bool.{eqb-true, eq-eqb, ltb-true, lt-ltb}
use Rattle.std.proofs.lemmas.Bool.Decides.{leb_tells, eqb_tells}
use Rattle.tcp_state.specs.Selective.{allowance}
use Rattle.tcp_state.specs.declared.emission.Due.{Due}
use Rattle.tcp_state.specs.declared.emission.Due.TheVariants.{Rst, Syn, Text, Probe, Ack, KeepAlive}
use Rattle.tcp_state.specs.declared.emission.Stretch.{Stretch}
use Rattle.tcp_state.specs.declared.state.State.{State}
use Rattle.tcp_state.specs.declared.state.State.TheVariants.{SynSent}
use Rattle.tcp_halves.specs.Stream.{outstanding}
use Rattle.tcp_halves.specs.Windows.{open_window, sendable, next_count, is_worth_sending, has_grown}
use Rattle.tcp_state.specs.View.{View, IsSound, is_opening, is_syn_sent, is_closed, awaits_fin_ack}
use Rattle.tcp_state.specs.Timing.{probes, has_unacknowledged}
use Rattle.tcp_state.specs.New.{sends_new, takes_fin, sends_fin, waits_no_longer}
use Rattle.tcp_state.specs.Alive.{may_rest, rests}
use Rattle.tcp_state.specs.Due.{MayGoOut, IsHeld, first_due, probe_stretch, again, new_octets, fin_alone}
use Rattle.tcp_halves.proofs.Choices.{either, clash, and_left, and_right, and_false, both, or_else, not_true}
use Rattle.tcp_state.proofs.Places.{goes_within, again_few, again_some}
use Rattle.tcp_state.proofs.Emissions.{is_ack_due, by_due}

-- What is outstanding from the mark on: octets that are held, or the FIN behind them.

-- past the opening, more is outstanding than is held only where our FIN is
fin_outstanding : (opening waits : Bool) (held o : ℕ) → opening ≡ false → o ≤ held + (if opening || waits then 1 else 0) → held < o → (waits ≡ true) × (o ≡ held + 1)
fin_outstanding false true held o e most past = (refl, omega (arith, most, past))
fin_outstanding false false held o e most past = absurd (omega (arith, most, past))
fin_outstanding true waits held o e most past = cc

no_more_than : (opening waits : Bool) (held o : ℕ) → opening ≡ false → o ≤ held + (if opening || waits then 1 else 0) → o ≤ held + 1
no_more_than opening waits held o e most = elim (leb_tells o held) [ inl t ↦ omega (arith, t.1) | inr t ↦ omega (arith, (fin_outstanding opening waits held o e most t.1).1) ]

pub held_again : (v : View) (mark : ℕ) → IsSound v → is_opening v.state ≡ false → mark < outstanding v.sending → IsHeld v (again v mark)
held_again v mark sound opened within =
    let held = length v.sending.held in
    let o = outstanding v.sending in
    let stretch = again v mark in
    let most = no_more_than (is_opening v.state) (awaits_fin_ack v.state) held o opened sound.flight in
    let few = again_few v mark in
    record {
      opened = opened;
      joined = omega (arith, within);
      held = omega (arith, few, within, most);
      size = omega (arith, few, sound.segment);
      some = elim (leb_tells (suc mark) (min held o)) [
        | inl t ↦ let octets = again_some v mark (omega (arith, t.1, sound.segment_least)) in omega (arith, octets)
        | inr t ↦
            let end : mark ≡ held = omega (arith, t.1, within, most) in
            let count : stretch.count ≡ 0 = omega (arith, few, end) in
            let last : stretch.fin ≡ true = both (mark + stretch.count == held) (nat_lt held o) (eq-eqb (mark + stretch.count) held (omega (arith, end, count))) (lt-ltb held o (omega (arith, end, within))) in
            subst (λ b. 0 < stretch.count + (if b then 1 else 0)) (sym last) (omega arith)
      ];
      fin = λ ends. (
        (fin_outstanding (is_opening v.state) (awaits_fin_ack v.state) held o opened sound.flight (ltb-true held o (and_right (mark + stretch.count == held) (nat_lt held o) ends))).0,
        eqb-true (mark + stretch.count) held (and_left (mark + stretch.count == held) (nat_lt held o) ends),
      );
    }

-- no FIN goes with octets of a side that isn't closed
pub without_fin : (v : View) (end : ℕ) → awaits_fin_ack v.state ≡ false → takes_fin v end ≡ false
without_fin v end open_yet =
    let rest = nat_lt end (open_window v.sending (allowance v)) in
    ap (λ b. v.minshall && b && (end == length v.sending.held) && rest) open_yet ∙ ap (λ b. b && (end == length v.sending.held) && rest) (and_false v.minshall)

pub held_new : (v : View) → IsSound v → is_opening v.state ≡ false → sends_new v ≡ true → IsHeld v (new_octets v)
held_new v sound opened sends =
    let some : 0 < sendable v.sending (allowance v) = ltb-true 0 (sendable v.sending (allowance v)) (and_left (nat_lt 0 (sendable v.sending (allowance v))) (is_worth_sending v.sending (allowance v) (waits_no_longer v)) sends) in
    record {
      opened = opened;
      joined = omega arith;
      held = omega (arith, some);
      size = omega (arith, sound.segment);
      some = omega (arith, some, sound.segment_least);
      fin = λ ends.
          let last = outstanding v.sending + next_count v.sending (allowance v) == length v.sending.held in
          let two = and_left (v.minshall && awaits_fin_ack v.state && last) _ ends in (
            and_right v.minshall (awaits_fin_ack v.state) (and_left (v.minshall && awaits_fin_ack v.state) last two),
            eqb-true (outstanding v.sending + next_count v.sending (allowance v)) (length v.sending.held) (and_right (v.minshall && awaits_fin_ack v.state) last two),
          );
    }

pub held_fin : (v : View) → is_opening v.state ≡ false → sends_fin v ≡ true → IsHeld v (fin_alone v)
held_fin v opened sends =
    let waits = awaits_fin_ack v.state in
    let all = outstanding v.sending == length v.sending.held in
    let two = and_left (waits && all) (nat_lt (outstanding v.sending) v.sending.window) sends in
    let same : outstanding v.sending ≡ length v.sending.held = eqb-true (outstanding v.sending) (length v.sending.held) (and_right waits all two) in
    record {
      opened = opened;
      joined = omega arith;
      held = omega (arith, same);
      size = omega arith;
      some = omega arith;
      fin = λ ends. (and_left waits all two, omega (arith, same));
    }

held_probe : (v : View) → is_opening v.state ≡ false → probes v ≡ true → IsHeld v (probe_stretch v)
held_probe v opened goes =
    let unacknowledged : has_unacknowledged v ≡ true = and_right (not (is_opening v.state) && (v.sending.window == 0)) (has_unacknowledged v) goes in
    either Stretch (λ t. IsHeld v t) (length v.sending.held == 0) (record { offset = 0; count = 0; fin = true }) (record { offset = 0; count = 1; fin = false })
    (λ empty.
    let none : length v.sending.held ≡ 0 = eqb-true (length v.sending.held) 0 empty in
    let waits : awaits_fin_ack v.state ≡ true = sym (ap (λ b. not b || awaits_fin_ack v.state) empty) ∙ unacknowledged in
    record { opened = opened; joined = omega arith; held = omega arith; size = omega arith; some = omega arith; fin = λ ends. (waits, sym none) })
    (λ some.
    let held : 0 < length v.sending.held = elim (eqb_tells (length v.sending.held) 0) [ inl t ↦ clash (length v.sending.held == 0) t.0 some | inr t ↦ omega (arith, t.1) ] in
    record { opened = opened; joined = omega arith; held = omega (arith, held); size = omega arith; some = omega arith; fin = λ ends. cc })

-- An acknowledgement is due only once the peer's SYN came, and not where all is closed.

none_owed : (shut owes delays : Bool) → owes ≡ true → (shut && (owes || delays)) ≡ false → shut ≡ false
none_owed false owes delays o e = refl
none_owed true true delays o e = cc
none_owed true false delays o e = cc

opened_heard : (t : State) → is_opening t ≡ false → is_syn_sent t ≡ false
opened_heard SynSent e = cc
opened_heard _ e = refl

ack_may : (v : View) → IsSound v → is_ack_due v ≡ true → (is_syn_sent v.state || is_closed v.state) ≡ false
ack_may v sound due =
    let opened = not (is_opening v.state) in
    let told = opened && not (is_closed v.state) && v.spoke && has_grown v.receiving in
    elim (or_else v.owes_ack told due) [
      | inl owes ↦ none_owed (is_syn_sent v.state || is_closed v.state) v.owes_ack v.delays_ack owes sound.ack
      | inr tells ↦
          let lives = and_left (opened && not (is_closed v.state)) v.spoke (and_left (opened && not (is_closed v.state) && v.spoke) (has_grown v.receiving) tells) in
          ap (λ b. b || is_closed v.state) (opened_heard v.state (not_true (is_opening v.state) (and_left opened (not (is_closed v.state)) lives))) ∙ not_true (is_closed v.state) (and_right opened (not (is_closed v.state)) lives)
    ]

-- what goes out first may go out
pub due-may : (v : View) (due : Due) → IsSound v → first_due v ≡ Some due → MayGoOut v due
due-may v due sound first = by_due (λ o. (d : Due) → o ≡ Some d → MayGoOut v d) v (record {
  nothing = λ quiet heard d e. cc;
  rst = λ owes d e. let same : Rst ≡ d = cc in subst (MayGoOut v) same owes;
  syn = λ opening goes d e. let same : Syn ≡ d = cc in subst (MayGoOut v) same opening;
  once_more = λ opened place is goes d e. let same : Text (again v place) ≡ d = cc in subst (MayGoOut v) same (held_again v place sound opened (goes_within v place goes));
  octets = λ opened sends d e. let same : Text (new_octets v) ≡ d = cc in subst (MayGoOut v) same (held_new v sound opened sends);
  fin = λ opened sends d e. let same : Text (fin_alone v) ≡ d = cc in subst (MayGoOut v) same (held_fin v opened sends);
  probe = λ opened owes goes d e. let same : Probe ≡ d = cc in subst (MayGoOut v) same (held_probe v opened goes);
  ack = λ owes d e. let same : Ack ≡ d = cc in subst (MayGoOut v) same (ack_may v sound owes);
  asks = λ quiet owes d e. let same : KeepAlive ≡ d = cc in subst (MayGoOut v) same (and_left (may_rest v.state) (length v.sending.held == 0) (and_right v.alive.owed (rests v) owes));
}) due first
