-- What goes out of an open end lowers what both lack, or what is owed and on its way.
use Rattle.std.proofs.Common.{◌≡◌, ℕ, ◌+◌, ◌-◌, ◌*◌, ◌<◌, ◌≤◌, ◌⊎◌, inl, inr, Bool, true, false, List, [], ◌∷◌, ◌++◌, Some, length, if◌then◌else◌, arith, refl, sym, ◌∙◌, ap, ap₂, subst}
use Rattle.clock.specs.declared.moment.Moment.{Moment}
use Rattle.tcp_segment.specs.Segment.{Segment}
use Rattle.tcp_segment.specs.Wire.{past}
use Rattle.tcp_halves.specs.Halves.{Sending, Receiving}
use Rattle.tcp_halves.specs.Stream.{outstanding, receive_window}
use Rattle.tcp_halves.proofs.Choices.{and_left}
use Rattle.tcp_state.specs.declared.emission.Due.{Due}
use Rattle.tcp_state.specs.View.{View, IsSound, is_opening, is_closed, most_outstanding, takes_flag_number}
use Rattle.tcp_state.specs.Due.{first_due, is_ack_due, after_emitted}
use Rattle.tcp_state.specs.Said.{segment_of}
use Rattle.tcp_state.specs.Most.{one_if}
use Rattle.tcp_state.proofs.Clocked.{emission}
use Rattle.window_law.proofs.Knowing.{leaves}
use Rattle.window_law.proofs.Sent.{widens}
use Rattle.silence_law.proofs.Along.{unreset}
use Rattle.silence_law.proofs.Emitting.{no_rst, sends, plainly}
use Rattle.silence_law.proofs.Measure.{Stance, stance, tells, may_reopen, weight, weights, again_weight, answer_weight, left_of, busy, lacks}
use Rattle.silence_law.proofs.Weighing.{one_behind, wide, same_weights, again_less, weights_less, goes_again_lighter, answer_lighter}

-- Numbers.

goes_falls : (most out taken d then_out : ℕ) → out < then_out → then_out ≤ most
    → 4 * (most + 2 * (most - then_out) + (then_out - taken)) + (3 - d) < 4 * (most + 2 * (most - out) + (out - taken)) + (3 - d)
goes_falls most out taken d then_out more within = omega (arith, more, within)

-- What is left as it was.
record Leaves_all (x w : View) : Type 0 where
  most : most_outstanding w ≡ most_outstanding x
  una : w.sending.una ≡ x.sending.una
  rnext : w.receiving.rnext ≡ x.receiving.rnext
  duplicates : w.congestion.duplicates ≡ x.congestion.duplicates

leaves_all : (x : View) (due : Due) (now : Moment) → IsSound x → is_closed x.state ≡ false → first_due x ≡ Some due → Leaves_all x (after_emitted x due now)
leaves_all x due now sound lives first =
    let w = after_emitted x due now in
    let l = leaves x due now first in
    let held : w.sending.held ≡ x.sending.held = ap (λ (t : Sending). t.held) l.sending in
    record {
      most = ap₂ (λ (h : List ℕ) t. length h + (if takes_flag_number t then 1 else 0)) held l.state;
      una = ap (λ (t : Sending). t.una) l.sending;
      rnext = ap (λ (r : Receiving). r.rnext) l.receiving;
      duplicates = elim (emission x due now) [
        | inl reset ↦ absurd (no_rst x sound lives (first ∙ ap (λ d. Some d) reset))
        | inr same ↦ ap (λ (v : View). v.congestion.duplicates) same
      ];
    }

-- the other lacks what it did
other_same : (x y w : View) → w.receiving.rnext ≡ x.receiving.rnext → lacks y w ≡ lacks y x
other_same x y w rnext = ap (λ n. 4 * (most_outstanding y + 2 * (most_outstanding y - outstanding y.sending) + (outstanding y.sending - past n y.sending.una)) + (3 - y.congestion.duplicates)) rnext

own_same : (x y w : View) → Leaves_all x w → outstanding w.sending ≡ outstanding x.sending → lacks w y ≡ lacks x y
own_same x y w l out =
    let a = l.most in
    let b : past y.receiving.rnext w.sending.una ≡ past y.receiving.rnext x.sending.una = ap (past y.receiving.rnext) l.una in
    let c = l.duplicates in
    omega (arith, a, b, c, out)

own_falls : (x y w : View) → Leaves_all x w → outstanding x.sending < outstanding w.sending → IsSound w → lacks w y < lacks x y
own_falls x y w l more sound =
    let a = l.most in
    let b : past y.receiving.rnext w.sending.una ≡ past y.receiving.rnext x.sending.una = ap (past y.receiving.rnext) l.una in
    let c = l.duplicates in
    let flight = sound.flight in
    let goes = goes_falls (most_outstanding x) (outstanding x.sending) (past y.receiving.rnext x.sending.una) x.congestion.duplicates (outstanding w.sending) more (omega (arith, flight, a)) in
    omega (arith, a, b, c, goes)

same_but_wide : (una nxt : ℕ) (probed : Bool) (rnext window una' nxt' : ℕ) (probed' : Bool) (rnext' : ℕ) → una' ≡ una → nxt' ≡ nxt → probed' ≡ probed → rnext' ≡ rnext
    → (let s : Stance = record { una = una'; nxt = nxt'; probed = probed'; rnext = rnext'; window = window } in s) ≡ (let s : Stance = record { una = una; nxt = nxt; probed = probed; rnext = rnext; window = window } in s)
same_but_wide una nxt probed rnext window una' nxt' probed' rnext' a b c d = rw a (rw b (rw c (rw d refl)))

-- both lack less; or no more, and less is owed and on its way
abbrev pub Falls : View → View → View → Segment → List Segment → List Segment → Type 0
Falls x y w s way back = (lacks w y + lacks y w < lacks x y + lacks y x) ⊎ ((lacks w y + lacks y w ≤ lacks x y + lacks y x) × (busy w y (way ++ (s ∷ [])) + busy y w back < busy x y way + busy y x back))

pub goes_out_lowers : (x y : View) (due : Due) (way back : List Segment) (now : Moment) → IsSound x → is_closed x.state ≡ false → is_opening x.state ≡ false → first_due x ≡ Some due → (let w = after_emitted x due now in IsSound w → Falls x y w (segment_of x due) way back)
goes_out_lowers x y due way back now sound lives opened first then_sound =
    let w = after_emitted x due now in
    let s = segment_of x due in
    let l = leaves_all x due now sound lives first in
    let there = other_same x y w l.rnext in
    elim (sends x due now sound lives opened first) [
      | inl grows ↦ let own = own_falls x y w l grows then_sound in inl (omega (arith, own, there))
      | inr again ↦
          let stays = again.0 in
          let out : outstanding w.sending ≡ outstanding x.sending = ap₂ (λ n u. past n u) stays.nxt l.una in
          let own = own_same x y w l out in
          let X = stance x in
          let Y = stance y in
          let window = receive_window w.receiving in
          let more : receive_window x.receiving ≤ window = widens x due now sound first (unreset x due (plainly x due sound lives opened first)) in
          let stands : stance w ≡ wide X window = same_but_wide x.sending.una x.sending.nxt x.sending.probed x.receiving.rnext window w.sending.una w.sending.nxt w.sending.probed w.receiving.rnext l.una stays.nxt stays.probed l.rnext in
          let here : busy w y (way ++ (s ∷ [])) ≡ again_weight (may_reopen X Y) (left_of w) + answer_weight (tells X Y) (one_if (is_ack_due w)) + weights X Y (way ++ (s ∷ [])) =
          ap (λ (t : Stance). again_weight (may_reopen t Y) (left_of w) + answer_weight (tells t Y) (one_if (is_ack_due w)) + weights t Y (way ++ (s ∷ []))) stands ∙ ap (λ n. again_weight (may_reopen X Y) (left_of w) + answer_weight (tells X Y) (one_if (is_ack_due w)) + n) (same_weights X Y window (way ++ (s ∷ []))) in
          let behind = one_behind X Y way s in
          let other : busy y w back ≡ again_weight (may_reopen Y (wide X window)) (left_of y) + answer_weight (tells Y X) (one_if (is_ack_due y)) + weights Y (wide X window) back =
          ap (λ (t : Stance). again_weight (may_reopen Y t) (left_of y) + answer_weight (tells Y t) (one_if (is_ack_due y)) + weights Y t back) stands in
          let less = again_less Y X window (left_of y) more in
          let lighter = weights_less Y X window back more in
          let falls : again_weight (may_reopen X Y) (left_of w) + answer_weight (tells X Y) (one_if (is_ack_due w)) + weight X Y s < again_weight (may_reopen X Y) (left_of x) + answer_weight (tells X Y) (one_if (is_ack_due x)) = elim again.1 [
            | inl resends ↦ goes_again_lighter X Y s (left_of x) (left_of w) (one_if (is_ack_due x)) (one_if (is_ack_due w)) resends.left resends.due (λ opens. resends.short (probed_so x y opens))
            | inr answers ↦
                subst (λ n. again_weight (may_reopen X Y) (left_of w) + answer_weight (tells X Y) n + weight X Y s < again_weight (may_reopen X Y) (left_of x) + answer_weight (tells X Y) (one_if (is_ack_due x))) (sym answers.paid)
                (subst (λ n. again_weight (may_reopen X Y) (left_of w) + answer_weight (tells X Y) 0 + weight X Y s < again_weight (may_reopen X Y) (left_of x) + answer_weight (tells X Y) n) (sym answers.due) (answer_lighter X Y s (left_of x) (left_of w) answers.left answers.light))
          ] in
          inr (omega (arith, own, there), omega (arith, here, behind, other, less, lighter, falls))
    ]
  where
    probed_so : (x y : View) → may_reopen (stance x) (stance y) ≡ true → x.sending.probed ≡ true
    probed_so x y opens = and_left x.sending.probed _ opens
