-- What a segment draws that brings the one number which only a probe of a closed window took.
use Rattle.std.proofs.Common.{◌≡◌, ℕ, zero, suc, ◌+◌, ◌-◌, ◌%◌, ◌<◌, ◌≤◌, ◌^◌, ◌==◌, ◌&&◌, ◌||◌, ◌⊎◌, inl, inr, not, nat_lt, Bool, true, false, List, [], ◌∷◌, length, take, drop, if◌then◌else◌, arith, refl, sym, ◌∙◌, ap, ap₂, subst}
use Rattle.std.proofs.lemmas.Bool.{eqb-true, eq-eqb, le-ltb, lt-ltb, lt-leb}
use Rattle.std.proofs.lemmas.Bool.Decides.{eqb_tells}
use Rattle.clock.specs.declared.moment.Moment.{Moment}
use Rattle.stream_buf.specs.Receiving.{joined}
use Rattle.tcp_segment.specs.Segment.{Segment, bit, span_of}
use Rattle.tcp_segment.specs.Wire.{past}
use Rattle.tcp_halves.specs.Numbers.{is_before}
use Rattle.tcp_halves.specs.Halves.{Receiving}
use Rattle.tcp_halves.specs.Stream.{receive_window, is_in_window, is_acceptable, buffer_of, distance_of, octets_within, octets_gained, stands_next, after_end}
use Rattle.tcp_halves.proofs.Choices.{either, by, clash, and_left, and_right, and_false, both, or_left}
use Rattle.tcp_halves.proofs.Keeping.{gained_fits}
use Rattle.tcp_state.specs.View.{View, IsSound, is_opening, is_closed}
use Rattle.tcp_state.specs.Arrival.{is_receiving, beyond_end, counts_fin, owing_ack, after_ack, reopens, reopens_by, is_acceptable_to, after_window, after_text, after_heard, after_segment_at}
use Rattle.tcp_state.proofs.AckNumbers.{probed_is_one}
use Rattle.tcp_state.proofs.Gains.{told_receives, receiving_after}
use Rattle.tcp_state.proofs.Losses.{past_opening}
use Rattle.tcp_state.proofs.Segments.{after_reading, read_tells, reads}
use Rattle.tcp_state.proofs.Sound.{sound_keeping}
use Rattle.silence_law.proofs.Emitting.{IsPlain}
use Rattle.silence_law.proofs.Measure.{stance, tells, is_short}
use Rattle.silence_law.proofs.Standing.{Met}
use Rattle.silence_law.proofs.Along.{comes_open}
use Rattle.silence_law.proofs.Alone.{read_so}

-- what it says
pub record BringsOne (x : View) (s : Segment) : Type 0 where
  pub number : s.number ≡ x.sending.una
  pub ack : s.acknowledgement ≡ x.receiving.rnext
  pub span : span_of s ≡ 1

pub brings_one : (x : View) (s : Segment) → is_short (stance x) s ≡ true → BringsOne x s
brings_one x s short =
    let number = s.number == x.sending.una in
    let ack = s.acknowledgement == x.receiving.rnext in
    let two = and_left (number && ack) (span_of s == 1) short in
    record {
      number = eqb-true s.number x.sending.una (and_left number ack two);
      ack = eqb-true s.acknowledgement x.receiving.rnext (and_right number ack two);
      span = eqb-true (span_of s) 1 (and_right (number && ack) (span_of s == 1) short);
    }

-- whether it is acceptable is a matter of its one number
one_number : (x y : View) (s : Segment) → BringsOne x s → is_acceptable_to y s ≡ (is_in_window y.receiving x.sending.una || is_in_window y.receiving ((x.sending.una + 0) % 2 ^ 32))
one_number x y s says = ap₂ (λ n span. is_acceptable y.receiving n span) says.number says.span

pub few_window : (y : View) → IsSound y → receive_window y.receiving ≤ 1048576
few_window y sound = omega (arith, sound.window, sound.terms.places, sound.terms.capacity)

-- The other has taken that number: the segment isn't acceptable, and opens nothing.
pub refused : (x y : View) (s : Segment) → Met x y → IsSound x → IsSound y → is_closed x.state ≡ false → x.sending.probed ≡ true → tells (stance y) (stance x) ≡ true → BringsOne x s → is_acceptable_to y s ≡ false
refused x y s met sound other living probed news says =
    let una = x.sending.una in
    let r = y.receiving in
    let one = probed_is_one x sound living probed in
    let between = met.between in
    let moved : past r.rnext una ≡ 1 = elim (eqb_tells r.rnext una) [
      | inl same ↦ let bad : false ≡ true = sym (ap not same.0) ∙ news in cc
      | inr apart ↦ at_one r.rnext una other.rnext sound.una (omega (arith, between, one)) apart.1
    ] in
    let few = few_window y other in
    let first : is_in_window r una ≡ false = le-ltb (past una r.rnext) (receive_window r) (omega (arith, moved, few, other.rnext, sound.una)) in
    let last : is_in_window r ((una + 0) % 2 ^ 32) ≡ false = le-ltb (past ((una + 0) % 2 ^ 32) r.rnext) (receive_window r) (omega (arith, moved, few, other.rnext, sound.una)) in
    one_number x y s says ∙ ap₂ (λ a b. a || b) first last
  where
    at_one : (rnext una : ℕ) → rnext < 2 ^ 32 → una < 2 ^ 32 → past rnext una ≤ 1 → (rnext ≡ una → ⊥) → past rnext una ≡ 1
    at_one rnext una a b few apart = elim (eqb_tells (past rnext una) 0) [
      | inl none ↦ let zero = none.1 in absurd (apart (omega (arith, a, b, zero)))
      | inr some ↦ let not_zero = some.1 in elim (eqb_tells (past rnext una) 1) [ inl is ↦ is.1 | inr other ↦ absurd (neither_so (past rnext una) few not_zero other.1) ]
    ]
      where
        neither_so : (n : ℕ) → n ≤ 1 → (n ≡ 0 → ⊥) → (n ≡ 1 → ⊥) → ⊥
        neither_so zero few a b = a refl
        neither_so (suc zero) few a b = b refl
        neither_so (suc (suc n)) few a b = omega (arith, few)

pub reopens_none : (y : View) (s : Segment) → is_acceptable_to y s ≡ false → reopens_by y s ≡ false
reopens_none y s off =
    let shut = not (is_opening y.state) && (y.sending.window == 0) in
    let rest = reopens (after_heard y s) in
    ap (λ a. (shut && a && s.flags.ack && not s.flags.rst) && rest) off ∙ ap (λ b. (b && s.flags.ack && not s.flags.rst) && rest) (and_false shut)

-- The other hasn't, and has room for it: it takes it.

gained_some : (r : Receiving) (octets : List ℕ) → r.rnext < 2 ^ 32 → 0 < length octets → 0 < receive_window r → 0 < length (octets_gained r r.rnext octets)
gained_some r octets fits some open_yet =
    let none : past r.rnext r.rnext ≡ 0 = omega (arith, fits) in
    let early : is_before r.rnext r.rnext ≡ false = lt-leb (2 ^ 31) (past r.rnext r.rnext) (omega (arith, none)) in
    let distance : distance_of r r.rnext ≡ 0 = ap (λ b. if b then past r.rnext r.rnext else 0) early in
    let within : octets_within r r.rnext octets ≡ take (receive_window r) octets =
    ap (λ b. if b then take (receive_window r - past r.rnext r.rnext) octets else take (receive_window r) (drop (past r.rnext r.rnext) octets)) early ∙ ap (λ n. take (receive_window r) (drop n octets)) none in
    let long : 0 < length (joined (buffer_of r) 0 (octets_within r r.rnext octets)) = subst (λ new. 0 < length (joined (buffer_of r) 0 new)) (sym within) (first (receive_window r) octets some open_yet) in
    subst (λ d. 0 < length (joined (buffer_of r) d (octets_within r r.rnext octets))) (sym distance) long
  where
    first : (window : ℕ) (octets : List ℕ) → 0 < length octets → 0 < window → 0 < length (joined (buffer_of r) 0 (take window octets))
    first zero octets a b = absurd (omega (arith, b))
    first (suc window) [] a b = absurd (omega (arith, a))
    first (suc window) (o ∷ octets) a b = omega arith

-- RCV.NXT moves over it, be it an octet or the FIN
bits : (n : ℕ) (a b : Bool) → a ≡ false → n + bit a 1 + bit b 1 ≡ 1 → ((n ≡ 1) × (b ≡ false)) ⊎ ((n ≡ 0) × (b ≡ true))
bits n true b none e = cc
bits n false true none e = inr (omega (arith, e), refl)
bits n false false none e = inl (omega (arith, e), refl)

moves_over : (y : View) (s : Segment) → IsSound y → s.number ≡ y.receiving.rnext → span_of s ≡ 1 → s.flags.syn ≡ false → is_receiving y.state ≡ true → 0 < receive_window y.receiving → (after_reading y s).receiving.rnext ≡ y.receiving.rnext → ⊥
moves_over y s sound number span no_syn receives open_yet =
    let P : View → Type 0 = λ w. w.receiving.rnext ≡ y.receiving.rnext → ⊥ in
    let w = after_window (after_ack y s.acknowledgement) s in
    let same : w.receiving ≡ y.receiving = told_receives y s in
    let still : is_receiving w.state ≡ true = receiving_after y s.acknowledgement receives in
    elim (bits (length s.octets) s.flags.syn s.flags.fin no_syn span) [
      | inl octet ↦
          let r = y.receiving in
          let gained = octets_gained r s.number s.octets in
          let some : 0 < length gained = subst (λ n. 0 < length (octets_gained r n s.octets)) (sym number) (gained_some r s.octets sound.rnext (omega (arith, octet.0)) open_yet) in
          let few = gained_fits r s.number s.octets (sound_keeping y sound) in
          let window = few_window y sound in
          let text : P (after_text w s) = either View P ((length s.octets == 0) || not (is_receiving w.state)) w _
          (λ none. let length_one = octet.0 in absurd (nothing (length s.octets) (is_receiving w.state) length_one still none))
          (λ takes. subst (λ (t : Receiving). (t.rnext + length (octets_gained t s.number s.octets)) % 2 ^ 32 ≡ r.rnext → ⊥) (sym same) (λ stays. omega (arith, stays, some, few, window, sound.rnext))) in
          let t = after_text w s in
          either View P (counts_fin t s) (record t { state = beyond_end t.state; receiving = after_end t.receiving; owes_ack = true }) _
          (λ counts. clash s.flags.fin (and_left s.flags.fin (is_receiving t.state) (and_left (s.flags.fin && is_receiving t.state) _ counts)) octet.1)
          (λ none. either View P (s.flags.fin && is_receiving t.state) (owing_ack t) t (λ fin. text) (λ no. text))
      | inr fin ↦
          let t = after_text w s in
          let empty : (length s.octets == 0) ≡ true = eq-eqb (length s.octets) 0 fin.0 in
          let text : t ≡ w = either View (λ u. u ≡ w) ((length s.octets == 0) || not (is_receiving w.state)) w _ (λ none. refl) (λ some. clash ((length s.octets == 0) || not (is_receiving w.state)) (or_left (length s.octets == 0) (not (is_receiving w.state)) empty) some) in
          let rnext : t.receiving.rnext ≡ y.receiving.rnext = ap (λ (u : View). u.receiving.rnext) text ∙ ap (λ (r : Receiving). r.rnext) same in
          let window : receive_window t.receiving ≡ receive_window y.receiving = ap (λ (u : View). receive_window u.receiving) text ∙ ap receive_window same in
          let end = (s.number + length s.octets) % 2 ^ 32 in
          let at : end ≡ t.receiving.rnext = omega (arith, fin.0, number, rnext, sound.rnext) in
          let counts : counts_fin t s ≡ true = both (s.flags.fin && is_receiving t.state) (stands_next t.receiving end) (both s.flags.fin (is_receiving t.state) fin.1 (ap (λ (u : View). is_receiving u.state) text ∙ still))
          (both (end == t.receiving.rnext) (nat_lt 0 (receive_window t.receiving)) (eq-eqb end t.receiving.rnext at) (lt-ltb 0 (receive_window t.receiving) (omega (arith, window, open_yet)))) in
          either View P (counts_fin t s) (record t { state = beyond_end t.state; receiving = after_end t.receiving; owes_ack = true }) _
          (λ so stays. omega (arith, stays, rnext, sound.rnext))
          (λ none. clash (counts_fin t s) counts none)
    ]
  where
    nothing : (n : ℕ) (b : Bool) → n ≡ 1 → b ≡ true → ((n == 0) || not b) ≡ true → ⊥
    nothing zero b one is e = omega (arith, one)
    nothing (suc n) true one is e = cc
    nothing (suc n) false one is e = cc

pub taken : (x y : View) (s : Segment) (now : Moment) → Met x y → Met y x → IsSound x → IsSound y → is_closed x.state ≡ false → is_closed y.state ≡ false → is_opening y.state ≡ false → IsPlain s → x.sending.probed ≡ true → tells (stance y) (stance x) ≡ false → 0 < receive_window y.receiving → BringsOne x s
    → is_closed (after_segment_at y s now).state ≡ false → (after_segment_at y s now).receiving.rnext ≡ y.receiving.rnext → ⊥
taken x y s now met back sound other living there opened plain probed untold open_yet says lives =
    let una = x.sending.una in
    let r = y.receiving in
    let one = probed_is_one x sound living probed in
    let at : r.rnext ≡ una = elim (eqb_tells r.rnext una) [ inl same ↦ same.1 | inr apart ↦ let bad : true ≡ false = sym (ap not apart.0) ∙ untold in cc ] in
    let number : s.number ≡ r.rnext = says.number ∙ sym at in
    let first : is_in_window r una ≡ true = lt-ltb (past una r.rnext) (receive_window r) (omega (arith, at, other.rnext, open_yet)) in
    let accepted : is_acceptable_to y s ≡ true = one_number x y s says ∙ ap (λ a. a || is_in_window r ((una + 0) % 2 ^ 32)) first in
    let read = read_so x y s back sound other opened plain says.ack accepted in
    let receives : is_receiving y.state ≡ true = by (is_receiving y.state ≡ true) (is_receiving y.state) (λ so. so)
    (λ deaf. let all = met.ended deaf in absurd (omega (arith, all, at, one, sound.una, sound.nxt))) in
    let c = comes_open y s now there opened lives in
    let same : (after_segment_at y s now).receiving.rnext ≡ (after_reading y s).receiving.rnext =
    ap (λ (w : View). w.receiving.rnext) c.0 ∙ ap (λ (w : View). w.receiving.rnext) (reads y s there (past_opening y.state opened).0 (read_tells y s read)) in
    λ stays. moves_over y s other number says.span plain.no_syn receives open_yet (sym same ∙ stays)
