-- What the positions of a connection and of a segment tell of the tests by number.
use Rattle.std.proofs.Common.{◌≡◌, ℕ, zero, suc, ◌+◌, ◌-◌, ◌^◌, ◌<◌, ◌≤◌, ◌==◌, ◌||◌, ◌&&◌, not, nat_lt, nat_le, Bool, true, false, inl, inr, arith, refl, sym, ◌∙◌, ap}
use Rattle.std.proofs.lemmas.Bool.{eqb-true, ltb-true, leb-true, lt-ltb, le-leb, lt-leb, eq-eqb}
use Rattle.std.proofs.lemmas.Bool.Decides.{leb_tells, eqb_tells}
use Rattle.tcp_segment.specs.Wire.{wire, past}
use Rattle.tcp_segment.specs.Segment.{Segment}
use Rattle.tcp_halves.specs.Numbers.{is_before}
use Rattle.tcp_halves.specs.Halves.{Sending, Receiving}
use Rattle.tcp_halves.specs.Stream.{outstanding, is_new_ack, is_in_window, is_acceptable, receive_window, stands_before}
use Rattle.tcp_state.specs.View.{View, IsSound}
use Rattle.tcp_state.specs.Positions.{ReceivesAt}
use Rattle.tcp_state.specs.Arrival.{is_too_old, is_off}
use Rattle.tcp_state.specs.Duties.{Places, StandsAt, is_aged, is_out_of_reach, is_in_reach}
use Rattle.tcp_halves.proofs.Choices.{by, and_left, and_right, and_false, or_left}
use Rattle.tcp_state.proofs.Positions.{window_tells}
use Rattle.tcp_state.proofs.Freed.{named_is_new}

-- An acknowledgement.

-- the tests of positions, past SND.NXT, up to it, and past SND.UNA, and those by number
pub record AckOrder (beyond within above new before : Bool) : Type 0 where
  pub ahead : beyond ≡ (not new && before)
  pub sent : within ≡ (new || not before)
  pub fresh : (within && above) ≡ new

order_new : (beyond within above new before : Bool) → beyond ≡ false → within ≡ true → above ≡ true → new ≡ true → AckOrder beyond within above new before
order_new false true true true before b w a n = record { ahead = refl; sent = refl; fresh = refl }
order_new true within above new before b w a n = cc
order_new false false above new before b w a n = cc
order_new false true false new before b w a n = cc
order_new false true true false before b w a n = cc

order_old : (beyond within above new before : Bool) → beyond ≡ false → within ≡ true → above ≡ false → new ≡ false → before ≡ false → AckOrder beyond within above new before
order_old false true false false false b w a n c = record { ahead = refl; sent = refl; fresh = refl }
order_old true within above new before b w a n c = cc
order_old false false above new before b w a n c = cc
order_old false true true new before b w a n c = cc
order_old false true false true before b w a n c = cc
order_old false true false false true b w a n c = cc

order_ahead : (beyond within above new before : Bool) → beyond ≡ true → within ≡ false → new ≡ false → before ≡ true → AckOrder beyond within above new before
order_ahead true false above false true b w n c = record { ahead = refl; sent = refl; fresh = refl }
order_ahead false within above new before b w n c = cc
order_ahead true true above new before b w n c = cc
order_ahead true false above true before b w n c = cc
order_ahead true false above false false b w n c = cc

-- SND.NXT stands as many positions past SND.UNA as numbers are outstanding
nxt_at : (own una first nxt : ℕ) → first ≡ wire own una → nxt < 2 ^ 32 → nxt ≡ wire own (una + past nxt first)
nxt_at own una first nxt f fits = omega (arith, f, fits)

-- one at SND.UNA or behind it
behind_una : (own una ack out first number : ℕ) → first ≡ wire own una → number ≡ wire own ack → ack ≤ una → una + out < ack + 2 ^ 31 → 0 < past number first → past number first ≤ out → zero ≡ 1
behind_una own una ack out first number f l old near some few = omega (arith, f, l, old, near, some, few)

behind_nxt : (own una ack out nxt number : ℕ) → nxt ≡ wire own (una + out) → number ≡ wire own ack → ack ≤ una + out → una + out < ack + 2 ^ 31 → past nxt number < 2 ^ 31
behind_nxt own una ack out nxt number n l old near = omega (arith, n, l, old, near)

-- .. and one past SND.NXT
past_nxt : (own una ack out first number : ℕ) → first ≡ wire own una → number ≡ wire own ack → una + out < ack → ack < una + 2 ^ 31 → past number first ≤ out → zero ≡ 1
past_nxt own una ack out first number f l beyond near few = omega (arith, f, l, beyond, near, few)

ahead_of_nxt : (own una ack out nxt number : ℕ) → nxt ≡ wire own (una + out) → number ≡ wire own ack → una + out < ack → ack < una + 2 ^ 31 → 2 ^ 31 ≤ past nxt number
ahead_of_nxt own una ack out nxt number n l beyond near = omega (arith, n, l, beyond, near)

pub ack_tells : (own una ack number : ℕ) (t : Sending) → t.una ≡ wire own una → number ≡ wire own ack → t.nxt < 2 ^ 32 → una + outstanding t < ack + 2 ^ 31 → ack < una + 2 ^ 31
    → AckOrder (nat_lt (una + outstanding t) ack) (nat_le ack (una + outstanding t)) (nat_lt una ack) (is_new_ack t number) (is_before t.nxt number)
ack_tells own una ack number t f l fits behind ahead =
    let beyond = nat_lt (una + outstanding t) ack in
    let within = nat_le ack (una + outstanding t) in
    let above = nat_lt una ack in
    let new = is_new_ack t number in
    let before = is_before t.nxt number in
    let nxt : t.nxt ≡ wire own (una + outstanding t) = nxt_at own una t.una t.nxt f fits in
    elim (leb_tells ack (una + outstanding t)) [
      | inl w ↦
          let none_beyond : beyond ≡ false = lt-leb (suc (una + outstanding t)) ack (omega (arith, w.1)) in
          elim (leb_tells (suc una) ack) [
            | inl a ↦ order_new beyond within above new before none_beyond w.0 a.0 (named_is_new t own una ack number f l (omega (arith, a.1)) w.1)
            | inr a ↦
                let old : ack ≤ una = omega (arith, a.1) in
                let not_new : new ≡ false = by (new ≡ false) new (λ is.
                let some : 0 < past number t.una = ltb-true 0 (past number t.una) (and_left (nat_lt 0 (past number t.una)) (nat_le (past number t.una) (outstanding t)) is) in
                let few : past number t.una ≤ outstanding t = leb-true (past number t.una) (outstanding t) (and_right (nat_lt 0 (past number t.una)) (nat_le (past number t.una) (outstanding t)) is) in
                let bad = behind_una own una ack (outstanding t) t.una number f l old behind some few in absurd (omega (arith, bad))) (λ none. none) in
                order_old beyond within above new before none_beyond w.0 a.0 not_new (lt-leb (2 ^ 31) (past t.nxt number) (behind_nxt own una ack (outstanding t) t.nxt number nxt l w.1 behind))
          ]
      | inr w ↦
          let is_beyond : una + outstanding t < ack = omega (arith, w.1) in
          let not_new : new ≡ false = by (new ≡ false) new (λ is.
          let few : past number t.una ≤ outstanding t = leb-true (past number t.una) (outstanding t) (and_right (nat_lt 0 (past number t.una)) (nat_le (past number t.una) (outstanding t)) is) in
          let bad = past_nxt own una ack (outstanding t) t.una number f l is_beyond ahead few in absurd (omega (arith, bad))) (λ none. none) in
          order_ahead beyond within above new before (lt-ltb (una + outstanding t) ack is_beyond) w.0 not_new (le-leb (2 ^ 31) (past t.nxt number) (ahead_of_nxt own una ack (outstanding t) t.nxt number nxt l is_beyond ahead))
    ]

-- A number.

-- the tests whether it stands at RCV.NXT, and in the window behind that
pub record NumberOrder (behind below same inside next : Bool) : Type 0 where
  pub challenged : (behind && below) ≡ (inside && not next)
  pub stands : same ≡ next

order_at : (behind below same inside next : Bool) → behind ≡ false → same ≡ true → next ≡ true → NumberOrder behind below same inside next
order_at false below true true true b s n = record { challenged = refl; stands = refl }
order_at false below true false true b s n = record { challenged = refl; stands = refl }
order_at true below same inside next b s n = cc
order_at false below false inside next b s n = cc
order_at false below true inside false b s n = cc

order_inside : (behind below same inside next : Bool) → behind ≡ true → below ≡ true → same ≡ false → inside ≡ true → next ≡ false → NumberOrder behind below same inside next
order_inside true true false true false b c s i n = record { challenged = refl; stands = refl }
order_inside false below same inside next b c s i n = cc
order_inside true false same inside next b c s i n = cc
order_inside true true true inside next b c s i n = cc
order_inside true true false false next b c s i n = cc
order_inside true true false true true b c s i n = cc

order_outside : (behind below same inside next : Bool) → (behind ≡ true → below ≡ false) → same ≡ false → inside ≡ false → next ≡ false → NumberOrder behind below same inside next
order_outside true below false false false c s i n = record { challenged = c refl; stands = refl }
order_outside false below false false false c s i n = record { challenged = refl; stands = refl }
order_outside behind below true inside next c s i n = cc
order_outside behind below false true next c s i n = cc
order_outside behind below false false true c s i n = cc

apart : (initial next first : ℕ) → next < first + 2 ^ 31 → first < next + 2 ^ 31 → wire initial first ≡ wire initial next → first ≡ next
apart initial next first behind ahead same = omega (arith, behind, ahead, same)

pub number_tells : (initial next edge first number : ℕ) (r : Receiving) → ReceivesAt initial next edge r → number ≡ wire initial first → next < first + 2 ^ 31 → first < next + 2 ^ 31
    → NumberOrder (nat_lt next first) (nat_lt first edge) (first == next) (is_in_window r number) (number == r.rnext)
number_tells initial next edge first number r at is behind ahead =
    elim (eqb_tells first next) [
      | inl s ↦ order_at (nat_lt next first) (nat_lt first edge) (first == next) (is_in_window r number) (number == r.rnext)
          (lt-leb (suc next) first (omega (arith, s.1))) s.0 (eq-eqb number r.rnext (is ∙ ap (wire initial) s.1 ∙ sym at.next_number))
      | inr s ↦
          let elsewhere : (number == r.rnext) ≡ false = by ((number == r.rnext) ≡ false) (number == r.rnext)
          (λ same. absurd (s.1 (apart initial next first behind ahead (sym is ∙ eqb-true number r.rnext same ∙ at.next_number)))) (λ none. none) in
          elim (window_tells initial next edge first r at behind ahead) [
            | inl w ↦ order_inside (nat_lt next first) (nat_lt first edge) (first == next) (is_in_window r number) (number == r.rnext)
                (lt-ltb next first (strictly next first w.1 s.1)) (lt-ltb first edge w.2) s.0 (ap (is_in_window r) is ∙ w.0) elsewhere
            | inr w ↦ order_outside (nat_lt next first) (nat_lt first edge) (first == next) (is_in_window r number) (number == r.rnext)
                (λ after. lt-leb (suc first) edge (let out = w.1 (omega (arith, ltb-true next first after)) in omega (arith, out))) s.0 (ap (is_in_window r) is ∙ w.0) elsewhere
          ]
    ]
  where
    strictly : (next first : ℕ) → next ≤ first → (first ≡ next → ⊥) → next < first
    strictly next first least other = elim (leb_tells first next) [ inl t ↦ absurd (other (omega (arith, t.1, least))) | inr t ↦ t.1 ]

-- a number in the window makes a segment acceptable, whatever numbers it takes
pub inside_accepted : (r : Receiving) (number span : ℕ) → is_in_window r number ≡ true → is_acceptable r number span ≡ true
inside_accepted r number zero inside =
    let some = ltb-true (past number r.rnext) (receive_window r) inside in
    or_left (nat_le (past number r.rnext) (receive_window r)) (stands_before r number) (le-leb (past number r.rnext) (receive_window r) (omega (arith, some)))
inside_accepted r number (suc more) inside = or_left (is_in_window r number) _ inside

-- Both, of a segment that stands somewhere.

-- on guard one that is too old is so by number, too
aged_order : (beyond within above new before aged old : Bool) → AckOrder beyond within above new before → (new ≡ true → aged ≡ false) → (new ≡ false → before ≡ false → old ≡ aged)
    → AckOrder (beyond || aged) (within && not aged) above new (before || old)
aged_order true within above true before aged old o y s = let bad : true ≡ false = o.ahead in cc
aged_order false false above true before aged old o y s = let bad : false ≡ true = o.sent in cc
aged_order false true above true before true old o y s = let bad : true ≡ false = y refl in cc
aged_order false true above true before false old o y s = record { ahead = refl; sent = refl; fresh = o.fresh }
aged_order false within above false true aged old o y s = let bad : false ≡ true = o.ahead in cc
aged_order true true above false true aged old o y s = let bad : true ≡ false = o.sent in cc
aged_order true false above false true aged old o y s = record { ahead = refl; sent = refl; fresh = refl }
aged_order true within above false false aged old o y s = let bad : true ≡ false = o.ahead in cc
aged_order false false above false false aged old o y s = let bad : false ≡ true = o.sent in cc
aged_order false true true false false aged old o y s = let bad : true ≡ false = o.fresh in cc
aged_order false true false false false aged old o y s = record { ahead = sym (s refl refl); sent = ap not (sym (s refl refl)); fresh = and_false (not aged) }

-- so many positions behind SND.UNA
behind_by : (own una ack first number : ℕ) → first ≡ wire own una → number ≡ wire own ack → ack ≤ una → una < ack + 2 ^ 31 → past first number ≡ una - ack
behind_by own una ack first number f l old near = omega (arith, f, l, old, near)

too_old_as_aged : (own una ack widest first number : ℕ) (on : Bool) → first ≡ wire own una → number ≡ wire own ack → ack ≤ una → una < ack + 2 ^ 31 → (on && nat_lt widest (past first number)) ≡ (on && nat_lt (ack + widest) una)
too_old_as_aged own una ack widest first number on f l old near =
    let distance = behind_by own una ack first number f l old near in
    ap (λ b. on && b) (elim (leb_tells (suc (ack + widest)) una) [
      | inl t ↦ lt-ltb widest (past first number) (omega (arith, distance, t.1)) ∙ sym t.0
      | inr t ↦ lt-leb (suc widest) (past first number) (omega (arith, distance, old, t.1)) ∙ sym t.0
    ])

pub ack_stands : (at : Places) (v : View) (s : Segment) → IsSound v → StandsAt at v s → s.flags.ack ≡ true
    → AckOrder (is_out_of_reach at v) (is_in_reach at v) (nat_lt at.una at.ack) (is_new_ack v.sending s.acknowledgement) (is_off v s.acknowledgement)
ack_stands at v s sound stands ack =
    let out = outstanding v.sending in
    let new = is_new_ack v.sending s.acknowledgement in
    let before = is_before v.sending.nxt s.acknowledgement in
    let order = ack_tells at.own at.una at.ack s.acknowledgement v.sending stands.una_number (stands.ack_number ack) sound.nxt (stands.ack_behind ack) (stands.ack_ahead ack) in
    aged_order (nat_lt (at.una + out) at.ack) (nat_le at.ack (at.una + out)) (nat_lt at.una at.ack) new before (is_aged at v) (is_too_old v s.acknowledgement) order
    (λ is.
    let above : at.una < at.ack = ltb-true at.una at.ack (and_right (nat_le at.ack (at.una + out)) (nat_lt at.una at.ack) (order.fresh ∙ is)) in
    ap (λ b. v.guard.on && b) (lt-leb (suc (at.ack + v.sending.max_window)) at.una (omega (arith, above))) ∙ and_false v.guard.on)
    (λ old sent.
    let low : at.ack ≤ at.una = not_above at.una at.ack (nat_le at.ack (at.una + out)) (order.fresh ∙ old) (order.sent ∙ (ap (λ b. b || not before) old ∙ ap not sent)) in
    too_old_as_aged at.own at.una at.ack v.sending.max_window v.sending.una s.acknowledgement v.guard.on stands.una_number (stands.ack_number ack) low (omega (arith, stands.ack_behind ack)))
  where
    not_above : (una ack : ℕ) (within : Bool) → (within && nat_lt una ack) ≡ false → within ≡ true → ack ≤ una
    not_above una ack within none is = elim (leb_tells (suc una) ack) [
      | inl t ↦ let bad : true ≡ false = sym (ap (λ b. b && nat_lt una ack) is ∙ t.0) ∙ none in cc
      | inr t ↦ omega (arith, t.1)
    ]

pub number_stands : (at : Places) (v : View) (s : Segment) → StandsAt at v s
    → NumberOrder (nat_lt at.next at.first) (nat_lt at.first at.edge) (at.first == at.next) (is_in_window v.receiving s.number) (s.number == v.receiving.rnext)
number_stands at v s stands = number_tells at.peer at.next at.edge at.first s.number v.receiving stands.receives stands.first_number stands.first_near.behind (omega (arith, stands.first_near.ahead))
