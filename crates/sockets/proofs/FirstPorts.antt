-- The dynamic port that passes first, in the turn behind the last one given.
use Rattle.std.proofs.Common.{◌≡◌, ℕ, zero, suc, ◌+◌, ◌-◌, ◌<◌, ◌≤◌, Bool, true, false, Some, None, refl, sym, ◌∙◌, ap, subst, arith}
use Rattle.sockets.specs.Ports.{port_after, first_port, first_port-step, first_port-zero, IsDynamic, IsFirstBehind}
use Rattle.sockets.proofs.Followed.{by_test}

-- the port that is found lies so many steps on, and none before it passes
record IsFound (test : ℕ → Bool) (last steps n port : ℕ) : Type 0 where
  place : ℕ
  from : steps ≤ place
  within : place < steps + n
  is : port ≡ port_after last place
  passes : test port ≡ true
  before : (j : ℕ) → steps ≤ j → j < place → test (port_after last j) ≡ false

passed : (test : ℕ → Bool) (last steps n : ℕ) → test (port_after last steps) ≡ true → first_port test last steps (suc n) ≡ Some (port_after last steps)
passed test last steps n passes = first_port-step test last steps n ∙ rw passes

failed : (test : ℕ → Bool) (last steps n : ℕ) → test (port_after last steps) ≡ false → first_port test last steps (suc n) ≡ first_port test last (steps + 1) n
failed test last steps n fails = first_port-step test last steps n ∙ rw fails

none_at : (test : ℕ → Bool) (last steps j : ℕ) → test (port_after last steps) ≡ false → ((i : ℕ) → steps + 1 ≤ i → i ≡ j → test (port_after last i) ≡ false) → steps ≤ j → test (port_after last j) ≡ false
none_at test last steps j here later from = by_place (j - steps) refl
  where
    by_place : (d : ℕ) → j - steps ≡ d → test (port_after last j) ≡ false
    by_place zero is = let same : steps ≡ j = omega arith in subst (λ i. test (port_after last i) ≡ false) same here
    by_place (suc d) is = later j (omega arith) refl

found : (test : ℕ → Bool) (last steps n port : ℕ) → first_port test last steps n ≡ Some port → IsFound test last steps n port
found test last steps zero port given = let none : first_port test last steps 0 ≡ None = first_port-zero test last steps in cc
found test last steps (suc n) port given =
    by_test (test (port_after last steps)) here (λ fails. there fails (found test last (steps + 1) n port (sym (failed test last steps n fails) ∙ given)))
  where
    here : test (port_after last steps) ≡ true → IsFound test last steps (suc n) port
    here passes =
        let some : Some (port_after last steps) ≡ Some port = sym (passed test last steps n passes) ∙ given in
        let same : port ≡ port_after last steps = cc in
        record { place = steps; from = omega arith; within = omega arith; is = same; passes = ap test same ∙ passes; before = λ j from below. absurd (omega arith) }

    there : test (port_after last steps) ≡ false → IsFound test last (steps + 1) n port → IsFound test last steps (suc n) port
    there fails more = record {
      place = more.place;
      from = omega arith;
      within = omega arith;
      is = more.is;
      passes = more.passes;
      before = λ j from below. none_at test last steps j fails (λ i on same. more.before i on (omega arith)) from;
    }

-- what is given passes
pub given_passes : (test : ℕ → Bool) (last steps n port : ℕ) → first_port test last steps n ≡ Some port → test port ≡ true
given_passes test last steps n port given = (found test last steps n port given).passes

-- none passes
missed : (test : ℕ → Bool) (last steps n : ℕ) → first_port test last steps n ≡ None → (j : ℕ) → steps ≤ j → j < steps + n → test (port_after last j) ≡ false
missed test last steps zero given j from within = absurd (omega arith)
missed test last steps (suc n) given j from within =
    by_test (test (port_after last steps)) here (λ fails. none_at test last steps j fails (λ i on same. missed test last (steps + 1) n (sym (failed test last steps n fails) ∙ given) i on (omega arith)) from)
  where
    here : test (port_after last steps) ≡ true → test (port_after last j) ≡ false
    here passes = let some = passed test last steps n passes in cc

-- The ports of the turn, by their steps.

turn_up : (last port : ℕ) → 49152 ≤ last → last < port → port ≤ 65535 → port_after last (port - last - 1) ≡ port
turn_up last port a b c = let sum : last - 49152 + 1 + (port - last - 1) ≡ port - 49152 = omega arith in rw sum (omega arith)

turn_round : (last port : ℕ) → 49152 ≤ port → port ≤ last → last ≤ 65535 → port_after last (port + 16383 - last) ≡ port
turn_round last port a b c = let sum : last - 49152 + 1 + (port + 16383 - last) ≡ port - 49152 + 16384 = omega arith in rw sum (omega arith)

-- where a found port lies
place_up : (last place port : ℕ) → 49152 ≤ last → last ≤ 65535 → place < 16384 → port ≡ port_after last place → last < port → port ≡ last + 1 + place
place_up last place port a b c is above = omega arith

place_round : (last place port : ℕ) → 49152 ≤ last → last ≤ 65535 → place < 16384 → port ≡ port_after last place → port ≤ last → port + 16384 ≡ last + 1 + place
place_round last place port a b c is above = omega arith

dynamic_after : (last place port : ℕ) → port ≡ port_after last place → IsDynamic port
dynamic_after last place port is = record { from_first = omega arith; to_last = omega arith }

-- what is given is dynamic
pub given_dynamic : (test : ℕ → Bool) (last steps n port : ℕ) → first_port test last steps n ≡ Some port → IsDynamic port
given_dynamic test last steps n port given = let f = found test last steps n port given in dynamic_after last f.place port f.is

pub first_behind : (test : ℕ → Bool) (last port : ℕ) → IsDynamic last → first_port test last 0 16384 ≡ Some port → IsFirstBehind test last port
first_behind test last port dynamic given = record {
  dynamic = within;
  passes = f.passes;
  between = λ other above below. up other above (let in_turn : port ≤ 65535 = within.to_last in omega arith) (let at : port ≡ last + 1 + f.place = place_up last f.place port dynamic.from_first dynamic.to_last f.within f.is (omega arith) in omega arith);
  above = λ round other above most. up other above most (let at : port + 16384 ≡ last + 1 + f.place = place_round last f.place port dynamic.from_first dynamic.to_last f.within f.is round in let in_turn : 49152 ≤ port = within.from_first in omega arith);
  below = λ round other least below. subst (λ (q : ℕ). test q ≡ false) (turn_round last other least (omega arith) dynamic.to_last)
      (f.before (other + 16383 - last) (omega arith) (let at : port + 16384 ≡ last + 1 + f.place = place_round last f.place port dynamic.from_first dynamic.to_last f.within f.is round in omega arith));
}
  where
    f : IsFound test last 0 16384 port
    f = found test last 0 16384 port given

    within : IsDynamic port
    within = dynamic_after last f.place port f.is

    up : (other : ℕ) → last < other → other ≤ 65535 → other - last - 1 < f.place → test other ≡ false
    up other above most sooner = subst (λ (q : ℕ). test q ≡ false) (turn_up last other dynamic.from_first above most) (f.before (other - last - 1) (omega arith) sooner)

pub none_dynamic : (test : ℕ → Bool) (last : ℕ) → IsDynamic last → first_port test last 0 16384 ≡ None → (port : ℕ) → IsDynamic port → test port ≡ false
none_dynamic test last dynamic given port is = by_place (port - last) refl
  where
    by_place : (d : ℕ) → port - last ≡ d → test port ≡ false
    by_place zero at = subst (λ (q : ℕ). test q ≡ false) (turn_round last port is.from_first (omega arith) dynamic.to_last) (missed test last 0 16384 given (port + 16383 - last) (omega arith) (omega arith))
    by_place (suc d) at = subst (λ (q : ℕ). test q ≡ false) (turn_up last port dynamic.from_first (omega arith) is.to_last) (missed test last 0 16384 given (port - last - 1) (omega arith) (omega arith))
