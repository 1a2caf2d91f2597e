-- The congestion window along lists of events: its range, its growth by a new ACK, and what begins a recovery.
use Rattle.std.proofs.Common.{◌≡◌, ◌⊎◌, inl, inr, ℕ, ◌+◌, ◌*◌, ◌^◌, ◌<◌, ◌≤◌, min, Bool, true, false, List, [], ◌∷◌, ◌++◌, fold, if◌then◌else◌, refl, ◌/◌, arith}
use Rattle.std.specs.List.{AllByRecursion}
use Rattle.std.proofs.Math.Nat.{div-le_of_le-mul, mul-le-mul_right}
use Rattle.std.proofs.lemmas.Bool.Decides.{nat_tests}
use Rattle.std.proofs.lemmas.List.Sums.{fold-append}
use Rattle.congestion.specs.declared.control.Control.{Control}
use Rattle.congestion.specs.Control.{repairs, initial_segments}
use Rattle.congestion.specs.Window.{Window, bounded, initial_window, is_recovering, most_counted, growth, after_new_ack, after_partial_ack, after_expiry, after_duplicate, after_loss, after_undo, third_is_next}
use Rattle.congestion.specs.Events.{Event, IsOfPlain, after_event, window_after}
use Rattle.congestion.specs.Events.Event.{NewAck, PartialAck, Expiry, Duplicate, Loss, Undo}

-- what holds of every window with segments of this size
record IsReached (control : Control) (smss : ℕ) (w : Window) : Type 0 where
  same : w.control ≡ control
  segment : w.smss ≡ smss
  least : smss ≤ w.cwnd
  most : w.cwnd ≤ 2 ^ 30
  threshold : smss ≤ w.ssthresh
  prior : w.prior_cwnd ≤ 2 ^ 30

new_ack_keeps : (control : Control) (smss octets flight : ℕ) (w : Window) → smss ≤ 1460 → IsReached control smss w → IsReached control smss (after_new_ack w octets flight)
new_ack_keeps control smss octets flight w most reached = record {
  same = reached.same;
  segment = reached.segment;
  least = grind (arith, nat_tests);
  most = omega arith;
  threshold = reached.threshold;
  prior = reached.prior;
}

partial_ack_keeps : (control : Control) (smss octets : ℕ) (w : Window) → smss ≤ 1460 → IsReached control smss w → IsReached control smss (after_partial_ack w octets)
partial_ack_keeps control smss octets w most reached = record {
  same = reached.same;
  segment = reached.segment;
  least = omega arith;
  most = grind (arith, nat_tests);
  threshold = reached.threshold;
  prior = reached.prior;
}

expiry_keeps : (control : Control) (smss flight : ℕ) (w : Window) → smss ≤ 1460 → IsReached control smss w → IsReached control smss (after_expiry w flight)
expiry_keeps control smss flight w most reached = record {
  same = reached.same;
  segment = reached.segment;
  least = omega arith;
  most = omega arith;
  threshold = grind (arith, nat_tests);
  prior = omega arith;
}

duplicate_keeps : (control : Control) (smss flight : ℕ) (w : Window) → smss ≤ 1460 → IsReached control smss w → IsReached control smss (after_duplicate w flight)
duplicate_keeps control smss flight w most reached = record {
  same = grind (arith, nat_tests);
  segment = grind (arith, nat_tests);
  least = grind (arith, nat_tests);
  most = grind (arith, nat_tests);
  threshold = grind (arith, nat_tests);
  prior = grind (arith, nat_tests);
}

loss_keeps : (control : Control) (smss flight : ℕ) (w : Window) → smss ≤ 1460 → IsReached control smss w → IsReached control smss (after_loss w flight)
loss_keeps control smss flight w most reached = record {
  same = reached.same;
  segment = reached.segment;
  least = omega arith;
  most = omega arith;
  threshold = omega arith;
  prior = reached.most;
}

undo_keeps : (control : Control) (smss : ℕ) (w : Window) → IsReached control smss w → IsReached control smss (after_undo w)
undo_keeps control smss w reached = record {
  same = reached.same;
  segment = reached.segment;
  least = omega (arith, reached.least);
  most = omega (arith, reached.most, reached.prior);
  threshold = omega (arith, reached.threshold);
  prior = reached.prior;
}

event_keeps : (control : Control) (smss : ℕ) (w : Window) (e : Event) → smss ≤ 1460 → IsReached control smss w → IsReached control smss (after_event w e)
event_keeps control smss w (NewAck octets flight) most reached = new_ack_keeps control smss octets flight w most reached
event_keeps control smss w (PartialAck octets) most reached = partial_ack_keeps control smss octets w most reached
event_keeps control smss w (Expiry flight) most reached = expiry_keeps control smss flight w most reached
event_keeps control smss w (Duplicate flight) most reached = duplicate_keeps control smss flight w most reached
event_keeps control smss w (Loss flight) most reached = loss_keeps control smss flight w most reached
event_keeps control smss w Undo most reached = undo_keeps control smss w reached

events_keep : (control : Control) (smss : ℕ) (events : List Event) (w : Window) → smss ≤ 1460 → IsReached control smss w → IsReached control smss (fold after_event w events)
events_keep control smss [] w most reached = reached
events_keep control smss (e ∷ events) w most reached =
    events_keep control smss events (after_event w e) most (event_keeps control smss w e most reached)

-- a segment at least, and ten at most
segments_few : (control : Control) (smss : ℕ) (resent : Bool) → (1 ≤ initial_segments control smss resent) × (initial_segments control smss resent ≤ 10)
segments_few control smss resent = (grind (arith, nat_tests), grind (arith, nat_tests))

product_fits : (segments smss : ℕ) → 1 ≤ segments → segments ≤ 10 → (smss ≤ segments * smss) × (segments * smss ≤ 10 * smss)
product_fits segments smss least most = (let one : 1 * smss ≤ segments * smss = mul-le-mul_right smss least in omega arith, mul-le-mul_right smss most)

first_reached : (control : Control) (smss : ℕ) (resent : Bool) → smss ≤ 1460 → IsReached control smss (initial_window control smss resent)
first_reached control smss resent most =
    let few = segments_few control smss resent in
    let fits = product_fits (initial_segments control smss resent) smss few.0 few.1 in
    record {
      same = refl;
      segment = refl;
      least = fits.0;
      most = omega (arith, fits.1);
      threshold = omega arith;
      prior = omega arith;
    }

reached : (control : Control) (smss : ℕ) (resent : Bool) (events : List Event) → smss ≤ 1460 → IsReached control smss (window_after control smss resent events)
reached control smss resent events most =
    events_keep control smss events (initial_window control smss resent) most (first_reached control smss resent most)

pub window-least : (control : Control) (smss : ℕ) (resent : Bool) (events : List Event) → 64 ≤ smss → smss ≤ 1460
    → smss ≤ (window_after control smss resent events).cwnd
window-least control smss resent events least most = (reached control smss resent events most).least

pub window-most : (control : Control) (smss : ℕ) (resent : Bool) (events : List Event) → 64 ≤ smss → smss ≤ 1460
    → (window_after control smss resent events).cwnd ≤ 2 ^ 30
window-most control smss resent events least most = (reached control smss resent events most).most

-- Where losses are not repaired a recovery ends no higher than it stands.
abbrev EndsNoHigher : Window → Type 0
EndsNoHigher w = is_recovering w ≡ true → bounded w.ssthresh ≤ w.cwnd

event_ends : (control : Control) (smss : ℕ) (w : Window) (e : Event) → IsOfPlain e → smss ≤ 1460 → IsReached control smss w → EndsNoHigher w → EndsNoHigher (after_event w e)
event_ends control smss w (NewAck octets flight) whole most has ends = grind (arith, nat_tests)
event_ends control smss w (PartialAck _) whole most has ends = elim whole [ ]
event_ends control smss w (Expiry flight) whole most has ends = grind (arith, nat_tests)
event_ends control smss w (Duplicate flight) whole most has ends = grind (arith, nat_tests)
event_ends control smss w (Loss _) whole most has ends = elim whole [ ]
event_ends control smss w Undo whole most has ends = elim whole [ ]

events_end : (control : Control) (smss : ℕ) (events : List Event) (w : Window) → AllByRecursion IsOfPlain events → smss ≤ 1460 → IsReached control smss w → EndsNoHigher w → EndsNoHigher (fold after_event w events)
events_end control smss [] w whole most has ends = ends
events_end control smss (e ∷ events) w whole most has ends =
    events_end control smss events (after_event w e) whole.1 most (event_keeps control smss w e most has) (event_ends control smss w e whole.0 most has ends)

-- what is divided by the window is no more than is counted
quotient_small : (control : Control) (smss counted : ℕ) (w : Window) → 0 < smss → IsReached control smss w → w.smss * counted / w.cwnd ≤ counted
quotient_small control smss counted w positive reached =
    let fits : w.smss ≤ w.cwnd = omega arith in
    div-le_of_le-mul w.cwnd (mul-le-mul_right counted fits)

-- no growth is over a segment where losses are not repaired ..
growth_small : (control : Control) (smss octets : ℕ) (w : Window) → 0 < smss → repairs w.control ≡ false → IsReached control smss w → growth w octets ≤ smss
growth_small control smss octets w positive plain reached =
    let quotient = quotient_small control smss w.smss w positive reached in
    grind (arith, nat_tests)

-- either way of a new ACK
adds_small : (recovering : Bool) (ending cwnd added smss : ℕ) → (recovering ≡ true → bounded ending ≤ cwnd) → added ≤ smss
    → bounded (if recovering then ending else cwnd + added) ≤ cwnd + smss
adds_small true ending cwnd added smss ends small = omega (arith, ends refl)
adds_small false ending cwnd added smss ends small = omega arith

new_ack_adds : (control : Control) (smss octets flight : ℕ) (w : Window) → 0 < smss → repairs w.control ≡ false → IsReached control smss w → EndsNoHigher w
    → (after_new_ack w octets flight).cwnd ≤ w.cwnd + smss
new_ack_adds control smss octets flight w positive plain reached ends =
    let small = growth_small control smss octets w positive plain reached in
    grind (arith, nat_tests)

pub new_ack-adds : (control : Control) (smss : ℕ) (resent : Bool) (events : List Event) (octets flight : ℕ) → 64 ≤ smss → smss ≤ 1460
    → repairs control ≡ false → AllByRecursion IsOfPlain events
    → (window_after control smss resent (events ++ NewAck octets flight ∷ [])).cwnd ≤ (window_after control smss resent events).cwnd + smss
new_ack-adds control smss resent events octets flight least most plain whole =
    let was = reached control smss resent events most in
    let none : EndsNoHigher (initial_window control smss resent) = λ begins. let bad : false ≡ true = begins in cc in
    let ends = events_end control smss events (initial_window control smss resent) whole most (first_reached control smss resent most) none in
    rw (fold-append after_event (initial_window control smss resent) events (NewAck octets flight ∷ []))
    (new_ack_adds control smss octets flight (window_after control smss resent events) (omega arith) (rw was.same plain) was ends)

-- .. nor over two where they are
growth_counted : (control : Control) (smss octets : ℕ) (w : Window) → 0 < smss → IsReached control smss w → growth w octets ≤ 2 * smss
growth_counted control smss octets w positive reached =
    let one = quotient_small control smss w.smss w positive reached in
    let counted = quotient_small control smss (min octets (most_counted w)) w positive reached in
    let few : most_counted w ≤ 2 * w.smss = grind (arith, nat_tests) in
    grind (arith, nat_tests)

new_ack_counts : (control : Control) (smss octets flight : ℕ) (w : Window) → 0 < smss → IsReached control smss w → is_recovering w ≡ false
    → (after_new_ack w octets flight).cwnd ≤ w.cwnd + 2 * smss
new_ack_counts control smss octets flight w positive reached stands =
    let small = growth_counted control smss octets w positive reached in
    grind (arith, nat_tests)

pub new_ack-counts : (control : Control) (smss : ℕ) (resent : Bool) (events : List Event) (octets flight : ℕ) → 64 ≤ smss → smss ≤ 1460
    → is_recovering (window_after control smss resent events) ≡ false
    → (window_after control smss resent (events ++ NewAck octets flight ∷ [])).cwnd ≤ (window_after control smss resent events).cwnd + 2 * smss
new_ack-counts control smss resent events octets flight least most stands =
    rw (fold-append after_event (initial_window control smss resent) events (NewAck octets flight ∷ []))
    (new_ack_counts control smss octets flight (window_after control smss resent events) (omega arith) (reached control smss resent events most) stands)

-- A recovery begins with a third duplicate ACK or a loss.
pub recovery-begins : (w : Window) (e : Event) → is_recovering w ≡ false → is_recovering (after_event w e) ≡ true
    → (flight : ℕ) × (((e ≡ Duplicate flight) × (third_is_next w ≡ true)) ⊎ (e ≡ Loss flight))
recovery-begins w (NewAck octets flight) stands begins = grind arith
recovery-begins w (PartialAck octets) stands begins = grind arith
recovery-begins w (Expiry flight) stands begins = grind arith
recovery-begins w (Duplicate flight) stands begins = (flight, inl (refl, grind (arith, nat_tests)))
recovery-begins w (Loss flight) stands begins = (flight, inr refl)
recovery-begins w Undo stands begins = cc
