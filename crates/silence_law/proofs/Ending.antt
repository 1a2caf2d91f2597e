-- Once one end is CLOSED, each act lowers what may still go out and come.
use Rattle.std.proofs.Common.{◌≡◌, ℕ, ◌+◌, ◌*◌, ◌<◌, ◌≤◌, ◌^◌, true, List, [], ◌∷◌, ◌++◌, Option, Some, None, length, length-append, arith, refl, sym, ◌∙◌, ap, subst}
use Rattle.clock.specs.declared.moment.Moment.{Moment}
use Rattle.tcp_segment.specs.Segment.{Segment}
use Rattle.tcp_halves.proofs.Choices.{clash}
use Rattle.tcp_state.specs.declared.emission.Due.{Due}
use Rattle.tcp_state.specs.View.{View, IsSound, is_closed, takes_flag_number, most_outstanding}
use Rattle.tcp_state.specs.Due.{first_due, is_ack_due, after_emitted}
use Rattle.tcp_state.specs.Arrival.{after_segment_at}
use Rattle.tcp_state.specs.Said.{segment_of}
use Rattle.tcp_state.specs.Most.{left_from, most_due}
use Rattle.tcp_state.proofs.Onward.{few_held}
use Rattle.tcp_state.proofs.Segments.{by_clock}
use Rattle.tcp_state.proofs.RunsDry.{runs_dry}
use Rattle.window_law.proofs.Knowing.{leaves}
use Rattle.silence_law.specs.Silence.{Link, turned, AreSound, Acts, sends, hears}
use Rattle.silence_law.proofs.Bounds.{most_ended}
use Rattle.silence_law.proofs.Emitting.{one_at_most}
use Rattle.silence_law.proofs.Measure.{on_way}

-- what a CLOSED end still sends, and what is on its way from it, counts for all that the other may do about it
unfoldable pub left_sum : ℕ → ℕ → ℕ → ℕ → ℕ
left_sum due way far near = 2 ^ 30 * (2 * due + way) + (2 * far + near)

-- what may still go out and come, where the near end is CLOSED
abbrev pub most_left : Link → ℕ
most_left l = left_sum (most_due l.near) (length l.to_far) (most_due l.far) (length l.to_near)

left_most : (mark : Option ℕ) (most : ℕ) → left_from mark most ≤ most
left_most None most = omega arith
left_most (Some mark) most = omega arith

pub few_most : (v : View) → IsSound v → most_outstanding v ≤ 1048577
few_most v sound = let held = few_held v sound in let one = one_at_most (takes_flag_number v.state) in omega (arith, held, one)

few_due : (v : View) → IsSound v → 2 * most_due v < 2 ^ 29
few_due v sound =
    let most = few_most v sound in
    let left = left_most v.resend.mark (most_outstanding v) in
    let a = one_at_most v.owes_reset in
    let b = one_at_most v.resend.owes_probe in
    let c = one_at_most (is_ack_due v) in
    let d = one_at_most v.alive.owed in
    omega (arith, most, left, a, b, c, d)

few_sum : (due way far near : ℕ) → 2 * due < 2 ^ 29 → 2 * far < 2 ^ 29 → left_sum due way far near ≤ most_ended (way + near)
unfolding left_sum
few_sum due way far near a b = omega (arith, a, b)

pub few_left : (l : Link) → AreSound l → most_left l ≤ most_ended (on_way l)
few_left l sound = few_sum (most_due l.near) (length l.to_far) (most_due l.far) (length l.to_near) (few_due l.near sound.near) (few_due l.far sound.far)

one_more : (way : List Segment) (s : Segment) → length (way ++ (s ∷ [])) ≡ length way + 1
one_more way s = length-append way (s ∷ [])

-- The sums.

sent_sum : (due less far way ways near : ℕ) → less < due → ways ≡ way + 1 → left_sum less ways far near < left_sum due way far near
unfolding left_sum
sent_sum due less far way ways near a b = omega (arith, a, b)

heard_sum : (due far way near left : ℕ) → near ≡ left + 1 → left_sum due way far left < left_sum due way far near
unfolding left_sum
heard_sum due far way near left a = omega (arith, a)

other_sent_sum : (due far less way near ways : ℕ) → less < far → ways ≡ near + 1 → left_sum due way less ways < left_sum due way far near
unfolding left_sum
other_sent_sum due far less way near ways a b = omega (arith, a, b)

other_heard_sum : (due far more way left near : ℕ) → 2 * more < 2 ^ 29 → way ≡ left + 1 → left_sum due left more near < left_sum due way far near
unfolding left_sum
other_heard_sum due far more way left near a b = omega (arith, a, b)

pub fewer_left : (due way far left near : ℕ) → left ≤ near → left_sum due way far left ≤ left_sum due way far near
unfolding left_sum
fewer_left due way far left near a = omega (arith, a)

pub fewer_on : (due left way far near : ℕ) → left ≤ way → left_sum due left far near ≤ left_sum due way far near
unfolding left_sum
fewer_on due left way far near a = omega (arith, a)

-- The CLOSED end acts: it sends no more than what it owes, and hears nothing.

hears_nothing : (v : View) (s : Segment) (now : Moment) → is_closed v.state ≡ true → after_segment_at v s now ≡ v
hears_nothing v s now closed = by_clock (λ w. w ≡ v) v s now refl (λ alive. clash (is_closed v.state) closed alive)

longer : (way rest : List Segment) (s : Segment) → way ≡ s ∷ rest → length way ≡ length rest + 1
longer way rest s first = ap length first ∙ omega arith

-- the near end is CLOSED still, and less is left
pub record StaysClosed (l k : Link) : Type 0 where
  pub closed : is_closed k.near.state ≡ true
  pub less : most_left k < most_left l

closed_sends : (l : Link) (due : Due) (now : Moment) → is_closed l.near.state ≡ true → AreSound l → first_due l.near ≡ Some due
    → StaysClosed l (record l { near = after_emitted l.near due now; to_far = l.to_far ++ (segment_of l.near due ∷ []) })
closed_sends l due now closed sound first =
    let v = l.near in
    record {
      closed = ap is_closed (leaves v due now first).state ∙ closed;
      less = sent_sum (most_due v) (most_due (after_emitted v due now)) (most_due l.far) (length l.to_far) (length (l.to_far ++ (segment_of v due ∷ []))) (length l.to_near) (runs_dry v due now sound.near first) (one_more l.to_far (segment_of v due));
    }

closed_hears : (l : Link) (s : Segment) (rest : List Segment) (now : Moment) → is_closed l.near.state ≡ true → l.to_near ≡ s ∷ rest
    → StaysClosed l (record l { near = after_segment_at l.near s now; to_near = rest })
closed_hears l s rest now closed first =
    let same = hears_nothing l.near s now closed in
    record {
      closed = ap (λ (w : View). is_closed w.state) same ∙ closed;
      less = subst (λ (w : View). left_sum (most_due w) (length l.to_far) (most_due l.far) (length rest) < most_left l) (sym same)
          (heard_sum (most_due l.near) (most_due l.far) (length l.to_far) (length l.to_near) (length rest) (longer l.to_near rest s first));
    }

pub closed_acts : (now : Moment) (l k : Link) → Acts now l k → is_closed l.near.state ≡ true → AreSound l → StaysClosed l k
closed_acts now _ _ (sends l due first) closed sound = closed_sends l due now closed sound first
closed_acts now _ _ (hears l s rest first) closed sound = closed_hears l s rest now closed first

-- .. or the other does

-- the far end is CLOSED still, and less is left
pub record LeavesClosed (l k : Link) : Type 0 where
  pub closed : is_closed k.far.state ≡ true
  pub less : most_left (turned k) < most_left (turned l)

other_sends : (l : Link) (due : Due) (now : Moment) → is_closed l.far.state ≡ true → AreSound l → first_due l.near ≡ Some due
    → LeavesClosed l (record l { near = after_emitted l.near due now; to_far = l.to_far ++ (segment_of l.near due ∷ []) })
other_sends l due now closed sound first =
    let v = l.near in
    record {
      closed = closed;
      less = other_sent_sum (most_due l.far) (most_due v) (most_due (after_emitted v due now)) (length l.to_near) (length l.to_far) (length (l.to_far ++ (segment_of v due ∷ []))) (runs_dry v due now sound.near first) (one_more l.to_far (segment_of v due));
    }

other_hears : (l : Link) (s : Segment) (rest : List Segment) (now : Moment) → is_closed l.far.state ≡ true → (let k : Link = record l { near = after_segment_at l.near s now; to_near = rest } in AreSound k → l.to_near ≡ s ∷ rest → LeavesClosed l k)
other_hears l s rest now closed sound first =
    let w = after_segment_at l.near s now in
    record {
      closed = closed;
      less = other_heard_sum (most_due l.far) (most_due l.near) (most_due w) (length l.to_near) (length rest) (length l.to_far) (few_due w sound.near) (longer l.to_near rest s first);
    }

pub other_acts : (now : Moment) (l k : Link) → Acts now l k → is_closed l.far.state ≡ true → AreSound l → AreSound k → LeavesClosed l k
other_acts now _ _ (sends l due first) closed sound then_sound = other_sends l due now closed sound first
other_acts now _ _ (hears l s rest first) closed sound then_sound = other_hears l s rest now closed then_sound first
