-- What two open ends lack of being silent.
use Rattle.std.proofs.Common.{ℕ, ◌+◌, ◌-◌, ◌*◌, ◌==◌, ◌&&◌, ◌||◌, not, nat_lt, Bool, true, false, if◌then◌else◌, List, [], ◌∷◌, length}
use Rattle.tcp_segment.specs.Segment.{Segment, span_of}
use Rattle.tcp_segment.specs.Wire.{past}
use Rattle.tcp_halves.specs.Stream.{outstanding, number_before, receive_window}
use Rattle.tcp_state.specs.View.{View, most_outstanding}
use Rattle.tcp_state.specs.Due.{is_ack_due}
use Rattle.tcp_state.specs.Most.{one_if, left_from}
use Rattle.silence_law.specs.Silence.{Link}

-- The numbers of an end by which what comes to it, and what comes from it, is weighed.
pub record Stance : Type 0 where
  pub una : ℕ
  pub nxt : ℕ
  pub probed : Bool
  pub rnext : ℕ
  pub window : ℕ

abbrev pub stance : View → Stance
stance v = record { una = v.sending.una; nxt = v.sending.nxt; probed = v.sending.probed; rnext = v.receiving.rnext; window = receive_window v.receiving }

-- the number of an acknowledgement alone
abbrev pub bare_of : Stance → ℕ
bare_of x = if x.probed then number_before x.nxt else x.nxt

-- the one end, x, has taken what the other doesn't know
abbrev pub tells : Stance → Stance → Bool
tells x y = not (x.rnext == y.una)

-- what only a probe of x took may go out again without a tick: the other has it, or has room for it
abbrev pub may_reopen : Stance → Stance → Bool
may_reopen x y = x.probed && (tells y x || nat_lt 0 y.window)

-- it is an acknowledgement alone as x would say it now
abbrev pub is_light : Stance → Segment → Bool
is_light x s = (s.number == bare_of x) && (s.acknowledgement == x.rnext) && (span_of s == 0)

-- it brings one number, that at SND.UNA, and acknowledges all that x has taken
abbrev pub is_short : Stance → Segment → Bool
is_short x s = (s.number == x.una) && (s.acknowledgement == x.rnext) && (span_of s == 1)

-- what a segment weighs on its way from x to y: as much as what it may draw, and one more
abbrev pub weight : Stance → Stance → Segment → ℕ
weight x y s = if is_light x s then (if tells x y then 0 else 5) else if is_short x s && may_reopen x y then 2 else 10

unfoldable pub weights : Stance → Stance → List Segment → ℕ
weights x y [] = 0
weights x y (s ∷ rest) = weight x y s + weights x y rest

-- .. and a number that goes out again, a probe, or the question to a silent peer
abbrev pub again_weight : Bool → ℕ → ℕ
again_weight true n = 3 * n
again_weight false n = 11 * n

-- .. and an acknowledgement that is due
abbrev pub answer_weight : Bool → ℕ → ℕ
answer_weight true n = n
answer_weight false n = 6 * n

-- how many numbers go out again, with the probe and the question that are owed
abbrev pub left_of : View → ℕ
left_of v = left_from v.resend.mark (outstanding v.sending) + one_if v.resend.owes_probe + one_if v.alive.owed

-- what x owes, and what is on its way from it
abbrev pub busy : View → View → List Segment → ℕ
busy x y way = again_weight (may_reopen (stance x) (stance y)) (left_of x) + answer_weight (tells (stance x) (stance y)) (one_if (is_ack_due x)) + weights (stance x) (stance y) way

abbrev pub owed : Link → ℕ
owed l = busy l.near l.far l.to_far + busy l.far l.near l.to_near

-- what x lacks: numbers that aren't acknowledged, that never went out, and that the other hasn't taken; and duplicate ACKs up to the third
abbrev pub lacks : View → View → ℕ
lacks x y = 4 * (most_outstanding x + 2 * (most_outstanding x - outstanding x.sending) + (outstanding x.sending - past y.receiving.rnext x.sending.una)) + (3 - x.congestion.duplicates)

abbrev pub lacked : Link → ℕ
lacked l = lacks l.near l.far + lacks l.far l.near

abbrev pub on_way : Link → ℕ
on_way l = length l.to_far + length l.to_near
