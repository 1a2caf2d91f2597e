-- Two ends that are left to themselves fall silent.
use Rattle.std.proofs.Common.{◌≡◌, ℕ, ◌+◌, ◌*◌, ◌<◌, ◌≤◌, ◌^◌, ◌⊎◌, inl, inr, Bool, true, false, List, [], ◌∷◌, ◌++◌, Some, length, length-append, arith, sym, ap, subst}
use Rattle.std.proofs.lemmas.Bool.Decides.{leb_tells}
use Rattle.clock.specs.declared.moment.Moment.{Moment}
use Rattle.tcp_segment.specs.Segment.{Segment}
use Rattle.tcp_halves.specs.Stream.{outstanding}
use Rattle.tcp_halves.proofs.Choices.{by, neither}
use Rattle.tcp_state.specs.declared.emission.Due.{Due}
use Rattle.tcp_state.specs.View.{View, IsSound, is_opening, is_closed}
use Rattle.tcp_state.specs.Due.{first_due, is_ack_due, after_emitted}
use Rattle.tcp_state.specs.Arrival.{after_segment_at}
use Rattle.tcp_state.specs.Said.{segment_of}
use Rattle.tcp_state.specs.Most.{one_if, most_due}
use Rattle.tcp_state.proofs.Onward.{few_outstanding}
use Rattle.stream_law.specs.Channel.{IsAmong, here as first_one, there as later}
use Rattle.stream_law.specs.Pairing.{Present, Pairing}
use Rattle.window_law.specs.Windows.{IsOpen, Talks}
use Rattle.silence_law.specs.Silence.{Link, turned, still, Acts, sends, hears, Stir, here_stirs, there_stirs, Loses, loses, AreSound, Stirs, ends, goes_on, lost_here, lost_there, FallsSilent}
use Rattle.silence_law.proofs.Bounds.{most_owed, most_acts, more_acts, owed_falls, lacked_falls, one_ends}
use Rattle.silence_law.proofs.Measure.{stance, tells, may_reopen, again_weight, answer_weight, left_of, busy, lacks, owed, lacked, on_way}
use Rattle.silence_law.proofs.Weighing.{one_before, ten_each}
use Rattle.silence_law.proofs.Emitting.{one_at_most}
use Rattle.silence_law.proofs.Repeating.{left_few}
use Rattle.silence_law.proofs.Standing.{meet}
use Rattle.silence_law.proofs.Along.{Together, together_turned, sends_on, hears_on}
use Rattle.silence_law.proofs.Coming.{Coming, comes_lowers}
use Rattle.silence_law.proofs.Going.{goes_out_lowers}
use Rattle.silence_law.proofs.Ending.{most_left, few_left, fewer_left, fewer_on, closed_acts, other_acts}

-- How much is owed and on its way at most.

few_again : (b : Bool) (n : ℕ) → again_weight b n ≤ 11 * n
few_again true n = omega arith
few_again false n = omega arith

few_answers : (b : Bool) (n : ℕ) → answer_weight b n ≤ 6 * n
few_answers true n = omega arith
few_answers false n = omega arith

few_busy : (x y : View) (way : List Segment) → IsSound x → busy x y way ≤ 2 ^ 29 + 10 * length way
few_busy x y way sound =
    let a = few_again (may_reopen (stance x) (stance y)) (left_of x) in
    let b = few_answers (tells (stance x) (stance y)) (one_if (is_ack_due x)) in
    let c = ten_each (stance x) (stance y) way in
    let out = few_outstanding x sound in
    let mark = left_few x.resend.mark (outstanding x.sending) in
    let d = one_at_most x.resend.owes_probe in
    let e = one_at_most x.alive.owed in
    let f = one_at_most (is_ack_due x) in
    omega (arith, a, b, c, out, mark, d, e, f)

few_owed : (l : Link) → AreSound l → owed l ≤ most_owed (on_way l)
few_owed l sound = let a = few_busy l.near l.far l.to_far sound.near in let b = few_busy l.far l.near l.to_near sound.far in omega (arith, a, b)

-- At most so many acts are left: both ends are open, or one is CLOSED.
pub record BothOpen (limit : ℕ) (l : Link) (n : ℕ) : Type 0 where
  pub together : Together limit l
  pub sound : AreSound l
  pub within : most_acts (lacked l) (owed l) (on_way l) ≤ n

pub record NearEnded (l : Link) (n : ℕ) : Type 0 where
  pub closed : is_closed l.near.state ≡ true
  pub sound : AreSound l
  pub within : most_left l ≤ n

pub record FarEnded (l : Link) (n : ℕ) : Type 0 where
  pub closed : is_closed l.far.state ≡ true
  pub sound : AreSound l
  pub within : most_left (turned l) ≤ n

pub data Within (limit : ℕ) (l : Link) (n : ℕ) : Type 0 where
  both_open : BothOpen limit l n → Within limit l n
  near_ended : NearEnded l n → Within limit l n
  far_ended : FarEnded l n → Within limit l n

-- .. and then fewer
pub record Fewer (limit : ℕ) (k : Link) (n : ℕ) : Type 0 where
  pub left : ℕ
  pub less : left < n
  pub within : Within limit k left

sound_turned : (l : Link) → AreSound l → AreSound (turned l)
sound_turned l s = record { near = s.far; far = s.near }

open_turned : (limit : ℕ) (l : Link) (n : ℕ) → BothOpen limit l n → BothOpen limit (turned l) n
open_turned limit l n b = record {
  together = together_turned limit l b.together;
  sound = sound_turned l b.sound;
  within = subst (λ m. most_acts m (owed (turned l)) (on_way (turned l)) ≤ n) (swap (lacks l.near l.far) (lacks l.far l.near))
      (subst (λ m. most_acts (lacked l) m (on_way (turned l)) ≤ n) (swap (busy l.near l.far l.to_far) (busy l.far l.near l.to_near))
      (subst (λ m. most_acts (lacked l) (owed l) m ≤ n) (swap (length l.to_far) (length l.to_near)) b.within));
}
  where
    swap : (a b : ℕ) → a + b ≡ b + a
    swap a b = omega arith

pub within_turned : (limit : ℕ) (l : Link) (n : ℕ) → Within limit l n → Within limit (turned l) n
within_turned limit l n (both_open b) = both_open (open_turned limit l n b)
within_turned limit l n (near_ended e) = far_ended (record { closed = e.closed; sound = sound_turned l e.sound; within = e.within })
within_turned limit l n (far_ended e) = near_ended (record { closed = e.closed; sound = sound_turned l e.sound; within = e.within })

-- Both are open: they lack less, or as much, and less is owed and on its way.

lowered : (limit : ℕ) (l k : Link) (n : ℕ) → most_acts (lacked l) (owed l) (on_way l) ≤ n → on_way k ≤ on_way l + 1 → (lacked k < lacked l) ⊎ ((lacked k ≤ lacked l) × (owed k < owed l)) → Together limit k → AreSound k → Fewer limit k n
lowered limit l k n within way how together sound =
    let left = most_acts (lacked k) (owed k) (on_way k) in
    let bound = few_owed k sound in
    let by_lack : lacked k < lacked l → left < most_acts (lacked l) (owed l) (on_way l) = λ less. lacked_falls (lacked k) (lacked l) (owed l) (on_way l) (owed k) (on_way k) less bound way in
    let less : left < most_acts (lacked l) (owed l) (on_way l) = elim how [
      | inl fewer ↦ by_lack fewer
      | inr same ↦ elim (leb_tells (lacked l) (lacked k)) [
        | inr fewer ↦ by_lack fewer.1
        | inl all ↦
            let at : lacked l ≡ lacked k = let a = all.1 in let b = same.0 in omega (arith, a, b) in
            subst (λ m. left < most_acts m (owed l) (on_way l)) (sym at) (owed_falls (lacked k) (owed l) (on_way l) (owed k) (on_way k) same.1 way)
      ]
    ] in
    record { left = left; less = omega (arith, less, within); within = both_open (record { together = together; sound = sound; within = omega arith }) }

open_sends : (limit : ℕ) (l : Link) (due : Due) (now : Moment) (n : ℕ) → 0 < limit → first_due l.near ≡ Some due → BothOpen limit l n → (let k : Link = record l { near = after_emitted l.near due now; to_far = l.to_far ++ (segment_of l.near due ∷ []) } in AreSound k → Fewer limit k n)
open_sends limit l due now n some first b sound =
    let v = l.near in
    let k : Link = record l { near = after_emitted v due now; to_far = l.to_far ++ (segment_of v due ∷ []) } in
    let was = b.sound in
    let t = b.together in
    let o = neither (is_opening v.state) (is_closed v.state) t.near_open in
    let long = length-append l.to_far (segment_of v due ∷ []) in
    lowered limit l k n b.within (omega (arith, long)) (goes_out_lowers v l.far due l.to_far l.to_near now was.near o.1 o.0 first sound.near) (sends_on limit l due now some was.near first t) sound

open_hears : (limit : ℕ) (l : Link) (s : Segment) (rest : List Segment) (now : Moment) (n : ℕ) → limit ≤ 2 ^ 30 → l.to_near ≡ s ∷ rest → BothOpen limit l n → (let k : Link = record l { near = after_segment_at l.near s now; to_near = rest } in AreSound k → Fewer limit k n)
open_hears limit l s rest now n small first b sound =
    let y = l.near in
    let x = l.far in
    let w = after_segment_at y s now in
    let k : Link = record l { near = w; to_near = rest } in
    let was = b.sound in
    let t = b.together in
    let long : length l.to_near ≡ length (s ∷ rest) = ap length first in
    let way : on_way k ≤ on_way l + 1 = omega (arith, long) in
    by _ (is_closed w.state)
    (λ closed.
    let left = few_left k sound in
    let less = one_ends (lacked l) (owed l) (on_way l) (most_left k) (on_way k) left way in
    let within = b.within in
    record { left = most_left k; less = omega (arith, less, within); within = near_ended (record { closed = closed; sound = sound; within = omega arith }) })
    (λ lives.
    let then_together = hears_on limit l s rest now was.near first lives t in
    let met = meet limit small t.p y x t.talks t.own t.other t.near_open t.far_open was.near was.far in
    let u = then_together in
    let met_then = meet limit small u.p w x u.talks u.own u.other u.near_open u.far_open sound.near was.far in
    let o = neither (is_opening y.state) (is_closed y.state) t.near_open in
    let f = neither (is_opening x.state) (is_closed x.state) t.far_open in
    let o_then = neither (is_opening w.state) (is_closed w.state) u.near_open in
    let on = t.to_near s (subst (λ segments. IsAmong s segments) (sym first) (first_one s rest)) in
    let coming : Coming x y s now = record {
      met = met.1;
      back = met.0;
      sound = was.far;
      other = was.near;
      living = f.1;
      there = o.1;
      opened = o.0;
      plain = on.plain;
      lives = lives;
      open_yet = o_then.0;
      met_then = met_then.1;
      back_then = met_then.0;
      sound_then = sound.near;
    } in
    let same : busy x y l.to_near ≡ busy x y (s ∷ rest) = ap (busy x y) first in
    let how : (lacked k < lacked l) ⊎ ((lacked k ≤ lacked l) × (owed k < owed l)) = elim (comes_lowers x y s rest l.to_far now coming) [
      | inl fewer ↦ inl (omega (arith, fewer))
      | inr less ↦ let a = less.0 in let c = less.1 in inr (omega (arith, a), omega (arith, c, same))
    ] in
    lowered limit l k n b.within way how then_together sound)

-- One end is CLOSED.

near_acts : (limit : ℕ) (now : Moment) (l k : Link) (n : ℕ) → Acts now l k → AreSound k → NearEnded l n → Fewer limit k n
near_acts limit now l k n act sound e =
    let s = closed_acts now l k act e.closed e.sound in
    let less = s.less in
    let within = e.within in
    record { left = most_left k; less = omega (arith, less, within); within = near_ended (record { closed = s.closed; sound = sound; within = omega arith }) }

far_acts : (limit : ℕ) (now : Moment) (l k : Link) (n : ℕ) → Acts now l k → AreSound k → FarEnded l n → Fewer limit k n
far_acts limit now l k n act sound e =
    let s = other_acts now l k act e.closed e.sound sound in
    let less = s.less in
    let within = e.within in
    record { left = most_left (turned k); less = omega (arith, less, within); within = far_ended (record { closed = s.closed; sound = sound; within = omega arith }) }

-- Each act leaves fewer.

open_acts : (limit : ℕ) → 0 < limit → limit ≤ 2 ^ 30 → (now : Moment) (l k : Link) → Acts now l k → (n : ℕ) → AreSound k → BothOpen limit l n → Fewer limit k n
open_acts limit some small now _ _ (sends l due first) n sound b = open_sends limit l due now n some first b sound
open_acts limit some small now _ _ (hears l s rest first) n sound b = open_hears limit l s rest now n small first b sound

acts : (limit : ℕ) → 0 < limit → limit ≤ 2 ^ 30 → (now : Moment) (l k : Link) (n : ℕ) → Acts now l k → AreSound k → Within limit l n → Fewer limit k n
acts limit some small now l k n act sound (both_open b) = open_acts limit some small now l k act n sound b
acts limit some small now l k n act sound (near_ended e) = near_acts limit now l k n act sound e
acts limit some small now l k n act sound (far_ended e) = far_acts limit now l k n act sound e

fewer_turned : (limit : ℕ) (k : Link) (n : ℕ) → Fewer limit k n → Fewer limit (turned k) n
fewer_turned limit k n f = record { left = f.left; less = f.less; within = within_turned limit k f.left f.within }

pub stirs_once : (limit : ℕ) → 0 < limit → limit ≤ 2 ^ 30 → (now : Moment) (l k : Link) → Stir now l k → (n : ℕ) → AreSound k → Within limit l n → Fewer limit k n
stirs_once limit some small now _ _ (here_stirs l k act) n sound w = acts limit some small now l k n act sound w
stirs_once limit some small now _ _ (there_stirs l k act) n sound w = fewer_turned limit k n (acts limit some small now (turned l) k n act (sound_turned (turned k) sound) (within_turned limit l n w))

-- Where some is lost, no more are left.

lost_weighs : (y x : View) (s : Segment) (rest way : List Segment) → way ≡ s ∷ rest → busy y x rest ≤ busy y x way
lost_weighs y x s rest way first = let same : busy y x way ≡ busy y x (s ∷ rest) = ap (busy y x) first in let one = one_before (stance y) (stance x) s rest in omega (arith, same, one)

shorter : (s : Segment) (rest way : List Segment) → way ≡ s ∷ rest → length rest ≤ length way
shorter s rest way first = let long : length way ≡ length (s ∷ rest) = ap length first in omega (arith, long)

together_lost : (limit : ℕ) (l : Link) (s : Segment) (rest : List Segment) → l.to_near ≡ s ∷ rest → Together limit l → Together limit (record l { to_near = rest })
together_lost limit l s rest first t = record {
  p = t.p;
  talks = t.talks;
  own = t.own;
  other = t.other;
  near_open = t.near_open;
  far_open = t.far_open;
  to_near = λ g among. t.to_near g (subst (λ way. IsAmong g way) (sym first) (later g s rest among));
  to_far = t.to_far;
}

lost_within : (limit : ℕ) (l : Link) (s : Segment) (rest : List Segment) (n : ℕ) → l.to_near ≡ s ∷ rest → Within limit l n → Within limit (record l { to_near = rest }) n
lost_within limit l s rest n first (both_open b) =
    let k : Link = record l { to_near = rest } in
    let less = lost_weighs l.far l.near s rest l.to_near first in
    let short = shorter s rest l.to_near first in
    let fewer = more_acts (lacked l) (owed k) (on_way k) (owed l) (on_way l) (omega (arith, less)) (omega (arith, short)) in
    let within = b.within in
    both_open (record { together = together_lost limit l s rest first b.together; sound = record { near = b.sound.near; far = b.sound.far }; within = omega (arith, fewer, within) })
lost_within limit l s rest n first (near_ended e) =
    let short = shorter s rest l.to_near first in
    let within = e.within in
    near_ended (record { closed = e.closed; sound = record { near = e.sound.near; far = e.sound.far }; within = omega (arith, within, fewer_left (most_due l.near) (length l.to_far) (most_due l.far) (length rest) (length l.to_near) short) })
lost_within limit l s rest n first (far_ended e) =
    let short = shorter s rest l.to_near first in
    let within = e.within in
    far_ended (record { closed = e.closed; sound = record { near = e.sound.near; far = e.sound.far }; within = omega (arith, within, fewer_on (most_due l.far) (length rest) (length l.to_near) (most_due l.near) (length l.to_far) short) })

pub loses_some : (limit : ℕ) (l k : Link) (n : ℕ) → Loses l k → Within limit l n → Within limit k n
loses_some limit _ _ n (loses l s rest first) w = lost_within limit l s rest n first w

-- .. so that no more follow than that.
no_more : (limit : ℕ) → 0 < limit → limit ≤ 2 ^ 30 → (now : Moment) (m : ℕ) (l j : Link) → Stirs now m l j → (n : ℕ) → Within limit l n → m ≤ n
no_more limit some small now _ _ _ (ends l) n w = omega arith
no_more limit some small now _ _ _ (goes_on m l k j stir sound run) n w =
    let f = stirs_once limit some small now l k stir n sound w in
    let rest = no_more limit some small now m k j run f.left f.within in
    let less = f.less in
    omega (arith, rest, less)
no_more limit some small now _ _ _ (lost_here m l k j lost run) n w = no_more limit some small now m k j run n (loses_some limit l k n lost w)
no_more limit some small now _ _ _ (lost_there m l k j lost run) n w =
    no_more limit some small now m (turned k) j run n (within_turned limit k n (loses_some limit (turned l) k n lost (within_turned limit l n w)))

not_on_way : (s : Segment) → IsAmong s [] → ⊥
not_on_way s among = elim among [ ]

-- at most so many are left of two open ends between which nothing is on its way
abbrev pub most_of : View → View → ℕ
most_of v w = most_acts (lacked (still v w)) (owed (still v w)) (on_way (still v w))

pub at_first : (limit : ℕ) (p : Pairing) → Talks limit p → (v w : View) → p.own.connection ≡ Present v → p.other.connection ≡ Present w → IsOpen v → IsOpen w → IsSound v → IsSound w → Within limit (still v w) (most_of v w)
at_first limit p talks v w own other here there sound sound_there = both_open (record {
  together = record {
    p = p;
    talks = talks;
    own = own;
    other = other;
    near_open = here;
    far_open = there;
    to_near = λ s among. absurd (not_on_way s among);
    to_far = λ s among. absurd (not_on_way s among);
  };
  sound = record { near = sound; far = sound_there };
  within = omega arith;
})

pub fall_silent : (limit : ℕ) → 0 < limit → limit ≤ 2 ^ 30 → (p : Pairing) → Talks limit p → (v w : View) → p.own.connection ≡ Present v → p.other.connection ≡ Present w → IsOpen v → IsOpen w → IsSound v → IsSound w → (now : Moment) → FallsSilent now (still v w)
fall_silent limit some small p talks v w own other here there sound sound_there now =
    (most_of v w, λ m k run. no_more limit some small now m (still v w) k run (most_of v w) (at_first limit p talks v w own other here there sound sound_there))
