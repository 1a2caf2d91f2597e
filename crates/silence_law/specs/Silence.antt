-- Two ends of one connection that are left to themselves, without a call and without a tick, and a network that brings what goes out in order, or loses it.
use Rattle.std.specs.Prelude.{◌≡◌, ℕ, suc, ◌<◌, ◌≤◌, ◌^◌, List, [], ◌∷◌, ◌++◌, Some}
use Rattle.clock.specs.declared.moment.Moment.{Moment}
use Rattle.tcp_segment.specs.Segment.{Segment}
use Rattle.tcp_state.specs.declared.emission.Due.{Due}
use Rattle.tcp_state.specs.View.{View, IsSound}
use Rattle.tcp_state.specs.Arrival.{after_segment_at}
use Rattle.tcp_state.specs.Due.{first_due, after_emitted}
use Rattle.tcp_state.specs.Said.{segment_of}
use Rattle.stream_law.specs.Pairing.{Present, Pairing}
use Rattle.window_law.specs.Windows.{IsOpen, Talks}

-- The two ends, and what is on its way from each to the other: what went out first is first.
pub record Link : Type 0 where
  pub near : View
  pub far : View
  pub to_far : List Segment
  pub to_near : List Segment

-- the same, as the far end sees it
abbrev pub turned : Link → Link
turned l = record { near = l.far; far = l.near; to_far = l.to_near; to_near = l.to_far }

-- with nothing on its way
abbrev pub still : View → View → Link
still v w = record { near = v; far = w; to_far = []; to_near = [] }

-- What the near end does: what is due first goes out, or the first segment that is on its way to it comes.
pub data Acts (now : Moment) : Link → Link → Type 0 where
  sends : (l : Link) (due : Due) → first_due l.near ≡ Some due → Acts now l (record l { near = after_emitted l.near due now; to_far = l.to_far ++ (segment_of l.near due ∷ []) })
  hears : (l : Link) (s : Segment) (rest : List Segment) → l.to_near ≡ s ∷ rest → Acts now l (record l { near = after_segment_at l.near s now; to_near = rest })

-- the first that is on its way to the near end is lost
pub data Loses : Link → Link → Type 0 where
  loses : (l : Link) (s : Segment) (rest : List Segment) → l.to_near ≡ s ∷ rest → Loses l (record l { to_near = rest })

-- one of the two ends does
pub data Stir (now : Moment) : Link → Link → Type 0 where
  here_stirs : (l k : Link) → Acts now l k → Stir now l k
  there_stirs : (l k : Link) → Acts now (turned l) k → Stir now l (turned k)

-- as each connection is, in every reached state
pub record AreSound (l : Link) : Type 0 where
  pub near : IsSound l.near
  pub far : IsSound l.far

-- so many times, one after the other, and in between some is lost
pub data Stirs (now : Moment) : ℕ → Link → Link → Type 0 where
  ends : (l : Link) → Stirs now 0 l l
  goes_on : (n : ℕ) (l k j : Link) → Stir now l k → AreSound k → Stirs now n k j → Stirs now (suc n) l j
  lost_here : (n : ℕ) (l k j : Link) → Loses l k → Stirs now n k j → Stirs now n l j
  lost_there : (n : ℕ) (l k j : Link) → Loses (turned l) k → Stirs now n (turned k) j → Stirs now n l j

-- There is a number of segments that go out and come, past which no more do, whatever of them is lost.
abbrev pub FallsSilent : Moment → Link → Type 0
FallsSilent now l = (most : ℕ) × ((n : ℕ) (k : Link) → Stirs now n l k → n ≤ most)

-- over every reached state of two open ends, whatever is lost of what was on its way then
abbrev pub EveryTalkFallsSilent : Type 0
EveryTalkFallsSilent = (limit : ℕ) → 0 < limit → limit ≤ 2 ^ 30 → (p : Pairing) → Talks limit p → (v w : View) → p.own.connection ≡ Present v → p.other.connection ≡ Present w → IsOpen v → IsOpen w → IsSound v → IsSound w → (now : Moment) → FallsSilent now (still v w)
