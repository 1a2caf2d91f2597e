-- Why what takes numbers is counted as waiting for its hop from the moment of an event at the latest.
use Rattle.std.proofs.Common.{◌≡◌, inl, inr, ◌≤◌, Option, Some, None, refl, sym, ◌∙◌, subst}
use Rattle.clock.specs.declared.moment.Moment.{Moment}
use Rattle.tcp_state.specs.View.{View}
use Rattle.tcp_state.specs.Edges as edge
use Rattle.tcp_state.proofs.Hopless.{wait_begins, wait_stays}

-- a wait, if any, is counted from this moment at the latest
abbrev pub IsUnheardBy : Moment → Option Moment → Type 0
IsUnheardBy last o = (since : Moment) → o ≡ Some since → since.0 ≤ last.0

-- one that begins at a moment
pub from_then : (last now : Moment) → now.0 ≤ last.0 → IsUnheardBy last (Some now)
from_then last now up since is = let same : now ≡ since = cc in subst (λ (m : Moment). m.0 ≤ last.0) same up

-- each event names its moment at the latest
pub unheard_by : (last : Moment) (v : View) → IsUnheardBy last v.unheard → (e : edge.Event) → ((now : Moment) → edge.moment_of e ≡ Some now → now.0 ≤ last.0) → (let w = edge.after_event v e in IsUnheardBy last w.unheard)
unheard_by last v by e told since is = by_wait v.unheard refl
  where
    by_wait : (o : Option Moment) → v.unheard ≡ o → since.0 ≤ last.0
    by_wait None was = told since (wait_begins v e since was is)
    by_wait (Some began) was = elim (wait_stays v e began was) [
      | inl same ↦ let one : ◌≡◌ {A = Option Moment} (Some began) (Some since) = sym same ∙ is in let same_moment : began ≡ since = cc in by since (was ∙ one)
      | inr none ↦ let bad : ◌≡◌ {A = Option Moment} None (Some since) = sym none ∙ is in cc
    ]
