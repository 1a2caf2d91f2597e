-- A connection keeps its two ends over every step of its host.
use Rattle.std.proofs.Common.{◌≡◌, Option, Some, refl, ◌∙◌, subst}
use Rattle.tcp_state.specs.View.{View}
use Rattle.tcp_state.specs.Due.{first_due}
use Rattle.tcp_state.specs.Edges.{Hears, Sends, Receives, Closes, after_event}
use Rattle.sockets.specs.declared.entry.SocketId.{SocketId}
use Rattle.sockets.proofs.KeptEnds.{KeepsEnds, keeps-event, keeps-first, keeps-shutdown}
use Rattle.host.specs.ConfigView.{ConfigView}
use Rattle.host_law.specs.History.{Step}
use Rattle.host_law.proofs.Befalls as befalls
use Rattle.host_law.proofs.Befalls.{Befalls, Quietly}

abbrev HasEnds : View → View → Type 0
HasEnds v w = (w.local ≡ v.local) × (w.peer ≡ v.peer)

of : (v w : View) → KeepsEnds v w → HasEnds v w
of v w keeps = (keeps.local, keeps.peer)

quiet : (v w : View) → Quietly v w → HasEnds v w
quiet v _ (befalls.stays _) = (refl, refl)
quiet v w (befalls.moves _ _ e is rest) = let first = keeps-event v e in let more = quiet (after_event v e) w rest in (more.0 ∙ first.local, more.1 ∙ first.peer)

one : (a b : View) → Some a ≡ Some b → a ≡ b
one a b e = cc

meets : (u x v w : View) → Some u ≡ Some v → Some x ≡ Some w → HasEnds u x → HasEnds v w
meets u x v w is becomes ends = subst (λ a. HasEnds a w) (one u v is) (subst (HasEnds u) (one x w becomes) ends)

pub keeps_ends : (c : ConfigView) (id : SocketId) (step : Step) (o p : Option View) → Befalls c id step o p → (v w : View) → o ≡ Some v → p ≡ Some w → HasEnds v w
keeps_ends c id step _ _ (befalls.absent untold stays) v w is becomes = cc
keeps_ends c id step _ _ (befalls.connects room local peer isn now small untold new_one) v w is becomes = cc
keeps_ends c id step _ _ (befalls.accepts room local peer isn s now small untold new_one opened) v w is becomes = cc
keeps_ends c id step _ _ (befalls.quietly u x untold in_turn) v w is becomes = meets u x v w is becomes (quiet u x in_turn)
keeps_ends c id step _ _ (befalls.hears u s now untold comes) v w is becomes = meets u _ v w is becomes (of u _ (keeps-event u (Hears s now)))
keeps_ends c id step _ _ (befalls.emits u now untold out) v w is becomes = meets u _ v w is becomes (of u _ (keeps-first u (first_due u) now))
keeps_ends c id step _ _ (befalls.sends u octets now fine given none untold) v w is becomes = meets u _ v w is becomes (of u _ (keeps-event u (Sends octets now)))
keeps_ends c id step _ _ (befalls.reads u len fine unleft none given told) v w is becomes = meets u _ v w is becomes (of u _ (keeps-event u (Receives len)))
keeps_ends c id step _ _ (befalls.shuts u now untold closes fine) v w is becomes = meets u _ v w is becomes (of u _ (keeps-shutdown u now))
keeps_ends c id step _ _ (befalls.closes u now untold closes) v w is becomes = meets u _ v w is becomes (of u _ (keeps-event u (Closes now)))
keeps_ends c id step _ _ (befalls.leaves u untold gone) v w is becomes = cc
