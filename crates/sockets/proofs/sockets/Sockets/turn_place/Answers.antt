-- The place behind the one that sent last, which is at hand, or else is looked for by halves.
use Rattle.std.proofs.Common.{rules, ◌<◌, ◌+◌, nat_le, length, get_or, Option, IfSome, ℕ, sym, ◌∙◌, ap, subst}
use Rattle.std.proofs.lemmas.List.Sorted.{IsPartitionPoint-from_clause}
use Rattle.sockets.specs.declared.entry.Entry.{Entry}
use Rattle.sockets.specs.SocketsView.{SocketsView}
use Rattle.sockets.specs.Turns.{IsTurnPlace}
use Rattle.sockets.proofs.Ascending.{lent_in_order}
use Rattle.sockets.proofs.TurnPlaces.{parted_by_turn, place_behind, place_parted}
use Rattle.sockets.proofs.sockets.Sockets.turn_place.Goals as goal

pub returns-in-Some : goal.returns-in-Some
returns-in-Some c =
    let within : c.in-Some.place < length c.self.inside.entries.items = subst (λ (o : Option ℕ). IfSome o (λ p. p < length c.self.inside.entries.items)) (sym c.at_hand.ensures ∙ c.in-Some.is) c.self.invariant.3.within in
    let x : Entry = c.index-deref-place.result in
    subst (λ (w : SocketsView). IsTurnPlace w (c.in-Some.place + 1)) c.self.view_is
    (place_behind _ c.self.inside.last_id c.self.invariant.1 c.in-Some.place x within (c.index-deref-place.is ∙ ap (λ es. get_or es c.in-Some.place x) c.deref.ensures.0) (ap (λ (e : Entry). e.id.0) c.index-deref-place.is ∙ c.if-deref-place.true))

pub returns-in_default : goal.returns-in_default
returns-in_default c =
    subst (λ (w : SocketsView). IsTurnPlace w c.partition_point.result) c.self.view_is
    (place_parted _ c.deref-in_default.result.now c.partition_point.result c.deref-in_default.ensures.0 c.partition_point.ensures.bound
    (IsPartitionPoint-from_clause (λ (e : Entry). nat_le e.id.0 c.self.inside.turn.0) c.deref-in_default.result.now c.partition_point.result c.partition_point.ensures.partitioned
    (parted_by_turn c.self.inside.turn.0 c.deref-in_default.result.now (lent_in_order _ _ _ c.deref-in_default.ensures.0 c.self.invariant.1)) (λ a r f' called. search rules)))
