-- The write at the place is the change of the first entry that sends, or it is taken out.
use Rattle.std.proofs.Common.{◌∙◌, get_or, refl, ap}
use Rattle.clock.specs.declared.moment.Moment.{Moment}
use Rattle.sockets.specs.declared.emission.Outgoing.TheVariants.{Segment}
use Rattle.sockets.specs.Entries.{role_after_emission}
use Rattle.sockets.proofs.Roomy.{places_stay}
use Rattle.sockets.proofs.SentAt.{told_at, front_at, table_at}
use Rattle.sockets.proofs.Ascending.{ascends_written, ascends_settled}
use Rattle.sockets.proofs.Filed.{index_written}
use Rattle.sockets.proofs.KeptFiled.{filed_role, filed-emission}
use Rattle.sockets.proofs.Outlooks.{outlook_written}
use Rattle.sockets.proofs.sockets.Sockets.emit_segment_at.Goals as goal

pub returns-clause-what : goal.returns-clause-what
returns-clause-what c = λ goes next.
    told_at _ c.args.self.now goes c.args.place (Segment c.args.due) c.deref_mut.result.now c.index-deref_mut-place.result c.self.view_is c.deref_mut.ensures.value c.index-deref_mut-place.is next _ c.emit_segment-len.ensures.what

pub returns-clause-frame : goal.returns-clause-frame
returns-clause-frame c = λ goes next.
    front_at _ c.args.self.now goes c.args.place (Segment c.args.due) c.deref_mut.result.now c.index-deref_mut-place.result c.self.view_is c.deref_mut.ensures.value c.index-deref_mut-place.is next _ _ (c.emit_segment-len.ensures.frame c.self.inside.addr)

pub returns-clause-after : goal.returns-clause-after
returns-clause-after c = λ goes next.
    table_at _ c.args.self.now goes c.args.place (Segment c.args.due) c.deref_mut.result.now c.index-deref_mut-place.result c.self.view_is c.deref_mut.ensures.value c.index-deref_mut-place.is next c.args.now _ c.emission_fate_of-fate.result _
    (c.emit_segment-len.ensures.after ∙ ap (λ (m : Moment). role_after_emission m (Segment c.args.due) (get_or c.deref_mut.result.now c.args.place c.index-deref_mut-place.result).role) c.later_moment-now.ensures)
    c.emission_fate_of-fate.ensures c.settle.ensures.entries

-- the entry keeps its id, or is taken out
pub invariant_of-self : goal.invariant_of-self
invariant_of-self c = ((c.self.invariant.0.0, places_stay c.settle.ensures.most.0 c.settle.ensures.most.1 refl c.self.invariant.0.1), ascends_settled _ c.emission_fate_of-fate.result _ _ _ (ascends_written _ _ _ _ _ c.index-deref_mut-place.result c.self.invariant.1 c.deref_mut.ensures.value refl) c.settle.ensures.entries, c.settle.ensures.index, c.settle.ensures.known _ (outlook_written _ _ _ _ _ _ (c.turn_to.ensures.known _ c.self.invariant.3) c.turn_to.ensures.at_hand c.deref_mut.ensures.value))

-- its connection stays filed by its ends

pub settle-requires-clause-index : goal.settle-requires-clause-index
settle-requires-clause-index c = index_written _ _ _ _ _ c.index-deref_mut-place.result c.self.invariant.2 c.deref_mut.ensures.value (filed_role (role_after_emission c.later_moment-now.result (Segment c.args.due)) _ _ (filed-emission _ (Segment c.args.due) _) c.emit_segment-len.ensures.after)

pub settle-requires-clause-known : goal.settle-requires-clause-known
settle-requires-clause-known c = (c.self.inside.sizes.entries, outlook_written _ _ _ _ _ _ (c.turn_to.ensures.known _ c.self.invariant.3) c.turn_to.ensures.at_hand c.deref_mut.ensures.value)

pub turn_to-requires-clause-known : goal.turn_to-requires-clause-known
turn_to-requires-clause-known c = (c.self.inside.sizes.entries, c.self.invariant.3)
