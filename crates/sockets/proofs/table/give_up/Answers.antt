-- A walk over the entries that are busy.
use Rattle.std.proofs.Common.{refl, sym, ◌∙◌}
use Rattle.sockets.specs.declared.entry.Entry.{Entry}
use Rattle.sockets.specs.Entries.{is_kept, with_role}
use Rattle.sockets.specs.Lost.{give_up_fate_of, role_after_giving_up}
use Rattle.sockets.specs.Outlook.{is_busy_entry}
use Rattle.sockets.proofs.Ascending.{ascends_written, ascends_stays}
use Rattle.sockets.proofs.Walks.{walked_on, walked_out, walked_less, upheld_written, upheld_on}
use Rattle.sockets.proofs.Resting.{idle_giving_up}
use Rattle.sockets.proofs.table.give_up.Goals as goal

pub loop-place-init : goal.loop-place-init
loop-place-init g c = ((λ test computes. refl), record { index = c.requires.index; some = c.requires.known; known = λ most k. k }, (refl, refl), λ last ascends. ascends)

pub next_busy-requires : goal.next_busy-requires
next_busy-requires g c = record { known = c.loop-place.invariant.1.some }

pub turn_to-requires-clause-known : goal.turn_to-requires-clause-known
turn_to-requires-clause-known g c = c.loop-place.invariant.1.some

pub beyond-from-requires-clause-index : goal.beyond-from-requires-clause-index
beyond-from-requires-clause-index g c = (upheld_written _ _ _ _ _ _ _ _ _ c.index-deref_mut-place.result c.loop-place.invariant.1 c.turn_to.ensures.at_hand c.turn_to.ensures.known c.deref_mut.ensures.value c.give_up-stays.ensures.filed).index

pub beyond-from-requires-clause-known : goal.beyond-from-requires-clause-known
beyond-from-requires-clause-known g c = (upheld_written _ _ _ _ _ _ _ _ _ c.index-deref_mut-place.result c.loop-place.invariant.1 c.turn_to.ensures.at_hand c.turn_to.ensures.known c.deref_mut.ensures.value c.give_up-stays.ensures.filed).some

pub loop-place-smaller : goal.loop-place-smaller
loop-place-smaller g c = walked_less is_busy_entry c.loop-place.entries.items c.deref_mut.result.now _ c.loop-place.from c.in-Some.place c.beyond-from.result c.give_up-stays.new.self c.give_up-stays.result (sym c.next_busy.ensures ∙ c.in-Some.is) c.deref_mut.ensures.value c.beyond-from.ensures.entries c.beyond-from.ensures.result

pub loop-place-preserved : goal.loop-place-preserved
loop-place-preserved g c = (
  (λ test computes.
      walked_on is_busy_entry (λ (e : Entry). is_kept (give_up_fate_of test c.args.now e.role)) (with_role (role_after_giving_up test c.args.now)) (idle_giving_up test c.args.now) c.args.entries.now.items c.loop-place.entries.items c.loop-place.from (c.loop-place.invariant.0 test computes)
      c.deref_mut.result.now _ c.in-Some.place c.beyond-from.result c.give_up-stays.new.self c.index-deref_mut-place.result c.give_up-stays.result (sym c.next_busy.ensures ∙ c.in-Some.is) c.deref_mut.ensures.value (c.give_up-stays.ensures.kept test computes) (c.give_up-stays.ensures.after test computes) c.beyond-from.ensures.entries c.beyond-from.ensures.result),
  upheld_on _ _ _ _ _ _ _ _ (upheld_written _ _ _ _ _ _ _ _ _ c.index-deref_mut-place.result c.loop-place.invariant.1 c.turn_to.ensures.at_hand c.turn_to.ensures.known c.deref_mut.ensures.value c.give_up-stays.ensures.filed) c.beyond-from.ensures.index c.beyond-from.ensures.known,
  (c.beyond-from.ensures.most.0 ∙ c.loop-place.invariant.2.0, c.beyond-from.ensures.most.1 ∙ c.loop-place.invariant.2.1),
  (λ last ascends. ascends_stays last c.give_up-stays.result _ _ c.in-Some.place (ascends_written last _ _ _ _ c.index-deref_mut-place.result (c.loop-place.invariant.3 last ascends) c.deref_mut.ensures.value c.give_up-stays.ensures.id) c.beyond-from.ensures.entries),
)

pub returns-clause-left : goal.returns-clause-left
returns-clause-left g c = λ test computes. walked_out is_busy_entry (λ (e : Entry). is_kept (give_up_fate_of test c.args.now e.role)) (with_role (role_after_giving_up test c.args.now)) (idle_giving_up test c.args.now) c.args.entries.now.items c.loop-place.entries.items c.loop-place.from (c.loop-place.invariant.0 test computes) (sym c.next_busy.ensures ∙ c.in_default.is)

pub returns-clause-ids : goal.returns-clause-ids
returns-clause-ids g c = c.loop-place.invariant.3

pub returns-clause-index : goal.returns-clause-index
returns-clause-index g c = c.loop-place.invariant.1.index

pub returns-clause-known : goal.returns-clause-known
returns-clause-known g c = c.loop-place.invariant.1.known

pub returns-clause-most : goal.returns-clause-most
returns-clause-most g c = c.loop-place.invariant.2
