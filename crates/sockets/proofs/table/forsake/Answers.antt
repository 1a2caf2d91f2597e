-- A walk over the entries that are concerned.
use Rattle.std.proofs.Common.{get_or, refl, sym, ◌∙◌}
use Rattle.sockets.specs.declared.entry.Entry.{Entry}
use Rattle.sockets.specs.Entries.{is_kept, with_role, listener_close_fate_of, role_after_listener_close, is_waiting_at}
use Rattle.sockets.proofs.Walks.{walked_on, walked_out, walked_less, upheld_written, upheld_on}
use Rattle.sockets.proofs.Resting.{idle_listener_close}
use Rattle.sockets.proofs.KeptFiled.{filed_after, filed-listener_close}
use Rattle.sockets.proofs.table.forsake.Goals as goal

pub loop-place-init : goal.loop-place-init
loop-place-init c = (refl, record { index = c.requires.index; some = c.requires.known; known = λ most k. k }, (refl, refl))

pub next_waiting-requires : goal.next_waiting-requires
next_waiting-requires c = record { known = c.loop-place.invariant.1.some }

pub turn_to-requires-clause-known : goal.turn_to-requires-clause-known
turn_to-requires-clause-known c = c.loop-place.invariant.1.some

pub beyond-from-requires-clause-index : goal.beyond-from-requires-clause-index
beyond-from-requires-clause-index c =
    let x : Entry = get_or c.deref_mut.result.now c.in-Some.place c.index-deref_mut-place.result in
    (upheld_written _ _ _ _ _ _ _ _ _ c.index-deref_mut-place.result c.loop-place.invariant.1 c.turn_to.ensures.at_hand c.turn_to.ensures.known c.deref_mut.ensures.value (filed_after (role_after_listener_close c.args.now c.args.id) x _ (filed-listener_close c.args.now c.args.id x.role) c.forsake-stays.ensures.after)).index

pub beyond-from-requires-clause-known : goal.beyond-from-requires-clause-known
beyond-from-requires-clause-known c =
    let x : Entry = get_or c.deref_mut.result.now c.in-Some.place c.index-deref_mut-place.result in
    (upheld_written _ _ _ _ _ _ _ _ _ c.index-deref_mut-place.result c.loop-place.invariant.1 c.turn_to.ensures.at_hand c.turn_to.ensures.known c.deref_mut.ensures.value (filed_after (role_after_listener_close c.args.now c.args.id) x _ (filed-listener_close c.args.now c.args.id x.role) c.forsake-stays.ensures.after)).some

pub loop-place-smaller : goal.loop-place-smaller
loop-place-smaller c = walked_less (is_waiting_at c.args.id) c.loop-place.entries.items c.deref_mut.result.now _ c.loop-place.from c.in-Some.place c.beyond-from.result c.forsake-stays.new.self c.forsake-stays.result (sym c.next_waiting.ensures ∙ c.in-Some.is) c.deref_mut.ensures.value c.beyond-from.ensures.entries c.beyond-from.ensures.result

pub loop-place-preserved : goal.loop-place-preserved
loop-place-preserved c =
    let x : Entry = get_or c.deref_mut.result.now c.in-Some.place c.index-deref_mut-place.result in (
      walked_on (is_waiting_at c.args.id) (λ (e : Entry). is_kept (listener_close_fate_of c.args.id e.role)) (with_role (role_after_listener_close c.args.now c.args.id)) (idle_listener_close c.args.now c.args.id) c.args.entries.now.items c.loop-place.entries.items c.loop-place.from c.loop-place.invariant.0
          c.deref_mut.result.now _ c.in-Some.place c.beyond-from.result c.forsake-stays.new.self c.index-deref_mut-place.result c.forsake-stays.result (sym c.next_waiting.ensures ∙ c.in-Some.is) c.deref_mut.ensures.value c.forsake-stays.ensures.kept c.forsake-stays.ensures.after c.beyond-from.ensures.entries c.beyond-from.ensures.result,
      upheld_on _ _ _ _ _ _ _ _ (upheld_written _ _ _ _ _ _ _ _ _ c.index-deref_mut-place.result c.loop-place.invariant.1 c.turn_to.ensures.at_hand c.turn_to.ensures.known c.deref_mut.ensures.value (filed_after (role_after_listener_close c.args.now c.args.id) x _ (filed-listener_close c.args.now c.args.id x.role) c.forsake-stays.ensures.after)) c.beyond-from.ensures.index c.beyond-from.ensures.known,
      (c.beyond-from.ensures.most.0 ∙ c.loop-place.invariant.2.0, c.beyond-from.ensures.most.1 ∙ c.loop-place.invariant.2.1),
    )

pub returns-clause-entries : goal.returns-clause-entries
returns-clause-entries c = walked_out (is_waiting_at c.args.id) (λ (e : Entry). is_kept (listener_close_fate_of c.args.id e.role)) (with_role (role_after_listener_close c.args.now c.args.id)) (idle_listener_close c.args.now c.args.id) c.args.entries.now.items c.loop-place.entries.items c.loop-place.from c.loop-place.invariant.0 (sym c.next_waiting.ensures ∙ c.in_default.is)

pub returns-clause-index : goal.returns-clause-index
returns-clause-index c = c.loop-place.invariant.1.index

pub returns-clause-known : goal.returns-clause-known
returns-clause-known c = c.loop-place.invariant.1.known

pub returns-clause-most : goal.returns-clause-most
returns-clause-most c = c.loop-place.invariant.2
