-- A step adds at most what one send takes to each count.
use Rattle.std.proofs.Common.{◌≡◌, ◌∙◌, ◌+◌, ◌≤◌, length, length-append, get_or, None, refl, sym, ap, subst, arith, rules}
use Rattle.wire_sim.specs.declared.event.Happening.{Happening}
use Rattle.wire_sim.specs.declared.world.World.TheInside.{Inside}
use Rattle.wire_sim.specs.Runs.{unfair, IsStep}
use Rattle.wire_sim.specs.Fairness.{unfair_counted}
use Rattle.wire_sim.specs.WorldView.{NetworkView, WorldView, network_view}
use Rattle.wire_sim.proofs.fairness.CountedAsTraced.{same_unfair}
use Rattle.wire_sim.proofs.runs.RunsAreLawful.{run_tallied}
use Rattle.wire_sim.proofs.runs.FieldsAreReached.{reached-next, same-parts, reached-again, lawful, step_from, seen-is}
use Rattle.stream_law.proofs.Sizes.{most_held}
use Rattle.wire_sim.proofs.counts.StepCountsFew.{AreSoundTables, sound-tables, Steps-grows}
use Rattle.wire_sim.proofs.datagrams.RunsKeepDatagrams.{runs-keep}
use Rattle.wire_sim.proofs.world.World.step.Goals as goal

-- what stands in a world's fields
abbrev after : Inside → WorldView
after w = record { network = network_view w.network; trace = w.trace.items }

-- the event broke no rule, by what is counted
counted_fair : (c : goal.After-note) → unfair_counted (network_view c.self.inside.network) c.args.event ≡ None
counted_fair c = search rules

-- the event was taken
taken : (c : goal.After-note) → IsStep c.args.event c.perform-answer.result (after c.self.inside) (record { network = network_view c.perform-answer.new.self; trace = c.note.new.trace.items })
taken c = record {
  fair = sym (same_unfair (after c.self.inside) c.args.event (run_tallied _ (after c.self.inside) c.self.invariant.1)) ∙ counted_fair c;
  numbered = c.perform-answer.ensures.numbered;
  sound_a = c.sound.ensures.a;
  sound_b = c.sound.ensures.b;
  network = search rules;
  trace = search rules;
}

-- and every connection is sound when it comes
sound_then : (c : goal.After-note) → AreSoundTables (network_view c.reserve.new.network)
sound_then c = subst AreSoundTables (sym c.reserve.ensures.network) (sound-tables (network_view c.self.inside.network) c.sound.ensures.a c.sound.ensures.b)

pub invariant_of-self-2 : goal.invariant_of-self-2
invariant_of-self-2 c = (
  λ i.
      let grown : get_or c.perform-answer.new.self.ledger.written.items i 0 ≤ get_or c.reserve.new.network.ledger.written.items i 0 + most_held =
      Steps-grows c.args.event c.len.result i c.perform-answer.result (network_view c.reserve.new.network) (network_view c.perform-answer.new.self) (sound_then c) c.perform-answer.ensures.step
      in
      let kept : get_or c.reserve.new.network.ledger.written.items i 0 ≡ get_or c.self.inside.network.ledger.written.items i 0 =
      ap (λ (n : NetworkView). get_or n.written i 0) c.reserve.ensures.network
      in
      let traced : length c.note.new.trace.items ≡ length c.self.inside.trace.items + 1 =
      ap (length {A = Happening}) c.note.ensures.items ∙ length-append c.reserve.new.trace.items _ ∙ ap (λ hs. length {A = Happening} hs + 1) c.reserve.ensures.trace
      in
      omega (arith, grown, kept, traced, c.self.invariant.0 i),
  reached-next (after c.self.inside) (record { network = network_view c.perform-answer.new.self; trace = c.note.new.trace.items }) c.args.event c.perform-answer.result c.self.invariant.1 (taken c),
)

pub returns-clause-unfair : goal.returns-clause-unfair
returns-clause-unfair c =
    let e : unfair_counted (network_view c.self.inside.network) c.args.event ≡ unfair c.args.self.now.seen c.args.event =
    same_unfair (after c.self.inside) c.args.event (run_tallied _ (after c.self.inside) c.self.invariant.1) ∙ ap (λ (w : WorldView). unfair w c.args.event) (seen-is c.self.view_is) in
    let n : unfair c.args.self.now.seen c.args.event ≡ None = sym e ∙ counted_fair c in
    search rules

pub returns-in_default-clause-unfair : goal.returns-in_default-clause-unfair
returns-in_default-clause-unfair c =
    let e : unfair_counted (network_view c.self.inside.network) c.args.event ≡ unfair c.args.self.now.seen c.args.event =
    same_unfair (after c.self.inside) c.args.event (run_tallied _ (after c.self.inside) c.self.invariant.1) ∙ ap (λ (w : WorldView). unfair w c.args.event) (seen-is c.self.view_is) in
    let n : unfair c.args.self.now.seen c.args.event ≡ None = sym e ∙ search rules in
    search rules

pub returns-in_err-admits-clause-unfair : goal.returns-in_err-admits-clause-unfair
returns-in_err-admits-clause-unfair c =
    let e : unfair_counted (network_view c.self.inside.network) c.args.event ≡ unfair c.args.self.now.seen c.args.event =
    same_unfair (after c.self.inside) c.args.event (run_tallied _ (after c.self.inside) c.self.invariant.1) ∙ ap (λ (w : WorldView). unfair w c.args.event) (seen-is c.self.view_is) in
    search rules

-- an event that breaks no rule is admitted
pub returns-in_err-admits-clause-memory : goal.returns-in_err-admits-clause-memory
returns-in_err-admits-clause-memory c =
    let e : unfair_counted (network_view c.self.inside.network) c.args.event ≡ unfair c.args.self.now.seen c.args.event =
    same_unfair (after c.self.inside) c.args.event (run_tallied _ (after c.self.inside) c.self.invariant.1) ∙ ap (λ (w : WorldView). unfair w c.args.event) (seen-is c.self.view_is) in
    λ fair _ _.
    let admitted : unfair_counted (network_view c.self.inside.network) c.args.event ≡ None = e ∙ fair in
    search rules

pub returns-clause-taken : goal.returns-clause-taken
returns-clause-taken c =
    let step = taken c in
    (c.perform-answer.result, record { octets = c.copied-told.ensures.octets; source = c.copied-told.ensures.source; others = c.copied-told.ensures.others }, step_from c.args.event c.perform-answer.result (after c.self.inside) c.args.self.now.seen _ (sym (seen-is c.self.view_is)) step)

pub returns-clause-reached : goal.returns-clause-reached
returns-clause-reached c = reached-next (after c.self.inside) (record { network = network_view c.perform-answer.new.self; trace = c.note.new.trace.items }) c.args.event c.perform-answer.result c.self.invariant.1 (taken c)

pub returns-in_err-admits-clause-reached : goal.returns-in_err-admits-clause-reached
returns-in_err-admits-clause-reached c = reached-again (after c.self.inside) c.args.self.now.seen (sym (seen-is c.self.view_is)) c.self.invariant.1

pub returns-in_default-clause-reached : goal.returns-in_default-clause-reached
returns-in_default-clause-reached c = reached-again (after c.self.inside) (record { network = network_view c.reserve.new.network; trace = c.reserve.new.trace.items }) (same-parts _ _ _ _ c.reserve.ensures.network c.reserve.ensures.trace) c.self.invariant.1

pub returns-clause-lawful : goal.returns-clause-lawful
returns-clause-lawful c =
    let next : WorldView = record { network = network_view c.perform-answer.new.self; trace = c.note.new.trace.items } in
    lawful _ next next refl (reached-next (after c.self.inside) next c.args.event c.perform-answer.result c.self.invariant.1 (taken c))

pub returns-in_err-admits-clause-lawful : goal.returns-in_err-admits-clause-lawful
returns-in_err-admits-clause-lawful c = lawful _ (after c.self.inside) c.args.self.now.seen (sym (seen-is c.self.view_is)) c.self.invariant.1

pub returns-in_default-clause-lawful : goal.returns-in_default-clause-lawful
returns-in_default-clause-lawful c = lawful _ (after c.self.inside) (record { network = network_view c.reserve.new.network; trace = c.reserve.new.trace.items }) (same-parts _ _ _ _ c.reserve.ensures.network c.reserve.ensures.trace) c.self.invariant.1

-- whatever run led here keeps the law of datagrams
pub returns-clause-datagrams : goal.returns-clause-datagrams
returns-clause-datagrams c = λ run. runs-keep _ _ run

pub returns-in_err-admits-clause-datagrams : goal.returns-in_err-admits-clause-datagrams
returns-in_err-admits-clause-datagrams c = λ run. runs-keep _ _ run

pub returns-in_default-clause-datagrams : goal.returns-in_default-clause-datagrams
returns-in_default-clause-datagrams c = λ run. runs-keep _ _ run
