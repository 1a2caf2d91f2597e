use Rattle.std.proofs.Common.{ℕ, Option, Ok, Err, Some, rules, ◌∙◌, ap}
use Rattle.std.proofs.lemmas.Result.{err_from_is_err_and}
use Rattle.devices.specs.Streams.{counted}
use Rattle.copier.specs.declared.fault.CopyFault.TheVariants.{Stalled}
use Rattle.copier.proofs.Failing.{same_read, same_write, same_link}
use Rattle.copier.proofs.Turning.{left_err, left-unmoved, under-at, under-left, turned, going_next, any_fault}
use Rattle.copier.proofs.turns.copy.Goals as goal

pub returns-in_err-copier-clause-copies : goal.returns-in_err-copier-clause-copies
returns-in_err-copier-clause-copies g c = λ gave had passed is_given is_taken is_first is_told fair.
    left_err c.from_residual.result gave had _ _ _ passed c.from_residual.ensures.0 (λ fault. left-unmoved fault gave had _ _ _ is_given is_taken)

pub returns-clause-copies : goal.returns-clause-copies
returns-clause-copies g c = λ gave had passed is_given is_taken is_first is_told fair.
    (under-left Stalled gave had _ _ _ c.loop.copier passed (under-at _ _ _ _ _ _ _ c.loop.copier c.loop.invariant.going gave had passed is_given is_taken is_first is_told fair), tt)

pub returns-in_err-count-clause-copies : goal.returns-in_err-count-clause-copies
returns-in_err-count-clause-copies g c = λ gave had passed is_given is_taken is_first is_told fair.
    left_err c.from_residual-in_err-count.result gave had _ _ _ passed c.from_residual-in_err-count.ensures.0
    (λ fault. any_fault c.in_err-count.field-0.0 fault gave had _ _ _
    (turned (Err c.in_err-count.field-0.0) _ _ _ _ _ _ _ _ _ _ _ c.loop.copier c.turn.new.self c.loop.invariant.going c.in_err-count.ensures.told c.in_err-count.ensures.turns gave had passed is_given is_taken is_first is_told fair))

pub returns-in-Some-clause-copies : goal.returns-in-Some-clause-copies
returns-in-Some-clause-copies g c = λ gave had passed is_given is_taken is_first is_told fair.
    turned (Ok (Some c.in-Some.count)) _ _ _ _ _ _ _ _ _ _ _ c.loop.copier c.turn.new.self c.loop.invariant.going c.in_ok-count.ensures.told (rw c.in-Some.is at c.in_ok-count.ensures.turns) gave had passed is_given is_taken is_first is_told fair

pub loop-preserved : goal.loop-preserved
loop-preserved g c = record {
  read = search rules;
  written = search rules;
  carried = search rules;
  leads = g.met.L.Link.leads_on _ _ _ c.loop.invariant.leads c.in_ok-count.ensures.leads;
  going = going_next _ _ _ _ _ _ _ _ _ _ _ c.loop.copier c.turn.new.self c.loop.invariant.going c.in_ok-count.ensures.told (rw c.in-None.is at c.in_ok-count.ensures.turns);
}

pub loop-init : goal.loop-init
loop-init g c = record {
  read = search rules;
  written = search rules;
  carried = search rules;
  leads = g.met.L.Link.leads_to_itself c.args.link.now;
  going = search rules;
}

pub returns-in-Some-clause-leads : goal.returns-in-Some-clause-leads
returns-in-Some-clause-leads g c = g.met.L.Link.leads_on _ _ _ c.loop.invariant.leads c.in_ok-count.ensures.leads

pub returns-in_err-count-clause-leads : goal.returns-in_err-count-clause-leads
returns-in_err-count-clause-leads g c = g.met.L.Link.leads_on c.args.link.now c.loop.link c.turn.new.link c.loop.invariant.leads c.turn.ensures.leads

-- what failed in the turn failed in the copy
pub returns-in_err-count-clause-read : goal.returns-in_err-count-clause-read
returns-in_err-count-clause-read g c =
    let p = err_from_is_err_and c.from_residual-in_err-count.result c.from_residual-in_err-count.ensures.1 in
    rw (p.1, p.2) (c.in_err-count.ensures.read ∙ ap (λ failed. counted failed (g.R.Source.failures c.loop.src)) (same_read (Option ℕ) ℕ c.in_err-count.field-0.0)
    ∙ ap (counted _) c.loop.invariant.read)

pub returns-in_err-count-clause-written : goal.returns-in_err-count-clause-written
returns-in_err-count-clause-written g c =
    let p = err_from_is_err_and c.from_residual-in_err-count.result c.from_residual-in_err-count.ensures.1 in
    rw (p.1, p.2) (c.in_err-count.ensures.written ∙ ap (λ failed. counted failed (g.W.Sink.failures c.loop.dst)) (same_write (Option ℕ) ℕ c.in_err-count.field-0.0)
    ∙ ap (counted _) c.loop.invariant.written)

pub returns-in_err-count-clause-carried : goal.returns-in_err-count-clause-carried
returns-in_err-count-clause-carried g c =
    let p = err_from_is_err_and c.from_residual-in_err-count.result c.from_residual-in_err-count.ensures.1 in
    rw (p.1, p.2) (c.in_err-count.ensures.carried ∙ ap (λ failed. counted failed (g.L.Link.failures c.loop.link)) (same_link (Option ℕ) ℕ c.in_err-count.field-0.0)
    ∙ ap (counted _) c.loop.invariant.carried)

pub returns-in_err-count-clause-memory : goal.returns-in_err-count-clause-memory
returns-in_err-count-clause-memory g c =
    let p = err_from_is_err_and c.from_residual-in_err-count.result c.from_residual-in_err-count.ensures.1 in
    rw (p.1, p.2) (λ wants. absurd (c.in_err-count.ensures.memory wants))
