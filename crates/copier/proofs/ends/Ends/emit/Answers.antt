use Rattle.std.proofs.Common.{◌≡◌, ℕ, ◌+◌, min, length, rules, sym, ◌∙◌, ap}
use Rattle.host.specs.Emission.{after_emission}
use Rattle.copy_law.specs.Course.{most_held}
use Rattle.copier.specs.Moves.{host_of, with_host}
use Rattle.copier.specs.declared.ends.Ends.{Ends}
use Rattle.copier.proofs.Passing.{if_none}
use Rattle.copier.proofs.Moving.{emits-at, emits-nothing}
use Rattle.copier.proofs.ends.Ends.emit.Goals as goal

pub returns-in_err-len-clause-none : goal.returns-in_err-len-clause-none
returns-in_err-len-clause-none c =
    if_none c.from_residual.result (c.next_frame.ensures.after ∙ emits-nothing c.args.from c.args.self.now (sym c.next_frame.ensures.answer ∙ c.in_err-len.was))

pub returns-clause-emits : goal.returns-clause-emits
returns-clause-emits c =
    let e : Ends = c.args.self.now in
    let left = with_host e c.args.from (after_emission (host_of e c.args.from) e.clock) in
    let long : length c.args.frame.now ≡ 1514 = search rules in
    emits-at c.args.from e _ c.args.frame.now c.next_frame.new.frame c.in_ok-len.len c.sound.ensures.a c.sound.ensures.b (sym c.next_frame.ensures.answer ∙ c.in_ok-len.was) c.next_frame.ensures.frame
    long c.next_frame.array_long c.in_ok-len.ensures.bound
    (ap (λ (x : Ends). let y : Ends = record x { allowance = c.more_allowed-self.result } in y) c.next_frame.ensures.after
    ∙ ap (λ (n : ℕ). let x : Ends = record left { allowance = n } in x) (c.more_allowed-self.ensures ∙ ap (λ (n : ℕ). min (n + 1460) most_held) c.next_frame.ensures.allowance))
