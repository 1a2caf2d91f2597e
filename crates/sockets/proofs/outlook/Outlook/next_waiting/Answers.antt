-- Each that nobody has accepted is asked; no other waits.
use Rattle.std.proofs.Common.{◌≡◌, ◌+◌, ℕ, suc, true, false, cond, List, get_or, Some, sym, ◌∙◌, ap, arith}
use Rattle.marks.specs.First.{first_from}
use Rattle.sockets.specs.declared.entry.Entry.{Entry}
use Rattle.sockets.specs.Entries.{is_waiting_at}
use Rattle.sockets.specs.Outlook.{is_pending_entry}
use Rattle.sockets.proofs.Passing.{passed_on, passed_out}
use Rattle.sockets.proofs.Resting.{accepted_waits_not}
use Rattle.sockets.proofs.outlook.Outlook.next_waiting.Goals as goal

pub returns-then-waits_at : goal.returns-then-waits_at
returns-then-waits_at c =
    let xs : List Entry = c.args.entries.now.items in
    let p : ℕ = c.in-Some.place in
    let d : Entry = c.index-deref-place.result in
    let waits : is_waiting_at c.args.listener (get_or xs p d) ≡ true = ap (λ (l : List Entry). is_waiting_at c.args.listener (get_or l p d)) (sym c.deref.ensures.0) ∙ sym c.waits_at.ensures ∙ c.if-waits_at.true in
    sym (c.loop-place.invariant ∙ passed_on is_pending_entry (is_waiting_at c.args.listener) (accepted_waits_not c.args.listener) c.loop-place.from xs p d (sym c.next_pending.ensures ∙ c.in-Some.is)
    ∙ ap (λ b. cond b (Some p) (first_from (is_waiting_at c.args.listener) (suc p) xs)) waits)

pub loop-place-preserved : goal.loop-place-preserved
loop-place-preserved c =
    let xs : List Entry = c.args.entries.now.items in
    let p : ℕ = c.in-Some.place in
    let d : Entry = c.index-deref-place.result in
    let waits_not : is_waiting_at c.args.listener (get_or xs p d) ≡ false = ap (λ (l : List Entry). is_waiting_at c.args.listener (get_or l p d)) (sym c.deref.ensures.0) ∙ sym c.waits_at.ensures ∙ c.if-waits_at.false in
    let next : suc p ≡ p + 1 = omega arith in
    c.loop-place.invariant ∙ passed_on is_pending_entry (is_waiting_at c.args.listener) (accepted_waits_not c.args.listener) c.loop-place.from xs p d (sym c.next_pending.ensures ∙ c.in-Some.is)
    ∙ ap (λ b. cond b (Some p) (first_from (is_waiting_at c.args.listener) (suc p) xs)) waits_not ∙ ap (λ k. first_from (is_waiting_at c.args.listener) k xs) next

pub returns : goal.returns
returns c =
    sym (c.loop-place.invariant ∙ passed_out is_pending_entry (is_waiting_at c.args.listener) (accepted_waits_not c.args.listener) c.loop-place.from c.args.entries.now.items (sym c.next_pending.ensures ∙ c.in_default.is))
