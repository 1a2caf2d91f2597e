-- Each that waits is asked; no other is unanswered.
use Rattle.std.proofs.Common.{◌≡◌, ◌+◌, ℕ, suc, true, false, cond, List, get_or, Option, Some, sym, ◌∙◌, ap, arith}
use Rattle.std.specs.Prelude.{option_map}
use Rattle.marks.specs.First.{first_from}
use Rattle.sockets.specs.declared.entry.Entry.{Entry}
use Rattle.sockets.specs.Entries.{is_waiting_at}
use Rattle.sockets.specs.GiveWay.{is_unanswered_at}
use Rattle.sockets.proofs.Passing.{passed_on, passed_out, find-first_from, find-first_none}
use Rattle.sockets.proofs.Resting.{answered_or_gone}
use Rattle.sockets.proofs.outlook.Outlook.unanswered_at.Goals as goal

pub returns-then-is_unanswered_at : goal.returns-then-is_unanswered_at
returns-then-is_unanswered_at c =
    let xs : List Entry = c.args.entries.now.items in
    let p : ℕ = c.in-Some.place in
    let d : Entry = c.index-deref-place.result in
    let at : d ≡ get_or xs p d = c.index-deref-place.is ∙ ap (λ (l : List Entry). get_or l p d) c.deref.ensures.0 in
    let waits : is_unanswered_at c.args.listener (get_or xs p d) ≡ true = ap (is_unanswered_at c.args.listener) (sym at) ∙ sym c.is_unanswered_at.ensures ∙ c.if-is_unanswered_at.true in
    let first : first_from (is_unanswered_at c.args.listener) 0 xs ≡ Some p =
    c.loop-place.invariant ∙ passed_on (is_waiting_at c.args.listener) (is_unanswered_at c.args.listener) (answered_or_gone c.args.listener) c.loop-place.from xs p d (sym c.next_waiting.ensures ∙ c.in-Some.is)
    ∙ ap (λ b. cond b (Some p) (first_from (is_unanswered_at c.args.listener) (suc p) xs)) waits
    in
    sym (ap (λ (found : Option Entry). option_map (λ x. x.id) found) (find-first_from (is_unanswered_at c.args.listener) xs p d first at))

pub loop-place-preserved : goal.loop-place-preserved
loop-place-preserved c =
    let xs : List Entry = c.args.entries.now.items in
    let p : ℕ = c.in-Some.place in
    let d : Entry = c.index-deref-place.result in
    let at : d ≡ get_or xs p d = c.index-deref-place.is ∙ ap (λ (l : List Entry). get_or l p d) c.deref.ensures.0 in
    let answered : is_unanswered_at c.args.listener (get_or xs p d) ≡ false = ap (is_unanswered_at c.args.listener) (sym at) ∙ sym c.is_unanswered_at.ensures ∙ c.if-is_unanswered_at.false in
    let next : suc p ≡ p + 1 = omega arith in
    c.loop-place.invariant ∙ passed_on (is_waiting_at c.args.listener) (is_unanswered_at c.args.listener) (answered_or_gone c.args.listener) c.loop-place.from xs p d (sym c.next_waiting.ensures ∙ c.in-Some.is)
    ∙ ap (λ b. cond b (Some p) (first_from (is_unanswered_at c.args.listener) (suc p) xs)) answered ∙ ap (λ k. first_from (is_unanswered_at c.args.listener) k xs) next

pub returns : goal.returns
returns c =
    let none = passed_out (is_waiting_at c.args.listener) (is_unanswered_at c.args.listener) (answered_or_gone c.args.listener) c.loop-place.from c.args.entries.now.items (sym c.next_waiting.ensures ∙ c.in_default.is) in
    sym (ap (λ (found : Option Entry). option_map (λ x. x.id) found) (find-first_none (is_unanswered_at c.args.listener) c.args.entries.now.items (c.loop-place.invariant ∙ none)))
