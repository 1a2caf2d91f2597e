-- Each that waits is counted.
use Rattle.std.proofs.Common.{◌≡◌, ◌+◌, ℕ, suc, List, sym, ◌∙◌, arith}
use Rattle.sockets.specs.declared.entry.Entry.{Entry}
use Rattle.sockets.specs.Entries.{is_waiting_at}
use Rattle.sockets.proofs.FirstFrom.{first_from-found}
use Rattle.sockets.proofs.Visits.{counts_on, counts_out}
use Rattle.sockets.proofs.outlook.Outlook.waiting_at.Goals as goal

pub loop-place-preserved : goal.loop-place-preserved
loop-place-preserved c =
    let xs : List Entry = c.args.entries.now.items in
    let p : ℕ = c.in-Some.place in
    let found = sym c.next_waiting.ensures ∙ c.in-Some.is in
    let there = first_from-found (is_waiting_at c.args.listener) c.loop-place.from xs p found in
    let one = counts_on (is_waiting_at c.args.listener) c.loop-place.from xs p found in
    let next : suc p ≡ p + 1 = omega arith in
    (omega (arith, there.within), omega (arith, c.loop-place.invariant.1, there.behind), omega (arith, c.loop-place.invariant.2, one))

pub returns : goal.returns
returns c =
    let none = counts_out (is_waiting_at c.args.listener) c.loop-place.from c.args.entries.now.items (sym c.next_waiting.ensures ∙ c.in_default.is) in
    omega (arith, c.loop-place.invariant.2, none)
