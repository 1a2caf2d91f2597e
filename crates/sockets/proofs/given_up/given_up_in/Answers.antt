-- Each entry that is busy is counted; the others have nothing.
use Rattle.std.proofs.Common.{◌≡◌, ◌≤◌, ◌+◌, ◌-◌, ◌^◌, ℕ, suc, min, Bool, true, false, cond, List, drop, get_or, sym, ◌∙◌, ap, arith}
use Rattle.std.specs.List.{count_by, sum_by}
use Rattle.udp_socket.specs.Waits as datagrams
use Rattle.sockets.specs.declared.entry.Entry.{Entry}
use Rattle.sockets.specs.GivenUp.{outbox_of}
use Rattle.sockets.specs.Lost.{is_given_up}
use Rattle.sockets.specs.Outlook.{is_busy_entry}
use Rattle.sockets.proofs.FirstFrom.{first_from-found}
use Rattle.sockets.proofs.Resting.{rests-resets, rests-datagrams}
use Rattle.sockets.proofs.Visits.{sums_on, sums_out}
use Rattle.sockets.proofs.given_up.given_up_in.Goals as goal

one_at_most : (b : Bool) → cond b 1 0 ≤ 1
one_at_most true = omega arith
one_at_most false = omega arith

on : (f : Entry → ℕ) (xs : List Entry) (p from was now : ℕ) (x : Entry) → sum_by f xs ≡ was + sum_by f (drop from xs) → sum_by f (drop from xs) ≡ f (get_or xs p x) + sum_by f (drop (suc p) xs) → now ≡ was + f (get_or xs p x)
    → sum_by f xs ≡ now + sum_by f (drop (p + 1) xs)
on f xs p from was now x all here next =
    let after : p + 1 ≡ suc p = omega arith in
    let left : sum_by f xs ≡ now + sum_by f (drop (suc p) xs) = omega (arith, all, here, next) in
    left ∙ ap (λ k. now + sum_by f (drop k xs)) (sym after)

pub loop-place-init : goal.loop-place-init
loop-place-init g c = (omega arith, λ test computes. (omega arith, omega arith, omega arith, omega arith))

pub loop-place-preserved : goal.loop-place-preserved
loop-place-preserved g c =
    let xs : List Entry = c.args.entries.now.items in
    let x : Entry = c.index-deref-place.result in
    let p : ℕ = c.in-Some.place in
    let found = sym c.next_busy.ensures ∙ c.in-Some.is in
    let there = first_from-found is_busy_entry c.loop-place.from xs p found in (
      omega (arith, there.within),
      λ test computes.
          let one : Entry → ℕ = λ e. cond (is_given_up test c.args.now e.role) 1 0 in
          let of : Entry → ℕ = λ e. count_by (datagrams.is_given_up test c.args.now) (outbox_of e.role) in
          let was = c.loop-place.invariant.1 test computes in
          let at : get_or c.deref.result.now p x ≡ get_or xs p x = ap (λ (l : List Entry). get_or l p x) c.deref.ensures.0 in
          let ones = sums_on is_busy_entry one (λ e quiet. rests-resets test c.args.now e.role quiet) c.loop-place.from xs p x found in
          let ofs = sums_on is_busy_entry of (λ e quiet. rests-datagrams test c.args.now e.role quiet) c.loop-place.from xs p x found in
          let owed : c.with-sum.result.resets ≡ min (c.loop-place.sum.resets + one (get_or xs p x)) (2 ^ 64 - 1) = c.with-sum.ensures.resets test computes ∙ ap (λ (e : Entry). min (c.loop-place.sum.resets + one e) (2 ^ 64 - 1)) at in
          let sum : c.with-sum.result.datagrams ≡ min (c.loop-place.sum.datagrams + of (get_or xs p x)) (2 ^ 64 - 1) = c.with-sum.ensures.datagrams test computes ∙ ap (λ (e : Entry). min (c.loop-place.sum.datagrams + of e) (2 ^ 64 - 1)) at in
          let most : of (get_or c.deref.result.now p x) ≤ 64 = c.with-sum.ensures.most test computes in
          let few : of (get_or xs p x) ≤ 64 = omega (arith, most, ap of at) in
          let resets : c.with-sum.result.resets ≡ c.loop-place.sum.resets + one (get_or xs p x) = omega (arith, owed, was.2, there.behind, there.within, c.requires.few, one_at_most (is_given_up test c.args.now (get_or xs p x).role)) in
          let whole : c.with-sum.result.datagrams ≡ c.loop-place.sum.datagrams + of (get_or xs p x) = omega (arith, sum, was.3, few, there.behind, there.within, c.requires.few) in (
            on one xs p c.loop-place.from c.loop-place.sum.resets c.with-sum.result.resets x was.0 ones resets,
            on of xs p c.loop-place.from c.loop-place.sum.datagrams c.with-sum.result.datagrams x was.1 ofs whole,
            omega (arith, resets, was.2, there.behind, one_at_most (is_given_up test c.args.now (get_or xs p x).role)),
            omega (arith, whole, was.3, there.behind, few),
          ),
    )

pub returns : goal.returns
returns g c = λ test computes.
    let xs : List Entry = c.args.entries.now.items in
    let one : Entry → ℕ = λ e. cond (is_given_up test c.args.now e.role) 1 0 in
    let of : Entry → ℕ = λ e. count_by (datagrams.is_given_up test c.args.now) (outbox_of e.role) in
    let was = c.loop-place.invariant.1 test computes in
    let none = sym c.next_busy.ensures ∙ c.in_default.is in
    let ones = sums_out is_busy_entry one (λ e quiet. rests-resets test c.args.now e.role quiet) c.loop-place.from xs none in
    let ofs = sums_out is_busy_entry of (λ e quiet. rests-datagrams test c.args.now e.role quiet) c.loop-place.from xs none in
    (omega (arith, was.0, ones), omega (arith, was.1, ofs))
