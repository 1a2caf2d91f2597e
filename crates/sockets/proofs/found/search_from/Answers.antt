-- The first that is what is looked for, among those filed by the keys of that.
use Rattle.std.proofs.Common.{◌≡◌, ◌∙◌, ◌<◌, ◌≤◌, List, false, ap, refl, sym, nat_lt, length, get_or, arith, subst}
use Rattle.std.specs.List.{AllByRecursion, position}
use Rattle.std.proofs.lemmas.Bool.Decides.{nat_tests}
use Rattle.std.proofs.lemmas.List.{get_or_default}
use Rattle.std.proofs.lemmas.List.Elements.{AllWithin-more, recursion_from_All}
use Rattle.sockets.specs.declared.index.Filed.{Filed}
use Rattle.sockets.specs.Index.{AreSorted, low_key, high_key, is_sought_as}
use Rattle.sockets.proofs.Filed.{sorted_index}
use Rattle.sockets.proofs.Sought.{IsPassed, passed_below, all_passed, all_lower, found_none, found_nothing, found_any, found_first}
use Rattle.sockets.proofs.found.search_from.Goals as goal

-- what stands where nothing does
abbrev nothing : Filed
nothing = record { key = 0; id = record { 0 = 0 } }

pub loop-at-init : goal.loop-at-init
loop-at-init c =
    passed_below c.args.entries.now c.args.what (low_key c.args.what) c.args.index.now c.args.first refl c.requires.first.0

pub returns-then-filed-high-clause-any : goal.returns-then-filed-high-clause-any
returns-then-filed-high-clause-any c =
    let sorted : AreSorted c.args.index.now = subst AreSorted (sym c.requires.index) (sorted_index c.args.entries.now) in
    let here : Filed = get_or c.args.index.now c.loop-at.at nothing in
    let higher : high_key c.args.what < here.key = subst (λ k. k < here.key) c.keys-high.ensures.high c.if-filed-high.true in
    found_nothing c.args.entries.now c.requires.order c.args.what
    (subst (λ (l : List Filed). AllByRecursion (IsPassed c.args.entries.now c.args.what) l) c.requires.index
    (all_passed c.args.entries.now c.args.what c.args.index.now sorted c.loop-at.at here (get_or_default c.args.index.now c.loop-at.at nothing here c.loop-at-test.true) c.loop-at-test.true c.loop-at.invariant higher))

pub returns-then-filed-high-clause-first : goal.returns-then-filed-high-clause-first
returns-then-filed-high-clause-first c = λ one.
    let sorted : AreSorted c.args.index.now = subst AreSorted (sym c.requires.index) (sorted_index c.args.entries.now) in
    let here : Filed = get_or c.args.index.now c.loop-at.at nothing in
    let higher : high_key c.args.what < here.key = subst (λ k. k < here.key) c.keys-high.ensures.high c.if-filed-high.true in
    sym (found_none c.args.entries.now c.requires.order c.args.what
    (subst (λ (l : List Filed). AllByRecursion (IsPassed c.args.entries.now c.args.what) l) c.requires.index
    (all_passed c.args.entries.now c.args.what c.args.index.now sorted c.loop-at.at here (get_or_default c.args.index.now c.loop-at.at nothing here c.loop-at-test.true) c.loop-at-test.true c.loop-at.invariant higher)))

pub returns-in-Some-clause-any : goal.returns-in-Some-clause-any
returns-in-Some-clause-any c =
    let here : Filed = get_or c.args.index.now c.loop-at.at nothing in
    found_any c.args.entries.now c.requires.order c.args.what c.in-Some.place here.id (sym c.sought_as.ensures ∙ c.in-Some.is)

pub returns-in-Some-clause-first : goal.returns-in-Some-clause-first
returns-in-Some-clause-first c = λ one.
    let sorted : AreSorted c.args.index.now = subst AreSorted (sym c.requires.index) (sorted_index c.args.entries.now) in
    let here : Filed = get_or c.args.index.now c.loop-at.at nothing in
    let above : nat_lt here.key (low_key c.args.what) ≡ false = c.requires.first.1 c.loop-at.at nothing c.loop-at.auto.at c.loop-at-test.true in
    let low : low_key c.args.what ≤ here.key = grind (arith, nat_tests, above) in
    sym (found_first c.args.entries.now c.requires.order c.args.what c.in-Some.place here.id (sym c.sought_as.ensures ∙ c.in-Some.is)
    (subst (λ (l : List Filed). AllByRecursion (λ (z : Filed). z.id.0 < here.id.0 → IsPassed c.args.entries.now c.args.what z) l) c.requires.index
    (all_lower c.args.entries.now c.args.what c.args.index.now sorted c.loop-at.at here (get_or_default c.args.index.now c.loop-at.at nothing here c.loop-at-test.true) c.loop-at-test.true c.loop-at.invariant one low)))

pub loop-at-preserved : goal.loop-at-preserved
loop-at-preserved c =
    AllWithin-more (IsPassed c.args.entries.now c.args.what) c.args.index.now 0 c.loop-at.at c.loop-at.invariant
    (λ d from to.
    ap (λ (z : Filed). position (is_sought_as z.id c.args.what) c.args.entries.now) (get_or_default c.args.index.now c.loop-at.at d nothing c.loop-at-test.true) ∙ sym c.sought_as.ensures ∙ c.in_default.is)

pub returns-clause-any : goal.returns-clause-any
returns-clause-any c =
    let all : c.loop-at.at ≡ length c.args.index.now = omega arith in
    found_nothing c.args.entries.now c.requires.order c.args.what
    (subst (λ (l : List Filed). AllByRecursion (IsPassed c.args.entries.now c.args.what) l) c.requires.index
    (recursion_from_All (IsPassed c.args.entries.now c.args.what) c.args.index.now (λ k d inside. c.loop-at.invariant k d (omega arith) (omega arith))))

pub returns-clause-first : goal.returns-clause-first
returns-clause-first c = λ one.
    let all : c.loop-at.at ≡ length c.args.index.now = omega arith in
    sym (found_none c.args.entries.now c.requires.order c.args.what
    (subst (λ (l : List Filed). AllByRecursion (IsPassed c.args.entries.now c.args.what) l) c.requires.index
    (recursion_from_All (IsPassed c.args.entries.now c.args.what) c.args.index.now (λ k d inside. c.loop-at.invariant k d (omega arith) (omega arith)))))
