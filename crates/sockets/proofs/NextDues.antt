-- The first entry that has something to send, found among those that may be busy.
use Rattle.std.proofs.Common.{◌≡◌, ℕ, zero, suc, ◌+◌, ◌<◌, ◌≤◌, nat_lt, Bool, true, false, cond, List, [], ◌∷◌, length, get_or, Some, None, is_some, refl, sym, ◌∙◌, ap, arith}
use Rattle.std.specs.Prelude.{slice_get}
use Rattle.std.specs.List.{AllWithin}
use Rattle.std.proofs.lemmas.Bool.Decides.{nat_tests}
use Rattle.std.proofs.lemmas.List.{get_or_default}
use Rattle.std.proofs.lemmas.List.Elements.{AllWithin-more}
use Rattle.std.proofs.lemmas.Option.{slice_get-get_or}
use Rattle.ipv4.specs.declared.addr.Addr.{Addr}
use Rattle.ipv4.specs.declared.addr.Endpoint.{Endpoint}
use Rattle.marks.specs.First.{first_from}
use Rattle.sockets.specs.declared.emission.Outgoing.{Outgoing}
use Rattle.sockets.specs.declared.entry.Entry.{Entry}
use Rattle.sockets.specs.Entries.{dues_of, sends}
use Rattle.sockets.specs.Outlook.{is_busy_entry, AreQuiet, has_due}
use Rattle.sockets.proofs.FirstFrom.{further, first-none, first-here, first-behind, fails-before, fails-behind}
use Rattle.sockets.proofs.Followed.{by_test}
use Rattle.sockets.proofs.Resting.{rests-dues}

-- it is found where it passes and none in front does
pub first_from-is : {X : Type 0} (test : X → Bool) (from : ℕ) (xs : List X) (place : ℕ) → from ≤ place → place < length xs → AllWithin (λ x. test x ≡ false) xs from place → ((d : X) → test (get_or xs place d) ≡ true) → first_from test from xs ≡ Some place
first_from-is test from [] place low within before here = absurd (omega (arith, within))
first_from-is {X = X} test zero (x ∷ xs) zero low within before here = first-here test x xs ∙ ap (λ b. cond b (Some 0) (further (first_from test 0 xs))) (here x)
first_from-is {X = X} test zero (x ∷ xs) (suc p) low within before here =
    first-here test x xs ∙ ap (λ b. cond b (Some 0) (further (first_from test 0 xs))) (before 0 x (omega arith) (omega arith))
    ∙ ap further (first_from-is test 0 xs p (omega arith) (omega (arith, within)) (λ k d l h. before (suc k) d (omega arith) (omega (arith, h))) (λ d. here d))
first_from-is test (suc n) (x ∷ xs) zero low within before here = absurd (omega (arith, low))
first_from-is test (suc n) (x ∷ xs) (suc p) low within before here =
    first-behind test n x xs
    ∙ ap further (first_from-is test n xs p (omega (arith, low)) (omega (arith, within)) (λ k d l h. before (suc k) d (omega (arith, l)) (omega (arith, h))) (λ d. here d))

-- and not where none passes
pub first_from-none : {X : Type 0} (test : X → Bool) (from : ℕ) (xs : List X) → AllWithin (λ x. test x ≡ false) xs from (length xs) → first_from test from xs ≡ None
first_from-none test from [] before = first-none test from
first_from-none test zero (x ∷ xs) before =
    first-here test x xs ∙ ap (λ b. cond b (Some 0) (further (first_from test 0 xs))) (before 0 x (omega arith) (omega arith))
    ∙ ap further (first_from-none test 0 xs (λ k d l h. before (suc k) d (omega arith) (omega (arith, h))))
first_from-none test (suc n) (x ∷ xs) before =
    first-behind test n x xs ∙ ap further (first_from-none test n xs (λ k d l h. before (suc k) d (omega (arith, l)) (omega (arith, h))))

-- what isn't busy has nothing due
pub due_none : (e : Entry) → is_busy_entry e ≡ false → has_due e ≡ false
due_none e quiet = ap (λ dues. is_some (slice_get dues 0)) (rests-dues e.role quiet)

-- what was passed stays so, and so does what is quiet behind it
pub passed_on : (xs : List Entry) (first from to : ℕ) → AllWithin (λ e. has_due e ≡ false) xs first from → AreQuiet xs from to → AllWithin (λ e. has_due e ≡ false) xs first to
passed_on xs first from to before quiet k d low high =
    by_test (nat_lt k from)
    (λ early. before k d low (grind (arith, nat_tests)))
    (λ late. due_none (get_or xs k d) (quiet k d (grind (arith, nat_tests)) high))

-- An entry that has nothing due sends nothing.

pub nothing_sends : (goes : Addr → Bool) (e : Entry) → has_due e ≡ false → sends goes e ≡ false
nothing_sends goes e none = by_dues (dues_of e.role) refl none
  where
    by_dues : (l : List _) → dues_of e.role ≡ l → is_some (slice_get l 0) ≡ false → sends goes e ≡ false
    by_dues [] is none = rw is refl
    by_dues (x ∷ xs) is some = let bad : true ≡ false = some in cc

module _ (goes : Addr → Bool) (xs : List Entry) (start from : ℕ) (before : AllWithin (λ (e : Entry). sends goes e ≡ false) xs start from) where
  pub silent_to : (place : ℕ) → first_from has_due from xs ≡ Some place → AllWithin (λ (e : Entry). sends goes e ≡ false) xs start place
  silent_to place is = λ k d low high.
      by_test (nat_lt k from)
      (λ early. before k d low (grind (arith, nat_tests)))
      (λ late. nothing_sends goes (get_or xs k d) (fails-before has_due from xs place is k d (grind (arith, nat_tests)) high))

  pub silent_past : first_from has_due from xs ≡ None → AllWithin (λ (e : Entry). sends goes e ≡ false) xs start (length xs)
  silent_past is = λ k d low high.
      by_test (nat_lt k from)
      (λ early. before k d low (grind (arith, nat_tests)))
      (λ late. nothing_sends goes (get_or xs k d) (fails-behind has_due from xs is k d (grind (arith, nat_tests)) high))

-- What the search for it finds in a place: something due there ..

module _ (ys : List Entry) (first from place : ℕ) (x : Entry) (low : first ≤ from) (before : AllWithin (λ (e : Entry). has_due e ≡ false) ys first from) (there : (from ≤ place) × (place < length ys) × AreQuiet ys from place) (at : x ≡ get_or ys place x) where
  pub due_found : (due : Endpoint × Outgoing) → slice_get (dues_of x.role) 0 ≡ Some due → first_from has_due first ys ≡ Some place
  due_found due is =
      first_from-is has_due first ys place (omega (arith, low, there.0)) there.1 (passed_on ys first from place before there.2)
      (λ d. ap has_due (get_or_default ys place d x there.1 ∙ sym at) ∙ ap is_some is)

  pub due_there : (due : Endpoint × Outgoing) → slice_get (dues_of x.role) 0 ≡ Some due → (e : Entry) → slice_get ys place ≡ Some e → slice_get (dues_of e.role) 0 ≡ Some due
  due_there due is e here =
      let both : Some e ≡ Some x = sym here ∙ slice_get-get_or ys place x there.1 ∙ ap Some (sym at) in
      let same : e ≡ x = cc in
      ap (λ (z : Entry). slice_get (dues_of z.role) 0) same ∙ is

  -- .. or nothing
  pub due_missed : slice_get (dues_of x.role) 0 ≡ None → AllWithin (λ (e : Entry). has_due e ≡ false) ys first (place + 1)
  due_missed none =
      AllWithin-more (λ (e : Entry). has_due e ≡ false) ys first place (passed_on ys first from place before there.2)
      (λ d. ap has_due (get_or_default ys place d x there.1 ∙ sym at) ∙ ap is_some none)
