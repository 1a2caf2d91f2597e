-- Where no entry is noted as busy, only the one at hand may have something to send.
use Rattle.std.proofs.Common.{◌≡◌, inl, inr, ℕ, ◌+◌, ◌<◌, ◌≤◌, nat_lt, Bool, true, false, not, List, length, get_or, Option, Some, None, refl, sym, ◌∙◌, ap, arith}
use Rattle.std.specs.Prelude.{slice_get}
use Rattle.std.specs.List.{list_any, position, AllWithin}
use Rattle.std.proofs.lemmas.Bool.Decides.{nat_tests}
use Rattle.std.proofs.lemmas.List.Folds.{list_any_at}
use Rattle.std.proofs.lemmas.Option.{slice_get_cases}
use Rattle.ipv4.specs.declared.addr.Endpoint.{Endpoint}
use Rattle.marks.specs.First.{first_from}
use Rattle.sockets.specs.declared.emission.Outgoing.{Outgoing}
use Rattle.sockets.specs.declared.entry.Entry.{Entry}
use Rattle.sockets.specs.declared.outlook.Outlook.{Outlook}
use Rattle.sockets.specs.Entries.{dues_of}
use Rattle.sockets.specs.Emission.{in_turn}
use Rattle.sockets.specs.Outlook.{has_due, IsOutlook}
use Rattle.sockets.specs.SocketsView.{SocketsView}
use Rattle.sockets.proofs.Followed.{by_test}
use Rattle.sockets.proofs.InTurn.{turn_alone}
use Rattle.sockets.proofs.FirstFrom.{first_from-found}
use Rattle.sockets.proofs.NextDues.{first_from-none, passed_on, due_found, due_none, due_there, due_missed}
use Rattle.sockets.proofs.Quiet.{IsTold, told_none_at_hand, told_behind, told_beside}

abbrev is_noted : Bool → Bool
is_noted b = b

-- none is noted from any place on
none_noted : (notes : List Bool) → not (list_any is_noted notes) ≡ true → (from : ℕ) → None ≡ first_from is_noted from notes
none_noted notes calm from = sym (first_from-none is_noted from notes (λ k d low high. by_test (get_or notes k d)
    (λ noted. let some : list_any is_noted notes ≡ true = list_any_at is_noted notes k d high noted in let bad : false ≡ true = sym (ap not some) ∙ calm in cc)
    (λ unnoted. unnoted)))

module _ (o : Outlook) (most : ℕ) (xs : List Entry) (known : IsOutlook o most xs) (calm : not (list_any is_noted o.busy.items) ≡ true) where
  nothing_before : (from : ℕ) → AllWithin (λ (e : Entry). has_due e ≡ false) xs from from
  nothing_before from k d low high = absurd (omega (arith, low, high))

  -- nothing is due where no entry is at hand ..
  pub calm_alone : (from : ℕ) → o.at_hand ≡ None → None ≡ first_from has_due from xs
  calm_alone from none =
      sym (first_from-none has_due from xs (passed_on xs from from (length xs) (nothing_before from) (told_none_at_hand o most xs known from None (none_noted o.busy.items calm from) none)))

  -- .. or it stands further in front
  pub calm_behind : (from place : ℕ) → o.at_hand ≡ Some place → place < from → None ≡ first_from has_due from xs
  calm_behind from place at before =
      sym (first_from-none has_due from xs (passed_on xs from from (length xs) (nothing_before from) (told_behind o most xs known from None (none_noted o.busy.items calm from) place at before)))

  module _ (from place : ℕ) (at : o.at_hand ≡ Some place) (low : from ≤ place) (x : Entry) (is : x ≡ get_or xs place x) where
    there : IsTold xs from (Some place)
    there = told_beside o most xs known from None (none_noted o.busy.items calm from) place at low

    -- .. or has nothing due
    pub calm_missed : slice_get (dues_of x.role) 0 ≡ None → None ≡ first_from has_due from xs
    calm_missed none =
        sym (first_from-none has_due from xs (passed_on xs from (place + 1) (length xs)
        (due_missed xs from from place x (omega arith) (nothing_before from) there is none)
        (told_behind o most xs known (place + 1) None (none_noted o.busy.items calm (place + 1)) place at (omega arith))))

    -- and else its first is
    pub calm_found : (due : Endpoint × Outgoing) → slice_get (dues_of x.role) 0 ≡ Some due → Some place ≡ first_from has_due from xs
    calm_found due some = sym (due_found xs from from place x (omega arith) (nothing_before from) there is due some)

    pub calm_there : (due : Endpoint × Outgoing) → slice_get (dues_of x.role) 0 ≡ Some due → (e : Entry) → slice_get xs place ≡ Some e → slice_get (dues_of e.role) 0 ≡ Some due
    calm_there due some = due_there xs from from place x (omega arith) (nothing_before from) there is due some

  -- so nothing is due behind what is found first
  pub calm_only : (place : ℕ) → first_from has_due 0 xs ≡ Some place → first_from has_due (place + 1) xs ≡ None
  calm_only place found = by_hand o.at_hand refl
    where
      -- in front of the one at hand nothing has
      front : (at : ℕ) → o.at_hand ≡ Some at → place < at → ⊥
      front at is later =
          let it = first_from-found has_due 0 xs place found in
          let quiet = (told_beside o most xs known 0 None (none_noted o.busy.items calm 0) at is (omega arith)).2 in
          elim (slice_get_cases xs place).1 [
            | inl here ↦ let idle : has_due (get_or xs place here.0) ≡ false = due_none (get_or xs place here.0) (quiet place here.0 (omega arith) later) in let bad : true ≡ false = sym (it.passes here.0) ∙ idle in cc
            | inr past ↦ omega (arith, past.0, it.within)
          ]

      by_hand : (at : Option ℕ) → o.at_hand ≡ at → first_from has_due (place + 1) xs ≡ None
      by_hand None none = let bad : None ≡ Some place = calm_alone 0 none ∙ found in cc
      by_hand (Some at) is = by_test (nat_lt at (place + 1)) (λ near. sym (calm_behind (place + 1) at is (grind (arith, nat_tests)))) (λ far. absurd (front at is (grind (arith, nat_tests))))

-- and the turn comes to that one
pub calm_turn : (o : Outlook) (most : ℕ) (v h : SocketsView) → v ≡ h → IsOutlook o most v.entries → not (list_any is_noted o.busy.items) ≡ true → first_from has_due 0 v.entries ≡ position (in_turn h has_due) h.entries
calm_turn o most v h same known calm =
    ap (λ (w : SocketsView). first_from has_due 0 w.entries) same
    ∙ sym
    (turn_alone h has_due (first_from has_due 0 h.entries) refl
    (λ p found. ap (λ (w : SocketsView). first_from has_due (p + 1) w.entries) (sym same) ∙ calm_only o most v.entries known calm p (ap (λ (w : SocketsView). first_from has_due 0 w.entries) same ∙ found)))
