-- What is planned for the table is for the entry whose turn it is, of those for which a frame can go out.
use Rattle.std.proofs.Common.{◌≡◌, ◌<◌, ◌≤◌, inl, inr, ℕ, Bool, true, false, List, length, get_or, Option, Some, None, is_some, option_and_then, IfSome, refl, sym, ◌∙◌, ap, subst, arith}
use Rattle.std.specs.Prelude.{position, slice_get}
use Rattle.std.specs.List.{AllWithin}
use Rattle.std.proofs.lemmas.List.{get_or_default}
use Rattle.std.specs.Option.{option_or}
use Rattle.std.proofs.lemmas.Option.{slice_get_cases, slice_get-get_or}
use Rattle.clock.specs.declared.moment.Moment.{Moment}
use Rattle.marks.specs.First.{first_from}
use Rattle.sockets.specs.declared.entry.Entry.{Entry}
use Rattle.sockets.specs.Emission.{in_turn}
use Rattle.sockets.specs.Entries.{due_to, sends}
use Rattle.sockets.specs.Turns.{IsTurnPlace}
use Rattle.sockets.proofs.FirstFrom.{first_from-found}
use Rattle.sockets.proofs.Firsts.{find-position, find-position_none}
use Rattle.sockets.proofs.NextDues.{first_from-is, first_from-none}
use Rattle.sockets.proofs.InTurn.{turn_is}
use Rattle.host.specs.HostView.{HostView}
use Rattle.host.specs.declared.emission.Plan.{Plan}
use Rattle.host.specs.Plans.{IsFirst, plan_at, plan_from, plan_to, planned, planned_or_nothing}
use Rattle.host.specs.Emission.{Nothing, goes_out_from, table_emission}
use Rattle.host.proofs.Emitting.{none_from, plan_sends, planned_to}

-- for the first that sends something is planned
pub record HasPlan (h : HostView) (now : Moment) (place : ℕ) : Type 0 where
  pub entry : Entry
  pub plan : Plan
  pub there : slice_get h.sockets.entries place ≡ Some entry
  pub at : entry ≡ get_or h.sockets.entries place entry
  pub is : plan_to h now place (due_to (goes_out_from h now) entry.role) ≡ Some plan
  pub planned : plan_at h now place ≡ Some plan

module _ (h : HostView) (now : Moment) where
  abbrev test : Entry → Bool
  test = sends (goes_out_from h now)

  pub has_plan : (from place : ℕ) → first_from (sends (goes_out_from h now)) from h.sockets.entries ≡ Some place → HasPlan h now place
  has_plan from place found =
      let it = first_from-found test from h.sockets.entries place found in
      elim (slice_get_cases h.sockets.entries place).1 [
        | inl here ↦ by_plan here.0 here.2 (sym here.3) (plan_to h now place (due_to (goes_out_from h now) (let e = here.0 in e.role))) refl (sym (plan_sends h now place here.0) ∙ ap test (sym here.3) ∙ it.passes here.0)
        | inr past ↦ absurd (omega (arith, past.0, it.within))
      ]
    where
      by_plan : (x : Entry) → slice_get h.sockets.entries place ≡ Some x → x ≡ get_or h.sockets.entries place x → (o : Option Plan) → plan_to h now place (due_to (goes_out_from h now) x.role) ≡ o
          → is_some (plan_to h now place (due_to (goes_out_from h now) x.role)) ≡ true → HasPlan h now place
      by_plan x there at None is some = let bad : false ≡ true = ap is_some (sym is) ∙ some in cc
      by_plan x there at (Some p) is some =
          record {
            entry = x;
            plan = p;
            there = there;
            at = at;
            is = is;
            planned = ap (option_and_then (λ (e : Entry). plan_to h now place (due_to (goes_out_from h now) e.role))) there ∙ is;
          }

  -- what the loop finds: it in a place, or nothing
  pub plan_there : (from place : ℕ) (x : Entry) (entries : List Entry) (o : Option Plan) → entries ≡ h.sockets.entries → from ≤ place → place < length entries → AllWithin (λ (e : Entry). sends (goes_out_from h now) e ≡ false) entries from place
      → x ≡ get_or entries place x → o ≡ plan_to h now place (due_to (goes_out_from h now) x.role) → is_some o ≡ true → o ≡ plan_from h now from
  plan_there from place x entries o same low within before at is some =
      let goes : sends (goes_out_from h now) x ≡ true = plan_sends h now place x ∙ ap is_some (sym is) ∙ some in
      let found : first_from test from entries ≡ Some place = first_from-is test from entries place low within before (λ d. ap test (get_or_default entries place d x within ∙ sym at) ∙ goes) in
      let there : slice_get h.sockets.entries place ≡ Some x = ap (λ (l : List Entry). slice_get l place) (sym same) ∙ slice_get-get_or entries place x within ∙ ap Some (sym at) in
      is ∙ sym
      (ap (option_and_then (plan_at h now)) (ap (first_from test from) (sym same) ∙ found)
      ∙ ap (option_and_then (λ (e : Entry). plan_to h now place (due_to (goes_out_from h now) e.role))) there)

  pub plan_nowhere : (from : ℕ) (entries : List Entry) → entries ≡ h.sockets.entries → AllWithin (λ (e : Entry). sends (goes_out_from h now) e ≡ false) entries from (length entries) → None ≡ plan_from h now from
  plan_nowhere from entries same before = sym (ap (option_and_then (plan_at h now)) (ap (first_from test from) (sym same) ∙ first_from-none test from entries before))

  -- it goes out where its turn it is
  pub goes_planned : (place : ℕ) (k : HasPlan h now place) → position (in_turn h.sockets (sends (goes_out_from h now))) h.sockets.entries ≡ Some place → (table_emission h now ≡ planned k.plan) × IsFirst h now k.plan
  goes_planned place k turn =
      planned_to h now place k.entry (due_to (goes_out_from h now) (let e = k.entry in e.role)) k.plan k.is turn (find-position (in_turn h.sockets test) h.sockets.entries place k.entry turn k.at) k.there refl

  pub none_planned : position (in_turn h.sockets (sends (goes_out_from h now))) h.sockets.entries ≡ None → table_emission h now ≡ Nothing
  none_planned nobody = none_from h now (find-position_none (in_turn h.sockets test) h.sockets.entries nobody)

  -- the first behind the one that sent last, or else the first of all
  pub plan_is : (start : ℕ) → IsTurnPlace h.sockets start → (o : Option Plan) → o ≡ option_or (plan_from h now start) (plan_from h now 0) → (table_emission h now ≡ planned_or_nothing o) × IfSome o (IsFirst h now)
  plan_is start at o is = by_start (first_from test start h.sockets.entries) refl
    where
      Is : Option Plan → Type 0
      Is p = (table_emission h now ≡ planned_or_nothing p) × IfSome p (IsFirst h now)

      turn : position (in_turn h.sockets test) h.sockets.entries ≡ option_or (first_from test start h.sockets.entries) (first_from test 0 h.sockets.entries)
      turn = turn_is h.sockets test start at

      from_place : (from : ℕ) (p : Option ℕ) → first_from test from h.sockets.entries ≡ p → plan_from h now from ≡ option_and_then (plan_at h now) p
      from_place from p found = ap (option_and_then (plan_at h now)) found

      by_rest : first_from test start h.sockets.entries ≡ None → (p : Option ℕ) → first_from test 0 h.sockets.entries ≡ p → Is o
      by_rest none None silent =
          let nothing : o ≡ None = is ∙ ap (λ (q : Option Plan). option_or q (plan_from h now 0)) (from_place start None none) ∙ from_place 0 None silent in
          subst Is (sym nothing) (none_planned (turn ∙ ap (λ (q : Option ℕ). option_or q (first_from test 0 h.sockets.entries)) none ∙ silent), tt)
      by_rest none (Some place) found =
          let k = has_plan 0 place found in
          let this : o ≡ Some k.plan = is ∙ ap (λ (q : Option Plan). option_or q (plan_from h now 0)) (from_place start None none) ∙ from_place 0 (Some place) found ∙ k.planned in
          subst Is (sym this) (goes_planned place k (turn ∙ ap (λ (q : Option ℕ). option_or q (first_from test 0 h.sockets.entries)) none ∙ found))

      by_start : (p : Option ℕ) → first_from test start h.sockets.entries ≡ p → Is o
      by_start None none = by_rest none (first_from test 0 h.sockets.entries) refl
      by_start (Some place) found =
          let k = has_plan start place found in
          let this : o ≡ Some k.plan = is ∙ ap (λ (q : Option Plan). option_or q (plan_from h now 0)) (from_place start (Some place) found ∙ k.planned) in
          subst Is (sym this) (goes_planned place k (turn ∙ ap (λ (q : Option ℕ). option_or q (first_from test 0 h.sockets.entries)) found))
