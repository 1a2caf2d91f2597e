-- Where the entries begin that stand behind the one that sent last.
use Rattle.std.proofs.Common.{◌≡◌, ℕ, ◌+◌, ◌<◌, ◌≤◌, nat_le, nat_lt, true, false, List, length, get_or, sym, ◌∙◌, ap, subst, arith}
use Rattle.std.specs.List.Sorted.{IsPartitionPoint, IsPartitionedBy}
use Rattle.std.proofs.lemmas.Bool.Decides.{nat_tests}
use Rattle.std.proofs.lemmas.List.{get_or_default}
use Rattle.sockets.specs.declared.entry.Entry.{Entry}
use Rattle.sockets.specs.Ids.{AreAscending, AreInOrder}
use Rattle.sockets.specs.SocketsView.{SocketsView}
use Rattle.sockets.specs.Turns.{IsTurnPlace}
use Rattle.sockets.proofs.Ascending.{in_order}
use Rattle.sockets.proofs.Followed.{by_test}

-- behind the place of the one that sent last
pub place_behind : (h : SocketsView) (last : ℕ) → AreAscending 0 last h.entries → (place : ℕ) (x : Entry) → place < length h.entries → x ≡ get_or h.entries place x → x.id.0 ≡ h.turn.0 → IsTurnPlace h (place + 1)
place_behind h last ascends place x within at is = record {
  within = omega (arith, within);
  before = λ k d low high. by_test (nat_lt k place)
      (λ front. let less : (get_or h.entries k d).id.0 < (get_or h.entries place d).id.0 = ordered k place d (grind (arith, nat_tests)) within in let there = its d in grind (arith, nat_tests, less, there))
      (λ here. let same : k ≡ place = grind (arith, nat_tests) in let there = ap (λ n. (get_or h.entries n d).id.0) same ∙ its d in grind (arith, nat_tests, there));
  behind = λ k d low high. let more : (get_or h.entries place d).id.0 < (get_or h.entries k d).id.0 = ordered place k d (omega (arith, low)) high in let there = its d in grind (arith, nat_tests, more, there);
}
  where
    ordered : AreInOrder h.entries
    ordered = in_order 0 last h.entries ascends

    its : (d : Entry) → (get_or h.entries place d).id.0 ≡ h.turn.0
    its d = ap (λ (e : Entry). e.id.0) (get_or_default h.entries place d x within ∙ sym at) ∙ is

-- those up to it stand in front of the others
pub parted_by_turn : (turn : ℕ) (xs : List Entry) → AreInOrder xs → IsPartitionedBy (λ e. nat_le e.id.0 turn) xs
parted_by_turn turn xs ordered i j d low within first =
    by_test (nat_lt i j)
    (λ less. let ids : (get_or xs i d).id.0 < (get_or xs j d).id.0 = ordered i j d (grind (arith, nat_tests)) within in grind (arith, nat_tests, ids, first))
    (λ not_less. let same : i ≡ j = grind (arith, nat_tests) in ap (λ n. nat_le (get_or xs n d).id.0 turn) same ∙ first)

pub place_parted : (h : SocketsView) (xs : List Entry) (place : ℕ) → xs ≡ h.entries → place ≤ length xs → IsPartitionPoint (λ (e : Entry). nat_le e.id.0 h.turn.0 ≡ true) (λ e. nat_le e.id.0 h.turn.0 ≡ false) xs place → IsTurnPlace h place
place_parted h xs place lent within parted = record {
  within = subst (λ (l : List Entry). place ≤ length l) lent within;
  before = λ k d low high. let front : nat_le (get_or h.entries k d).id.0 h.turn.0 ≡ true = ap (λ (l : List Entry). nat_le (get_or l k d).id.0 h.turn.0) (sym lent) ∙ parted.0 k d low high in grind (arith, nat_tests, front);
  behind = λ k d low high.
      let back : nat_le (get_or h.entries k d).id.0 h.turn.0 ≡ false = ap (λ (l : List Entry). nat_le (get_or l k d).id.0 h.turn.0) (sym lent) ∙ parted.1 k d low (subst (λ (l : List Entry). k < length l) (sym lent) high) in
      grind (arith, nat_tests, back);
}
