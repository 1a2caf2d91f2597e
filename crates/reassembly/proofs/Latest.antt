-- Fragments laid one after another leave at each place the octet of the last one that covers it.
use Rattle.std.proofs.Common.{◌≡◌, ℕ, zero, suc, ◌+◌, ◌-◌, ◌≤◌, ◌&&◌, Bool, true, false, nat_lt, nat_le, cond, List, [], ◌∷◌, ◌++◌, length, take, drop, map, replicate, reverse, get_or, slice_index, find, Option, Some, None, option_map, inl, inr, refl, sym, ◌∙◌, ap, length-append, arith}
use Rattle.std.specs.Option.{option_or}
use Rattle.std.proofs.lemmas.Bool.{cases_lt}
use Rattle.std.proofs.lemmas.Bool.Decides.{nat_tests}
use Rattle.std.proofs.lemmas.List.{length-take-le, length-map, get_or_append_left, get_or-append_right, get_or-drop, get_or-take, get_or-map, get_or_past, reverse-append}
use Rattle.std.proofs.lemmas.List.Folds.{find-append}
use Rattle.ipv4.specs.Datagram.{Datagram}
use Rattle.reassembly.specs.Fragments.{begin_of, end_of, is_last, covers, octet_for, latest, end_shown_by}
use Rattle.reassembly.specs.Octets.{reaching, put, laid}
use Rattle.reassembly.proofs.BufferSteps.{length-reaching}
use Rattle.reassembly.specs.Reassembly.{Reassembly, with_fragment, after_fragments}

-- the octet at a place
abbrev pub octet_at : List (Option ℕ) → ℕ → Option ℕ
octet_at octets i = get_or octets i None

octet_at-none : (n i : ℕ) → octet_at (replicate n None) i ≡ None
octet_at-none zero i = refl
octet_at-none (suc n) zero = refl
octet_at-none (suc n) (suc i) = octet_at-none n i

octet_at-reaching : (end : ℕ) (octets : List (Option ℕ)) (i : ℕ) → octet_at (reaching end octets) i ≡ octet_at octets i
unfolding reaching
octet_at-reaching end octets i = elim (cases_lt i (length octets)) [
  | inl within ↦ get_or_append_left octets (replicate (end - length octets) None) None i within
  | inr past ↦ get_or-append_right octets (replicate (end - length octets) None) (length octets) i None refl past
      ∙ octet_at-none (end - length octets) (i - length octets) ∙ sym (get_or_past octets i None past)
]

none_before : {X : Type 0} (b c : Bool) (x y : X) → b ≡ false → cond (b && c) x y ≡ y
none_before b c x y e = rw e refl

none_past : {X : Type 0} (b c : Bool) (x y : X) → c ≡ false → cond (b && c) x y ≡ y
none_past true c x y e = rw e refl
none_past false c x y e = refl

within_both : {X : Type 0} (b c : Bool) (x y : X) → b ≡ true → c ≡ true → cond (b && c) x y ≡ x
within_both b c x y e f = rw (e, f) refl

octet_at-put : (at : ℕ) (new : List ℕ) (octets : List (Option ℕ)) (i : ℕ) → at + length new ≤ length octets
    → octet_at (put at new octets) i ≡ cond (nat_le at i && nat_lt i (at + length new)) (Some (slice_index new (i - at))) (octet_at octets i)
unfolding put
octet_at-put at new octets i room =
    let end : ℕ = at + length new in
    let start = take at octets in
    let front = start ++ map Some new in
    let start_length : length start ≡ at = length-take-le at octets (omega arith) in
    let front_length : length front ≡ end = omega (arith, start_length, length-append start (map Some new), length-map {B = Option ℕ} new Some) in
    elim (cases_lt i at) [
      | inl before ↦
          get_or_append_left front (drop end octets) None i (omega arith) ∙ get_or_append_left start (map Some new) None i (omega arith)
          ∙ get_or-take at octets i None before
          ∙ sym (none_before (nat_le at i) (nat_lt i end) (Some (slice_index new (i - at))) (octet_at octets i) (grind (arith, nat_tests)))
      | inr from ↦ elim (cases_lt i end) [
        | inl within ↦
            get_or_append_left front (drop end octets) None i (omega arith) ∙ get_or-append_right start (map Some new) at i None start_length from
            ∙ get_or-map Some new (i - at) 0 None (omega arith)
            ∙ sym (within_both (nat_le at i) (nat_lt i end) (Some (slice_index new (i - at))) (octet_at octets i) (grind (arith, nat_tests)) (grind (arith, nat_tests)))
        | inr past ↦
            get_or-append_right front (drop end octets) end i None front_length past ∙ get_or-drop end octets (i - end) None
            ∙ ap (octet_at octets) (let e : end + (i - end) ≡ i = omega arith in e)
            ∙ sym (none_past (nat_le at i) (nat_lt i end) (Some (slice_index new (i - at))) (octet_at octets i) (grind (arith, nat_tests)))
      ]
    ]

octet_at-laid : (at : ℕ) (new : List ℕ) (octets : List (Option ℕ)) (i : ℕ)
    → octet_at (laid at new octets) i ≡ cond (nat_le at i && nat_lt i (at + length new)) (Some (slice_index new (i - at))) (octet_at octets i)
unfolding laid
octet_at-laid at new octets i =
    octet_at-put at new (reaching (at + length new) octets) i (length-reaching (at + length new) octets)
    ∙ ap (λ o. cond (nat_le at i && nat_lt i (at + length new)) (Some (slice_index new (i - at))) o) (octet_at-reaching (at + length new) octets i)

option_or-assoc : {X : Type 0} (a b c : Option X) → option_or (option_or a b) c ≡ option_or a (option_or b c)
option_or-assoc None b c = refl
option_or-assoc (Some x) b c = refl

option_or-none : {X : Type 0} (a : Option X) → option_or a None ≡ a
option_or-none None = refl
option_or-none (Some x) = refl

-- the end that was told first
pub end_folded : (r : Reassembly) (fragments : List Datagram) → (after_fragments r fragments).end ≡ option_or r.end (end_shown_by fragments)
end_folded r [] = sym (option_or-none r.end)
end_folded r (d ∷ fragments) =
    end_folded (with_fragment r d) fragments
    ∙ option_or-assoc r.end (cond (is_last d) (Some (end_of d)) None) (end_shown_by fragments)
    ∙ ap (option_or r.end) (either (is_last d))
  where
    either : (b : Bool) → option_or (cond b (Some (end_of d)) None) (end_shown_by fragments) ≡ option_map end_of (cond b (Some d) (find is_last fragments))
    either true = refl
    either false = refl

-- the octet that came last
pub octet_folded : (r : Reassembly) (fragments : List Datagram) (i : ℕ)
    → octet_at (after_fragments r fragments).octets i ≡ option_or (latest fragments i) (octet_at r.octets i)
octet_folded r [] i = refl
octet_folded r (d ∷ fragments) i =
    octet_folded (with_fragment r d) fragments i
    ∙ ap (option_or (latest fragments i)) (octet_at-laid (begin_of d) d.payload r.octets i ∙ either (covers i d))
    ∙ sym (option_or-assoc (latest fragments i) (cond (covers i d) (Some (octet_for i d)) None) (octet_at r.octets i))
    ∙ ap (λ o. option_or o (octet_at r.octets i)) (sym first)
  where
    either : (b : Bool) → cond b (Some (octet_for i d)) (octet_at r.octets i) ≡ option_or (cond b (Some (octet_for i d)) None) (octet_at r.octets i)
    either true = refl
    either false = refl

    mapped : (a b : Option Datagram) → option_map (octet_for i) (option_or a b) ≡ option_or (option_map (octet_for i) a) (option_map (octet_for i) b)
    mapped None b = refl
    mapped (Some x) b = refl

    alone : (b : Bool) → option_map (octet_for i) (cond b (Some d) None) ≡ cond b (Some (octet_for i d)) None
    alone true = refl
    alone false = refl

    first : latest (d ∷ fragments) i ≡ option_or (latest fragments i) (cond (covers i d) (Some (octet_for i d)) None)
    first =
        ap (λ l. option_map (octet_for i) (find (covers i) l)) (reverse-append (d ∷ []) fragments)
        ∙ ap (option_map (octet_for i)) (find-append (covers i) (reverse fragments) (d ∷ []))
        ∙ mapped (find (covers i) (reverse fragments)) (cond (covers i d) (Some d) None)
        ∙ ap (option_or (latest fragments i)) (alone (covers i d))
