-- The steps of a data buffer, as its value sees them.
use Rattle.std.proofs.Common.{◌≡◌, ℕ, ◌+◌, ◌-◌, ◌≤◌, Bool, true, false, not, List, ◌++◌, length, take, drop, map, replicate, Option, Some, None, refl, sym, ◌∙◌, ap, append-nil, length-append, arith}
use Rattle.std.specs.List.{count_by, slice_range}
use Rattle.std.proofs.lemmas.List.{length-take-le, length-drop, length-replicate, take-take, take-append-drop, drop-drop, drop-take}
use Rattle.std.proofs.Math.Seq.{take-add}
use Rattle.reassembly.specs.Buffers.{BufferView, known, count_set, over}
use Rattle.reassembly.specs.Octets.{reaching, put}
use Rattle.reassembly.proofs.Writes.{take-over, take-over_end}
use Rattle.reassembly.proofs.Known.{known-append, known-take, known-drop, length-known, known_set, known_clear, count-append, count_all, count-both}

-- what a data buffer shows, where its octets change
pub shown : (room : ℕ) (old new : List (Option ℕ)) (buffer : BufferView) → room ≡ buffer.room → old ≡ new
    → record buffer { room = room; octets = old } ≡ record buffer { octets = new }
shown room old new buffer e f = ap (λ r. record buffer { room = r; octets = old }) e ∙ ap (λ octets. record buffer { octets = octets }) f

-- the places that are in use are as many as the view shows
pub view_length : (octets : List ℕ) (present : List Bool) (reach : ℕ) → reach ≤ length octets → reach ≤ length present
    → length (known (take reach octets) (take reach present)) ≡ reach
view_length octets present reach h k =
    let o = length-take-le reach octets h in
    let p = length-take-le reach present k in
    length-known (take reach octets) (take reach present) (o ∙ sym p) ∙ o

-- more places come into use, their flags clear
pub widened : (octets : List ℕ) (present : List Bool) (reach end : ℕ) → reach ≤ end → end ≤ length octets → end ≤ length present
    → known (take end octets) (take end (over reach (replicate (end - reach) false) present))
    ≡ reaching end (known (take reach octets) (take reach present))
unfolding reaching
widened octets present reach end below room flags =
    let clear = replicate (end - reach) false in
    let count : length clear ≡ end - reach = length-replicate (end - reach) false in
    let flags_are : take end (over reach clear present) ≡ take reach present ++ clear = take-over_end end reach clear present (omega arith) flags in
    let octets_are : take end octets ≡ take reach octets ++ take (end - reach) (drop reach octets) =
    ap (λ n. take n octets) (let e : end ≡ reach + (end - reach) = omega arith in e) ∙ take-add reach (end - reach) octets in
    let same : length (take reach octets) ≡ length (take reach present) =
    length-take-le reach octets (omega arith) ∙ sym (length-take-le reach present (omega arith)) in
    let rest : length (take (end - reach) (drop reach octets)) ≡ end - reach =
    length-take-le (end - reach) (drop reach octets) (omega (arith, length-drop reach octets)) in
    let so_long : length (known (take reach octets) (take reach present)) ≡ reach = view_length octets present reach (omega arith) (omega arith) in
    rw (
      flags_are,
      octets_are,
      known-append (take reach octets) (take (end - reach) (drop reach octets)) (take reach present) clear same,
      known_clear (take (end - reach) (drop reach octets)) (end - reach) rest,
      so_long,
    ) refl

-- places that are in use already
pub not_widened : (end : ℕ) (octets : List (Option ℕ)) → end ≤ length octets → octets ≡ reaching end octets
unfolding reaching
not_widened end octets h = let none : end - length octets ≡ 0 = omega arith in rw none (sym (append-nil octets))

pub length-reaching : (end : ℕ) (octets : List (Option ℕ)) → end ≤ length (reaching end octets)
unfolding reaching
length-reaching end octets =
    omega (arith, length-append octets (replicate (end - length octets) None), length-replicate {A = Option ℕ} (end - length octets) None)

-- octets are put where places are in use
pub put_there : (octets : List ℕ) (present : List Bool) (reach at : ℕ) (new : List ℕ) (n : ℕ) → n ≡ length new
    → at + length new ≤ reach → reach ≤ length octets → reach ≤ length present
    → known (take reach (over at new octets)) (take reach (over at (replicate n true) present))
    ≡ put at new (known (take reach octets) (take reach present))
unfolding put
put_there octets present reach at new n e within room flags =
    let old_octets = take reach octets in
    let old_flags = take reach present in
    let set = replicate n true in
    let end : ℕ = at + length new in
    let set_length : length set ≡ n = length-replicate n true in
    let octets_length : length old_octets ≡ reach = length-take-le reach octets room in
    let flags_length : length old_flags ≡ reach = length-take-le reach present flags in
    let octets_are : take reach (over at new octets) ≡ over at new old_octets = take-over reach at new octets within room in
    let flags_are : take reach (over at set present) ≡ over at set old_flags = take-over reach at set present (omega arith) flags in
    let starts : length (take at old_octets) ≡ length (take at old_flags) =
    length-take-le at old_octets (omega arith) ∙ sym (length-take-le at old_flags (omega arith)) in
    let fronts : length (take at old_octets ++ new) ≡ length (take at old_flags ++ set) =
    omega (arith, starts, length-append (take at old_octets) new, length-append (take at old_flags) set) in
    let news : known new set ≡ map Some new = ap (λ k. known new (replicate k true)) e ∙ known_set new in
    let ends : known (drop end old_octets) (drop (at + length set) old_flags) ≡ drop end (known old_octets old_flags) =
    ap (λ k. known (drop end old_octets) (drop k old_flags)) (let q : at + length set ≡ end = omega arith in q) ∙ known-drop end old_octets old_flags in
    rw (
      octets_are,
      flags_are,
      known-append (take at old_octets ++ new) (drop end old_octets) (take at old_flags ++ set) (drop (at + length set) old_flags) fronts,
      known-append (take at old_octets) new (take at old_flags) set starts,
      known-take at old_octets old_flags,
      news,
      ends,
    ) refl

-- their flags are set, and so many more are
pub counted : (present : List Bool) (reach at n : ℕ) → at + n ≤ reach → reach ≤ length present
    → count_set (take reach (over at (replicate n true) present)) ≡ count_set (take reach present) + count_by not (slice_range present at (at + n))
counted present reach at n within room =
    let old = take reach present in
    let set = replicate n true in
    let middle = take n (drop at old) in
    let set_length : length set ≡ n = length-replicate n true in
    let old_length : length old ≡ reach = length-take-le reach present room in
    let flags_are : take reach (over at set present) ≡ over at set old = take-over reach at set present (omega arith) room in
    let now : count_set (over at set old) ≡ count_set (take at old) + n + count_set (drop (at + length set) old) =
    omega (arith, count-append (take at old ++ set) (drop (at + length set) old), count-append (take at old) set, count_all n) in
    let middle_length : length middle ≡ n = length-take-le n (drop at old) (omega (arith, length-drop at old)) in
    let first_cut : count_set (take at old) + count_set (drop at old) ≡ count_set old =
    sym (count-append (take at old) (drop at old)) ∙ ap count_set (take-append-drop at old) in
    let second_cut : count_set middle + count_set (drop n (drop at old)) ≡ count_set (drop at old) =
    sym (count-append middle (drop n (drop at old))) ∙ ap count_set (take-append-drop n (drop at old)) in
    let rest : drop n (drop at old) ≡ drop (at + length set) old =
    drop-drop n at old ∙ ap (λ k. drop k old) (let q : at + n ≡ at + length set = omega arith in q) in
    let part : slice_range present at (at + n) ≡ middle =
    ap (λ k. take k (drop at present)) (let q : at + n - at ≡ n = omega arith in q)
    ∙ sym (take-take n (reach - at) (drop at present) (omega arith))
    ∙ ap (take n) (sym (drop-take at (reach - at) present) ∙ ap (λ k. drop at (take k present)) (let q : at + (reach - at) ≡ reach = omega arith in q)) in
    let missed : count_by not (slice_range present at (at + n)) ≡ count_by not middle = ap (λ l. count_by not l) part in
    let tails : count_set (drop n (drop at old)) ≡ count_set (drop (at + length set) old) = ap count_set rest in
    omega (arith, ap count_set flags_are, now, first_cut, second_cut, tails, missed, count-both middle, middle_length)
