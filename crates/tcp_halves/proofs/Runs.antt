-- Ranges that are kept end within the places that there are.
use Rattle.std.proofs.Common.{◌≡◌, ℕ, zero, suc, ◌-◌, ◌^◌, ◌<◌, ◌≤◌, List, [], ◌∷◌, length, get_or, Option, None, IsSome, sym, subst, arith}
use Rattle.std.proofs.lemmas.List.{get_or_default}
use Rattle.stream_buf.specs.declared.ranges.Range.{Range}
use Rattle.stream_buf.specs.Receiving.{runs}
use Rattle.stream_buf.proofs.Gathering.{apart_at}
use Rattle.stream_buf.proofs.Runs.{runs_keep, runs_apart}

pub some_within : (places : List (Option ℕ)) (k : ℕ) → IsSome (get_or places k None) → k < length places
some_within [] k some = absurd (cc)
some_within (o ∷ places) zero some = omega arith
some_within (o ∷ places) (suc k) some = omega (arith, some_within places k some)

pub ends_within : (kept : List (Option ℕ)) (i : ℕ) (d : Range) → i < length (runs kept) → ((get_or (runs kept) i d).start < (get_or (runs kept) i d).end) × ((get_or (runs kept) i d).end ≤ length kept)
ends_within kept i d below =
    let r = get_or (runs kept) i d in
    let some = (apart_at (runs kept) 0 i d (runs_apart None 0 kept tt) below).1 in
    let last = some_within kept (r.end - 1) ((runs_keep kept (r.end - 1)).1 (i, r, below, sym (get_or_default (runs kept) i d r below), (omega (arith, some), omega (arith, some)))) in
    (some, omega (arith, some, last))

pub ranges_fit : (kept : List (Option ℕ)) (rs : List Range) (i : ℕ) (d : Range) → rs ≡ runs kept → length kept < 2 ^ 32 → i < length rs → ((get_or rs i d).start < 2 ^ 32) × ((get_or rs i d).end < 2 ^ 32)
ranges_fit kept rs i d is few below =
    subst (λ l. i < length l → ((get_or l i d).start < 2 ^ 32) × ((get_or l i d).end < 2 ^ 32)) (sym is)
    (λ there. let e = ends_within kept i d there in (omega (arith, e.0, e.1, few), omega (arith, e.1, few))) below
