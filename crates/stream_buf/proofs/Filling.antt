-- Filler that is put behind octets, a part after another.
use Rattle.std.proofs.Common.{◌≡◌, ℕ, ◌+◌, ◌-◌, ◌≤◌, List, ◌++◌, length, take, replicate, ◌∙◌, ap, length-append, arith}
use Rattle.std.proofs.lemmas.List.{append_assoc, length-replicate, take-take, take-replicate, replicate-append-replicate}

-- the first octets of some filler
pub first_filler : (n count result : ℕ) → result ≤ count → count ≤ n → take result (take count (replicate n 0)) ≡ replicate {A = ℕ} result 0
first_filler n count result less within = take-take result count (replicate n 0) less ∙ take-replicate result n 0 (omega (arith, less, within))

pub filled_more : (octets now new : List ℕ) (more : ℕ) → now ≡ octets ++ replicate (length now - length octets) 0 → new ≡ now ++ replicate more 0
    → length octets ≤ length now → new ≡ octets ++ replicate (length new - length octets) 0
filled_more octets now new more was is less =
    let k : ℕ = length now - length octets in
    let size : length new ≡ length now + more = ap length is ∙ omega (arith, length-append now (replicate more 0), length-replicate {A = ℕ} more 0) in
    let joined : replicate k 0 ++ replicate more 0 ≡ replicate {A = ℕ} (k + more) 0 = replicate-append-replicate k more 0 in
    let sum : k + more ≡ length new - length octets = omega (arith, size, less) in
    is ∙ ap (λ (xs : List ℕ). xs ++ replicate more 0) was ∙ append_assoc octets (replicate k 0) (replicate more 0)
    ∙ ap (λ (xs : List ℕ). octets ++ xs) joined ∙ ap (λ (n : ℕ). octets ++ replicate n 0) sum
