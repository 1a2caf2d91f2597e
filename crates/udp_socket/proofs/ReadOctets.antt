-- What a reader is given.
use Rattle.std.proofs.Common.{◌≡◌, ℕ, suc, min, List, [], ◌∷◌, ◌++◌, length, take, drop, Option, Some, None, refl, sym, ◌∙◌, ap, arith}
use Rattle.std.proofs.Math.Seq.{drop-append_seam}
use Rattle.std.proofs.lemmas.List.{length-take, take_at, drop_all}
use Rattle.ipv4.specs.declared.addr.Endpoint.{Endpoint}
use Rattle.udp.specs.Waiting.{Waiting}
use Rattle.udp_socket.specs.SocketView.{read_answer, read_buffer}

-- what stands behind: the same from either length on
same_rest : (xs buffer : List ℕ) → drop (length xs) buffer ≡ drop (min (length xs) (length buffer)) buffer
same_rest [] buffer = ap (λ (n : ℕ). drop n buffer) (let none : 0 ≡ min 0 (length buffer) = omega arith in none)
same_rest (x ∷ xs) [] = sym (drop_all (min (length (x ∷ xs)) 0) [] (omega arith))
same_rest (x ∷ xs) (b ∷ buffer) =
    same_rest xs buffer ∙ ap (λ (n : ℕ). drop n (b ∷ buffer)) (let next : suc (min (length xs) (length buffer)) ≡ min (suc (length xs)) (suc (length buffer)) = omega arith in next)

-- what an answer has
abbrev answered : Option (ℕ × Endpoint) → ℕ × Endpoint → ℕ × Endpoint
answered None other = other
answered (Some pair) other = pair

pub cut : (items : List Waiting) (buffer : List ℕ) (n : ℕ) (from : Endpoint) → read_answer items (length buffer) ≡ Some (n, from)
    → (item : Waiting) × (take 1 items ≡ item ∷ []) × (from ≡ item.endpoint)
    × (take n (read_buffer items buffer) ≡ take (length buffer) item.octets) × (drop n (read_buffer items buffer) ≡ drop n buffer)
cut [] buffer n from is = cc
cut (item ∷ items) buffer n from is =
    let xs : List ℕ = item.octets in
    let front : List ℕ = take (length buffer) xs in
    let back : List ℕ = drop (length xs) buffer in
    let count : min (length xs) (length buffer) ≡ n = ap (λ (o : Option (ℕ × Endpoint)). (answered o (n, from)).0) is in
    let peer : item.endpoint ≡ from = ap (λ (o : Option (ℕ × Endpoint)). (answered o (n, from)).1) is in
    let size : length front ≡ n = omega (arith, length-take (length buffer) xs, count) in (
      item,
      refl,
      sym peer,
      take_at front back n size,
      ap (λ (k : ℕ). drop k (front ++ back)) (sym size) ∙ drop-append_seam front back ∙ same_rest xs buffer ∙ ap (λ (k : ℕ). drop k buffer) count,
    )
