-- Tests of ids, addresses, endpoints and pairs.
use Rattle.std.proofs.Common.{◌≡◌, ℕ, ◌==◌, ◌&&◌, true, List, [], ◌∷◌, refl, sym, ◌∙◌, ap}
use Rattle.std.specs.Prelude.{nat_eq}
use Rattle.std.specs.Cmp.Lexicographic.{pointwise, same_text}
use Rattle.std.proofs.lemmas.Bool.{eqb-true, eq-eqb, and_parts, and_from}
use Rattle.ipv4.specs.declared.addr.Addr.{Addr}
use Rattle.ipv4.specs.declared.addr.Endpoint.{Endpoint}
use Rattle.ipv4.specs.Addresses.{same_addr, same_end}

pub eqb-same : (n : ℕ) → (n == n) ≡ true
eqb-same n = eq-eqb n n refl

pointwise-same : (xs : List ℕ) → pointwise nat_eq xs xs ≡ true
pointwise-same [] = refl
pointwise-same (x ∷ xs) = ap (λ b. b && pointwise nat_eq xs xs) (eqb-same x) ∙ pointwise-same xs

pub same_addr-same : (a b : Addr) → a ≡ b → same_addr a b ≡ true
same_addr-same a b same = ap (λ x. same_addr a x) (sym same) ∙ pointwise-same a.0

pub same_addr-true : (a b : Addr) → same_addr a b ≡ true → a ≡ b
same_addr-true a b e = ap (λ xs. let x : Addr = record { 0 = xs } in x) (same_text a.0 b.0 (sym e))

pub same_end-same : (a : Endpoint) → same_end a a ≡ true
same_end-same a = and_from (same_addr a.addr a.addr) (a.port == a.port) (same_addr-same a.addr a.addr refl) (eqb-same a.port)

pub same_end-true : (a b : Endpoint) → same_end a b ≡ true → a ≡ b
same_end-true a b e =
    let parts = and_parts (same_addr a.addr b.addr) (a.port == b.port) e in
    let addr : a.addr ≡ b.addr = same_addr-true a.addr b.addr parts.0 in
    let port : a.port ≡ b.port = eqb-true a.port b.port parts.1 in
    ap (λ x. let y : Endpoint = record { addr = x; port = a.port } in y) addr ∙ ap (λ n. let y : Endpoint = record { addr = b.addr; port = n } in y) port
