use Rattle.std.proofs.Common.{◌≡◌, [], ◌∷◌, ◌++◌, get_or, rules, ap, refl, ◌∙◌}
use Rattle.ipv4.proofs.Sending.{four}
use Rattle.ipv4.proofs.head.Head.header.Goals as goal

pub returns : goal.returns
returns c = λ payload is_total.
    let s = c.args.self.now.source.0 in
    let d = c.args.self.now.destination.0 in
    let from = four s (search rules) in
    let to = four d (search rules) in
    let field = c.fragment_field.ensures payload c.args.checksum in
    let tail : (s ++ d) ++ [] ≡ get_or s 0 0 ∷ get_or s 1 0 ∷ get_or s 2 0 ∷ get_or s 3 0 ∷ get_or d 0 0 ∷ get_or d 1 0 ∷ get_or d 2 0 ∷ get_or d 3 0 ∷ [] =
    ap (λ l. (l ++ d) ++ []) from ∙ ap (λ l. get_or s 0 0 ∷ get_or s 1 0 ∷ get_or s 2 0 ∷ get_or s 3 0 ∷ (l ++ [])) to in
    rw (c.to_be_bytes.ensures, c.to_be_bytes-2.ensures, c.to_be_bytes-3.ensures, c.to_be_bytes-4.ensures, field, ← is_total, tail) refl
