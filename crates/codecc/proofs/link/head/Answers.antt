use Rattle.std.proofs.Common.{◌++◌, ◌∷◌, [], get_or, rules, sym, ◌∙◌, ap}
use Rattle.byteorder.specs.Endian.{big_bytes}
use Rattle.codecc.proofs.Lists.{six}
use Rattle.codecc.proofs.link.head.Goals as goal

pub returns : goal.returns
returns c =
    let d = c.args.ether.now.destination in
    let s = c.args.ether.now.source in
    let bytes = big_bytes 2 c.args.ether.now.kind in
    search rules ∙ sym (ap (λ l. (l ++ s) ++ bytes) (six d (search rules)) ∙ ap (λ l. ((get_or d 0 0 ∷ get_or d 1 0 ∷ get_or d 2 0 ∷ get_or d 3 0 ∷ get_or d 4 0 ∷ get_or d 5 0 ∷ []) ++ l) ++ bytes) (six s (search rules)))
