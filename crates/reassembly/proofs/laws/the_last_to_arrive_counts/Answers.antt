use Rattle.std.proofs.Common.{◌≡◌, ℕ, Bool, true, false, cond, List, [], ◌∷◌, ◌++◌, reverse, find, Some, option_map, ◌∙◌, ap, arith}
use Rattle.std.proofs.lemmas.Bool.Decides.{nat_tests}
use Rattle.std.proofs.lemmas.List.{reverse-append}
use Rattle.ipv4.specs.Datagram.{Datagram}
use Rattle.reassembly.specs.Fragments.{covers, octet_for, latest}
use Rattle.reassembly.proofs.laws.the_last_to_arrive_counts.Goals as goal

-- what one fragment more makes of a place, by whether it covers that
with_last : (fragments : List Datagram) (d : Datagram) (i : ℕ) (b : Bool) → covers i d ≡ b
    → latest (fragments ++ d ∷ []) i ≡ option_map (octet_for i) (cond b (Some d) (find (covers i) (reverse fragments)))
with_last fragments d i b is =
    ap (λ xs. option_map (octet_for i) (find (covers i) xs)) (reverse-append fragments (d ∷ []))
    ∙ ap (λ c. option_map (octet_for i) (cond c (Some d) (find (covers i) (reverse fragments)))) is

pub returns-clause-covered : goal.returns-clause-covered
returns-clause-covered c fragments d i from within = with_last fragments d i true (grind (arith, nat_tests, from, within))

pub returns-clause-before : goal.returns-clause-before
returns-clause-before c fragments d i early = with_last fragments d i false (grind (arith, nat_tests, early))

pub returns-clause-behind : goal.returns-clause-behind
returns-clause-behind c fragments d i late = with_last fragments d i false (grind (arith, nat_tests, late))
