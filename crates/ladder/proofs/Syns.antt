-- The initial number of a direction, SYN by SYN.
use Rattle.std.proofs.Common.{◌≡◌, ◌+◌, ◌<◌, ◌≤◌, List, ℕ, Option, Some, None, length, drop, get_or, refl, ap, ◌∙◌}
use Rattle.std.proofs.lemmas.List.{drop_more, drop_all}
use Rattle.tcp_segment.specs.declared.seq.Seq.{Seq}
use Rattle.ladder.specs.declared.numbers.Direction.{Direction}
use Rattle.ladder.specs.declared.numbers.Syn.{Syn}
use Rattle.ladder.specs.Numbers.{initial_in, later_or, number_on}

-- of three answers, the last two can be joined first
later_joined : (a b c : Option Seq) → later_or (later_or a b) c ≡ later_or a (later_or b c)
later_joined (Some n) b c = refl
later_joined None b c = refl

-- one SYN more is seen
pub syn_seen : (d : Direction) (syns : List Syn) (i : ℕ) (s : Syn) (found : Option Seq) → i < length syns →
    later_or (initial_in d (drop i syns)) found ≡ later_or (initial_in d (drop (i + 1) syns)) (later_or (number_on d (get_or syns i s)) found)
syn_seen d syns i s found within =
    ap (λ left. later_or (initial_in d left) found) (drop_more syns i s within)
    ∙ later_joined (initial_in d (drop (i + 1) syns)) (number_on d (get_or syns i s)) found

-- all were seen
pub syns_done : (d : Direction) (syns : List Syn) (i : ℕ) (found : Option Seq) → length syns ≤ i → later_or (initial_in d (drop i syns)) found ≡ found
syns_done d syns i found done = ap (λ left. later_or (initial_in d left) found) (drop_all i syns done)
