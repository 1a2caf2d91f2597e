-- The frames that reached a host, by number.
use Rattle.std.specs.Prelude.{ℕ, Bool}
use Rattle.std.specs.Ordering.{nat_cmp}
use Rattle.std.specs.BTreeSet.{contains}
use Rattle.ladder.specs.declared.arrivals.Arrivals.{Arrivals}

-- whether the frame with this number is one of them
abbrev pub has_number : Arrivals → ℕ → Bool
has_number arrivals index = contains nat_cmp arrivals.numbers index
