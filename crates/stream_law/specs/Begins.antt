-- What begins a list.
use Rattle.std.specs.Prelude.{◌≡◌, ℕ, List, ◌++◌}

-- what was read begins what was written
pub record Begins (read written : List ℕ) : Type 0 where
  pub rest : List ℕ
  pub begins : written ≡ read ++ rest
