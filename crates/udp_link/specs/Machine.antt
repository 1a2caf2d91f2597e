-- What a socket of the machine was asked, and how the call ended that is told.
use Rattle.std.specs.Prelude.{◌≡◌, ◌≢◌, ◌⊎◌, ℕ, ◌+◌, ◌<◌, List, Option, Some, None}
use Rattle.std.specs.declared.io.ErrorKind.{ErrorKind}
use Rattle.std.specs.declared.io.ErrorKind.TheVariants.{WouldBlock}
use Rattle.devices.specs.Calls.{IsMadeAgain}

-- a call ended so, which is told as it ended; but a machine that would have to wait has no room, or nothing to give, and that is no failure
abbrev pub IsToldAs : Option ErrorKind → Option ErrorKind → Type 0
IsToldAs last told = ((last ≡ Some WouldBlock) × (told ≡ None)) ⊎ ((last ≢ Some WouldBlock) × (told ≡ last))

-- the machine was asked, and again while a signal interrupted it, and this is told
abbrev pub IsAsked : Option (List (Option ErrorKind)) → Option (List (Option ErrorKind)) → Option ErrorKind → Type 0
IsAsked old new told = (last : Option ErrorKind) × IsMadeAgain old new last × IsToldAs last told

-- so many calls gave datagrams of others, each made again while a signal interrupted it
pub data PassesOver (old : Option (List (Option ErrorKind))) : ℕ → Option (List (Option ErrorKind)) → Type 0 where
  Begins : PassesOver old 0 old
  GoesOn : (others : ℕ) (mid new : Option (List (Option ErrorKind))) → PassesOver old others mid → IsMadeAgain mid new None → PassesOver old (others + 1) new

-- the machine was asked so, behind fewer than 64 calls that gave datagrams of others
pub record IsAskedLast (old new : Option (List (Option ErrorKind))) (told : Option ErrorKind) : Type 0 where
  pub others : ℕ
  pub few : others < 64
  pub mid : Option (List (Option ErrorKind))
  pub passed_over : PassesOver old others mid
  pub asked : IsAsked mid new told
