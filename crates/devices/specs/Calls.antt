-- Calls of a device, which a signal may interrupt. Such a call moved nothing, and is made again.
use Rattle.std.specs.Prelude.{◌≡◌, ℕ, ◌≤◌, List, [], ◌∷◌, ◌++◌, replicate, Option, Some, None, Result, Ok, Err, ⊤}
use Rattle.std.specs.IoError.{error_kind}
use Rattle.std.specs.declared.io.Error.{Error}
use Rattle.std.specs.declared.io.ErrorKind.{ErrorKind}
use Rattle.std.specs.declared.io.ErrorKind.TheVariants.{Interrupted}

-- how a call ended: well, or with an error of a kind
abbrev pub end_of : {T : Type 0} → Result T Error → Option ErrorKind
end_of (Ok value) = None
end_of (Err error) = Some (error_kind error)

-- the known ends of the calls so far grew by these
abbrev pub Ends : Option (List (Option ErrorKind)) → Option (List (Option ErrorKind)) → List (Option ErrorKind) → Type 0
Ends None new more = ⊤
Ends (Some ends) None more = ⊥
Ends (Some ends) (Some longer) more = longer ≡ ends ++ more

-- A call was made, and again while a signal interrupted it, 64 times in a row at most. This is how the last one ended.
pub record IsMadeAgain (old new : Option (List (Option ErrorKind))) (last : Option ErrorKind) : Type 0 where
  pub interrupted : ℕ
  pub few : interrupted ≤ 64
  pub ends : Ends old new (replicate interrupted (Some Interrupted) ++ last ∷ [])
  pub given_up : last ≡ Some Interrupted → interrupted ≡ 64
