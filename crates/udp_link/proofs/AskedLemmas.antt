-- A socket that was asked again behind a datagram of another one.
use Rattle.std.proofs.Common.{◌≡◌, ℕ, ◌+◌, List, Option, None, subst}
use Rattle.std.specs.declared.io.ErrorKind.{ErrorKind}
use Rattle.devices.specs.Calls.{IsMadeAgain}
use Rattle.udp_link.specs.Machine.{PassesOver, GoesOn}

-- one more is passed over, which gave a datagram of another
pub passes_on : (others : ℕ) (old mid new : Option (List (Option ErrorKind))) (last : Option ErrorKind) → PassesOver old others mid → IsMadeAgain mid new last → last ≡ None → PassesOver old (others + 1) new
passes_on others old mid new last passed_over again gave = GoesOn others mid new passed_over (subst (IsMadeAgain mid new) gave again)
