-- No action has four arguments or more.
use Rattle.std.proofs.Common.{◌≡◌, ℕ, List, [], ◌∷◌, ◌≤◌, length, None, arith, refl}
use Rattle.script.specs.Actions.{said_by}
use Rattle.script.specs.declared.action.Keyword.{Keyword}
use Rattle.script.specs.declared.action.Keyword.TheVariants as keyword

four_say_nothing : (k : Keyword) (a b c d : List ℕ) (rest : List (List ℕ)) → said_by k (a ∷ b ∷ c ∷ d ∷ rest) ≡ None
four_say_nothing keyword.Socket a b c d rest = refl
four_say_nothing keyword.Bind a b c d rest = refl
four_say_nothing keyword.Listen a b c d rest = refl
four_say_nothing keyword.Accept a b c d rest = refl
four_say_nothing keyword.Connect a b c d rest = refl
four_say_nothing keyword.Send a b c d rest = refl
four_say_nothing keyword.Fill a b c d rest = refl
four_say_nothing keyword.Recv a b c d rest = refl
four_say_nothing keyword.Count a b c d rest = refl
four_say_nothing keyword.SendTo a b c d rest = refl
four_say_nothing keyword.FillTo a b c d rest = refl
four_say_nothing keyword.RecvFrom a b c d rest = refl
four_say_nothing keyword.CountFrom a b c d rest = refl
four_say_nothing keyword.Shutdown a b c d rest = refl
four_say_nothing keyword.NoDelay a b c d rest = refl
four_say_nothing keyword.Close a b c d rest = refl
four_say_nothing keyword.Abort a b c d rest = refl
four_say_nothing keyword.State a b c d rest = refl
four_say_nothing keyword.Ready a b c d rest = refl
four_say_nothing keyword.Info a b c d rest = refl
four_say_nothing keyword.Tick a b c d rest = refl
four_say_nothing keyword.Emit a b c d rest = refl
four_say_nothing keyword.Deliver a b c d rest = refl

pub too_many_say_nothing : (k : Keyword) (words : List (List ℕ)) → 4 ≤ length words → said_by k words ≡ None
too_many_say_nothing k [] many = absurd (omega arith)
too_many_say_nothing k (a ∷ []) many = absurd (omega arith)
too_many_say_nothing k (a ∷ b ∷ []) many = absurd (omega arith)
too_many_say_nothing k (a ∷ b ∷ c ∷ []) many = absurd (omega arith)
too_many_say_nothing k (a ∷ b ∷ c ∷ d ∷ rest) many = four_say_nothing k a b c d rest
