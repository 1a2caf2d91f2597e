-- How ranges are counted part by part. The contracts of `RecvBuf` do not rest on this page.
use Rattle.std.specs.Prelude.{ℕ, Bool, true, false, List, [], ◌∷◌, Option, Some, None}

-- whether the last of these places keeps an octet; of no place it is said of the one before
abbrev pub ends_kept : Bool → List (Option ℕ) → Bool
ends_kept before [] = before
ends_kept before (None ∷ places) = ends_kept false places
ends_kept before (Some octet ∷ places) = ends_kept true places
