-- Octets that are moved in several calls.
use Rattle.std.proofs.Common.{◌≡◌, ℕ, ◌<◌, Ok, arith, List, [], ◌++◌, Option, Some, None, take, drop, ap, sym, ◌∙◌, append_assoc, append-nil}
use Rattle.std.proofs.lemmas.List.{take-append-drop}
use Rattle.devices.specs.Streams.{TakesFront, counted, write_fails}
use Rattle.std.proofs.lemmas.Grind.{common_steps}
use Rattle.std.specs.Io.KnownBytes.{Appends, Keeps}

-- the first k octets were taken, and the rest is left
pub record IsTakenUpTo (old new : Option (List ℕ)) (octets rest : List ℕ) : Type 0 where
  pub front : List ℕ
  pub parts : octets ≡ front ++ rest
  pub moved : Appends old new front

pub Appends-more : (a b c : Option (List ℕ)) (xs ys : List ℕ) → Appends a b xs → Appends b c ys → Appends a c (xs ++ ys)
Appends-more None b c xs ys first second = first
Appends-more (Some ps) None c xs ys first second = absurd first
Appends-more (Some ps) (Some bs) None xs ys first second = absurd second
Appends-more (Some ps) (Some bs) (Some cs) xs ys first second =
    second ∙ ap (λ l. l ++ ys) first ∙ append_assoc ps xs ys

-- n octets of the rest more
pub taken_more : (old mid new : Option (List ℕ)) (octets rest : List ℕ) (n : ℕ) → IsTakenUpTo old mid octets rest →
    Appends mid new (take n rest) → IsTakenUpTo old new octets (drop n rest)
taken_more old mid new octets rest n so_far more = record {
  front = so_far.front ++ take n rest;
  parts = so_far.parts ∙ ap (λ l. so_far.front ++ l) (sym (take-append-drop n rest)) ∙ sym (append_assoc so_far.front (take n rest) (drop n rest));
  moved = Appends-more old mid new so_far.front (take n rest) so_far.moved more;
}

-- nothing more
pub taken_front : (old mid new : Option (List ℕ)) (octets rest : List ℕ) → IsTakenUpTo old mid octets rest →
    Appends mid new [] → TakesFront old new octets
taken_front old mid new octets rest so_far none =
    (so_far.front ++ [], rest, so_far.parts ∙ ap (λ l. l ++ rest) (sym (append-nil so_far.front)), Appends-more old mid new so_far.front [] so_far.moved none)

pub Keeps-appends : (old new : Option (List ℕ)) → Keeps old new → Appends old new []
Keeps-appends None new kept = kept
Keeps-appends (Some xs) None kept = absurd kept
Keeps-appends (Some xs) (Some ys) kept = kept ∙ sym (append-nil xs)

-- a write of some octets isn't counted
pub uncounted : (n before after : ℕ) (octets : List ℕ) → 0 < n → after ≡ counted (write_fails {E = Unit {0}} (Ok n) octets) before → after ≡ before
uncounted n before after octets some is = grind (arith, common_steps)
