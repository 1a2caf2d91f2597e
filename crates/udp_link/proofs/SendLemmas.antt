-- A frame that is sent twice.
use Rattle.std.proofs.Common.{◌<◌, ℕ, List, [], ◌∷◌, ◌++◌, length, Option, Some, None, Result, Ok, Err, refl, ap, ◌∙◌, append_assoc, arith}
use Rattle.udp_link.specs.declared.losses.Fate.TheVariants.{Twice}
use Rattle.udp_link.specs.Datagrams.{Grows, Sends, HandsOver}

grows_more : (a b c : Option (List (List ℕ))) (xs ys : List (List ℕ)) → Grows a b xs → Grows b c ys → Grows a c (xs ++ ys)
grows_more None b c xs ys first second = tt
grows_more (Some ps) None c xs ys first second = absurd first
grows_more (Some ps) (Some bs) None xs ys first second = absurd second
grows_more (Some ps) (Some bs) (Some cs) xs ys first second = second ∙ ap (λ l. l ++ ys) first ∙ append_assoc ps xs ys

pub sent_twice : {E : Type 0} (old mid new : Option (List (List ℕ))) (r : Result (Unit {0}) E) (frame : List ℕ) → Grows old mid (frame ∷ [])
    → Sends mid new r frame → HandsOver old new r Twice frame
sent_twice old mid new (Ok done) frame first second = grows_more old mid new (frame ∷ []) (frame ∷ []) first second
sent_twice old mid new (Err fault) frame first second =
    let some : 0 < length (frame ∷ []) = omega arith in
    (frame ∷ [], frame ∷ [], refl, some, grows_more old mid new (frame ∷ []) [] first second)
