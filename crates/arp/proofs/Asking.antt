-- What a request that may go out, or may not, makes of the notes.
use Rattle.std.proofs.Common.{◌≡◌, ◌<◌, Bool, true, false, not, ◌&&◌, nat_lt, List, [], ◌∷◌, ◌++◌, length, cond, refl, sym, ◌∙◌, ap, arith}
use Rattle.std.specs.List.{list_any}
use Rattle.std.proofs.lemmas.Bool.Decides.{nat_tests}
use Rattle.ipv4.specs.declared.addr.Addr.{Addr}
use Rattle.arp.specs.declared.entry.Asked.{Asked}
use Rattle.clock.specs.declared.moment.Moment.{Moment}
use Rattle.arp.specs.Cache.{is_note_of, live_notes, has_place_for, may_ask, asked_after}

-- a request that may go out has a place
pub has_place : (addr : Addr) (notes : List Asked) → has_place_for addr notes ≡ true → length notes < 64
has_place addr notes = either (nat_lt (length notes) 64) refl
  where
    either : (b : Bool) → nat_lt (length notes) 64 ≡ b → (b && not (list_any (is_note_of addr) notes)) ≡ true → length notes < 64
    either true e may = grind (arith, nat_tests, e)
    either false e may = cc

-- the request goes out, and is noted
pub noted : (now : Moment) (addr : Addr) (asked live notes : List Asked) → live ≡ live_notes now asked → has_place_for addr live ≡ true
    → notes ≡ live ++ record { addr = addr; at = now } ∷ [] → notes ≡ asked_after now addr asked
unfolding asked_after
noted now addr asked live notes is may new =
    new ∙ ap (λ l. l ++ record { addr = addr; at = now } ∷ []) is
    ∙ ap (λ b. cond b (live_notes now asked ++ record { addr = addr; at = now } ∷ []) (live_notes now asked)) (sym (ap (has_place_for addr) (sym is) ∙ may))

-- it does not
pub unnoted : (now : Moment) (addr : Addr) (asked live : List Asked) → live ≡ live_notes now asked → has_place_for addr live ≡ false → live ≡ asked_after now addr asked
unfolding asked_after
unnoted now addr asked live is may =
    is ∙ ap (λ b. cond b (live_notes now asked ++ record { addr = addr; at = now } ∷ []) (live_notes now asked)) (sym (ap (has_place_for addr) (sym is) ∙ may))

-- the answer is the test of the live notes
pub answered : (now : Moment) (addr : Addr) (asked live : List Asked) (answer : Bool) → live ≡ live_notes now asked → answer ≡ has_place_for addr live → answer ≡ may_ask now addr asked
unfolding may_ask
answered now addr asked live answer is own = own ∙ ap (has_place_for addr) is
