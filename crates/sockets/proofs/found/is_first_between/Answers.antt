-- What is filed first by a key has the lowest id of what is filed by it, and so is the first of these in the table.
use Rattle.std.proofs.Common.{◌≡◌, ◌∙◌, ◌<◌, ◌≤◌, Bool, false, List, Some, ap, refl, sym, nat_lt, length, get_or, arith, subst}
use Rattle.std.specs.Bool.{then_some}
use Rattle.std.specs.List.{AllByRecursion, position}
use Rattle.std.proofs.lemmas.Bool.{eqb-true}
use Rattle.std.proofs.lemmas.Bool.Decides.{nat_tests}
use Rattle.std.proofs.lemmas.List.{get_or_default}
use Rattle.sockets.specs.declared.entry.Entry.{Entry}
use Rattle.sockets.specs.declared.found.Sought.{Sought}
use Rattle.sockets.specs.declared.found.Sought.TheVariants.{Connection}
use Rattle.sockets.specs.declared.index.Filed.{Filed}
use Rattle.sockets.specs.Ids.{has_id}
use Rattle.sockets.specs.Index.{AreSorted, low_key, is_sought, is_sought_as}
use Rattle.sockets.proofs.Ascending.{place_at, place_of_id}
use Rattle.sockets.proofs.Filed.{sorted_index}
use Rattle.sockets.proofs.Sought.{IsPassed, passed_below, all_lower, found_first}
use Rattle.sockets.proofs.found.is_first_between.Goals as goal

-- what stands where nothing does
abbrev nothing : Filed
nothing = record { key = 0; id = record { 0 = 0 } }

pub returns-then-eq : goal.returns-then-eq
returns-then-eq c = λ lives.
    let xs : List Entry = c.args.entries.now in
    let what : Sought = Connection c.args.local c.args.peer in
    let x : Entry = c.index-entries-place.result in
    let here : Filed = get_or c.args.index.now c.args.first nothing in
    let within : c.args.first < length c.args.index.now = omega (arith, c.if-first-index.false) in
    let sorted : AreSorted c.args.index.now = subst AreSorted (sym c.requires.index) (sorted_index xs) in
    let its_id : x.id.0 ≡ here.id.0 = sym (eqb-true here.id.0 x.id.0 (sym c.eq.ensures ∙ c.if-eq.true)) in
    let at : position (has_id here.id) xs ≡ Some c.args.place = place_at xs c.requires.order here.id c.args.place x c.requires.place c.index-entries-place.is its_id in
    let is_it : position (is_sought_as here.id what) xs ≡ Some c.args.place =
    place_of_id xs c.requires.order here.id (is_sought what) c.args.place x at c.index-entries-place.is
    ∙ ap (λ (b : Bool). then_some b c.args.place) (sym c.is_live_between.ensures ∙ lives)
    in
    let not_below : nat_lt here.key (low_key what) ≡ false = c.requires.first.1 c.args.first nothing (omega arith) within in
    let low : low_key what ≤ here.key = grind (arith, nat_tests, not_below) in
    found_first xs c.requires.order what c.args.place here.id is_it
    (subst (λ (l : List Filed). AllByRecursion (λ (z : Filed). z.id.0 < here.id.0 → IsPassed xs what z) l) c.requires.index
    (all_lower xs what c.args.index.now sorted c.args.first here (get_or_default c.args.index.now c.args.first nothing here within) within
    (passed_below xs what (low_key what) c.args.index.now c.args.first refl c.requires.first.0) refl low))
