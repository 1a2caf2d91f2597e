-- The first place of the outbox whose address passes a test.
use Rattle.std.proofs.Common.{◌≡◌, ℕ, zero, suc, ◌<◌, Bool, true, false, nat_lt, List, [], ◌∷◌, ◌++◌, length, filter, find, cond, Option, Some, None, refl, sym, ◌∙◌, ap, subst, length-append, arith}
use Rattle.std.specs.List.{slice_get}
use Rattle.std.specs.Option.{option_map}
use Rattle.std.proofs.lemmas.Bool.Decides.{nat_tests}
use Rattle.std.proofs.lemmas.Slice.Eq.{bytes_eq-Decides}
use Rattle.ipv4.specs.declared.addr.Addr.{Addr}
use Rattle.udp.proofs.Forward.{IsSplit}
use Rattle.udp_socket.specs.SocketView.{Outgoing}
use Rattle.udp_socket.specs.Emission.{first_that, peer_at}
use Rattle.udp_socket.specs.Events.{is_to}

-- none of them is for an address that passes
abbrev pub FailAll : (Addr → Bool) → List Outgoing → Type 0
FailAll test [] = Unit {0}
FailAll test (o ∷ os) = (test o.peer.addr ≡ false) × FailAll test os

-- the first that passes, what stands before it and behind it, and none before it passes
pub record IsFirst (test : Addr → Bool) (os : List Outgoing) (place : ℕ) : Type 0 where
  pub item : Outgoing
  pub parts : IsSplit os place item
  pub passes : test item.peer.addr ≡ true
  pub before : FailAll test parts.front

pub found : (test : Addr → Bool) (os : List Outgoing) (place : ℕ) → first_that test os ≡ Some place → IsFirst test os place
found test [] place is = cc
found test (o ∷ rest) place is = of_test (test o.peer.addr) refl (λ n e. found test rest n e) is
  where
    of_rest : (first : Option ℕ) → test o.peer.addr ≡ false → first_that test rest ≡ first → ((n : ℕ) → first_that test rest ≡ Some n → IsFirst test rest n)
        → option_map suc first ≡ Some place → IsFirst test (o ∷ rest) place
    of_rest None fails e among is = cc
    of_rest (Some n) fails e among is =
        let place_is : suc n ≡ place = cc in
        let first = among n e in
        subst (IsFirst test (o ∷ rest)) place_is
        (record {
          item = first.item;
          parts = record { front = o ∷ first.parts.front; back = first.parts.back; is = ap (λ (xs : List Outgoing). o ∷ xs) first.parts.is; len = ap suc first.parts.len };
          passes = first.passes;
          before = (fails, first.before);
        })

    of_test : (b : Bool) → test o.peer.addr ≡ b → ((n : ℕ) → first_that test rest ≡ Some n → IsFirst test rest n)
        → cond b (Some 0) (option_map suc (first_that test rest)) ≡ Some place → IsFirst test (o ∷ rest) place
    of_test true passes among is =
        let place_is : 0 ≡ place = cc in
        subst (IsFirst test (o ∷ rest)) place_is (record { item = o; parts = record { front = []; back = rest; is = refl; len = refl }; passes = passes; before = tt })
    of_test false fails among is = of_rest (first_that test rest) fails refl among is

-- two for one address both pass, or neither does
same_test : (test : Addr → Bool) (addr : Addr) (x o : Outgoing) → is_to addr x ≡ true → is_to addr o ≡ true → test o.peer.addr ≡ true → test x.peer.addr ≡ false → ⊥
same_test test addr x o to_x to_o passes fails =
    let first : x.peer.addr.0 ≡ addr.0 = (bytes_eq-Decides x.peer.addr.0 addr.0).0 to_x in
    let second : o.peer.addr.0 ≡ addr.0 = (bytes_eq-Decides o.peer.addr.0 addr.0).0 to_o in
    let same : x.peer.addr ≡ o.peer.addr = ap (λ (octets : List ℕ). let a : Addr = record { 0 = octets } in a) (first ∙ sym second) in
    let no : true ≡ false = sym passes ∙ sym (ap test same) ∙ fails in
    cc

-- so those for one address stay in order where the first that passes stands before all
pub one_address : (test : Addr → Bool) (addr : Addr) (front back : List Outgoing) (o : Outgoing) → test o.peer.addr ≡ true → FailAll test front
    → filter (is_to addr) (o ∷ (front ++ back)) ≡ filter (is_to addr) (front ++ o ∷ back)
one_address test addr [] back o passes fails = refl
one_address test addr (x ∷ front) back o passes fails =
    by_tests (is_to addr o) (is_to addr x) refl refl
    ∙ ap (λ (xs : List Outgoing). cond (is_to addr x) (x ∷ xs) xs) (one_address test addr front back o passes fails.1)
  where
    rest : List Outgoing
    rest = filter (is_to addr) (front ++ back)

    by_tests : (a b : Bool) → is_to addr o ≡ a → is_to addr x ≡ b
        → cond a (o ∷ cond b (x ∷ rest) rest) (cond b (x ∷ rest) rest) ≡ cond b (x ∷ cond a (o ∷ rest) rest) (cond a (o ∷ rest) rest)
    by_tests true true to_o to_x = absurd (same_test test addr x o to_x to_o passes fails.0)
    by_tests true false to_o to_x = refl
    by_tests false true to_o to_x = refl
    by_tests false false to_o to_x = refl

-- what is known of the place
abbrev pub IsPlaceOf : (Addr → Bool) → List Outgoing → ℕ → Type 0
IsPlaceOf test os place = (o : Outgoing) × (slice_get os place ≡ Some o) × (test o.peer.addr ≡ true)
    × ((before : ℕ) (other : Outgoing) → before < place → slice_get os before ≡ Some other → test other.peer.addr ≡ false)

pub is_place : (test : Addr → Bool) (os : List Outgoing) (place : ℕ) → first_that test os ≡ Some place → IsPlaceOf test os place
is_place test os place is =
    let first = found test os place is in
    let parts = first.parts in (
      first.item,
      ap (λ (xs : List Outgoing). slice_get xs place) parts.is ∙ ap (λ (n : ℕ). slice_get (parts.front ++ first.item ∷ parts.back) n) (sym parts.len) ∙ here parts.front first.item parts.back,
      first.passes,
      λ before other below there.
          fails_at parts.front (first.item ∷ parts.back) before other first.before (omega (arith, below, parts.len))
          (ap (λ (xs : List Outgoing). slice_get xs before) (sym parts.is) ∙ there),
    )
  where
    here : (front : List Outgoing) (o : Outgoing) (back : List Outgoing) → slice_get (front ++ o ∷ back) (length front) ≡ Some o
    here [] o back = refl
    here (x ∷ front) o back = here front o back

    fails_at : (front back : List Outgoing) (before : ℕ) (other : Outgoing) → FailAll test front → before < length front → slice_get (front ++ back) before ≡ Some other
        → test other.peer.addr ≡ false
    fails_at [] back before other fails below there = absurd (omega (arith, below))
    fails_at (x ∷ front) back zero other fails below there = let same : x ≡ other = cc in subst (λ (y : Outgoing). test y.peer.addr ≡ false) same fails.0
    fails_at (x ∷ front) back (suc before) other fails below there = fails_at front back before other fails.1 (omega (arith, below)) there

pub place_is : (test : Addr → Bool) (os : List Outgoing) (place : ℕ) → IsPlaceOf test os place → first_that test os ≡ Some place
place_is test [] place (o, there, passes, before) = cc
place_is test (x ∷ rest) zero (o, there, passes, before) =
    let same : x ≡ o = cc in
    let first : test x.peer.addr ≡ true = subst (λ (y : Outgoing). test y.peer.addr ≡ true) (sym same) passes in
    rw first refl
place_is test (x ∷ rest) (suc place) (o, there, passes, before) =
    let first : test x.peer.addr ≡ false = before 0 x (omega arith) refl in
    let next : first_that test rest ≡ Some place = place_is test rest place (o, there, passes, λ n other below at. before (suc n) other (omega (arith, below)) at) in
    ap (λ (b : Bool). cond b (Some 0) (option_map suc (first_that test rest))) first ∙ ap (option_map suc) next

-- there is none exactly where none passes
pub none_passes : (test : Addr → Bool) (os : List Outgoing) → first_that test os ≡ None → (place : ℕ) (o : Outgoing) → slice_get os place ≡ Some o → test o.peer.addr ≡ false
none_passes test [] none place o there = cc
none_passes test (x ∷ rest) none place o there = of_test (test x.peer.addr) refl (λ e n at. none_passes test rest e n o at) none place there
  where
    of_rest : (first : Option ℕ) → first_that test rest ≡ first → option_map suc first ≡ None → first_that test rest ≡ None
    of_rest None e is = e
    of_rest (Some n) e is = cc

    of_test : (b : Bool) → test x.peer.addr ≡ b → (first_that test rest ≡ None → (n : ℕ) → slice_get rest n ≡ Some o → test o.peer.addr ≡ false)
        → cond b (Some 0) (option_map suc (first_that test rest)) ≡ None → (place : ℕ) → slice_get (x ∷ rest) place ≡ Some o → test o.peer.addr ≡ false
    of_test true passes among is place there = cc
    of_test false fails among is zero there = let same : x ≡ o = cc in subst (λ (y : Outgoing). test y.peer.addr ≡ false) same fails
    of_test false fails among is (suc place) there = among (of_rest (first_that test rest) refl is) place there

pub passes_none : (test : Addr → Bool) (os : List Outgoing) → ((place : ℕ) (o : Outgoing) → slice_get os place ≡ Some o → test o.peer.addr ≡ false) → first_that test os ≡ None
passes_none test [] fails = refl
passes_none test (x ∷ rest) fails =
    ap (λ (b : Bool). cond b (Some 0) (option_map suc (first_that test rest))) (fails 0 x refl)
    ∙ ap (option_map suc) (passes_none test rest (λ place o there. fails (suc place) o there))

pub is_within : (test : Addr → Bool) (os : List Outgoing) (place : ℕ) → first_that test os ≡ Some place → nat_lt place (length os) ≡ true
is_within test os place is =
    let parts = (found test os place is).parts in
    let below : place < length os = omega (arith, ap length parts.is, length-append parts.front ((found test os place is).item ∷ parts.back), parts.len) in
    grind (arith, nat_tests, below)

-- the endpoint is that of the datagram in the place
pub peer_of : (test : Addr → Bool) (os : List Outgoing) (place : ℕ) → first_that test os ≡ Some place
    → option_map (λ (o : Outgoing). o.peer) (find (λ (o : Outgoing). test o.peer.addr) os) ≡ peer_at place os
peer_of test [] place is = cc
peer_of test (x ∷ rest) place is = of_test (test x.peer.addr) (λ n e. peer_of test rest n e) is
  where
    of_rest : (first : Option ℕ) → first_that test rest ≡ first
        → ((n : ℕ) → first_that test rest ≡ Some n → option_map (λ (o : Outgoing). o.peer) (find (λ (o : Outgoing). test o.peer.addr) rest) ≡ peer_at n rest)
        → option_map suc first ≡ Some place
        → option_map (λ (o : Outgoing). o.peer) (find (λ (o : Outgoing). test o.peer.addr) rest) ≡ peer_at place (x ∷ rest)
    of_rest None e among is = cc
    of_rest (Some n) e among is = let place_is : suc n ≡ place = cc in among n e ∙ ap (λ (k : ℕ). peer_at k (x ∷ rest)) place_is

    of_test : (b : Bool) → ((n : ℕ) → first_that test rest ≡ Some n → option_map (λ (o : Outgoing). o.peer) (find (λ (o : Outgoing). test o.peer.addr) rest) ≡ peer_at n rest)
        → cond b (Some 0) (option_map suc (first_that test rest)) ≡ Some place
        → option_map (λ (o : Outgoing). o.peer) (cond b (Some x) (find (λ (o : Outgoing). test o.peer.addr) rest)) ≡ peer_at place (x ∷ rest)
    of_test true among is = let place_is : 0 ≡ place = cc in ap (λ (k : ℕ). peer_at k (x ∷ rest)) place_is
    of_test false among is = of_rest (first_that test rest) refl among is

pub no_peer_of : (test : Addr → Bool) (os : List Outgoing) → first_that test os ≡ None
    → option_map (λ (o : Outgoing). o.peer) (find (λ (o : Outgoing). test o.peer.addr) os) ≡ None
no_peer_of test [] is = refl
no_peer_of test (x ∷ rest) is = of_test (test x.peer.addr) (λ e. no_peer_of test rest e) is
  where
    of_rest : (first : Option ℕ) → first_that test rest ≡ first
        → (first_that test rest ≡ None → option_map (λ (o : Outgoing). o.peer) (find (λ (o : Outgoing). test o.peer.addr) rest) ≡ None)
        → option_map suc first ≡ None → option_map (λ (o : Outgoing). o.peer) (find (λ (o : Outgoing). test o.peer.addr) rest) ≡ None
    of_rest None e among is = among e
    of_rest (Some n) e among is = cc

    of_test : (b : Bool) → (first_that test rest ≡ None → option_map (λ (o : Outgoing). o.peer) (find (λ (o : Outgoing). test o.peer.addr) rest) ≡ None)
        → cond b (Some 0) (option_map suc (first_that test rest)) ≡ None
        → option_map (λ (o : Outgoing). o.peer) (cond b (Some x) (find (λ (o : Outgoing). test o.peer.addr) rest)) ≡ None
    of_test true among is = cc
    of_test false among is = of_rest (first_that test rest) refl among is
