-- When a fragment contradicts those that came before.
use Rattle.std.proofs.Common.{◌≡◌, ℕ, ◌+◌, ◌-◌, ◌≤◌, ◌&&◌, ◌||◌, max, Bool, true, false, not, nat_eq, nat_lt, cond, List, [], ◌∷◌, ◌++◌, length, take, drop, map, replicate, find, Option, Some, None, option_map, refl, sym, ◌∙◌, ap, subst, length-append, arith}
use Rattle.std.specs.List.{list_any}
use Rattle.std.proofs.lemmas.Bool.Decides.{nat_tests}
use Rattle.std.proofs.lemmas.List.{length-take-le, length-drop, length-replicate, length-map}
use Rattle.ipv4.specs.Datagram.{Datagram}
use Rattle.clock.specs.declared.moment.Moment.{Moment}
use Rattle.reassembly.specs.Fragments.{begin_of, end_of, is_last, contradicts, is_contradictory}
use Rattle.reassembly.specs.Octets.{reaching, put, laid}
use Rattle.reassembly.specs.Reassembly.{Reassembly, begun, conflicts, with_fragment, after_fragments}
use Rattle.reassembly.proofs.Together.{known_end}

-- how far fragments reach
abbrev pub furthest : List Datagram → ℕ
furthest [] = 0
furthest (d ∷ fragments) = max (end_of d) (furthest fragments)

length-laid_is : (at : ℕ) (new : List ℕ) (octets : List (Option ℕ)) → length (laid at new octets) ≡ max (length octets) (at + length new)
unfolding laid put reaching
length-laid_is at new octets =
    let wide = octets ++ replicate (at + length new - length octets) None in
    let wide_length : length wide ≡ length octets + (at + length new - length octets) =
    length-append octets (replicate (at + length new - length octets) None) ∙ ap (λ n. length octets + n) (length-replicate (at + length new - length octets) None) in
    omega (
      arith,
      wide_length,
      length-append (take at wide ++ map Some new) (drop (at + length new) wide),
      length-append (take at wide) (map Some new),
      length-take-le at wide (omega arith),
      length-map {B = Option ℕ} new Some,
      length-drop (at + length new) wide,
    )

reach_folded : (r : Reassembly) (fragments : List Datagram) → length (after_fragments r fragments).octets ≡ max (length r.octets) (furthest fragments)
reach_folded r [] = omega arith
reach_folded r (d ∷ fragments) = omega (arith, reach_folded (with_fragment r d) fragments, length-laid_is (begin_of d) d.payload r.octets)

-- tests of some items
any-append : {X : Type 0} (p : X → Bool) (xs ys : List X) → list_any p (xs ++ ys) ≡ (list_any p xs || list_any p ys)
any-append p [] ys = refl
any-append p (x ∷ xs) ys = either (any-append p xs ys) (p x)
  where
    either : list_any p (xs ++ ys) ≡ (list_any p xs || list_any p ys) → (b : Bool) → (b || list_any p (xs ++ ys)) ≡ ((b || list_any p xs) || list_any p ys)
    either r true = refl
    either r false = r

any-or : {X : Type 0} (p q : X → Bool) (xs : List X) → list_any (λ x. p x || q x) xs ≡ (list_any p xs || list_any q xs)
any-or p q [] = refl
any-or p q (x ∷ xs) = four (p x) (q x) (list_any p xs) (list_any q xs) (list_any (λ y. p y || q y) xs) (any-or p q xs)
  where
    four : (a b c d e : Bool) → e ≡ (c || d) → ((a || b) || e) ≡ ((a || c) || (b || d))
    four true b c d e h = refl
    four false true true d e h = refl
    four false true false d e h = refl
    four false false c d e h = h

any_same : {X : Type 0} (p q : X → Bool) → ((x : X) → p x ≡ q x) → (xs : List X) → list_any p xs ≡ list_any q xs
any_same p q same [] = refl
any_same p q same (x ∷ xs) = rw (same x, any_same p q same xs) refl

-- each is a last one with this end where it is a last one, and none reaches past it
abbrev AllEndAt : ℕ → List Datagram → Type 0
AllEndAt end [] = Unit {0}
AllEndAt end (d ∷ fragments) = (is_last d ≡ true → end_of d ≡ end) × (end_of d ≤ end) × AllEndAt end fragments

or_false : (a b : Bool) → (a || b) ≡ false → (a ≡ false) × (b ≡ false)
or_false true b h = absurd (let e : true ≡ false = h in cc)
or_false false b h = (refl, h)

end_at : (last d : Datagram) → is_last last ≡ true → contradicts last d ≡ false → (is_last d ≡ true → end_of d ≡ end_of last) × (end_of d ≤ end_of last)
end_at last d l h =
    let apart = or_false (nat_lt (end_of last) (end_of d)) (is_last d && not (nat_eq (end_of d) (end_of last))) (sym (either (is_last last) l) ∙ h) in
    (λ k. same (is_last d) k apart.1, let e : nat_lt (end_of last) (end_of d) ≡ false = apart.0 in grind (arith, nat_tests))
  where
    either : (b : Bool) → b ≡ true → (b && (nat_lt (end_of last) (end_of d) || (is_last d && not (nat_eq (end_of d) (end_of last)))))
        ≡ (nat_lt (end_of last) (end_of d) || (is_last d && not (nat_eq (end_of d) (end_of last))))
    either true e = refl
    either false e = cc

    same : (b : Bool) → b ≡ true → (b && not (nat_eq (end_of d) (end_of last))) ≡ false → end_of d ≡ end_of last
    same true e f = grind (arith, nat_tests)
    same false e f = cc

all_end_at : (last : Datagram) → is_last last ≡ true → (fragments : List Datagram) → list_any (contradicts last) fragments ≡ false → AllEndAt (end_of last) fragments
all_end_at last l [] h = tt
all_end_at last l (d ∷ fragments) h =
    let parts = or_false (contradicts last d) (list_any (contradicts last) fragments) h in
    let here = end_at last d l parts.0 in
    (here.0, here.1, all_end_at last l fragments parts.1)

-- what is found passes, and has what all have
found_passes : {X : Type 0} (p q : X → Bool) (xs : List X) (x : X) → find p xs ≡ Some x → list_any q xs ≡ false → (p x ≡ true) × (q x ≡ false) × (list_any p xs ≡ true)
found_passes p q [] x e h = cc
found_passes p q (y ∷ ys) x e h =
    let parts = or_false (q y) (list_any q ys) h in
    either parts.0 (λ f. found_passes p q ys x f parts.1) (p y) refl e
  where
    either : q y ≡ false → (find p ys ≡ Some x → (p x ≡ true) × (q x ≡ false) × (list_any p ys ≡ true))
        → (b : Bool) → p y ≡ b → cond b (Some y) (find p ys) ≡ Some x → (p x ≡ true) × (q x ≡ false) × ((b || list_any p ys) ≡ true)
    either n r true e f = let same : y ≡ x = cc in (subst (λ z. p z ≡ true) same e, subst (λ z. q z ≡ false) same n, refl)
    either n r false e f = r f

none_passes : {X : Type 0} (p : X → Bool) (xs : List X) → find p xs ≡ None → list_any p xs ≡ false
none_passes p [] e = refl
none_passes p (y ∷ ys) e = either (none_passes p ys) (p y) e
  where
    either : (find p ys ≡ None → list_any p ys ≡ false) → (b : Bool) → cond b (Some y) (find p ys) ≡ None → (b || list_any p ys) ≡ false
    either r true f = cc
    either r false f = r f

-- a last fragment with this end contradicts it, or it contradicts that one
abbrev against : Datagram → ℕ → Bool
against d end = nat_lt end (end_of d) || (is_last d && not (nat_eq (end_of d) end))

absorb : (t a : Bool) → (t || (a && t)) ≡ t
absorb true a = refl
absorb false true = refl
absorb false false = refl

against_them : (end : ℕ) (d : Datagram) (fragments : List Datagram) → AllEndAt end fragments
    → list_any (λ last. contradicts last d) fragments ≡ (list_any is_last fragments && against d end)
against_them end d [] h = refl
against_them end d (x ∷ xs) h = step (against_them end d xs h.2) (is_last x) h.0
  where
    step : list_any (λ last. contradicts last d) xs ≡ (list_any is_last xs && against d end) → (b : Bool) → (b ≡ true → end_of x ≡ end)
        → ((b && against d (end_of x)) || list_any (λ last. contradicts last d) xs) ≡ ((b || list_any is_last xs) && against d end)
    step rest true e =
        ap (λ b. against d (end_of x) || b) rest ∙ ap (λ n. against d n || (list_any is_last xs && against d end)) (e refl)
        ∙ absorb (against d end) (list_any is_last xs)
    step rest false e = rest

none_against : (d : Datagram) (fragments : List Datagram) → list_any is_last fragments ≡ false → list_any (λ last. contradicts last d) fragments ≡ false
none_against d [] h = refl
none_against d (x ∷ xs) h =
    let parts = or_false (is_last x) (list_any is_last xs) h in
    step (is_last x) parts.0 (none_against d xs parts.1)
  where
    step : (b : Bool) → b ≡ false → list_any (λ last. contradicts last d) xs ≡ false → ((b && against d (end_of x)) || list_any (λ last. contradicts last d) xs) ≡ false
    step true e r = cc
    step false e r = r

no_last_contradicts : (d : Datagram) → is_last d ≡ false → (fragments : List Datagram) → list_any (contradicts d) fragments ≡ false
no_last_contradicts d h [] = refl
no_last_contradicts d h (x ∷ xs) = step (is_last d) h (no_last_contradicts d h xs)
  where
    step : (b : Bool) → b ≡ false → list_any (contradicts d) xs ≡ false → ((b && against x (end_of d)) || list_any (contradicts d) xs) ≡ false
    step true e r = cc
    step false e r = r

agrees : (x : Datagram) (end : ℕ) → (is_last x ≡ true → end_of x ≡ end) → end_of x ≤ end → against x end ≡ false
agrees x end e h = step (is_last x) e
  where
    short : nat_lt end (end_of x) ≡ false
    short = grind (arith, nat_tests)

    equal : end_of x ≡ end → nat_eq (end_of x) end ≡ true
    equal k = grind (arith, nat_tests)

    step : (b : Bool) → (b ≡ true → end_of x ≡ end) → (nat_lt end (end_of x) || (b && not (nat_eq (end_of x) end))) ≡ false
    step true f = rw (short, equal (f refl)) refl
    step false f = rw short refl

same_end_agrees : (end : ℕ) (d : Datagram) → end_of d ≡ end → (fragments : List Datagram) → AllEndAt end fragments → list_any (contradicts d) fragments ≡ false
same_end_agrees end d e [] h = refl
same_end_agrees end d e (x ∷ xs) h = step (is_last d) (same_end_agrees end d e xs h.2)
  where
    here : against x (end_of d) ≡ false
    here = ap (against x) e ∙ agrees x end h.0 h.1

    step : (b : Bool) → list_any (contradicts d) xs ≡ false → ((b && against x (end_of d)) || list_any (contradicts d) xs) ≡ false
    step true r = rw (here, r) refl
    step false r = r

past_none : (d : Datagram) (fragments : List Datagram) → list_any is_last fragments ≡ false
    → list_any (contradicts d) fragments ≡ (is_last d && nat_lt (end_of d) (furthest fragments))
past_none d [] h = step (is_last d)
  where
    step : (b : Bool) → false ≡ (b && nat_lt (end_of d) 0)
    step true = grind (arith, nat_tests)
    step false = refl
past_none d (x ∷ xs) h =
    let parts = or_false (is_last x) (list_any is_last xs) h in
    step (is_last d) (is_last x) parts.0 (past_none d xs parts.1)
  where
    lt_max : (n a b : ℕ) → (nat_lt n a || nat_lt n b) ≡ nat_lt n (max a b)
    lt_max n a b = grind (arith, nat_tests)

    or-none : (b : Bool) → (b || false) ≡ b
    or-none true = refl
    or-none false = refl

    step : (b c : Bool) → c ≡ false → list_any (contradicts d) xs ≡ (b && nat_lt (end_of d) (furthest xs))
        → ((b && (nat_lt (end_of d) (end_of x) || (c && not (nat_eq (end_of x) (end_of d))))) || list_any (contradicts d) xs)
        ≡ (b && nat_lt (end_of d) (max (end_of x) (furthest xs)))
    step b true e r = cc
    step true false e r = rw (r, or-none (nat_lt (end_of d) (end_of x))) (lt_max (end_of d) (end_of x) (furthest xs))
    step false false e r = r

itself : (d : Datagram) → contradicts d d ≡ false
itself d = step (is_last d) (agrees d (end_of d) (λ _. refl) (omega arith))
  where
    step : (b : Bool) → against d (end_of d) ≡ false → (b && against d (end_of d)) ≡ false
    step true r = r
    step false r = refl

-- one more of them
one_more : (fragments : List Datagram) (d : Datagram) → is_contradictory fragments ≡ false
    → is_contradictory (fragments ++ d ∷ []) ≡ (list_any (λ last. contradicts last d) fragments || list_any (contradicts d) fragments)
one_more fragments d h =
    any-append (λ last. list_any (contradicts last) (fragments ++ d ∷ [])) fragments (d ∷ [])
    ∙ ap (λ b. b || (list_any (contradicts d) (fragments ++ d ∷ []) || false))
    (any_same (λ last. list_any (contradicts last) (fragments ++ d ∷ [])) (λ last. list_any (contradicts last) fragments || contradicts last d) each fragments
    ∙ any-or (λ last. list_any (contradicts last) fragments) (λ last. contradicts last d) fragments)
    ∙ ap (λ b. (list_any (λ last. list_any (contradicts last) fragments) fragments || list_any (λ last. contradicts last d) fragments) || (b || false))
    (any-append (contradicts d) fragments (d ∷ []))
    ∙ step (list_any (λ last. list_any (contradicts last) fragments) fragments) (contradicts d d) h (itself d)
    (list_any (λ last. contradicts last d) fragments) (list_any (contradicts d) fragments)
  where
    or-none : (b : Bool) → (b || false) ≡ b
    or-none true = refl
    or-none false = refl

    each : (last : Datagram) → list_any (contradicts last) (fragments ++ d ∷ []) ≡ (list_any (contradicts last) fragments || contradicts last d)
    each last = any-append (contradicts last) fragments (d ∷ []) ∙ ap (λ b. list_any (contradicts last) fragments || b) (or-none (contradicts last d))

    step : (a b : Bool) → a ≡ false → b ≡ false → (c e : Bool) → ((a || c) || ((e || (b || false)) || false)) ≡ (c || e)
    step true b p q c e = cc
    step false true p q c e = cc
    step false false p q true e = refl
    step false false p q false true = refl
    step false false p q false false = refl

by_end : (fragments : List Datagram) (d : Datagram) (found : Option Datagram) → find is_last fragments ≡ found → is_contradictory fragments ≡ false
    → conflicts d (option_map end_of found) (furthest fragments)
    ≡ (list_any (λ last. contradicts last d) fragments || list_any (contradicts d) fragments)
by_end fragments d None e h =
    let none = none_passes is_last fragments e in
    sym (past_none d fragments none) ∙ ap (λ b. b || list_any (contradicts d) fragments) (sym (none_against d fragments none))
by_end fragments d (Some last) e h =
    let found = found_passes is_last (λ l. list_any (contradicts l) fragments) fragments last e h in
    let all = all_end_at last found.0 fragments found.1 in
    let them : list_any (λ l. contradicts l d) fragments ≡ against d (end_of last) =
    against_them (end_of last) d fragments all ∙ ap (λ b. b && against d (end_of last)) found.2 in
    ending (against d (end_of last)) refl all ∙ ap (λ b. b || list_any (contradicts d) fragments) (sym them)
  where
    unequal : nat_eq (end_of d) (end_of last) ≡ true → end_of d ≡ end_of last
    unequal k = grind (arith, nat_tests)

    quiet : (b c : Bool) → is_last d ≡ b → nat_eq (end_of d) (end_of last) ≡ c → (b && not c) ≡ false → AllEndAt (end_of last) fragments
        → list_any (contradicts d) fragments ≡ false
    quiet true true p q r all = same_end_agrees (end_of last) d (unequal q) fragments all
    quiet true false p q r all = cc
    quiet false c p q r all = no_last_contradicts d p fragments

    ending : (b : Bool) → against d (end_of last) ≡ b → AllEndAt (end_of last) fragments → against d (end_of last) ≡ (against d (end_of last) || list_any (contradicts d) fragments)
    ending true p all = rw p refl
    ending false p all =
        let apart = or_false (nat_lt (end_of last) (end_of d)) (is_last d && not (nat_eq (end_of d) (end_of last))) p in
        rw p (sym (quiet (is_last d) (nat_eq (end_of d) (end_of last)) refl refl apart.1 all))

pub given_up : (now : Moment) (first : Datagram) (fragments : List Datagram) (d : Datagram) → is_contradictory fragments ≡ false
    → conflicts d (after_fragments (begun now first) fragments).end (length (after_fragments (begun now first) fragments).octets)
    ≡ is_contradictory (fragments ++ d ∷ [])
given_up now first fragments d h =
    let far : length (after_fragments (begun now first) fragments).octets ≡ furthest fragments = omega (arith, reach_folded (begun now first) fragments) in
    ap (conflicts d (after_fragments (begun now first) fragments).end) far
    ∙ ap (λ end. conflicts d end (furthest fragments)) (known_end now first fragments)
    ∙ by_end fragments d (find is_last fragments) refl h
    ∙ sym (one_more fragments d h)
