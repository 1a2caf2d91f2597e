-- The options that are read are those that are spelled.
use Rattle.std.proofs.Common.{◌≡◌, ◌≢◌, ℕ, zero, suc, ◌+◌, ◌-◌, ◌^◌, ◌<◌, ◌≤◌, Bool, true, false, nat_eq, nat_lt, List, [], ◌∷◌, ◌++◌, length, drop, take, Option, Some, None, cond, refl, sym, ◌∙◌, ap, subst, eqb-true, append_assoc, arith}
use Rattle.std.proofs.lemmas.Bool.Decides.{nat_tests}
use Rattle.std.proofs.lemmas.List.{length-take, take-append-drop, take_at}
use Rattle.std.specs.Int.{byte_at}
use Rattle.std.specs.Option.{option_map, unwrap_or, is_some, ok_or}
use Rattle.byteorder.specs.Endian.{big_number}
use Rattle.tcp_segment.specs.declared.options.Told.{Told}
use Rattle.tcp_segment.specs.Options.{HeaderOption, EndOfOptions, NoOperation, MaximumSegmentSize, WindowScale, Other, joined, AreOptions}
use Rattle.tcp_segment.specs.Reading.{with_first, options_behind, option_in, mss_in, scale_in}
use Rattle.tcp_segment.specs.Telling.{told_of}
use Rattle.ipv4.proofs.Octets.{AreOctets, take_octets}
use Rattle.tcp_segment.proofs.Walk.{behind_end, behind_none, long_kind, told_behind}

-- octets that spell these options
pub record Walked (xs : List ℕ) (os : List HeaderOption) : Type 0 where
  pub padding : List ℕ
  pub spelled : xs ≡ joined os ++ padding
  pub ends : AreOptions os padding

others : (first : Option HeaderOption) (rest : Option (List HeaderOption)) (os : List HeaderOption) → with_first first rest ≡ Some os
    → (option : HeaderOption) × (tail : List HeaderOption) × (first ≡ Some option) × (rest ≡ Some tail) × (option ∷ tail ≡ os)
others None rest os e = cc
others (Some option) None os e = cc
others (Some option) (Some tail) os e = (option, tail, refl, refl, cc)

tail_octets : (x : ℕ) (xs : List ℕ) → AreOctets (x ∷ xs) → AreOctets xs
tail_octets x xs b i = b (suc i)

walked_nothing : Walked [] []
walked_nothing = record { padding = []; spelled = refl; ends = refl }

walked_end : (xs : List ℕ) → Walked (0 ∷ xs) (EndOfOptions ∷ [])
walked_end xs = record { padding = xs; spelled = refl; ends = refl }

walked_none : (xs : List ℕ) (os : List HeaderOption) → Walked xs os → Walked (1 ∷ xs) (NoOperation ∷ os)
walked_none xs os w = record { padding = w.padding; spelled = ap (λ (ys : List ℕ). 1 ∷ ys) w.spelled; ends = (tt, w.ends) }

-- a body of another length is no option
no_first : (option : ℕ → HeaderOption) (right : Bool) (n : ℕ) (first : HeaderOption) → right ≡ false → option_map option (cond right (Some n) None) ≡ Some first → ⊥
no_first option true n first wrong e = cc
no_first option false n first wrong e = cc

-- options with a length, by their bodies
walked_mss : (body xs : List ℕ) (first : HeaderOption) (os : List HeaderOption) → AreOctets body
    → option_map MaximumSegmentSize (mss_in body) ≡ Some first → Walked xs os → Walked (2 ∷ (2 + length body) ∷ (body ++ xs)) (first ∷ os)
walked_mss [] xs first os b e w = cc
walked_mss (x ∷ []) xs first os b e w = cc
walked_mss (x ∷ y ∷ []) xs first os b e w =
    let size = big_number 2 (x ∷ y ∷ []) in
    let hx : x < 256 = b 0 in
    let hy : y < 256 = b 1 in
    let high : x ≡ byte_at 1 size = omega arith in
    let low : y ≡ byte_at 0 size = omega arith in
    let tail = w.spelled in
    let is : MaximumSegmentSize size ≡ first = cc in
    let same : 2 ∷ 4 ∷ x ∷ y ∷ xs ≡ 2 ∷ 4 ∷ byte_at 1 size ∷ byte_at 0 size ∷ (joined os ++ w.padding) = cc in
    subst (λ (option : HeaderOption). Walked (2 ∷ 4 ∷ x ∷ y ∷ xs) (option ∷ os)) is (record { padding = w.padding; spelled = same; ends = (omega arith, w.ends) })
walked_mss (x ∷ y ∷ z ∷ body) xs first os b e w =
    let long : nat_eq (length (x ∷ y ∷ z ∷ body)) 2 ≡ false = grind (arith, nat_tests) in
    absurd (no_first MaximumSegmentSize _ _ first long e)

walked_scale : (body xs : List ℕ) (first : HeaderOption) (os : List HeaderOption) → AreOctets body
    → option_map WindowScale (scale_in body) ≡ Some first → Walked xs os → Walked (3 ∷ (2 + length body) ∷ (body ++ xs)) (first ∷ os)
walked_scale [] xs first os b e w = cc
walked_scale (x ∷ []) xs first os b e w =
    let is : WindowScale x ≡ first = cc in
    let same : 3 ∷ 3 ∷ x ∷ xs ≡ 3 ∷ 3 ∷ x ∷ (joined os ++ w.padding) = ap (λ (ys : List ℕ). 3 ∷ 3 ∷ x ∷ ys) w.spelled in
    subst (λ (option : HeaderOption). Walked (3 ∷ 3 ∷ x ∷ xs) (option ∷ os)) is (record { padding = w.padding; spelled = same; ends = (b 0, w.ends) })
walked_scale (x ∷ y ∷ body) xs first os b e w =
    let long : nat_eq (length (x ∷ y ∷ body)) 1 ≡ false = grind (arith, nat_tests) in
    absurd (no_first WindowScale _ _ first long e)

walked_other : (kind : ℕ) (body xs : List ℕ) (os : List HeaderOption) → kind < 256 → 2 + length body < 256 → 4 ≤ kind
    → Walked xs os → Walked (kind ∷ (2 + length body) ∷ (body ++ xs)) (Other kind body ∷ os)
walked_other kind body xs os kind_fits len_fits hk w =
    let parts : body ++ xs ≡ (body ++ joined os) ++ w.padding = ap (λ (ys : List ℕ). body ++ ys) w.spelled ∙ sym (append_assoc body (joined os) w.padding) in
    let same : kind ∷ (2 + length body) ∷ (body ++ xs) ≡ kind ∷ (2 + length body) ∷ ((body ++ joined os) ++ w.padding) = cc in
    record { padding = w.padding; spelled = same; ends = ((hk, kind_fits, len_fits), w.ends) }

walked_option : (is_mss is_scale : Bool) (kind : ℕ) (body xs : List ℕ) (first : HeaderOption) (os : List HeaderOption)
    → kind < 256 → 2 + length body < 256 → kind ≢ 0 → kind ≢ 1 → AreOctets body → is_mss ≡ nat_eq kind 2 → is_scale ≡ nat_eq kind 3
    → cond is_mss (option_map MaximumSegmentSize (mss_in body)) (cond is_scale (option_map WindowScale (scale_in body)) (Some (Other kind body))) ≡ Some first
    → Walked xs os → Walked (kind ∷ (2 + length body) ∷ (body ++ xs)) (first ∷ os)
walked_option true is_scale kind body xs first os kind_fits len_fits no_end no_none b m s e w =
    subst (λ (k : ℕ). Walked (k ∷ (2 + length body) ∷ (body ++ xs)) (first ∷ os)) (sym (eqb-true kind 2 (sym m))) (walked_mss body xs first os b e w)
walked_option false true kind body xs first os kind_fits len_fits no_end no_none b m s e w =
    subst (λ (k : ℕ). Walked (k ∷ (2 + length body) ∷ (body ++ xs)) (first ∷ os)) (sym (eqb-true kind 3 (sym s))) (walked_scale body xs first os b e w)
walked_option false false kind body xs first os kind_fits len_fits no_end no_none b m s e w =
    let is : Other kind body ≡ first = cc in
    subst (λ (option : HeaderOption). Walked (kind ∷ (2 + length body) ∷ (body ++ xs)) (option ∷ os)) is
    (walked_other kind body xs os kind_fits len_fits (grind (arith, nat_tests)) w)

-- one octet is read
one_octet : (no_end no_none : Bool) (kind : ℕ) (os : List HeaderOption) → no_end ≡ nat_eq kind 0 → no_none ≡ nat_eq kind 1
    → cond no_end (Some (EndOfOptions ∷ [])) (cond no_none (Some (NoOperation ∷ [])) None) ≡ Some os → Walked (kind ∷ []) os
one_octet true no_none kind os is_end is_none e =
    let kind_is : 0 ≡ kind = sym (eqb-true kind 0 (sym is_end)) in
    let os_is : EndOfOptions ∷ [] ≡ os = cc in
    subst (λ (ys : List HeaderOption). Walked (kind ∷ []) ys) os_is (subst (λ (k : ℕ). Walked (k ∷ []) (EndOfOptions ∷ [])) kind_is (walked_end []))
one_octet false true kind os is_end is_none e =
    let kind_is : 1 ≡ kind = sym (eqb-true kind 1 (sym is_none)) in
    let os_is : NoOperation ∷ [] ≡ os = cc in
    subst (λ (ys : List HeaderOption). Walked (kind ∷ []) ys) os_is (subst (λ (k : ℕ). Walked (k ∷ []) (NoOperation ∷ [])) kind_is (walked_none [] [] walked_nothing))
one_octet false false kind os is_end is_none e = cc

-- so many octets and some options are read
abbrev ReadsBehind : List ℕ → ℕ → Type 0
ReadsBehind xs n = (os : List HeaderOption) → options_behind xs n ≡ Some os → (n ≤ length xs) × Walked (drop n xs) os

-- an option with a length is read
long_octets : (is_short : Bool) (kind len : ℕ) (xs : List ℕ) (os : List HeaderOption) → kind < 256 → len < 256
    → kind ≢ 0 → kind ≢ 1 → is_short ≡ nat_lt len 2 → AreOctets xs → ReadsBehind xs (len - 2)
    → cond is_short None (with_first (option_in kind (take (len - 2) xs)) (options_behind xs (len - 2))) ≡ Some os → Walked (kind ∷ len ∷ xs) os
long_octets true kind len xs os kind_fits len_fits no_end no_none s b reads e = cc
long_octets false kind len xs os kind_fits len_fits no_end no_none s b reads e =
    let o = others (option_in kind (take (len - 2) xs)) (options_behind xs (len - 2)) os e in
    let body : List ℕ = take (len - 2) xs in
    let rest : (len - 2 ≤ length xs) × Walked (drop (len - 2) xs) o.1 = reads o.1 o.3 in
    let long : 2 ≤ len = grind (arith, nat_tests, s) in
    let len_is : 2 + length body ≡ len = omega (arith, length-take (len - 2) xs, rest.0, long) in
    let parts : body ++ drop (len - 2) xs ≡ xs = take-append-drop (len - 2) xs in
    let walked = walked_option (nat_eq kind 2) (nat_eq kind 3) kind body (drop (len - 2) xs) o.0 o.1 kind_fits (omega (arith, len_is, len_fits)) no_end no_none (take_octets (len - 2) xs b) refl refl o.2 rest.1 in
    subst (λ (ys : List HeaderOption). Walked (kind ∷ len ∷ xs) ys) o.4
    (subst (λ (ys : List ℕ). Walked (kind ∷ len ∷ ys) (o.0 ∷ o.1)) parts
    (subst (λ (n : ℕ). Walked (kind ∷ n ∷ (body ++ drop (len - 2) xs)) (o.0 ∷ o.1)) len_is walked))

-- an option and more is read
many_octets : (is_end is_none : Bool) (kind len : ℕ) (xs : List ℕ) (os : List HeaderOption) → kind < 256 → len < 256
    → is_end ≡ nat_eq kind 0 → is_none ≡ nat_eq kind 1
    → AreOctets xs → ReadsBehind (len ∷ xs) 0 → ReadsBehind xs (len - 2)
    → cond is_end (Some (EndOfOptions ∷ [])) (cond is_none (with_first (Some NoOperation) (options_behind (len ∷ xs) 0))
    (cond (nat_lt len 2) None (with_first (option_in kind (take (len - 2) xs)) (options_behind xs (len - 2))))) ≡ Some os
    → Walked (kind ∷ len ∷ xs) os
many_octets true is_none kind len xs os kind_fits len_fits z o b reads0 reads e =
    let kind_is : 0 ≡ kind = sym (eqb-true kind 0 (sym z)) in
    let os_is : EndOfOptions ∷ [] ≡ os = cc in
    subst (λ (ys : List HeaderOption). Walked (kind ∷ len ∷ xs) ys) os_is (subst (λ (k : ℕ). Walked (k ∷ len ∷ xs) (EndOfOptions ∷ [])) kind_is (walked_end (len ∷ xs)))
many_octets false true kind len xs os kind_fits len_fits z o b reads0 reads e =
    let kind_is : 1 ≡ kind = sym (eqb-true kind 1 (sym o)) in
    let p = others (Some NoOperation) _ _ e in
    let tail : options_behind (len ∷ xs) 0 ≡ Some p.1 = p.3 in
    let os_is : NoOperation ∷ p.1 ≡ os = ap (λ (option : HeaderOption). option ∷ p.1) (some_one NoOperation p.0 p.2) ∙ p.4 in
    subst (λ (ys : List HeaderOption). Walked (kind ∷ len ∷ xs) ys) os_is (subst (λ (k : ℕ). Walked (k ∷ len ∷ xs) (NoOperation ∷ p.1)) kind_is (walked_none (len ∷ xs) p.1 (reads0 p.1 tail).1))
  where
    some_one : (first second : HeaderOption) → Some first ≡ Some second → first ≡ second
    some_one first second e = cc
many_octets false false kind len xs os kind_fits len_fits z o b reads0 reads e =
    let no_end : kind ≢ 0 = λ k. grind (arith, nat_tests) in
    let no_none : kind ≢ 1 = λ k. grind (arith, nat_tests) in
    long_octets (nat_lt len 2) kind len xs os kind_fits len_fits no_end no_none refl b reads e

-- what is read is spelled so
pub are_walked : (xs : List ℕ) (n : ℕ) → AreOctets xs → ReadsBehind xs n
are_walked [] zero b os e = let nothing : [] ≡ os = cc in (omega arith, subst (λ (ys : List HeaderOption). Walked [] ys) nothing walked_nothing)
are_walked [] (suc n) b os e = cc
are_walked (x ∷ xs) (suc n) b os e =
    let rest = are_walked xs n (tail_octets x xs b) os e in
    (omega (arith, rest.0), rest.1)
are_walked (kind ∷ []) zero b os e = (omega arith, one_octet _ _ kind os refl refl e)
are_walked (kind ∷ len ∷ xs) zero b os e =
    let tail = tail_octets kind (len ∷ xs) b in
    let rest = tail_octets len xs tail in
    (omega arith, many_octets _ _ kind len xs os (b 0) (b 1) refl refl rest (are_walked (len ∷ xs) 0 tail) (are_walked xs (len - 2) rest) e)

-- a body is passed over
behind-append : (body xs : List ℕ) → options_behind (body ++ xs) (length body) ≡ options_behind xs 0
behind-append [] xs = refl
behind-append (x ∷ body) xs = behind-append body xs

-- what is spelled is read so
pub are_read : (os : List HeaderOption) (padding : List ℕ) → AreOptions os padding → options_behind (joined os ++ padding) 0 ≡ Some os
are_read [] padding ends = rw ends refl
are_read (EndOfOptions ∷ os) padding ends = behind_end (joined os ++ padding) ∙ ap (λ (ys : List HeaderOption). Some (EndOfOptions ∷ ys)) (sym ends)
are_read (NoOperation ∷ os) padding ends = behind_none (joined os ++ padding) ∙ ap (with_first (Some NoOperation)) (are_read os padding ends.1)
are_read (MaximumSegmentSize size ∷ os) padding ends =
    let fits : size < 2 ^ 16 = ends.0 in
    let read : big_number 2 (byte_at 1 size ∷ byte_at 0 size ∷ []) ≡ size = omega arith in
    rw (are_read os padding ends.1) (ap (λ (n : ℕ). Some (MaximumSegmentSize n ∷ os)) read)
are_read (WindowScale shift ∷ os) padding ends = rw (are_read os padding ends.1) refl
are_read (Other kind body ∷ os) padding ends =
    let rest = joined os ++ padding in
    let parts : (body ++ joined os) ++ padding ≡ body ++ rest = append_assoc body (joined os) padding in
    let skip : 2 + length body - 2 ≡ length body = omega arith in
    let no_end : kind ≢ 0 = λ k. absurd (omega (arith, ends.0)) in
    let no_none : kind ≢ 1 = λ k. absurd (omega (arith, ends.0)) in
    let no_mss : nat_eq kind 2 ≡ false = grind (arith, nat_tests, ends.0) in
    let no_scale : nat_eq kind 3 ≡ false = grind (arith, nat_tests, ends.0) in
    let long : nat_lt (2 + length body) 2 ≡ false = grind (arith, nat_tests) in
    ap (λ (ys : List ℕ). options_behind (kind ∷ (2 + length body) ∷ ys) 0) parts ∙ long_kind kind (2 + length body) (body ++ rest) no_end no_none
    ∙ rw (no_mss, no_scale, long, skip, take_at body rest _ refl, behind-append body rest, are_read os padding ends.1) refl

-- what is told by options that are read, or not
pub told_options : (os : Option (List HeaderOption)) (told : Told) → option_map told_of os ≡ Some told
    → (list : List HeaderOption) × (os ≡ Some list) × (told_of list ≡ told)
told_options None told e = cc
told_options (Some list) told e = (list, refl, cc)

pub told_nothing : (os : Option (List HeaderOption)) → option_map told_of os ≡ None → os ≡ None
told_nothing None e = refl
told_nothing (Some list) e = cc

pub known_list : (os : Option (List HeaderOption)) → is_some os ≡ true → option_map told_of os ≡ Some (told_of (unwrap_or os []))
known_list None known = cc
known_list (Some list) known = refl

-- what the walk answers
pub answered : {E : Type 0} (options rest : List ℕ) (told : Told) (answer : Option Told) (e : E)
    → told_behind rest told ≡ told_behind options (record { mss = None; scale = None; sacks = false; blocks = [] }) → told_behind rest told ≡ answer
    → ok_or answer e ≡ ok_or (option_map told_of (options_behind options 0)) e
answered options rest told answer e same is = ap (λ (o : Option Told). ok_or o e) (sym is ∙ same)
