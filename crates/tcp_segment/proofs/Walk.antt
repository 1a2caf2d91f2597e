-- How the options are walked.
use Rattle.std.proofs.Common.{◌≡◌, ◌≢◌, ℕ, zero, suc, ◌-◌, ◌<◌, ◌≤◌, ◌||◌, Bool, true, false, nat_eq, nat_lt, List, [], ◌∷◌, length, get_or, drop, take, Option, Some, None, cond, refl, sym, ◌∙◌, ap, inl, inr, arith}
use Rattle.std.proofs.lemmas.Bool.{cases_lt}
use Rattle.std.proofs.lemmas.Bool.Decides.{nat_tests}
use Rattle.std.proofs.lemmas.List.{take_all, length-drop}
use Rattle.std.specs.List.{list_any}
use Rattle.std.specs.Option.{option_map}
use Rattle.tcp_segment.specs.declared.options.Told.{Told}
use Rattle.tcp_segment.specs.Options.{HeaderOption, EndOfOptions, NoOperation, MaximumSegmentSize, WindowScale, Other, last_mss, last_scale, permits, last_blocks}
use Rattle.tcp_segment.specs.Reading.{with_first, options_behind, option_in, body_in}
use Rattle.tcp_segment.specs.Telling.{told_with}

-- behind n octets of a list, where the list is long enough or not
parted : (xs : List ℕ) (n : ℕ) → options_behind xs n ≡ cond (nat_lt (length xs) n) None (options_behind (drop n xs) 0)
parted [] zero = refl
parted (x ∷ xs) zero = let e : nat_lt (length (x ∷ xs)) 0 ≡ false = grind (arith, nat_tests) in rw e refl
parted [] (suc n) = let e : nat_lt 0 (suc n) ≡ true = grind (arith, nat_tests) in rw e refl
parted (x ∷ xs) (suc n) =
    let e : nat_lt (length xs) n ≡ nat_lt (length (x ∷ xs)) (suc n) = grind (arith, nat_tests) in
    rw (← e) (parted xs n)

-- fewer octets than are to be passed
short : (xs : List ℕ) (n : ℕ) → length xs < n → options_behind xs n ≡ None
short xs n h = let b : nat_lt (length xs) n ≡ true = grind (arith, nat_tests) in parted xs n ∙ rw b refl

-- the kinds of one octet
pub behind_end : (xs : List ℕ) → options_behind (0 ∷ xs) 0 ≡ Some (EndOfOptions ∷ [])
behind_end [] = refl
behind_end (x ∷ xs) = refl

pub behind_none : (xs : List ℕ) → options_behind (1 ∷ xs) 0 ≡ with_first (Some NoOperation) (options_behind xs 0)
behind_none [] = refl
behind_none (x ∷ xs) = refl

-- a kind with a length
pub long_kind : (kind len : ℕ) (xs : List ℕ) → kind ≢ 0 → kind ≢ 1
    → options_behind (kind ∷ len ∷ xs) 0 ≡ cond (nat_lt len 2) None (with_first (option_in kind (take (len - 2) xs)) (options_behind xs (len - 2)))
long_kind kind len xs h k =
    let no_end : nat_eq kind 0 ≡ false = grind (arith, nat_tests) in
    let no_none : nat_eq kind 1 ≡ false = grind (arith, nat_tests) in
    rw (no_end, no_none) refl

-- what a test that guards a value says
guarded : {A : Type 0} (b : Bool) (x y : A) → cond b None (Some x) ≡ Some y → (b ≡ false) × (x ≡ y)
guarded true x y e = cc
guarded false x y e = (refl, cc)

unguarded : {A : Type 0} (b : Bool) (x : A) → cond b None (Some x) ≡ None → b ≡ true
unguarded true x e = refl
unguarded false x e = cc

-- what stands behind an option is shorter
pub body_shorter : (xs body after : List ℕ) → body_in xs ≡ Some (body, after) → length after ≤ length xs
body_shorter [] body after e = cc
body_shorter (len ∷ xs) body after e =
    let g = guarded _ _ _ e in
    let is_after : drop (len - 2) xs ≡ after = ap (λ (p : List ℕ × List ℕ). p.1) g.1 in
    omega (arith, length-drop (len - 2) xs, ap length is_after)

-- an option with a length, by its body
behind_option : (kind : ℕ) (xs body after : List ℕ) → kind ≢ 0 → kind ≢ 1
    → body_in xs ≡ Some (body, after) → options_behind (kind ∷ xs) 0 ≡ with_first (option_in kind body) (options_behind after 0)
behind_option kind [] body after h k e = cc
behind_option kind (len ∷ xs) body after h k e =
    let g = guarded _ _ _ e in
    let long : nat_lt len 2 ≡ false = grind (arith, nat_tests, g.0) in
    let fits : nat_lt (length xs) (len - 2) ≡ false = grind (arith, nat_tests, g.0) in
    let is_body : take (len - 2) xs ≡ body = ap (λ (p : List ℕ × List ℕ). p.0) g.1 in
    let is_after : drop (len - 2) xs ≡ after = ap (λ (p : List ℕ × List ℕ). p.1) g.1 in
    let rest : options_behind xs (len - 2) ≡ options_behind after 0 =
    parted xs (len - 2) ∙ rw fits (ap (λ (ys : List ℕ). options_behind ys 0) is_after) in
    long_kind kind len xs h k
    ∙ rw long (ap (λ (ys : List ℕ). with_first (option_in kind ys) (options_behind xs (len - 2))) is_body ∙ ap (with_first (option_in kind body)) rest)

-- nothing is read where nothing is behind
first_of_none : (first : Option HeaderOption) → with_first first None ≡ None
first_of_none None = refl
first_of_none (Some first) = refl

-- a length under 2 or past the end
refused : (first : Option HeaderOption) (len : ℕ) (xs : List ℕ) → (nat_lt len 2 || nat_lt (length xs) (len - 2)) ≡ true
    → cond (nat_lt len 2) None (with_first first (options_behind xs (len - 2))) ≡ None
refused first len xs e = elim (cases_lt len 2) [
  | inl low ↦ let b : nat_lt len 2 ≡ true = grind (arith, nat_tests) in rw b refl
  | inr high ↦
      let b : nat_lt len 2 ≡ false = grind (arith, nat_tests) in
      rw b (ap (with_first first) (short xs (len - 2) (grind (arith, nat_tests, e, b))) ∙ first_of_none first)
]

-- no octets are an option
behind_no_option : (kind : ℕ) (xs : List ℕ) → kind ≢ 0 → kind ≢ 1 → body_in xs ≡ None → options_behind (kind ∷ xs) 0 ≡ None
behind_no_option kind [] h k e =
    let no_end : nat_eq kind 0 ≡ false = grind (arith, nat_tests) in
    let no_none : nat_eq kind 1 ≡ false = grind (arith, nat_tests) in
    rw (no_end, no_none) refl
behind_no_option kind (len ∷ xs) h k e = long_kind kind len xs h k ∙ refused _ len xs (unguarded _ _ e)

-- what options tell beside what was told before them
abbrev pub tell : Told → List HeaderOption → Told
tell told options = record {
  mss = last_mss told.mss options;
  scale = last_scale told.scale options;
  sacks = told.sacks || list_any permits options;
  blocks = last_blocks told.blocks options;
}

-- what the options of octets tell beside what was told before them
abbrev pub told_behind : List ℕ → Told → Option Told
told_behind xs told = option_map (tell told) (options_behind xs 0)

tell_first : (told : Told) (first : HeaderOption) (options : List HeaderOption) → tell told (first ∷ options) ≡ tell (told_with told first) options
tell_first told EndOfOptions options = refl
tell_first told NoOperation options = refl
tell_first told (MaximumSegmentSize size) options = refl
tell_first told (WindowScale shift) options = refl
tell_first told (Other kind octets) options =
    let rest : Bool = list_any permits options in
    ap (λ (b : Bool). let t : Told = record (tell (told_with told (Other kind octets)) options) { sacks = b } in t) (either told.sacks (permits (Other kind octets)) rest)
  where
    either : (a b c : Bool) → (a || (b || c)) ≡ ((a || b) || c)
    either true b c = refl
    either false b c = refl

-- the first option tells its part, if it is one
first_tells : (told next : Told) (first : Option HeaderOption) (rest : Option (List HeaderOption)) → option_map (told_with told) first ≡ Some next
    → option_map (tell told) (with_first first rest) ≡ option_map (tell next) rest
first_tells told next None rest e = cc
first_tells told next (Some first) None e = refl
first_tells told next (Some first) (Some options) e =
    let is : told_with told first ≡ next = cc in
    ap Some (tell_first told first options ∙ ap (λ (t : Told). tell t options) is)

first_tells_nothing : (told : Told) (first : Option HeaderOption) (rest : Option (List HeaderOption)) → option_map (told_with told) first ≡ None
    → option_map (tell told) (with_first first rest) ≡ None
first_tells_nothing told None rest e = refl
first_tells_nothing told (Some first) rest e = cc

-- a list by its first octet and the others
split : (rest : List ℕ) → 1 ≤ length rest → rest ≡ get_or rest 0 0 ∷ take (length rest - 1) (drop 1 rest)
split [] h = absurd (omega arith)
split (x ∷ xs) h = ap (λ (ys : List ℕ). x ∷ ys) (sym (take_all _ xs (omega arith)))

-- the octets from a kind on, by what they are read as
read_at : (rest : List ℕ) (told : Told) (kind : ℕ) (read : Option (List HeaderOption)) → 1 ≤ length rest → get_or rest 0 0 ≡ kind
    → options_behind (kind ∷ take (length rest - 1) (drop 1 rest)) 0 ≡ read → told_behind rest told ≡ option_map (tell told) read
read_at rest told kind read h k e =
    ap (λ (xs : List ℕ). told_behind xs told) (split rest h)
    ∙ ap (λ (n : ℕ). told_behind (n ∷ take (length rest - 1) (drop 1 rest)) told) k ∙ ap (option_map (tell told)) e

pub at_none : (rest : List ℕ) (told : Told) → 1 ≤ length rest → get_or rest 0 0 ≡ 1
    → told_behind rest told ≡ told_behind (take (length rest - 1) (drop 1 rest)) told
at_none rest told h k = read_at rest told 1 _ h k (behind_none (take (length rest - 1) (drop 1 rest))) ∙ first_tells told told (Some NoOperation) _ refl

pub at_option : (rest body after : List ℕ) (told next : Told) → 1 ≤ length rest → get_or rest 0 0 ≢ 0 → get_or rest 0 0 ≢ 1
    → body_in (take (length rest - 1) (drop 1 rest)) ≡ Some (body, after)
    → option_map (told_with told) (option_in (get_or rest 0 0) body) ≡ Some next → told_behind rest told ≡ told_behind after next
at_option rest body after told next h a b e t =
    read_at rest told _ _ h refl (behind_option _ _ body after a b e) ∙ first_tells told next (option_in (get_or rest 0 0) body) _ t

pub at_no_option : (rest : List ℕ) (told : Told) → 1 ≤ length rest → get_or rest 0 0 ≢ 0 → get_or rest 0 0 ≢ 1
    → body_in (take (length rest - 1) (drop 1 rest)) ≡ None → told_behind rest told ≡ None
at_no_option rest told h a b e = read_at rest told _ None h refl (behind_no_option _ _ a b e)

pub at_wrong_body : (rest body after : List ℕ) (told : Told) → 1 ≤ length rest → get_or rest 0 0 ≢ 0 → get_or rest 0 0 ≢ 1
    → body_in (take (length rest - 1) (drop 1 rest)) ≡ Some (body, after)
    → option_map (told_with told) (option_in (get_or rest 0 0) body) ≡ None → told_behind rest told ≡ None
at_wrong_body rest body after told h a b e t =
    read_at rest told _ _ h refl (behind_option _ _ body after a b e) ∙ first_tells_nothing told (option_in (get_or rest 0 0) body) _ t

-- nothing more is told
kept : (told : Told) → tell told [] ≡ told
kept told = ap (λ (b : Bool). let t : Told = record told { sacks = b } in t) (same told.sacks)
  where
    same : (b : Bool) → (b || false) ≡ b
    same true = refl
    same false = refl

-- the end of the options
pub at_end : (rest : List ℕ) (told : Told) → 1 ≤ length rest → get_or rest 0 0 ≡ 0 → told_behind rest told ≡ Some told
at_end rest told h k = read_at rest told 0 _ h k (behind_end (take (length rest - 1) (drop 1 rest))) ∙ ap Some (kept told)

pub at_nothing : (rest : List ℕ) (told : Told) → length rest < 1 → told_behind rest told ≡ Some told
at_nothing [] told h = ap Some (kept told)
at_nothing (x ∷ rest) told h = absurd (omega arith)
