-- Tables of which each entry is followed to what is left of it.
use Rattle.std.proofs.Common.{◌≡◌, inl, inr, ℕ, zero, suc, Bool, true, false, cond, List, [], ◌∷◌, ◌++◌, Option, Some, None, refl, sym, subst}
use Rattle.std.specs.List.{find, remove, retain_mut, AllByRecursion}
use Rattle.std.specs.List.Retain.{RetainsInTurn}
use Rattle.tcp_state.specs.declared.connection.Fate.{Fate}
use Rattle.sockets.specs.declared.entry.Entry.{Entry}
use Rattle.sockets.specs.declared.role.Role.{Role}
use Rattle.sockets.specs.Entries.{is_kept, entries_after_step, with_role}
use Rattle.sockets.specs.Lists.{change_first, remove_first}
use Rattle.sockets.specs.Causes.{Follows}

-- by the two answers of a test
pub by_test : {P : Type 0} (b : Bool) → (b ≡ true → P) → (b ≡ false → P) → P
by_test true yes_part no_part = yes_part refl
by_test false yes_part no_part = no_part refl

-- nothing is added
abbrev pub IsNothing : List Entry → Type 0
IsNothing ys = ys ≡ []

module _ (Step : Entry → Option Entry → Type 0) (Added : List Entry → Type 0) where
  -- an entry goes
  pub goes : (x : Entry) (xs ys : List Entry) → Step x None → Follows Step Added xs ys → Follows Step Added (x ∷ xs) ys
  goes x xs [] step rest = (step, rest)
  goes x xs (y ∷ ys) step rest = inr (step, rest)

  -- nothing happens, and others join
  pub joined_by : ((x : Entry) → Step x (Some x)) → (xs ys : List Entry) → Added ys → Follows Step Added xs (xs ++ ys)
  joined_by same [] ys added = added
  joined_by same (x ∷ xs) ys added = inl (same x, joined_by same xs ys added)

  pub as_it_was : Added [] → ((x : Entry) → Step x (Some x)) → (xs : List Entry) → Follows Step Added xs xs
  as_it_was none same [] = none
  as_it_was none same (x ∷ xs) = inl (same x, as_it_was none same xs)

  -- the first that passes changes
  pub first_changed : Added [] → (test : Entry → Bool) (change : Entry → Entry) (xs : List Entry) → ((x : Entry) → Step x (Some x))
      → ((x : Entry) → test x ≡ true → find test xs ≡ Some x → Step x (Some (change x))) → Follows Step Added xs (change_first test change xs)
  first_changed none test change [] same step = none
  first_changed none test change (x ∷ xs) same step =
      by_test (test x)
      (λ passes. rw passes (inl (step x passes (rw passes), as_it_was none same xs)))
      (λ fails. rw fails (inl (same x, first_changed none test change xs same (λ y passes found. step y passes (rw fails found)))))

  -- the first that passes goes
  pub first_removed : Added [] → (test : Entry → Bool) (xs : List Entry) → ((x : Entry) → Step x (Some x))
      → ((x : Entry) → test x ≡ true → find test xs ≡ Some x → Step x None) → Follows Step Added xs (remove_first test xs)
  first_removed none test [] same step = none
  first_removed none test (x ∷ xs) same step =
      by_test (test x)
      (λ passes. rw passes (goes x xs xs (step x passes (rw passes)) (as_it_was none same xs)))
      (λ fails. rw fails (inl (same x, first_removed none test xs same (λ y passes found. step y passes (rw fails found)))))

  -- each changes or goes
  pub each_followed : Added [] → (test : Entry → Bool) (change : Entry → Entry) (xs : List Entry) → ((x : Entry) → test x ≡ true → Step x (Some (change x))) → ((x : Entry) → test x ≡ false → Step x None)
      → Follows Step Added xs (retain_mut test change xs)
  each_followed none test change [] changed gone = none
  each_followed none test change (x ∷ xs) changed gone =
      by_test (test x)
      (λ passes. rw passes (inl (changed x passes, each_followed none test change xs changed gone)))
      (λ fails. rw fails (goes x xs (retain_mut test change xs) (gone x fails) (each_followed none test change xs changed gone)))

  -- the one at a place goes
  pub place_removed : Added [] → ((x : Entry) → Step x (Some x)) → ((x : Entry) → Step x None) → (xs : List Entry) (i : ℕ) → Follows Step Added xs (remove xs i)
  place_removed none same gone [] zero = none
  place_removed none same gone [] (suc i) = none
  place_removed none same gone (x ∷ xs) zero = goes x xs xs (gone x) (as_it_was none same xs)
  place_removed none same gone (x ∷ xs) (suc i) = inl (same x, place_removed none same gone xs i)

  -- each changes or goes as a call answers of it, which changes no capture
  pub followed_in_turn : {F : Type 0} (R : F → Entry → Bool → F → Entry → Type 0) (f : F) → Added [] → ((x : Entry) (b : Bool) (f' : F) (y : Entry) → R f x b f' y → (f' ≡ f) × Step x (Some y)) → ((x : Entry) → Step x None)
      → (xs ys : List Entry) → RetainsInTurn R f xs ys → Follows Step Added xs ys
  followed_in_turn R f none says gone [] ys h = subst Added (sym h) none
  followed_in_turn R f none says gone (x ∷ xs) ys h =
      let said = says x h.0 h.1 h.2 h.3 in
      let rest = followed_in_turn R f none says gone xs h.4 (subst (λ g. RetainsInTurn R g xs h.4) said.0 h.5) in
      subst (λ (ws : List Entry). Follows Step Added (x ∷ xs) ws) (sym h.6) (by_answer h.0 h.2 h.4 said.1 rest)
    where
      by_answer : (b : Bool) (y : Entry) (zs : List Entry) → Step x (Some y) → Follows Step Added xs zs → Follows Step Added (x ∷ xs) (cond b (y ∷ zs) zs)
      by_answer true y zs step rest = inl (step, rest)
      by_answer false y zs step rest = goes x xs zs (gone x) rest

-- one step after another
pub steps_joined : (First Then Whole : Entry → Option Entry → Type 0) → ((x : Entry) → First x None → Whole x None) → ((x y : Entry) (o : Option Entry) → First x (Some y) → Then y o → Whole x o)
    → (xs ys zs : List Entry) → Follows First IsNothing xs ys → Follows Then IsNothing ys zs → Follows Whole IsNothing xs zs
steps_joined First Then Whole gone joins [] ys zs f g = subst (λ (ws : List Entry). Follows Then IsNothing ws zs) f g
steps_joined First Then Whole gone joins (x ∷ xs) [] zs f g = goes Whole IsNothing x xs zs (gone x f.0) (steps_joined First Then Whole gone joins xs [] zs f.1 g)
steps_joined First Then Whole gone joins (x ∷ xs) (y ∷ ys) zs (inr f) g = goes Whole IsNothing x xs zs (gone x f.0) (steps_joined First Then Whole gone joins xs (y ∷ ys) zs f.1 g)
steps_joined First Then Whole gone joins (x ∷ xs) (y ∷ ys) [] (inl f) g = (joins x y None f.0 g.0, steps_joined First Then Whole gone joins xs ys [] f.1 g.1)
steps_joined First Then Whole gone joins (x ∷ xs) (y ∷ ys) (z ∷ zs) (inl f) (inl g) = inl (joins x y (Some z) f.0 g.0, steps_joined First Then Whole gone joins xs ys zs f.1 g.1)
steps_joined First Then Whole gone joins (x ∷ xs) (y ∷ ys) (z ∷ zs) (inl f) (inr g) = inr (joins x y None f.0 g.0, steps_joined First Then Whole gone joins xs ys (z ∷ zs) f.1 g.1)

-- what is found twice is the same
pub some_same : {T : Type 0} (o : Option T) (x y : T) → o ≡ Some x → o ≡ Some y → x ≡ y
some_same o x y e f = cc

-- the first that passes takes a step
pub settled_followed : (Step : Entry → Option Entry → Type 0) (Added : List Entry → Type 0) → Added [] → (r : Fate) (test : Entry → Bool) (change : Role → Role) (entries : List Entry) → ((x : Entry) → Step x (Some x))
    → (is_kept r ≡ true → (x : Entry) → test x ≡ true → find test entries ≡ Some x → Step x (Some (with_role change x)))
    → (is_kept r ≡ false → (x : Entry) → test x ≡ true → find test entries ≡ Some x → Step x None)
    → Follows Step Added entries (entries_after_step r test change entries)
settled_followed Step Added none r test change entries same changed gone =
    by_test (is_kept r)
    (λ kept. rw kept (first_changed Step Added none test (with_role change) entries same (changed kept)))
    (λ removed. rw removed (first_removed Step Added none test entries same (gone removed)))

-- entries of which this holds, followed by one relation, are followed by another that it implies of each
pub follows_map : (First Whole : Entry → Option Entry → Type 0) (Added More : List Entry → Type 0) (P : Entry → Type 0) → ((ys : List Entry) → Added ys → More ys) → ((x : Entry) (o : Option Entry) → P x → First x o → Whole x o)
    → (xs ys : List Entry) → AllByRecursion P xs → Follows First Added xs ys → Follows Whole More xs ys
follows_map First Whole Added More P adds step [] ys all f = adds ys f
follows_map First Whole Added More P adds step (x ∷ xs) [] all f = (step x None all.0 f.0, follows_map First Whole Added More P adds step xs [] all.1 f.1)
follows_map First Whole Added More P adds step (x ∷ xs) (y ∷ ys) all (inl f) = inl (step x (Some y) all.0 f.0, follows_map First Whole Added More P adds step xs ys all.1 f.1)
follows_map First Whole Added More P adds step (x ∷ xs) (y ∷ ys) all (inr f) = inr (step x None all.0 f.0, follows_map First Whole Added More P adds step xs (y ∷ ys) all.1 f.1)

-- what every step keeps holds of all that is left
pub all_followed : (Step : Entry → Option Entry → Type 0) (P : Entry → Type 0) → ((x y : Entry) → Step x (Some y) → P x → P y) → (xs ys : List Entry) → Follows Step IsNothing xs ys → AllByRecursion P xs → AllByRecursion P ys
all_followed Step P keeps [] ys f all = subst (λ (ws : List Entry). AllByRecursion P ws) (sym f) tt
all_followed Step P keeps (x ∷ xs) [] f all = tt
all_followed Step P keeps (x ∷ xs) (y ∷ ys) (inl f) all = (keeps x y f.0 all.0, all_followed Step P keeps xs ys f.1 all.1)
all_followed Step P keeps (x ∷ xs) (y ∷ ys) (inr f) all = all_followed Step P keeps xs (y ∷ ys) f.1 all.1

-- what holds of all and of one that joins
pub all_joined : {X : Type 0} (P : X → Type 0) (xs : List X) (x : X) → AllByRecursion P xs → P x → AllByRecursion P (xs ++ x ∷ [])
all_joined P [] x all more = (more, tt)
all_joined P (y ∷ ys) x all more = (all.0, all_joined P ys x all.1 more)
