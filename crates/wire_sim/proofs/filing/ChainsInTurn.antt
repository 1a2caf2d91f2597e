-- The chains of no places, and those of one place more.
use Rattle.std.proofs.Common.{◌≡◌, ◌≢◌, ℕ, ◌+◌, ◌%◌, ◌<◌, ◌≤◌, inl, inr, List, [], ◌∷◌, ◌++◌, length, get_or, set, refl, sym, ◌∙◌, ap, subst, arith}
use Rattle.std.proofs.Math.ListN.{get_or-append}
use Rattle.std.proofs.Math.Seq.{get_or-append_seam}
use Rattle.std.proofs.lemmas.Bool.{cases_order}
use Rattle.std.proofs.lemmas.List.{length-append, length-set, get_or-set_same, get_or-set_other}
use Rattle.wire_sim.specs.Filing.{EndsAt, IsChained, chain_at}

-- Where a chain ends depends on the places below alone.
pub EndsAt-same : (f g : ℕ → ℕ) (c n r : ℕ) → ((i : ℕ) → i < n → g i ≡ f i) → EndsAt f c n r → EndsAt g c n r
EndsAt-same f g c n r same at = record {
  within = at.within;
  last = λ i e. same i (let w : r ≤ n = at.within in omega arith) ∙ at.last i e;
  past = λ i from below e. at.past i from below (sym (same i below) ∙ e);
}

-- a place more, of the chain
EndsAt-new : (g : ℕ → ℕ) (c n : ℕ) → g n ≡ c → EndsAt g c (n + 1) (n + 1)
EndsAt-new g c n is = record {
  within = omega arith;
  last = λ i e. let same : i ≡ n = omega arith in ap g same ∙ is;
  past = λ i from below e. absurd (omega arith);
}

-- .. and of another
EndsAt-other : (g : ℕ → ℕ) (c n r : ℕ) → g n ≢ c → EndsAt g c n r → EndsAt g c (n + 1) r
EndsAt-other g c n r other at = record {
  within = let w : r ≤ n = at.within in omega arith;
  last = at.last;
  past = λ i from below e. elim (cases_order i n) [
    | inl same ↦ other (ap g (sym same) ∙ e)
    | inr apart ↦ at.past i from (elim apart [ inl lower ↦ lower | inr above ↦ absurd (omega arith) ]) e
  ];
}

-- No places.

pub IsChained-none : (heads : List ℕ) → ((c : ℕ) → c < length heads → get_or heads c 0 ≡ 0) → IsChained heads [] []
IsChained-none heads none = record {
  len = refl;
  headed = λ c below. record {
    within = let e : get_or heads c 0 ≡ 0 = none c below in omega arith;
    last = λ i e. let z : get_or heads c 0 ≡ 0 = none c below in absurd (omega arith);
    past = λ i from past. absurd (omega arith);
  };
  linked = λ i below. absurd (omega arith);
}

-- A place more, at the end of its chain.

chain_old : (size more : ℕ) (ns : List ℕ) (n i : ℕ) → more ≡ size → i < length ns → chain_at more (ns ++ n ∷ []) i ≡ chain_at size ns i
chain_old size more ns n i same below =
    ap (λ (s : ℕ). get_or (ns ++ n ∷ []) i 0 % s) same ∙ ap (λ (v : ℕ). v % size) (get_or-append ns (n ∷ []) 0 i below)

chain_new : (size more : ℕ) (ns : List ℕ) (n : ℕ) → more ≡ size → chain_at more (ns ++ n ∷ []) (length ns) ≡ n % size
chain_new size more ns n same =
    ap (λ (s : ℕ). get_or (ns ++ n ∷ []) (length ns) 0 % s) same ∙ ap (λ (v : ℕ). v % size) (get_or-append_seam ns n [] 0)

head_pushed : (hs : List ℕ) (g : ℕ → ℕ) (c n k : ℕ) → c < length hs → g n ≡ c → EndsAt g k n (get_or hs k 0) → EndsAt g k (n + 1) (get_or (set hs c (n + 1)) k 0)
head_pushed hs g c n k below is at = elim (cases_order k c) [
  | inl same ↦
      subst (λ (j : ℕ). EndsAt g j (n + 1) (get_or (set hs c (n + 1)) j 0)) (sym same)
      (subst (λ (v : ℕ). EndsAt g c (n + 1) v) (sym (get_or-set_same hs c (n + 1) 0 below)) (EndsAt-new g c n is))
  | inr apart ↦
      let other : k ≢ c = elim apart [ inl lower ↦ λ e. omega arith | inr above ↦ λ e. omega arith ] in
      subst (λ (v : ℕ). EndsAt g k (n + 1) v) (sym (get_or-set_other hs c k (n + 1) 0 other)) (EndsAt-other g k n (get_or hs k 0) (λ e. other (sym e ∙ is)) at)
]

pub IsChained-push : (hs ns bs : List ℕ) (n c : ℕ) → c < length hs → c ≡ n % length hs → IsChained hs ns bs → IsChained (set hs c (length ns + 1)) (ns ++ n ∷ []) (bs ++ get_or hs c 0 ∷ [])
IsChained-push hs ns bs n c below is chained =
    let more : List ℕ = set hs c (length ns + 1) in
    let size : length more ≡ length hs = length-set hs c (length ns + 1) in
    let longer : length (ns ++ n ∷ []) ≡ length ns + 1 = length-append ns (n ∷ []) in
    let old : (i : ℕ) → i < length ns → chain_at (length more) (ns ++ n ∷ []) i ≡ chain_at (length hs) ns i = λ i lower. chain_old (length hs) (length more) ns n i size lower in
    let new : chain_at (length more) (ns ++ n ∷ []) (length ns) ≡ c = chain_new (length hs) (length more) ns n size ∙ sym is in
    let g : ℕ → ℕ = chain_at (length more) (ns ++ n ∷ []) in
    let kept = λ (k j r : ℕ) (le : j ≤ length ns) (at : EndsAt (chain_at (length hs) ns) k j r). EndsAt-same (chain_at (length hs) ns) g k j r (λ i lower. old i (omega arith)) at in
    record {
      len = length-append bs (get_or hs c 0 ∷ []) ∙ ap (λ (m : ℕ). m + 1) chained.len ∙ sym longer;
      headed = λ k lower.
          subst (λ (m : ℕ). EndsAt g k m (get_or more k 0)) (sym longer)
          (head_pushed hs g c (length ns) k below new (kept k (length ns) (get_or hs k 0) (omega arith) (chained.headed k (omega arith))));
      linked = λ i lower. elim (cases_order i (length ns)) [
        | inl same ↦
            subst (λ (j : ℕ). EndsAt g (g j) j (get_or (bs ++ get_or hs c 0 ∷ []) j 0)) (sym same)
            (subst (λ (v : ℕ). EndsAt g (g (length ns)) (length ns) v) (sym (ap (λ (j : ℕ). get_or (bs ++ get_or hs c 0 ∷ []) j 0) (sym chained.len) ∙ get_or-append_seam bs (get_or hs c 0) [] 0))
            (subst (λ (k : ℕ). EndsAt g k (length ns) (get_or hs c 0)) (sym new) (kept c (length ns) (get_or hs c 0) (omega arith) (chained.headed c below))))
        | inr apart ↦
            let inside : i < length ns = elim apart [ inl less ↦ less | inr above ↦ absurd (omega arith) ] in
            subst (λ (v : ℕ). EndsAt g (g i) i v) (sym (get_or-append bs (get_or hs c 0 ∷ []) 0 i (let l : length bs ≡ length ns = chained.len in omega arith)))
            (subst (λ (k : ℕ). EndsAt g k i (get_or bs i 0)) (sym (old i inside)) (kept (chain_at (length hs) ns i) i (get_or bs i 0) (omega arith) (chained.linked i inside)))
      ];
    }
