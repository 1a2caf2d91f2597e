-- A walk over some entries of the table: each of these stays changed or is taken out, and the others stay as they are.
use Rattle.std.proofs.Common.{◌≡◌, ℕ, suc, ◌+◌, ◌-◌, ◌<◌, ◌≤◌, Bool, true, false, if◌then◌else◌, List, ◌++◌, length, take, drop, get_or, set, Some, None, sym, ◌∙◌, ap, arith, length-set}
use Rattle.std.specs.List.{remove, refill, retain_mut}
use Rattle.std.proofs.lemmas.List.Edits.{length-remove}
use Rattle.marks.specs.First.{first_from}
use Rattle.sockets.specs.declared.entry.Entry.{Entry}
use Rattle.sockets.proofs.Firsts.{refill_set}
use Rattle.sockets.proofs.FirstFrom.{first_from-found}
use Rattle.sockets.specs.declared.index.Filed.{Filed}
use Rattle.sockets.specs.declared.outlook.Outlook.{Outlook}
use Rattle.sockets.specs.Index.{filed, index_of}
use Rattle.sockets.specs.Outlook.{IsOutlook}
use Rattle.sockets.proofs.Filed.{index_written}
use Rattle.sockets.proofs.Outlooks.{outlook_written}
use Rattle.sockets.proofs.Visits.{skips, rests, kept, gone}

-- what is left to do stands from this place on
abbrev pub IsWalked : (Entry → Bool) → (Entry → Entry) → List Entry → List Entry → ℕ → Type 0
IsWalked keeps change xs ys from = retain_mut keeps change xs ≡ take from ys ++ retain_mut keeps change (drop from ys)

-- the entry in the place that was found is written, and taken out where it doesn't stay
module _ (acts keeps : Entry → Bool) (change : Entry → Entry) (idle : (x : Entry) → acts x ≡ false → (keeps x ≡ true) × (change x ≡ x)) (xs ys : List Entry) (from : ℕ) (walked : IsWalked keeps change xs ys from) where
  pub walked_on : (zs ws : List Entry) (place next : ℕ) (y d : Entry) (stays : Bool) → first_from acts from ys ≡ Some place → zs ≡ ys → stays ≡ keeps (get_or zs place d) → y ≡ change (get_or zs place d)
      → ws ≡ (if stays then refill (length ys) ys (set zs place y) else remove (refill (length ys) ys (set zs place y)) place) → next ≡ (if stays then place + 1 else place) → IsWalked keeps change xs ws next
  walked_on zs ws place next y d stays found lent is_stays is_y is_ws is_next =
      let there = first_from-found acts from ys place found in
      let stays_so : stays ≡ keeps (get_or ys place d) = is_stays ∙ ap (λ l. keeps (get_or l place d)) lent in
      let y_so : y ≡ change (get_or ys place d) = is_y ∙ ap (λ l. change (get_or l place d)) lent in
      let written : refill (length ys) ys (set zs place y) ≡ set ys place (change (get_or ys place d)) = refill_set ys zs place y lent ∙ ap (λ z. set ys place z) y_so in
      by_stay stays stays_so there.within
      (is_ws ∙ ap (λ l. if stays then l else remove l place) written) is_next
    where
      by_stay : (b : Bool) → b ≡ keeps (get_or ys place d) → place < length ys → ws ≡ (if b then set ys place (change (get_or ys place d)) else remove (set ys place (change (get_or ys place d))) place) → next ≡ (if b then place + 1 else place)
          → IsWalked keeps change xs ws next
      by_stay true stay within left on =
          let after : next ≡ suc place = omega (arith, on) in
          walked ∙ skips acts keeps change idle ys from place found ∙ kept keeps change ys place d within (sym stay)
          ∙ ap (λ k. take k (set ys place (change (get_or ys place d))) ++ retain_mut keeps change (drop k (set ys place (change (get_or ys place d))))) (sym after)
          ∙ ap (λ l. take next l ++ retain_mut keeps change (drop next l)) (sym left)
      by_stay false leave within left on =
          walked ∙ skips acts keeps change idle ys from place found ∙ gone keeps change ys place d (change (get_or ys place d)) within (sym leave)
          ∙ ap (λ k. take k (remove (set ys place (change (get_or ys place d))) place) ++ retain_mut keeps change (drop k (remove (set ys place (change (get_or ys place d))) place))) (sym on)
          ∙ ap (λ l. take next l ++ retain_mut keeps change (drop next l)) (sym left)

  pub walked_out : first_from acts from ys ≡ None → ys ≡ retain_mut keeps change xs
  walked_out none = sym (walked ∙ rests acts keeps change idle ys from none)

-- less is left to do
pub walked_less : (acts : Entry → Bool) (ys zs ws : List Entry) (from place next : ℕ) (y : Entry) (stays : Bool) → first_from acts from ys ≡ Some place → zs ≡ ys
    → ws ≡ (if stays then refill (length ys) ys (set zs place y) else remove (refill (length ys) ys (set zs place y)) place) → next ≡ (if stays then place + 1 else place) → length ws - next < length ys - from
walked_less acts ys zs ws from place next y stays found lent is on =
    let there = first_from-found acts from ys place found in
    by_stay stays there.behind there.within (is ∙ ap (λ l. if stays then l else remove l place) (refill_set ys zs place y lent)) on
  where
    same : length (set ys place y) ≡ length ys
    same = length-set ys place y

    by_stay : (b : Bool) → from ≤ place → place < length ys → ws ≡ (if b then set ys place y else remove (set ys place y) place) → next ≡ (if b then place + 1 else place) → length ws - next < length ys - from
    by_stay true behind within left after = let long : length ws ≡ length ys = ap length left ∙ same in omega (arith, behind, within, after, long)
    by_stay false behind within left after =
        let here : place < length (set ys place y) = omega (arith, within, same) in
        let fewer : length (remove (set ys place y) place) + 1 ≡ length (set ys place y) = length-remove (set ys place y) place here in
        let long : length ws ≡ length (remove (set ys place y) place) = ap length left in
        omega (arith, behind, within, after, long, fewer, same)

-- What is filed and noted stays true, of these entries once of those.
pub record IsUpheld (xs ys : List Entry) (ends : List Filed) (o p : Outlook) : Type 0 where
  pub index : ends ≡ index_of ys
  pub some : (most : ℕ) × IsOutlook p most ys
  pub known : (most : ℕ) → IsOutlook o most xs → IsOutlook p most ys

-- where the entry at hand is written
pub upheld_written : (xs ys zs : List Entry) (ends : List Filed) (o p q : Outlook) (place : ℕ) (y d : Entry) → IsUpheld xs ys ends o p → q.at_hand ≡ Some place → ((most : ℕ) → IsOutlook p most ys → IsOutlook q most ys) → zs ≡ ys → filed y ≡ filed (get_or zs place d)
    → IsUpheld xs (refill (length ys) ys (set zs place y)) ends o q
upheld_written xs ys zs ends o p q place y d up at turned lent same = record {
  index = index_written ends ys zs place y d up.index lent same;
  some = (up.some.0, outlook_written q up.some.0 ys zs place y (turned up.some.0 up.some.1) at lent);
  known = λ most k. outlook_written q most ys zs place y (turned most (up.known most k)) at lent;
}

-- and where one leaves
pub upheld_on : (xs ys ws : List Entry) (ends new : List Filed) (o p q : Outlook) → IsUpheld xs ys ends o p → new ≡ index_of ws → ((most : ℕ) → IsOutlook p most ys → IsOutlook q most ws) → IsUpheld xs ws new o q
upheld_on xs ys ws ends new o p q up index known = record {
  index = index;
  some = (up.some.0, known up.some.0 up.some.1);
  known = λ most k. known most (up.known most k);
}
