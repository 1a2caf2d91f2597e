-- What a receive buffer is seen as, by its ring and its ranges.
use Rattle.std.proofs.Common.{◌≡◌, ℕ, ◌+◌, ◌-◌, ◌<◌, ◌≤◌, ◌^◌, min, nat_le, Bool, true, false, if◌then◌else◌, inl, inr, List, [], ◌∷◌, ◌++◌, length, map, take, drop, replicate, Option, None, refl, sym, ◌∙◌, ap, subst, length-append, arith}
use Rattle.std.proofs.Math.Seq.{take-add}
use Rattle.std.proofs.lemmas.Bool.{cases_eq, leb-true, le-leb}
use Rattle.std.proofs.lemmas.List.{append-nil, length-replicate, length-take, length-drop, take-take, take-append-le, drop-append-le, drop-drop, drop-take}
use Rattle.stream_buf.specs.Ring.{Buffer, buffer, overlaid}
use Rattle.stream_buf.specs.declared.ranges.Range.{Range}
use Rattle.stream_buf.specs.Ranges.{range, covered, AreApart, AreWithin, with_range, further}
use Rattle.stream_buf.specs.Receiving.{ReceiveView, nothing_received, front, behind_front, runs, ranges, kept_count, laid, is_taken, joined, after_insert, read_count, after_read, after_forgetting, IsReceiving}
use Rattle.stream_buf.specs.Stored.{kept_places, receive_view, IsStored, filled_to, laid_at}
use Rattle.stream_buf.proofs.Inserting.{front_ahead, all_behind, laid_none, ranges_laid_none}
use Rattle.stream_buf.proofs.Taking.{taken_first, taken_ahead}
use Rattle.stream_buf.proofs.Joining.{apart_with, within_with, within_further, within_nearer}
use Rattle.stream_buf.proofs.Kept.{covered_within, runs_kept, ranges_kept, octets_kept}
use Rattle.stream_buf.proofs.Storing.{length-kept, none_kept, kept_more, kept_laid, length-laid_at, front_joined, behind_joined, gap_kept}

abbrev view : List ℕ → List (Option ℕ) → ℕ → ReceiveView
view readable kept capacity = record { readable = readable; kept = kept; capacity = capacity }

-- with these places, and none else kept
abbrev with_places : ReceiveView → List (Option ℕ) → ReceiveView
with_places b places = view (b.readable ++ front places) (behind_front places) b.capacity

nothing : (t : Bool) (xs : List ℕ) → xs ≡ [] → (if t then xs else []) ≡ []
nothing true xs none = none
nothing false xs none = refl

same : (t : Bool) (a b : ReceiveView) → a ≡ b → (if t then a else b) ≡ b
same true a b is = is
same false a b is = refl

-- octets that are not taken change nothing
pub refused_joined : (b : ReceiveView) (distance : ℕ) (new : List ℕ) → is_taken b distance new ≡ false → joined b distance new ≡ []
refused_joined b distance new refused = ap (λ (t : Bool). if t then front (laid b.kept distance new) else []) refused

pub refused_inserted : (b : ReceiveView) (distance : ℕ) (new : List ℕ) → is_taken b distance new ≡ false → after_insert b distance new ≡ b
refused_inserted b distance new refused = ap (λ (t : Bool). if t then with_places b (laid b.kept distance new) else b) refused

-- nothing came
pub viewed_new : (capacity : ℕ) → receive_view (buffer [] capacity) 0 [] ≡ nothing_received capacity
viewed_new capacity =
    let same : capacity - 0 ≡ capacity = omega arith in
    ap (λ (ps : List (Option ℕ)). record { readable = []; kept = ps; capacity = capacity }) (none_kept [] (capacity - 0) ∙ ap (λ (n : ℕ). replicate n None) same)

-- octets that are laid behind the first ones
module _ (n distance : ℕ) (new octets : List ℕ) (there : n ≤ length octets) where
  filled_behind : drop n (filled_to (n + distance) octets) ≡ filled_to distance (drop n octets)
  filled_behind =
      let same : n + distance - length octets ≡ distance - length (drop n octets) = omega (arith, length-drop n octets, there) in
      drop-append-le n octets (replicate (n + distance - length octets) 0) there ∙ ap (λ (k : ℕ). drop n octets ++ replicate k 0) same

  filled_before : take n (filled_to (n + distance) octets) ≡ take n octets
  filled_before = take-append-le n octets (replicate (n + distance - length octets) 0) there

  reached : n + distance ≤ length (filled_to (n + distance) octets)
  reached = omega (arith, length-append octets (replicate (n + distance - length octets) 0), length-replicate {A = ℕ} (n + distance - length octets) 0)

  pub laid_before : take n (laid_at (n + distance) new octets) ≡ take n octets
  laid_before =
      let l : List ℕ = filled_to (n + distance) octets in
      let first : List ℕ = take (n + distance) l in
      let size = length-take (n + distance) l in
      take-append-le n (first ++ new) (drop (n + distance + length new) l) (omega (arith, size, reached, length-append first new))
      ∙ take-append-le n first new (omega (arith, size, reached)) ∙ take-take n (n + distance) l (omega arith) ∙ filled_before

  pub laid_behind : drop n (laid_at (n + distance) new octets) ≡ laid_at distance new (drop n octets)
  laid_behind =
      let l : List ℕ = filled_to (n + distance) octets in
      let first : List ℕ = take (n + distance) l in
      let size = length-take (n + distance) l in
      let same : n + distance + length new ≡ n + (distance + length new) = omega arith in
      drop-append-le n (first ++ new) (drop (n + distance + length new) l) (omega (arith, size, reached, length-append first new))
      ∙ ap (λ (xs : List ℕ). xs ++ drop (n + distance + length new) l)
      (drop-append-le n first new (omega (arith, size, reached)) ∙ ap (λ (xs : List ℕ). xs ++ new) (drop-take n distance l))
      ∙ ap (λ (k : ℕ). take distance (drop n l) ++ new ++ drop k l) same
      ∙ ap (λ (xs : List ℕ). take distance (drop n l) ++ new ++ xs) (sym (drop-drop (distance + length new) n l))
      ∙ ap (λ (xs : List ℕ). overlaid distance new xs) filled_behind

module _ (octets : Buffer) (n : ℕ) (rs : List Range) (stored : IsStored octets n rs) where
  reach : AreWithin (length (drop n octets.items)) rs
  reach = subst (λ (k : ℕ). AreWithin k rs) (sym (length-drop n octets.items)) stored.ahead

  fits_ahead : length (drop n octets.items) ≤ octets.capacity - n
  fits_ahead = omega (arith, length-drop n octets.items, stored.fits.0)

  pub room_viewed : length (receive_view octets n rs).kept ≡ octets.capacity - n
  room_viewed = length-kept rs (drop n octets.items) (octets.capacity - n)

  pub readable_viewed : length (receive_view octets n rs).readable ≡ n
  readable_viewed = omega (arith, length-take n octets.items, stored.there)

  pub runs_viewed : runs (receive_view octets n rs).kept ≡ rs
  runs_viewed = runs_kept rs (drop n octets.items) (octets.capacity - n) stored.apart reach fits_ahead

  pub ranges_viewed : ranges (receive_view octets n rs).kept ≡ length rs
  ranges_viewed = ranges_kept rs (drop n octets.items) (octets.capacity - n) stored.apart reach fits_ahead

  pub octets_viewed : kept_count (receive_view octets n rs).kept ≡ covered rs
  octets_viewed = octets_kept rs (drop n octets.items) (octets.capacity - n) stored.apart reach fits_ahead

  pub few_covered : covered rs < 2 ^ 64
  few_covered = omega (arith, covered_within rs (length octets.items - n) stored.apart stored.ahead, stored.fits.0, stored.fits.1)

  pub receives : IsReceiving (receive_view octets n rs)
  receives = record {
    places = omega (arith, room_viewed, readable_viewed, stored.there, stored.fits.0);
    gap = gap_kept rs (drop n octets.items) (octets.capacity - n) stored.apart;
    few = omega (arith, ranges_viewed, stored.few);
  }

  -- what is kept is forgotten
  pub viewed_forgotten : receive_view (buffer (take n octets.items) octets.capacity) n [] ≡ after_forgetting (receive_view octets n rs)
  viewed_forgotten =
      ap (λ (xs : List ℕ). view xs (kept_places [] (drop n (take n octets.items)) (octets.capacity - n)) octets.capacity) (take-take n n octets.items (omega arith))
      ∙ ap (λ (ps : List (Option ℕ)). view (take n octets.items) ps octets.capacity)
      (none_kept (drop n (take n octets.items)) (octets.capacity - n) ∙ ap (λ (k : ℕ). replicate k None) (sym room_viewed))

  -- so many octets are read
  pub viewed_read : (len count : ℕ) → count ≡ min len n
      → receive_view (buffer (drop count octets.items) octets.capacity) (n - count) rs ≡ after_read (receive_view octets n rs) len
  viewed_read len count is =
      let counted : count ≡ read_count (receive_view octets n rs) len = is ∙ ap (λ (k : ℕ). min len k) (sym readable_viewed) in
      let less : count + (n - count) ≡ n = omega (arith, is) in
      let readable : take (n - count) (drop count octets.items) ≡ drop count (take n octets.items) =
      sym (drop-take count (n - count) octets.items) ∙ ap (λ (k : ℕ). drop count (take k octets.items)) less in
      let ahead : drop (n - count) (drop count octets.items) ≡ drop n octets.items = drop-drop (n - count) count octets.items ∙ ap (λ (k : ℕ). drop k octets.items) less in
      let more : octets.capacity - (n - count) ≡ octets.capacity - n + count = omega (arith, is, stored.there, stored.fits.0) in
      ap (λ (xs : List ℕ). view xs (kept_places rs (drop (n - count) (drop count octets.items)) (octets.capacity - (n - count))) octets.capacity) readable
      ∙ ap (λ (xs : List ℕ). view (drop count (take n octets.items)) (kept_places rs xs (octets.capacity - (n - count))) octets.capacity) ahead
      ∙ ap (λ (k : ℕ). view (drop count (take n octets.items)) (kept_places rs (drop n octets.items) k) octets.capacity) more
      ∙ ap (λ (ps : List (Option ℕ)). view (drop count (take n octets.items)) ps octets.capacity) (kept_more rs (drop n octets.items) (octets.capacity - n) count fits_ahead)
      ∙ ap (λ (k : ℕ). view (drop k (take n octets.items)) (kept_places rs (drop n octets.items) (octets.capacity - n) ++ replicate k None) octets.capacity) counted

  -- and neither do none
  pub none_taken : (distance : ℕ) (new : List ℕ) → distance + length new ≤ length (receive_view octets n rs).kept → length new ≡ 0
      → is_taken (receive_view octets n rs) distance new ≡ true
  none_taken distance new within none =
      elim (cases_eq distance 0) [
        | inl first ↦ taken_first (receive_view octets n rs) distance new first
        | inr ahead ↦
            let same = ranges_laid_none (receive_view octets n rs).kept distance new none in
            sym (taken_ahead (receive_view octets n rs) distance new (length rs) receives ahead within (sym (same ∙ ranges_viewed))) ∙ le-leb (length rs) 32 stored.few
      ]

  pub none_joined : (distance : ℕ) → joined (receive_view octets n rs) distance [] ≡ []
  none_joined distance =
      let b : ReceiveView = receive_view octets n rs in
      nothing (is_taken b distance []) (front (laid b.kept distance [])) (ap (λ (ps : List (Option ℕ)). front ps) (laid_none b.kept distance) ∙ receives.gap)

  pub none_inserted : (distance : ℕ) → after_insert (receive_view octets n rs) distance [] ≡ receive_view octets n rs
  none_inserted distance =
      let b : ReceiveView = receive_view octets n rs in
      let gap = receives.gap in
      same (is_taken b distance []) (with_places b (laid b.kept distance [])) b
      (ap (λ (ps : List (Option ℕ)). with_places b ps) (laid_none b.kept distance)
      ∙ ap (λ (xs : List ℕ). view (b.readable ++ xs) (behind_front b.kept) b.capacity) gap
      ∙ ap (λ (xs : List ℕ). view xs (behind_front b.kept) b.capacity) (append-nil b.readable)
      ∙ ap (λ (ps : List (Option ℕ)). view b.readable ps b.capacity) (all_behind b.kept gap))

  -- octets that come, with room for them
  module _ (distance : ℕ) (new : List ℕ) (within : distance + length new ≤ length (receive_view octets n rs).kept) (some : 0 < length new) where
    laid_fits : length (laid_at distance new (drop n octets.items)) ≤ octets.capacity - n
    laid_fits = omega (arith, length-laid_at distance new (drop n octets.items), fits_ahead, within, room_viewed)

    laid_reach : AreWithin (length (laid_at distance new (drop n octets.items))) (with_range rs (range distance (distance + length new)))
    laid_reach =
        within_with rs (length (laid_at distance new (drop n octets.items))) (range distance (distance + length new))
        (within_further rs (length (drop n octets.items)) (length (laid_at distance new (drop n octets.items)))
        (omega (arith, length-laid_at distance new (drop n octets.items))) reach)
        (omega (arith, length-laid_at distance new (drop n octets.items)))

    pub places_laid : laid (receive_view octets n rs).kept distance new
        ≡ kept_places (with_range rs (range distance (distance + length new))) (laid_at distance new (drop n octets.items)) (octets.capacity - n)
    places_laid =
        kept_laid rs (drop n octets.items) new (octets.capacity - n) distance stored.apart reach (omega (arith, within, room_viewed)) some

    -- are taken where they make no range too many
    pub ahead_taken : 0 < distance → nat_le (length (with_range rs (range distance (distance + length new)))) 32 ≡ is_taken (receive_view octets n rs) distance new
    ahead_taken ahead =
        taken_ahead (receive_view octets n rs) distance new (length (with_range rs (range distance (distance + length new)))) receives (λ first. omega (arith, ahead, first)) within
        (sym (ap (λ (ps : List (Option ℕ)). ranges ps) places_laid
        ∙ ranges_kept (with_range rs (range distance (distance + length new))) (laid_at distance new (drop n octets.items)) (octets.capacity - n)
        (apart_with rs 1 (range distance (distance + length new)) stored.apart (omega (arith, ahead)) (omega (arith, some))) laid_reach laid_fits))

  -- octets from RCV.NXT on join what is readable, with what is kept up to the first gap behind them
  module _ (new : List ℕ) (within : length new ≤ length (receive_view octets n rs).kept) (some : 0 < length new) (count : ℕ) (left : List Range)
      (with : with_range rs (range 0 (length new)) ≡ range 0 count ∷ map (further count) left) (apart : AreApart 1 left) where
    begins : with_range rs (range 0 (0 + length new)) ≡ range 0 count ∷ map (further count) left
    begins = let same : 0 + length new ≡ length new = omega arith in ap (λ (k : ℕ). with_range rs (range 0 k)) same ∙ with

    from_next : 0 + length new ≤ length (receive_view octets n rs).kept
    from_next = omega (arith, within)

    ahead_reach : AreWithin (length (laid_at 0 new (drop n octets.items))) (range 0 count ∷ map (further count) left)
    ahead_reach = subst (AreWithin (length (laid_at 0 new (drop n octets.items)))) begins (laid_reach 0 new from_next some)

    first_places : laid (receive_view octets n rs).kept 0 new ≡ kept_places (range 0 count ∷ map (further count) left) (laid_at 0 new (drop n octets.items)) (octets.capacity - n)
    first_places =
        places_laid 0 new from_next some
        ∙ ap (λ (l : List Range). kept_places l (laid_at 0 new (drop n octets.items)) (octets.capacity - n)) begins

    front_appended : front (laid (receive_view octets n rs).kept 0 new) ≡ take count (laid_at 0 new (drop n octets.items))
    front_appended =
        ap (λ (ps : List (Option ℕ)). front ps) first_places
        ∙ front_joined count left (laid_at 0 new (drop n octets.items)) (octets.capacity - n) (laid_fits 0 new from_next some) ahead_reach.0 apart

    behind_appended : behind_front (laid (receive_view octets n rs).kept 0 new) ≡ kept_places left (drop count (laid_at 0 new (drop n octets.items))) (octets.capacity - n - count)
    behind_appended =
        ap (λ (ps : List (Option ℕ)). behind_front ps) first_places
        ∙ behind_joined count left (laid_at 0 new (drop n octets.items)) (octets.capacity - n) (laid_fits 0 new from_next some) ahead_reach.0 apart

    pub count_appended : count ≡ length (joined (receive_view octets n rs) 0 new)
    count_appended =
        let taken = taken_first (receive_view octets n rs) 0 new refl in
        let is : joined (receive_view octets n rs) 0 new ≡ take count (laid_at 0 new (drop n octets.items)) =
        ap (λ (t : Bool). if t then front (laid (receive_view octets n rs).kept 0 new) else []) taken ∙ front_appended in
        let size = ap (λ (xs : List ℕ). length xs) is in
        omega (arith, size, length-take count (laid_at 0 new (drop n octets.items)), ahead_reach.0)

    -- the ring, by its two parts
    before_appended : take n (laid_at n new octets.items) ≡ take n octets.items
    before_appended =
        let same : n ≡ n + 0 = omega arith in
        ap (λ (k : ℕ). take n (laid_at k new octets.items)) same ∙ laid_before n 0 new octets.items stored.there

    ahead_appended : drop n (laid_at n new octets.items) ≡ laid_at 0 new (drop n octets.items)
    ahead_appended =
        let same : n ≡ n + 0 = omega arith in
        ap (λ (k : ℕ). drop n (laid_at k new octets.items)) same ∙ laid_behind n 0 new octets.items stored.there

    pub viewed_appended : receive_view (buffer (laid_at n new octets.items) octets.capacity) (n + count) left ≡ after_insert (receive_view octets n rs) 0 new
    viewed_appended =
        let b : ReceiveView = receive_view octets n rs in
        let items : List ℕ = laid_at n new octets.items in
        let ahead : List ℕ = laid_at 0 new (drop n octets.items) in
        let readable : take (n + count) items ≡ take n octets.items ++ front (laid b.kept 0 new) =
        take-add n count items ∙ ap (λ (xs : List ℕ). xs ++ take count (drop n items)) before_appended
        ∙ ap (λ (xs : List ℕ). take n octets.items ++ take count xs) ahead_appended
        ∙ ap (λ (xs : List ℕ). take n octets.items ++ xs) (sym front_appended) in
        let rest : drop (n + count) items ≡ drop count ahead = sym (drop-drop count n items) ∙ ap (λ (xs : List ℕ). drop count xs) ahead_appended in
        let room : octets.capacity - (n + count) ≡ octets.capacity - n - count = omega arith in
        ap (λ (xs : List ℕ). view xs (kept_places left (drop (n + count) items) (octets.capacity - (n + count))) octets.capacity) readable
        ∙ ap (λ (xs : List ℕ). view (take n octets.items ++ front (laid b.kept 0 new)) (kept_places left xs (octets.capacity - (n + count))) octets.capacity) rest
        ∙ ap (λ (k : ℕ). view (take n octets.items ++ front (laid b.kept 0 new)) (kept_places left (drop count ahead) k) octets.capacity) room
        ∙ ap (λ (ps : List (Option ℕ)). view (take n octets.items ++ front (laid b.kept 0 new)) ps octets.capacity) (sym behind_appended)
        ∙ ap (λ (t : Bool). if t then with_places b (laid b.kept 0 new) else b) (sym (taken_first b 0 new refl))

    pub length_appended : n + length new ≤ octets.capacity
    length_appended = omega (arith, within, room_viewed, stored.there, stored.fits.0)

    pub stored_appended : length left ≤ 32 → IsStored (buffer (laid_at n new octets.items) octets.capacity) (n + count) left
    stored_appended few =
        let size = ap (λ (xs : List ℕ). length xs) ahead_appended in
        let whole = length-laid_at n new octets.items in
        let behind = length-drop n (laid_at n new octets.items) in
        let reached = length-laid_at 0 new (drop n octets.items) in
        let place : length (laid_at n new octets.items) - (n + count) + count ≡ length (laid_at 0 new (drop n octets.items)) =
        omega (arith, size, behind, ahead_reach.0, whole, stored.there) in
        record {
          apart = apart;
          few = few;
          fits = (omega (arith, whole, stored.fits.0, length_appended), stored.fits.1);
          there = omega (arith, whole, size, behind, ahead_reach.0, stored.there);
          ahead = within_nearer left (length (laid_at n new octets.items) - (n + count)) count
              (subst (λ (k : ℕ). AreWithin k (map (further count) left)) (sym place) ahead_reach.1);
        }

  -- octets ahead of a gap are kept, where they are taken
  module _ (distance : ℕ) (new : List ℕ) (ahead : 0 < distance) (within : distance + length new ≤ length (receive_view octets n rs).kept) (some : 0 < length new)
      (taken : is_taken (receive_view octets n rs) distance new ≡ true) where
    pub few_kept : length (with_range rs (range distance (distance + length new))) ≤ 32
    few_kept = leb-true (length (with_range rs (range distance (distance + length new)))) 32 (ahead_taken distance new within some ahead ∙ taken)

    gap_stays : front (laid (receive_view octets n rs).kept distance new) ≡ []
    gap_stays = front_ahead (receive_view octets n rs).kept distance new ahead within receives.gap

    pub none_readable : length (joined (receive_view octets n rs) distance new) ≡ 0
    none_readable =
        ap (λ (t : Bool). length (if t then front (laid (receive_view octets n rs).kept distance new) else [])) taken ∙ ap (λ (xs : List ℕ). length xs) gap_stays

    pub viewed_kept : receive_view (buffer (laid_at (n + distance) new octets.items) octets.capacity) n (with_range rs (range distance (distance + length new)))
        ≡ after_insert (receive_view octets n rs) distance new
    viewed_kept =
        let b : ReceiveView = receive_view octets n rs in
        let all : List Range = with_range rs (range distance (distance + length new)) in
        let items : List ℕ = laid_at (n + distance) new octets.items in
        let places : List (Option ℕ) = laid b.kept distance new in
        ap (λ (xs : List ℕ). view xs (kept_places all (drop n items) (octets.capacity - n)) octets.capacity) (laid_before n distance new octets.items stored.there)
        ∙ ap (λ (xs : List ℕ). view (take n octets.items) (kept_places all xs (octets.capacity - n)) octets.capacity) (laid_behind n distance new octets.items stored.there)
        ∙ ap (λ (ps : List (Option ℕ)). view (take n octets.items) ps octets.capacity) (sym (places_laid distance new within some))
        ∙ ap (λ (ps : List (Option ℕ)). view (take n octets.items) ps octets.capacity) (sym (all_behind places gap_stays))
        ∙ ap (λ (xs : List ℕ). view xs (behind_front places) octets.capacity) (sym (append-nil (take n octets.items)))
        ∙ ap (λ (xs : List ℕ). view (take n octets.items ++ xs) (behind_front places) octets.capacity) (sym gap_stays)
        ∙ ap (λ (t : Bool). if t then with_places b places else b) (sym taken)

    pub length_kept : n + distance + length new ≤ octets.capacity
    length_kept = omega (arith, within, room_viewed, stored.there, stored.fits.0)

    pub stored_kept : IsStored (buffer (laid_at (n + distance) new octets.items) octets.capacity) n (with_range rs (range distance (distance + length new)))
    stored_kept =
        let whole = length-laid_at (n + distance) new octets.items in
        record {
          apart = apart_with rs 1 (range distance (distance + length new)) stored.apart (omega (arith, ahead)) (omega (arith, some));
          few = few_kept;
          fits = (omega (arith, whole, stored.fits.0, length_kept), stored.fits.1);
          there = omega (arith, whole, stored.there);
          ahead = within_with rs (length (laid_at (n + distance) new octets.items) - n) (range distance (distance + length new))
              (within_further rs (length octets.items - n) (length (laid_at (n + distance) new octets.items) - n) (omega (arith, whole)) stored.ahead)
              (omega (arith, whole, stored.there));
        }
