-- What the octets of a segment make readable or keep: each was kept, or the segment brings it, and it lies in the window.
use Rattle.std.proofs.Common.{◌≡◌, ◌⊎◌, ℕ, zero, suc, ◌+◌, ◌-◌, ◌<◌, ◌≤◌, ◌^◌, if◌then◌else◌, Bool, true, false, List, [], ◌∷◌, ◌++◌, length, take, drop, Option, Some, inl, inr, arith, sym, ◌∙◌, ap, subst}
use Rattle.std.specs.List.{slice_get}
use Rattle.std.proofs.lemmas.List.{length-take}
use Rattle.std.proofs.lemmas.Option.{slice_get_within, slice_get-get_or}
use Rattle.std.proofs.lemmas.Bool.Decides.{leb_tells}
use Rattle.stream_buf.specs.Receiving.{ReceiveView, front, behind_front, laid, is_taken}
use Rattle.tcp_segment.specs.Segment.{Segment}
use Rattle.tcp_segment.specs.Wire.{past}
use Rattle.tcp_halves.specs.Halves.{Receiving}
use Rattle.tcp_halves.specs.Numbers.{is_before}
use Rattle.tcp_halves.specs.Stream.{buffer_of, distance_of, octets_within, octets_gained, after_octets, receive_window}
use Rattle.tcp_halves.proofs.Keeping.{inserted_readable}
use Rattle.tcp_state.specs.View.{View, IsSound}
use Rattle.stream_law.specs.ChannelViews.{kept_at}
use Rattle.stream_law.proofs.Kept.{front_stands, behind_stands, laid_within}
use Rattle.stream_law.proofs.Sizes.{window-fits, window-has-places}

-- a segment has this octet, at this distance past RCV.NXT, in the window
abbrev pub IsBrought : Receiving → Segment → ℕ → ℕ → Type 0
IsBrought r s distance octet = (j : ℕ) × (slice_get s.octets j ≡ Some octet) × (past (s.number + j) r.rnext ≡ distance) × (distance < receive_window r)

-- it was kept there, or is brought
abbrev pub IsKnown : Receiving → Segment → ℕ → ℕ → Type 0
IsKnown r s distance octet = (kept_at r.kept distance ≡ Some octet) ⊎ IsBrought r s distance octet

-- a place of what is cut out of a list
slice_get-take : (n : ℕ) (xs : List ℕ) (i o : ℕ) → slice_get (take n xs) i ≡ Some o → slice_get xs i ≡ Some o
slice_get-take zero xs i o e = let bad : slice_get [] i ≡ Some o = e in cc
slice_get-take (suc n) [] i o e = e
slice_get-take (suc n) (x ∷ xs) zero o e = e
slice_get-take (suc n) (x ∷ xs) (suc i) o e = slice_get-take n xs i o e

slice_get-drop : (k : ℕ) (xs : List ℕ) (i o : ℕ) → slice_get (drop k xs) i ≡ Some o → slice_get xs (k + i) ≡ Some o
slice_get-drop zero xs i o e = subst (λ j. slice_get xs j ≡ Some o) (omega arith) e
slice_get-drop (suc k) [] i o e = let bad : slice_get [] i ≡ Some o = e in cc
slice_get-drop (suc k) (x ∷ xs) i o e =
    let place : suc (k + i) ≡ suc k + i = omega arith in
    subst (λ j. slice_get (x ∷ xs) j ≡ Some o) place (slice_get-drop k xs i o e)

module _ (v : View) (s : Segment) (sound : IsSound v) (short : length s.octets < 2 ^ 16) (number : s.number < 2 ^ 32) where
  abbrev r : Receiving
  r = v.receiving

  -- those that lie in the window stand there one after another
  within_brought : (k o : ℕ) → slice_get (octets_within r s.number s.octets) k ≡ Some o → IsBrought r s (distance_of r s.number + k) o
  within_brought k o e = of (is_before r.rnext s.number) e
    where
      of : (ahead : Bool) → slice_get (if ahead then take (receive_window r - past s.number r.rnext) s.octets else take (receive_window r) (drop (past r.rnext s.number) s.octets)) k ≡ Some o
          → IsBrought r s ((if ahead then past s.number r.rnext else 0) + k) o
      of true e =
          let cut = slice_get_within (take (receive_window r - past s.number r.rnext) s.octets) k o e in
          let size = length-take (receive_window r - past s.number r.rnext) s.octets in
          let below : past s.number r.rnext + k < receive_window r = omega (arith, cut, size) in
          (k, slice_get-take (receive_window r - past s.number r.rnext) s.octets k o e, omega (arith, below, number, sound.rnext, window-fits v sound), below)
      of false e =
          let cut = slice_get_within (take (receive_window r) (drop (past r.rnext s.number) s.octets)) k o e in
          let size = length-take (receive_window r) (drop (past r.rnext s.number) s.octets) in
          let below : k < receive_window r = omega (arith, cut, size) in
          let there = slice_get-drop (past r.rnext s.number) s.octets k o (slice_get-take (receive_window r) (drop (past r.rnext s.number) s.octets) k o e) in
          let within = slice_get_within s.octets (past r.rnext s.number + k) o there in
          (past r.rnext s.number + k, there, omega (arith, number, sound.rnext, within, short), omega (arith, below))

  -- and have places
  within_places : 0 < length (octets_within r s.number s.octets) → distance_of r s.number + length (octets_within r s.number s.octets) ≤ length r.kept
  within_places some = of (is_before r.rnext s.number) some
    where
      of : (ahead : Bool) → 0 < length (if ahead then take (receive_window r - past s.number r.rnext) s.octets else take (receive_window r) (drop (past r.rnext s.number) s.octets))
          → (if ahead then past s.number r.rnext else 0) + length (if ahead then take (receive_window r - past s.number r.rnext) s.octets else take (receive_window r) (drop (past r.rnext s.number) s.octets)) ≤ length r.kept
      of true some = omega (arith, some, length-take (receive_window r - past s.number r.rnext) s.octets, window-has-places v sound)
      of false some = omega (arith, some, length-take (receive_window r) (drop (past r.rnext s.number) s.octets), window-has-places v sound)

  abbrev laid_by : List (Option ℕ)
  laid_by = laid r.kept (distance_of r s.number) (octets_within r s.number s.octets)

  laid_known : (i o : ℕ) → kept_at laid_by i ≡ Some o → IsKnown r s i o
  laid_known i o e = elim (laid_within r.kept (distance_of r s.number) (octets_within r s.number s.octets) i o within_places e) [
    | inl t ↦ inl t
    | inr t ↦ inr (subst (λ d. IsBrought r s d o) t.2 (within_brought t.0 o t.1))
  ]

  abbrev buffer : Bool → ReceiveView
  buffer taken = if taken then record (buffer_of r) { readable = r.readable ++ front laid_by; kept = behind_front laid_by } else buffer_of r

  -- what becomes readable is known ..
  pub gained_known : (i o : ℕ) → slice_get (octets_gained r s.number s.octets) i ≡ Some o → IsKnown r s i o
  gained_known = by (is_taken (buffer_of r) (distance_of r s.number) (octets_within r s.number s.octets))
    where
      by : (taken : Bool) (i o : ℕ) → slice_get (if taken then front laid_by else []) i ≡ Some o → IsKnown r s i o
      by true i o e = laid_known i o (front_stands laid_by i o e)
      by false i o e = let bad : slice_get [] i ≡ Some o = e in cc

  -- .. and what is kept behind it
  pub kept_known : (i o : ℕ) → kept_at (after_octets r s.number s.octets).kept i ≡ Some o → IsKnown r s (length (octets_gained r s.number s.octets) + i) o
  kept_known = by (is_taken (buffer_of r) (distance_of r s.number) (octets_within r s.number s.octets))
    where
      by : (taken : Bool) (i o : ℕ) → kept_at (buffer taken).kept i ≡ Some o → IsKnown r s (length (if taken then front laid_by else []) + i) o
      by true i o e = laid_known (length (front laid_by) + i) o (sym (behind_stands laid_by i) ∙ e)
      by false i o e = let place : 0 + i ≡ i = omega arith in inl (ap (kept_at r.kept) place ∙ e)

  pub all_readable : (after_octets r s.number s.octets).readable ≡ r.readable ++ octets_gained r s.number s.octets
  all_readable = inserted_readable (buffer_of r) (distance_of r s.number) (octets_within r s.number s.octets)

  -- the window has room for it
  known_within : (i o : ℕ) → IsKnown r s i o → i < receive_window r
  known_within i o known = elim known [ inl kept ↦ sound.kept i o kept | inr brought ↦ brought.3 ]

  pub gained_within : length (octets_gained r s.number s.octets) ≤ receive_window r
  gained_within = elim (leb_tells (length gained) (receive_window r)) [
    | inl t ↦ t.1
    | inr t ↦
        let last : receive_window r < length gained = omega (arith, t.1) in
        let there = slice_get-get_or gained (receive_window r) 0 last in
        absurd (omega (arith, known_within (receive_window r) _ (gained_known (receive_window r) _ there)))
  ]
    where
      gained : List ℕ
      gained = octets_gained r s.number s.octets
