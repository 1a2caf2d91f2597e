-- Why what is kept ahead of a gap stays in the window, and the octets gained never pass it.
use Rattle.std.proofs.Common.{nat_le, ◌≡◌, ℕ, zero, suc, ◌+◌, ◌-◌, ◌*◌, ◌%◌, ◌^◌, ◌<◌, ◌≤◌, if◌then◌else◌, Bool, true, false, List, [], ◌∷◌, ◌++◌, length, get_or, take, drop, replicate, Option, Some, None, inl, inr, arith, refl, sym, ◌∙◌, ap, subst, length-append}
use Rattle.std.proofs.lemmas.List.{length-take, length-drop, length-replicate, get_or-drop, append-nil}
use Rattle.std.proofs.lemmas.Bool.{leb-true}
use Rattle.std.proofs.lemmas.Bool.Decides.{leb_tells}
use Rattle.std.proofs.lemmas.Nat.{div-add-mod', mod_below}
use Rattle.stream_buf.specs.Receiving.{ReceiveView, nothing_received, front, behind_front, laid, is_taken, joined, after_insert, forgotten, IsReceiving}
use Rattle.stream_buf.proofs.Inserting.{all_behind, laid_none, receives_laid, receives_read, receives_nothing}
use Rattle.stream_buf.proofs.Standing.{laid_before, laid_behind, at_more}
use Rattle.stream_buf.proofs.Taking.{few_left}
use Rattle.tcp_segment.specs.Wire.{past}
use Rattle.tcp_halves.specs.Numbers.{is_before}
use Rattle.tcp_segment.specs.declared.TheConstants.{MSS}
use Rattle.tcp_halves.specs.declared.buffers.TheConstants.{CAPACITY, LARGEST_CAPACITY}
use Rattle.tcp_halves.specs.declared.buffers.Manner.{Manner}
use Rattle.tcp_halves.specs.Halves.{Receiving}
use Rattle.tcp_halves.specs.Stream.{size_in, own_unit, receiving_nothing, receiving_settled, buffer_of, ReceivingFits, KeptInWindow, receive_window, after_syn, distance_of, octets_within, octets_gained, after_octets, after_end, after_read}
use Rattle.tcp_halves.specs.Windows.{receive_room, has_grown, whole_units, after_advertisement, syn_window, after_syn_advertisement}
use Rattle.tcp_halves.proofs.Choices.{either}

-- every octet kept in these places lies below a distance
abbrev pub AreBelow : List (Option ℕ) → ℕ → Type 0
AreBelow places w = (distance octet : ℕ) → get_or places distance None ≡ Some octet → distance < w

-- the octets in front stand there
pub front_at : (places : List (Option ℕ)) (i : ℕ) → i < length (front places) → get_or places i None ≡ Some (get_or (front places) i 0)
front_at [] i below = absurd (omega (arith, below))
front_at (None ∷ places) i below = absurd (omega (arith, below))
front_at (Some x ∷ places) zero below = refl
front_at (Some x ∷ places) (suc i) below = front_at places i (omega (arith, below))

-- so they are no more than the distance that all lie below
pub front_below : (places : List (Option ℕ)) (w : ℕ) → AreBelow places w → length (front places) ≤ w
front_below places w below = elim (leb_tells (suc w) (length (front places))) [
  | inl t ↦ let more = below w (get_or (front places) w 0) (front_at places w t.1) in absurd (omega (arith, more))
  | inr t ↦ omega (arith, t.1)
]

-- behind the front they lie so much nearer
pub behind_below : (places : List (Option ℕ)) (w : ℕ) → AreBelow places w → AreBelow (behind_front places) (w - length (front places))
behind_below places w below distance octet at =
    let n = length (front places) in
    let near = below (n + distance) octet (sym (get_or-drop n places distance None) ∙ at) in
    omega (arith, near)

-- octets laid below a distance leave all below it
pub laid_below : (places : List (Option ℕ)) (distance : ℕ) (octets : List ℕ) (w : ℕ) → distance + length octets ≤ length places → distance + length octets ≤ w → AreBelow places w
    → AreBelow (laid places distance octets) w
laid_below places distance octets w within room below i octet at =
    elim (leb_tells (suc i) distance) [
      | inl t ↦ below i octet (sym (laid_before places distance octets i within t.1) ∙ at)
      | inr t ↦ elim (leb_tells (suc i) (distance + length octets)) [
        | inl u ↦ omega (arith, u.1, room)
        | inr u ↦ below i octet (sym (laid_behind places distance octets i (i - (distance + length octets)) within (omega (arith, u.1))) ∙ at)
      ]
    ]

-- places in which nothing is kept
pub at_none : (count i : ℕ) → get_or (replicate {A = Option ℕ} count None) i None ≡ None
at_none count i = at_more [] count i

pub none_below : (count w : ℕ) → AreBelow (replicate count None) w
none_below count w distance octet at = let bad : None ≡ Some octet = sym (at_none count distance) ∙ at in cc

-- nothing inserted changes nothing
pub nothing_joined : (b : ReceiveView) (distance : ℕ) → IsReceiving b → joined b distance [] ≡ []
nothing_joined b distance was =
    either (List ℕ) (λ l. l ≡ []) (is_taken b distance []) (front (laid b.kept distance [])) [] (λ taken. ap front (laid_none b.kept distance) ∙ was.gap) (λ refused. refl)

pub nothing_inserted : (b : ReceiveView) (distance : ℕ) → IsReceiving b → after_insert b distance [] ≡ b
nothing_inserted b distance was =
    either ReceiveView (λ x. x ≡ b) (is_taken b distance []) _ b
    (λ taken.
    let same : laid b.kept distance [] ≡ b.kept = laid_none b.kept distance in
    let readable : b.readable ++ front (laid b.kept distance []) ≡ b.readable = ap (λ (xs : List ℕ). b.readable ++ xs) (ap front same ∙ was.gap) ∙ append-nil b.readable in
    let kept : behind_front (laid b.kept distance []) ≡ b.kept = ap behind_front same ∙ all_behind b.kept was.gap in
    ap (λ (xs : List ℕ). record { readable = xs; kept = behind_front (laid b.kept distance []); capacity = b.capacity }) readable
    ∙ ap (λ (ps : List (Option ℕ)). record { readable = b.readable; kept = ps; capacity = b.capacity }) kept)
    (λ refused. refl)

-- what an insertion below a distance makes of a buffer in which all lie below it
pub joined_below : (b : ReceiveView) (distance : ℕ) (octets : List ℕ) (w : ℕ) → distance + length octets ≤ length b.kept → distance + length octets ≤ w → AreBelow b.kept w
    → length (joined b distance octets) ≤ w
joined_below b distance octets w within room below =
    either (List ℕ) (λ l. length l ≤ w) (is_taken b distance octets) (front (laid b.kept distance octets)) []
    (λ taken. front_below (laid b.kept distance octets) w (laid_below b.kept distance octets w within room below)) (λ refused. omega arith)

pub inserted_below : (b : ReceiveView) (distance : ℕ) (octets : List ℕ) (w : ℕ) → distance + length octets ≤ length b.kept → distance + length octets ≤ w → AreBelow b.kept w
    → AreBelow (after_insert b distance octets).kept (w - length (joined b distance octets))
inserted_below b distance octets w within room below = by (is_taken b distance octets)
  where
    by : (test : Bool) → AreBelow (if test then record b { readable = b.readable ++ front (laid b.kept distance octets); kept = behind_front (laid b.kept distance octets) } else b).kept
        (w - length (if test then front (laid b.kept distance octets) else []))
    by true = behind_below (laid b.kept distance octets) w (laid_below b.kept distance octets w within room below)
    by false = λ i octet at. let near = below i octet at in omega (arith, near)

pub inserted_readable : (b : ReceiveView) (distance : ℕ) (octets : List ℕ) → (after_insert b distance octets).readable ≡ b.readable ++ joined b distance octets
inserted_readable b distance octets = by (is_taken b distance octets)
  where
    by : (test : Bool) → (if test then record b { readable = b.readable ++ front (laid b.kept distance octets); kept = behind_front (laid b.kept distance octets) } else b).readable
        ≡ b.readable ++ (if test then front (laid b.kept distance octets) else [])
    by true = refl
    by false = sym (append-nil b.readable)

pub inserted_receives : (b : ReceiveView) (distance : ℕ) (octets : List ℕ) → distance + length octets ≤ length b.kept → IsReceiving b → IsReceiving (after_insert b distance octets)
inserted_receives b distance octets within was =
    either ReceiveView (λ x. IsReceiving x) (is_taken b distance octets) _ b
    (λ taken. receives_laid b distance octets within (few_left b distance octets was taken) was) (λ refused. was)

-- The receiving half.

-- the window is no wider than the places for octets that may still come
pub window_has_places : (r : Receiving) → r.size ≤ r.capacity → ReceivingFits r → IsReceiving (buffer_of r) → receive_window r ≤ length r.kept
window_has_places r sized fits is = omega (arith, sized, fits, is.places)

-- where any octets of a segment lie in the window, they lie below its edge
pub within_window : (r : Receiving) (number : ℕ) (octets : List ℕ) → 0 < length (octets_within r number octets)
    → distance_of r number + length (octets_within r number octets) ≤ receive_window r
within_window r number octets = by (is_before r.rnext number)
  where
    w : ℕ
    w = receive_window r

    by : (test : Bool) → 0 < length (if test then take (w - past number r.rnext) octets else take w (drop (past r.rnext number) octets))
        → (if test then past number r.rnext else 0) + length (if test then take (w - past number r.rnext) octets else take w (drop (past r.rnext number) octets)) ≤ w
    by true some = omega (arith, some, length-take (w - past number r.rnext) octets)
    by false some = omega (arith, length-take w (drop (past r.rnext number) octets))

-- what holds of each receiving half
pub record IsKeeping (r : Receiving) : Type 0 where
  pub small : r.rnext < 2 ^ 32
  pub sized : r.size ≤ r.capacity
  pub most : r.capacity ≤ LARGEST_CAPACITY
  pub fits : ReceivingFits r
  pub buffer : IsReceiving (buffer_of r)
  pub kept : KeptInWindow r
  pub some : 0 < r.unit
  pub few : r.unit ≤ MSS
  pub told : r.size ≤ CAPACITY * r.unit

moved : (rnext edge n : ℕ) → rnext < 2 ^ 32 → n ≤ past edge rnext → past edge ((rnext + n) % 2 ^ 32) ≡ past edge rnext - n
moved rnext edge n small within = omega (arith, small, within)

-- the octets gained never pass the window
pub gained_fits : (r : Receiving) (number : ℕ) (octets : List ℕ) → IsKeeping r → length (octets_gained r number octets) ≤ receive_window r
gained_fits r number octets is =
    let b = buffer_of r in
    let d = distance_of r number in
    let places = window_has_places r is.sized is.fits is.buffer in
    by (octets_within r number octets) (within_window r number octets)
  where
    by : (within : List ℕ) → (0 < length within → distance_of r number + length within ≤ receive_window r) → length (joined (buffer_of r) (distance_of r number) within) ≤ receive_window r
    by [] room = let none = ap (λ (l : List ℕ). length l) (nothing_joined (buffer_of r) (distance_of r number) is.buffer) in omega (arith, none)
    by (x ∷ within) room =
        let below = room (omega arith) in
        let places = window_has_places r is.sized is.fits is.buffer in
        joined_below (buffer_of r) (distance_of r number) (x ∷ within) (receive_window r) (omega (arith, below, places)) below is.kept

-- so many octets at a distance come into the buffer
abbrev pub grown : Receiving → ℕ → List ℕ → Receiving
grown r distance within =
    let buffer = after_insert (buffer_of r) distance within in
    record r { readable = buffer.readable; kept = buffer.kept; rnext = (r.rnext + length (joined (buffer_of r) distance within)) % 2 ^ 32 }

-- what an insertion makes of a buffer, by whether it is taken
abbrev pub inserted_if : ReceiveView → ℕ → List ℕ → Bool → ReceiveView
inserted_if b distance octets test = if test then record b { readable = b.readable ++ front (laid b.kept distance octets); kept = behind_front (laid b.kept distance octets) } else b

whole : (b : ReceiveView) (distance : ℕ) (octets : List ℕ)
    → after_insert b distance octets ≡ record { readable = (after_insert b distance octets).readable; kept = (after_insert b distance octets).kept; capacity = b.capacity }
whole b distance octets = by (is_taken b distance octets)
  where
    by : (test : Bool) → inserted_if b distance octets test
        ≡ record { readable = (inserted_if b distance octets test).readable; kept = (inserted_if b distance octets test).kept; capacity = b.capacity }
    by true = refl
    by false = refl

grown_by_none : (r : Receiving) (distance : ℕ) → r.rnext < 2 ^ 32 → IsReceiving (buffer_of r) → grown r distance [] ≡ r
grown_by_none r distance small is =
    let same = nothing_inserted (buffer_of r) distance is in
    let none = nothing_joined (buffer_of r) distance is in
    let count : length (joined (buffer_of r) distance []) ≡ 0 = ap (λ (l : List ℕ). length l) none in
    let rnext : (r.rnext + length (joined (buffer_of r) distance [])) % 2 ^ 32 ≡ r.rnext = omega (arith, small, count) in
    ap (λ (b : ReceiveView). record { readable = b.readable; kept = b.kept; rnext = (r.rnext + length (joined (buffer_of r) distance [])) % 2 ^ 32; edge = r.edge; size = r.size; capacity = r.capacity; unit = r.unit }) same
    ∙ ap (λ (n : ℕ). record { readable = r.readable; kept = r.kept; rnext = n; edge = r.edge; size = r.size; capacity = r.capacity; unit = r.unit }) rnext

grown_keeps : (r : Receiving) (distance : ℕ) (within : List ℕ) → IsKeeping r → distance + length within ≤ receive_window r → IsKeeping (grown r distance within)
grown_keeps r distance within is room =
    let b = buffer_of r in
    let n = length (joined b distance within) in
    let places = window_has_places r is.sized is.fits is.buffer in
    let inside : distance + length within ≤ length r.kept = omega (arith, room, places) in
    let few : n ≤ receive_window r = joined_below b distance within (receive_window r) inside room is.kept in
    let left : past r.edge ((r.rnext + n) % 2 ^ 32) ≡ receive_window r - n = moved r.rnext r.edge n is.small few in
    let readable = ap (λ (l : List ℕ). length l) (inserted_readable b distance within) in
    record {
      small = omega arith;
      sized = is.sized;
      most = is.most;
      some = is.some;
      few = is.few;
      told = is.told;
      fits = omega (arith, left, few, readable, length-append r.readable (joined b distance within), is.fits);
      buffer = subst IsReceiving (whole b distance within) (inserted_receives b distance within inside is.buffer);
      kept = subst (λ (w : ℕ). AreBelow (grown r distance within).kept w) (sym left) (inserted_below b distance within (receive_window r) inside room is.kept);
    }

grown_within : (r : Receiving) (distance : ℕ) (within : List ℕ) → IsKeeping r → (0 < length within → distance + length within ≤ receive_window r) → IsKeeping (grown r distance within)
grown_within r distance [] is room = subst IsKeeping (sym (grown_by_none r distance is.small is.buffer)) is
grown_within r distance (x ∷ within) is room = grown_keeps r distance (x ∷ within) is (room (omega arith))

pub octets_keep : (r : Receiving) (number : ℕ) (octets : List ℕ) → IsKeeping r → IsKeeping (after_octets r number octets)
octets_keep r number octets is = grown_within r (distance_of r number) (octets_within r number octets) is (within_window r number octets)

-- a segment without any octet in the window changes nothing
pub none_within : (r : Receiving) (number : ℕ) (octets : List ℕ) → IsKeeping r → length (octets_within r number octets) ≡ 0 → after_octets r number octets ≡ r
none_within r number octets is none = by (octets_within r number octets) none
  where
    by : (within : List ℕ) → length within ≡ 0 → grown r (distance_of r number) within ≡ r
    by [] e = grown_by_none r (distance_of r number) is.small is.buffer
    by (x ∷ within) e = absurd (omega (arith, e))

-- sizes and units are such as windows can be told in
pub sizes_meet : (scales : Bool) (capacity : ℕ) → capacity ≤ LARGEST_CAPACITY
    → (size_in scales capacity ≤ capacity) × (0 < own_unit scales) × (own_unit scales ≤ MSS) × (size_in scales capacity ≤ CAPACITY * own_unit scales)
sizes_meet true capacity most = (omega arith, omega arith, omega arith, omega (arith, most))
sizes_meet false capacity most = (omega arith, omega arith, omega arith, omega arith)

pub nothing_keeps : (capacity : ℕ) (manner : Manner) → capacity ≤ LARGEST_CAPACITY → IsKeeping (receiving_nothing (record { capacity = capacity; manner = manner }))
nothing_keeps capacity manner most = let meet = sizes_meet manner.scales capacity most in record {
  small = omega arith;
  sized = meet.0;
  most = most;
  some = meet.1;
  few = meet.2;
  told = meet.3;
  fits = omega arith;
  buffer = receives_nothing capacity;
  kept = none_below capacity 0;
}

pub settled_keeps : (r : Receiving) (scales : Bool) → IsKeeping r → r.readable ≡ [] → receive_window r ≡ 0 → IsKeeping (receiving_settled r scales)
settled_keeps r scales is empty shut = let meet = sizes_meet scales r.size (omega (arith, is.sized, is.most)) in record {
  small = is.small;
  sized = omega (arith, meet.0, is.sized);
  most = is.most;
  some = meet.1;
  few = meet.2;
  told = meet.3;
  fits = let none = ap (λ (l : List ℕ). length l) empty in omega (arith, none, shut);
  buffer = is.buffer;
  kept = is.kept;
}

-- where no window is advertised, nothing is kept
pub syn_keeps : (r : Receiving) (number advertised : ℕ) → IsKeeping r → receive_window r ≡ 0 → length r.readable + advertised ≤ r.size → IsKeeping (after_syn r number advertised)
syn_keeps r number advertised is shut room = record {
  small = omega arith;
  sized = is.sized;
  most = is.most;
  some = is.some;
  few = is.few;
  told = is.told;
  fits = omega (arith, room);
  buffer = is.buffer;
  kept = λ distance octet at. let bad = is.kept distance octet at in absurd (omega (arith, bad, shut));
}

-- a buffer that keeps nothing ahead of a gap any longer is one still
forgotten_receives : (b : ReceiveView) → IsReceiving b → IsReceiving (record b { kept = forgotten b.kept })
forgotten_receives b was = let none = receives_nothing (length b.kept) in record {
  places = omega (arith, length-replicate {A = Option ℕ} (length b.kept) None, was.places);
  gap = none.gap;
  few = none.few;
}

pub end_keeps : (r : Receiving) → IsKeeping r → 0 < receive_window r → IsKeeping (after_end r)
end_keeps r is room =
    let left : past r.edge ((r.rnext + 1) % 2 ^ 32) ≡ receive_window r - 1 = moved r.rnext r.edge 1 is.small room in
    record {
      small = omega arith;
      sized = is.sized;
      most = is.most;
      some = is.some;
      few = is.few;
      told = is.told;
      fits = omega (arith, left, is.fits);
      buffer = forgotten_receives (buffer_of r) is.buffer;
      kept = none_below (length r.kept) (receive_window (after_end r));
    }

pub read_keeps : (r : Receiving) (count : ℕ) → count ≤ length r.readable → IsKeeping r → IsKeeping (after_read r count)
read_keeps r count within is = record {
  small = is.small;
  sized = is.sized;
  most = is.most;
  some = is.some;
  few = is.few;
  told = is.told;
  fits = omega (arith, length-drop count r.readable, is.fits);
  buffer = receives_read (buffer_of r) count within is.buffer;
  kept = λ distance octet at. is.kept distance octet (sym (at_more r.kept count distance) ∙ at);
}

-- a wider window, up to the room
widened_keeps : (r : Receiving) (window : ℕ) → IsKeeping r → receive_window r ≤ window → window ≤ receive_room r → IsKeeping (record r { edge = (r.rnext + window) % 2 ^ 32 })
widened_keeps r window is wider within =
    let wide : past ((r.rnext + window) % 2 ^ 32) r.rnext ≡ window = omega (arith, is.small, is.sized, is.most, within) in
    record {
      small = is.small;
      sized = is.sized;
      most = is.most;
      some = is.some;
      few = is.few;
      told = is.told;
      fits = omega (arith, wide, within, is.fits);
      buffer = is.buffer;
      kept = λ distance octet at. let near = is.kept distance octet at in omega (arith, near, wide, wider);
    }

-- the units that octets fill are less than a unit short of them
pub in_units : (unit octets : ℕ) → 0 < unit → (whole_units unit octets ≤ octets) × (octets < whole_units unit octets + unit)
in_units unit octets some =
    let parts = div-add-mod' octets unit in
    let below = mod_below octets unit some in
    (omega (arith, parts), omega (arith, parts, below))

grown_keeps_units : (r : Receiving) → IsKeeping r → has_grown r ≡ true → IsKeeping (record r { edge = (r.rnext + whole_units r.unit (receive_room r)) % 2 ^ 32 })
grown_keeps_units r is grown =
    let filled = in_units r.unit (receive_room r) is.some in
    let more = leb-true (receive_window r + MSS) (receive_room r) grown in
    widened_keeps r (whole_units r.unit (receive_room r)) is (omega (arith, filled.1, more, is.few)) filled.0

pub advertisement_keeps : (r : Receiving) → IsKeeping r → IsKeeping (after_advertisement r)
advertisement_keeps r is = either Receiving IsKeeping (has_grown r) _ r (grown_keeps_units r is) (λ small. is)

pub syn_advertisement_keeps : (r : Receiving) → IsKeeping r → IsKeeping (after_syn_advertisement r)
syn_advertisement_keeps r is = either Receiving IsKeeping (nat_le (receive_window r + MSS) (syn_window r)) _ r
    (λ wider. let more = leb-true (receive_window r + MSS) (syn_window r) wider in widened_keeps r (syn_window r) is (omega (arith, more)) (omega arith)) (λ wide. is)

-- a buffer is seen through its receiving half
pub seen : (b : ReceiveView) (rnext edge size unit : ℕ) → b ≡ buffer_of (record { readable = b.readable; kept = b.kept; rnext = rnext; edge = edge; size = size; capacity = b.capacity; unit = unit })
seen b rnext edge size unit = refl

-- what was taken, step by step
pub taken_is : (r : Receiving) (number : ℕ) (octets : List ℕ) (b new : ReceiveView) (distance count rnext : ℕ) (within : List ℕ) → b ≡ buffer_of r → distance ≡ distance_of r number
    → within ≡ octets_within r number octets → new ≡ after_insert b distance within → count ≡ length (joined b distance within) → rnext ≡ (r.rnext + count) % 2 ^ 32
    → after_octets r number octets ≡ record { readable = new.readable; kept = new.kept; rnext = rnext; edge = r.edge; size = r.size; capacity = new.capacity; unit = r.unit }
taken_is r number octets b new distance count rnext within same at cut after counted moves =
    let places : new.capacity ≡ r.capacity = ap (λ (x : ReceiveView). x.capacity) (after ∙ whole b distance within) ∙ ap (λ (x : ReceiveView). x.capacity) same in
    cc

-- its count is no more than the window
pub taken_count : (r : Receiving) (number : ℕ) (octets : List ℕ) (b : ReceiveView) (distance count : ℕ) (within : List ℕ) → IsKeeping r → b ≡ buffer_of r → distance ≡ distance_of r number
    → within ≡ octets_within r number octets → count ≡ length (joined b distance within) → count ≤ receive_window r
taken_count r number octets b distance count within is same at cut counted =
    let few = gained_fits r number octets is in
    let e : count ≡ length (octets_gained r number octets) = cc in
    omega (arith, e, few)

-- a new buffer is that of nothing received
pub new_is : (b : ReceiveView) (manner : Manner) (size unit : ℕ) → b ≡ nothing_received b.capacity → size ≡ size_in manner.scales b.capacity → unit ≡ own_unit manner.scales
    → receiving_nothing (record { capacity = b.capacity; manner = manner }) ≡ record { readable = b.readable; kept = b.kept; rnext = 0; edge = 0; size = size; capacity = b.capacity; unit = unit }
new_is b manner size unit is sized counted =
    ap (λ (n : ℕ). record { readable = []; kept = replicate b.capacity None; rnext = 0; edge = 0; size = n; capacity = b.capacity; unit = own_unit manner.scales }) (sym sized)
    ∙ (ap (λ (n : ℕ). record { readable = []; kept = replicate b.capacity None; rnext = 0; edge = 0; size = size; capacity = b.capacity; unit = n }) (sym counted)
    ∙ ap (λ (x : ReceiveView). record { readable = x.readable; kept = x.kept; rnext = 0; edge = 0; size = size; capacity = b.capacity; unit = unit }) (sym is))
