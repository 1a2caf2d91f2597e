-- What a receive buffer holds, over every list of calls.
use Rattle.std.proofs.Common.{◌≡◌, ℕ, ◌+◌, ◌-◌, ◌<◌, ◌≤◌, Bool, true, false, if◌then◌else◌, inl, inr, ◌⊎◌, List, [], ◌∷◌, ◌++◌, length, get_or, map, take, drop, replicate, fold, Option, Some, None, refl, sym, ◌∙◌, ap, subst, length-append, arith}
use Rattle.std.proofs.lemmas.Bool.{cases_Bool, cases_lt}
use Rattle.std.proofs.lemmas.List.{append_assoc, append-nil, map-append, length-map, take-append-drop, take_at, get_or_append_left, get_or-map}
use Rattle.std.proofs.lemmas.List.Elements.{All-head, All-tail}
use Rattle.std.proofs.lemmas.List.Sums.{fold-append}
use Rattle.stream_buf.specs.Receiving.{front, behind_front, laid, is_taken, read_count, IsReceiving}
use Rattle.stream_buf.specs.Received.{ReceiveEvent, Received, nothing_yet, after_receive_event, received, in_order, by_place, HasRoom, IsOf, EachFrom, AreReceiveCalls, Carry, ForgetNothing, IsInserted}
use Rattle.stream_buf.specs.Received.ReceiveEvent.{Inserts, Reads, Forgets}
use Rattle.stream_buf.proofs.Inserting.{some, receives_nothing, receives_read, receives_laid, laid_none}
use Rattle.stream_buf.proofs.Taking.{taken_first, few_left}
use Rattle.stream_buf.proofs.Standing.{front_split, front_octets, at_same, at_behind, laid_own, laid_before, laid_behind, at_more, stands_first}
use Rattle.stream_buf.proofs.Gapless.{receives_forgotten}

-- what octets leave that are taken
abbrev pub with_octets : Received → ℕ → List ℕ → Received
with_octets r distance octets = record {
  buffer = record {
    readable = r.buffer.readable ++ front (laid r.buffer.kept distance octets);
    kept = behind_front (laid r.buffer.kept distance octets);
    capacity = r.buffer.capacity;
  };
  read = r.read;
  next = r.next + length (front (laid r.buffer.kept distance octets));
}

-- what an insertion leaves, by whether it is taken
abbrev after_test : Received → ℕ → List ℕ → Bool → Received
after_test r distance octets test = record r {
  buffer = if test then (with_octets r distance octets).buffer else r.buffer;
  next = r.next + length (if test then front (laid r.buffer.kept distance octets) else []);
}

pub is_with_octets : (r : Received) (distance : ℕ) (octets : List ℕ) → is_taken r.buffer distance octets ≡ true
    → after_receive_event r (Inserts distance octets) ≡ with_octets r distance octets
is_with_octets r distance octets taken = ap (λ (t : Bool). after_test r distance octets t) taken

pub is_unchanged : (r : Received) (distance : ℕ) (octets : List ℕ) → is_taken r.buffer distance octets ≡ false
    → after_receive_event r (Inserts distance octets) ≡ r
is_unchanged r distance octets refused =
    let same : r.next + 0 ≡ r.next = omega arith in
    ap (λ (t : Bool). after_test r distance octets t) refused ∙ ap (λ (n : ℕ). record r { next = n }) same

-- what holds after octets that are taken, and of what was, holds after each insertion
pub after_insertion : (P : Received → Type 0) (r : Received) (distance : ℕ) (octets : List ℕ)
    → (is_taken r.buffer distance octets ≡ true → P (with_octets r distance octets)) → P r → P (after_receive_event r (Inserts distance octets))
after_insertion P r distance octets taken was =
    elim (cases_Bool (is_taken r.buffer distance octets)) [
      | inl is ↦ subst P (sym (is_with_octets r distance octets is)) (taken is)
      | inr is ↦ subst P (sym (is_unchanged r distance octets is)) was
    ]

-- what each event keeps, all of them keep
pub each_keeps : (P : Received → ReceiveEvent → Type 0) (Q : Received → Type 0) → ((r : Received) (event : ReceiveEvent) → P r event → Q r → Q (after_receive_event r event))
    → (events : List ReceiveEvent) (r : Received) → EachFrom P r events → Q r → Q (fold after_receive_event r events)
each_keeps P Q step [] r can was = was
each_keeps P Q step (event ∷ events) r can was = each_keeps P Q step events (after_receive_event r event) can.1 (step r event can.0 was)

-- and where nothing is asked of the events
always : (Q : Received → Type 0) → ((r : Received) (event : ReceiveEvent) → Q r → Q (after_receive_event r event))
    → (events : List ReceiveEvent) (r : Received) → Q r → Q (fold after_receive_event r events)
always Q step [] r was = was
always Q step (event ∷ events) r was = always Q step events (after_receive_event r event) (step r event was)

-- two things that hold of each event
both_hold : (P Q : Received → ReceiveEvent → Type 0) (events : List ReceiveEvent) (r : Received) → EachFrom P r events → EachFrom Q r events
    → EachFrom (λ s event. P s event × Q s event) r events
both_hold P Q [] r first second = tt
both_hold P Q (event ∷ events) r first second = ((first.0, second.0), both_hold P Q events (after_receive_event r event) first.1 second.1)

-- what holds of each event of two lists
parts_hold : (P : Received → ReceiveEvent → Type 0) (events more : List ReceiveEvent) (r : Received) → EachFrom P r (events ++ more)
    → EachFrom P r events × EachFrom P (fold after_receive_event r events) more
parts_hold P [] more r each = (tt, each)
parts_hold P (event ∷ events) more r each =
    let rest = parts_hold P events more (after_receive_event r event) each.1 in
    ((each.0, rest.0), rest.1)

-- what holds of every receive buffer for so many octets
pub record IsCounted (capacity : ℕ) (r : Received) : Type 0 where
  pub sound : IsReceiving r.buffer
  pub size : r.buffer.capacity ≡ capacity
  pub counted : length (in_order r) ≡ r.next

octets_keep : (capacity : ℕ) (r : Received) (distance : ℕ) (octets : List ℕ) → distance + length octets ≤ length r.buffer.kept → is_taken r.buffer distance octets ≡ true
    → IsCounted capacity r → IsCounted capacity (with_octets r distance octets)
octets_keep capacity r distance octets within taken was =
    let more : List ℕ = front (laid r.buffer.kept distance octets) in
    record {
      sound = receives_laid r.buffer distance octets within (few_left r.buffer distance octets was.sound taken) was.sound;
      size = was.size;
      counted = omega (arith, length-append r.read (r.buffer.readable ++ more), length-append r.buffer.readable more, length-append r.read r.buffer.readable, was.counted);
    }

-- as many octets are in order after a read
in_order_stays : (r : Received) (len : ℕ) → in_order (after_receive_event r (Reads len)) ≡ in_order r
in_order_stays r len =
    let n : ℕ = read_count r.buffer len in
    append_assoc r.read (take n r.buffer.readable) (drop n r.buffer.readable) ∙ ap (λ (xs : List ℕ). r.read ++ xs) (take-append-drop n r.buffer.readable)

event_counts : (capacity : ℕ) (r : Received) (event : ReceiveEvent) → HasRoom r event → IsCounted capacity r → IsCounted capacity (after_receive_event r event)
event_counts capacity r (Inserts distance octets) can was =
    after_insertion (IsCounted capacity) r distance octets (λ taken. octets_keep capacity r distance octets can taken was) was
event_counts capacity r (Reads len) can was = record {
  sound = receives_read r.buffer (read_count r.buffer len) (omega arith) was.sound;
  size = was.size;
  counted = ap (λ (xs : List ℕ). length xs) (in_order_stays r len) ∙ was.counted;
}
event_counts capacity r Forgets can was = record { sound = receives_forgotten r.buffer was.sound; size = was.size; counted = was.counted }

first_counted : (capacity : ℕ) → IsCounted capacity (nothing_yet capacity)
first_counted capacity = record { sound = receives_nothing capacity; size = refl; counted = refl }

pub received_counted : (capacity : ℕ) (events : List ReceiveEvent) → AreReceiveCalls capacity events → IsCounted capacity (received capacity events)
received_counted capacity events can = each_keeps HasRoom (IsCounted capacity) (event_counts capacity) events (nothing_yet capacity) can (first_counted capacity)

pub edge_right : (capacity : ℕ) (r : Received) → IsCounted capacity r → r.next + length r.buffer.kept ≡ length r.read + capacity
edge_right capacity r right = let places = right.sound.places in omega (arith, places, right.size, right.counted, length-append r.read r.buffer.readable)

-- the places of the stream once octets are taken: those in order, and the octets laid over those that are kept
by_place_with : (r : Received) (distance : ℕ) (octets : List ℕ)
    → by_place (with_octets r distance octets) ≡ map some (in_order r) ++ laid r.buffer.kept distance octets
by_place_with r distance octets =
    let places : List (Option ℕ) = laid r.buffer.kept distance octets in
    ap (λ (xs : List ℕ). map some xs ++ behind_front places) (sym (append_assoc r.read r.buffer.readable (front places)))
    ∙ ap (λ (ps : List (Option ℕ)). ps ++ behind_front places) (map-append some (in_order r) (front places))
    ∙ append_assoc (map some (in_order r)) (map some (front places)) (behind_front places)
    ∙ ap (λ (ps : List (Option ℕ)). map some (in_order r) ++ ps) (front_split places)

-- octets that are taken stand at their places
pub inserted : (capacity : ℕ) (r : Received) (distance : ℕ) (octets : List ℕ) → IsCounted capacity r → distance + length octets ≤ length r.buffer.kept
    → IsInserted r distance octets (with_octets r distance octets)
inserted capacity r distance octets was within =
    let first : List (Option ℕ) = map some (in_order r) in
    let kept : List (Option ℕ) = r.buffer.kept in
    let places : List (Option ℕ) = laid kept distance octets in
    let size : length first ≡ r.next = length-map (in_order r) some ∙ was.counted in
    let now = by_place_with r distance octets in
    let shown : (place : ℕ) → get_or (by_place (with_octets r distance octets)) place None ≡ get_or (first ++ places) place None =
    λ place. ap (λ (ps : List (Option ℕ)). get_or ps place None) now in
    record {
      own = λ k below. shown (r.next + distance + k) ∙ at_behind first places r.next (r.next + distance + k) (distance + k) size (omega arith)
          ∙ laid_own kept distance octets k within below;
      before = λ place below. shown place ∙ elim (cases_lt place r.next) [
        | inl in_front ↦
            get_or_append_left first places None place (omega (arith, in_front, size)) ∙ sym (get_or_append_left first kept None place (omega (arith, in_front, size)))
        | inr from ↦
            let j : ℕ = place - r.next in
            let back : place ≡ r.next + j = omega (arith, from) in
            at_behind first places r.next place j size back ∙ laid_before kept distance octets j within (omega (arith, below, back))
            ∙ sym (at_behind first kept r.next place j size back)
      ];
      behind = λ place from. let j : ℕ = place - r.next in let i : ℕ = place - (r.next + distance + length octets) in
          let back : place ≡ r.next + j = omega (arith, from) in
          shown place ∙ at_behind first places r.next place j size back ∙ laid_behind kept distance octets j i within (omega (arith, from, back))
          ∙ sym (at_behind first kept r.next place j size back);
    }

-- no octets move nothing, taken or not
with_none : (capacity : ℕ) (r : Received) (distance : ℕ) → IsCounted capacity r → with_octets r distance [] ≡ r
with_none capacity r distance was =
    let sound = was.sound in
    let same : r.next + 0 ≡ r.next = omega arith in
    ap (λ (ps : List (Option ℕ)). record {
      buffer = record { readable = r.buffer.readable ++ front ps; kept = behind_front ps; capacity = r.buffer.capacity };
      read = r.read;
      next = r.next + length (front ps);
    }) (laid_none r.buffer.kept distance)
    ∙ ap (λ (xs : List ℕ). record {
      buffer = record { readable = r.buffer.readable ++ xs; kept = drop (length xs) r.buffer.kept; capacity = r.buffer.capacity };
      read = r.read;
      next = r.next + length xs;
    }) sound.gap
    ∙ ap (λ (xs : List ℕ). record r { buffer = record r.buffer { readable = xs }; next = r.next + 0 }) (append-nil r.buffer.readable)
    ∙ ap (λ (n : ℕ). record r { next = n }) same

pub unmoved : (capacity : ℕ) (r : Received) (distance : ℕ) (octets : List ℕ) → IsCounted capacity r → length octets ≡ 0
    → after_receive_event r (Inserts distance octets) ≡ r
unmoved capacity r distance [] was none = after_insertion (λ s. s ≡ r) r distance [] (λ taken. with_none capacity r distance was) refl
unmoved capacity r distance (x ∷ octets) was none = absurd (omega (arith, none))

-- a read moves nothing
pub read_stays : (r : Received) (len place : ℕ) → get_or (by_place (after_receive_event r (Reads len))) place None ≡ get_or (by_place r) place None
read_stays r len place =
    let n : ℕ = read_count r.buffer len in
    let free : List (Option ℕ) = replicate n None in
    ap (λ (xs : List ℕ). get_or (map some xs ++ (r.buffer.kept ++ free)) place None) (in_order_stays r len)
    ∙ ap (λ (ps : List (Option ℕ)). get_or ps place None) (sym (append_assoc (map some (in_order r)) r.buffer.kept free)) ∙ at_more (by_place r) n place

-- what stands once what is kept is forgotten stood there before
stood : (r : Received) (place octet : ℕ) → get_or (by_place (after_receive_event r Forgets)) place None ≡ Some octet → get_or (by_place r) place None ≡ Some octet
stood r place octet stands =
    let first : List (Option ℕ) = map some (in_order r) in
    stands_first first r.buffer.kept place octet (sym (at_more first (length r.buffer.kept) place) ∙ stands)

-- each octet that came is that of the stream at its place
pub record IsOfStream (stream : ℕ → ℕ) (capacity : ℕ) (r : Received) : Type 0 where
  pub counts : IsCounted capacity r
  pub of : (place octet : ℕ) → get_or (by_place r) place None ≡ Some octet → octet ≡ stream place

-- one place after octets of the stream: it is one of theirs, or as it was
at_place : (stream : ℕ → ℕ) (r : Received) (distance : ℕ) (octets : List ℕ) → IsOf stream r (Inserts distance octets)
    → IsInserted r distance octets (with_octets r distance octets) → (place : ℕ)
    → (get_or (by_place (with_octets r distance octets)) place None ≡ Some (stream place))
    ⊎ (get_or (by_place (with_octets r distance octets)) place None ≡ get_or (by_place r) place None)
at_place stream r distance octets is now place =
    elim (cases_lt place (r.next + distance)) [
      | inl below ↦ inr (now.before place below)
      | inr from ↦ elim (cases_lt place (r.next + distance + length octets)) [
        | inr behind ↦ inr (now.behind place behind)
        | inl among ↦
            let k : ℕ = place - (r.next + distance) in
            let below : k < length octets = omega (arith, from, among) in
            let back : r.next + distance + k ≡ place = omega (arith, from) in
            inl (at_same (by_place (with_octets r distance octets)) place (r.next + distance + k) (sym back) ∙ now.own k below
            ∙ ap (λ (x : ℕ). Some x) (is k below ∙ ap (λ (n : ℕ). stream n) back))
      ]
    ]

abbrev IsPart : (ℕ → ℕ) → Received → ReceiveEvent → Type 0
IsPart stream r event = HasRoom r event × IsOf stream r event

event_of : (stream : ℕ → ℕ) (capacity : ℕ) (r : Received) (event : ReceiveEvent) → IsPart stream r event → IsOfStream stream capacity r
    → IsOfStream stream capacity (after_receive_event r event)
event_of stream capacity r (Inserts distance octets) can was =
    after_insertion (IsOfStream stream capacity) r distance octets (λ taken. record {
      counts = octets_keep capacity r distance octets can.0 taken was.counts;
      of = λ place octet stands. elim (at_place stream r distance octets can.1 (inserted capacity r distance octets was.counts can.0) place) [
        | inl own ↦ cc (own, stands)
        | inr same ↦ was.of place octet (sym same ∙ stands)
      ];
    }) was
event_of stream capacity r (Reads len) can was = record {
  counts = event_counts capacity r (Reads len) can.0 was.counts;
  of = λ place octet stands. was.of place octet (sym (read_stays r len place) ∙ stands);
}
event_of stream capacity r Forgets can was = record {
  counts = event_counts capacity r Forgets can.0 was.counts;
  of = λ place octet stands. was.of place octet (stood r place octet stands);
}

none_free : (count place octet : ℕ) → get_or (replicate count None) place None ≡ Some octet → ⊥
none_free count place octet stands = let none = at_more [] count place in cc (none, stands)

first_of : (stream : ℕ → ℕ) (capacity : ℕ) → IsOfStream stream capacity (nothing_yet capacity)
first_of stream capacity = record {
  counts = first_counted capacity;
  of = λ place octet stands. absurd (none_free capacity place octet stands);
}

pub received_of : (stream : ℕ → ℕ) (capacity : ℕ) (events : List ReceiveEvent) → AreReceiveCalls capacity events → Carry stream capacity events
    → IsOfStream stream capacity (received capacity events)
received_of stream capacity events can carry =
    each_keeps (IsPart stream) (IsOfStream stream capacity) (event_of stream capacity) events (nothing_yet capacity)
    (both_hold HasRoom (IsOf stream) events (nothing_yet capacity) can carry) (first_of stream capacity)

pub readable_of : (stream : ℕ → ℕ) (capacity : ℕ) (r : Received) → IsOfStream stream capacity r → (k : ℕ) → k < length (in_order r)
    → get_or (in_order r) k 0 ≡ stream k
readable_of stream capacity r right k below =
    right.of k (get_or (in_order r) k 0) (get_or_append_left (map some (in_order r)) r.buffer.kept None k (omega (arith, below, length-map (in_order r) some))
    ∙ get_or-map some (in_order r) k 0 None below)

pub kept_of : (stream : ℕ → ℕ) (capacity : ℕ) (r : Received) → IsOfStream stream capacity r → (distance octet : ℕ) → get_or r.buffer.kept distance None ≡ Some octet
    → octet ≡ stream (r.next + distance)
kept_of stream capacity r right distance octet stands =
    let counted = right.counts in
    right.of (r.next + distance) octet
    (at_behind (map some (in_order r)) r.buffer.kept r.next (r.next + distance) distance (length-map (in_order r) some ∙ counted.counted) refl ∙ stands)

-- an octet that came for a place, which stays there
record HasOctet (stream : ℕ → ℕ) (capacity place octet : ℕ) (r : Received) : Type 0 where
  right : IsOfStream stream capacity r
  stands : get_or (by_place r) place None ≡ Some octet

-- such an event that forgets nothing
abbrev IsKeptPart : (ℕ → ℕ) → Received → ReceiveEvent → Type 0
IsKeptPart stream r event = IsPart stream r event × ¬ (event ≡ Forgets)

event_holds : (stream : ℕ → ℕ) (capacity place octet : ℕ) (r : Received) (event : ReceiveEvent) → IsKeptPart stream r event → HasOctet stream capacity place octet r
    → HasOctet stream capacity place octet (after_receive_event r event)
event_holds stream capacity place octet r (Inserts distance octets) can was =
    let right = was.right in
    record {
      right = event_of stream capacity r (Inserts distance octets) can.0 right;
      stands = after_insertion (λ s. get_or (by_place s) place None ≡ Some octet) r distance octets (λ taken.
          elim (at_place stream r distance octets can.0.1 (inserted capacity r distance octets right.counts can.0.0) place) [
            | inl own ↦ own ∙ ap (λ (x : ℕ). Some x) (sym (right.of place octet was.stands))
            | inr same ↦ same ∙ was.stands
          ]) was.stands;
    }
event_holds stream capacity place octet r (Reads len) can was = record {
  right = event_of stream capacity r (Reads len) can.0 was.right;
  stands = read_stays r len place ∙ was.stands;
}
event_holds stream capacity place octet r Forgets can was = absurd (can.1 refl)

none_forgets : (events : List ReceiveEvent) (r : Received) → ForgetNothing events → EachFrom (λ s event. ¬ (event ≡ Forgets)) r events
none_forgets [] r none = tt
none_forgets (event ∷ events) r none =
    (All-head (λ (e : ReceiveEvent). ¬ (e ≡ Forgets)) event events none, none_forgets events (after_receive_event r event) (All-tail (λ (e : ReceiveEvent). ¬ (e ≡ Forgets)) event events none))

pub nothing_lost : (stream : ℕ → ℕ) (capacity : ℕ) (events more : List ReceiveEvent) → AreReceiveCalls capacity (events ++ more) → Carry stream capacity (events ++ more)
    → ForgetNothing more → (place octet : ℕ) → get_or (by_place (received capacity events)) place None ≡ Some octet
    → get_or (by_place (received capacity (events ++ more))) place None ≡ Some octet
nothing_lost stream capacity events more can carry keep place octet stands =
    let begun : Received = nothing_yet capacity in
    let calls = parts_hold HasRoom events more begun can in
    let parts = parts_hold (IsOf stream) events more begun carry in
    let now : Received = received capacity events in
    let later = each_keeps (IsKeptPart stream) (HasOctet stream capacity place octet) (event_holds stream capacity place octet) more now
    (both_hold (IsPart stream) (λ s event. ¬ (event ≡ Forgets)) more now (both_hold HasRoom (IsOf stream) more now calls.1 parts.1) (none_forgets more now keep)) (record { right = received_of stream capacity events calls.0 parts.0; stands = stands }) in
    ap (λ (s : Received). get_or (by_place s) place None) (fold-append after_receive_event begun events more) ∙ later.stands

-- what is in order goes on, and RCV.NXT with it
record GoesOn (old new : Received) : Type 0 where
  tail : List ℕ
  grown : in_order new ≡ in_order old ++ tail
  forward : old.next ≤ new.next

goes_nowhere : (r : Received) → GoesOn r r
goes_nowhere r = record { tail = []; grown = sym (append-nil (in_order r)); forward = omega arith }

with_octets_go : (old r : Received) (distance : ℕ) (octets : List ℕ) → GoesOn old r → GoesOn old (with_octets r distance octets)
with_octets_go old r distance octets was =
    let more : List ℕ = front (laid r.buffer.kept distance octets) in
    record {
      tail = was.tail ++ more;
      grown = sym (append_assoc r.read r.buffer.readable more) ∙ ap (λ (xs : List ℕ). xs ++ more) was.grown ∙ append_assoc (in_order old) was.tail more;
      forward = omega (arith, was.forward);
    }

event_goes : (old r : Received) (event : ReceiveEvent) → GoesOn old r → GoesOn old (after_receive_event r event)
event_goes old r (Inserts distance octets) was = after_insertion (GoesOn old) r distance octets (λ taken. with_octets_go old r distance octets was) was
event_goes old r (Reads len) was = record { tail = was.tail; grown = in_order_stays r len ∙ was.grown; forward = was.forward }
event_goes old r Forgets was = record { tail = was.tail; grown = was.grown; forward = was.forward }

events_go : (capacity : ℕ) (events more : List ReceiveEvent) → GoesOn (received capacity events) (received capacity (events ++ more))
events_go capacity events more =
    let now : Received = received capacity events in
    subst (GoesOn now) (sym (fold-append after_receive_event (nothing_yet capacity) events more)) (always (GoesOn now) (event_goes now) more now (goes_nowhere now))

pub stays : (capacity : ℕ) (events more : List ReceiveEvent)
    → take (length (in_order (received capacity events))) (in_order (received capacity (events ++ more))) ≡ in_order (received capacity events)
stays capacity events more =
    let now : Received = received capacity events in
    let go = events_go capacity events more in
    ap (λ (xs : List ℕ). take (length (in_order now)) xs) go.grown ∙ take_at (in_order now) go.tail (length (in_order now)) refl

pub forward : (capacity : ℕ) (events more : List ReceiveEvent) → (received capacity events).next ≤ (received capacity (events ++ more)).next
forward capacity events more = let go = events_go capacity events more in go.forward

-- what is in order stays at its place
pub readable_stays : (capacity : ℕ) (events more : List ReceiveEvent) (place : ℕ) → place < length (in_order (received capacity events))
    → get_or (by_place (received capacity (events ++ more))) place None ≡ get_or (by_place (received capacity events)) place None
readable_stays capacity events more place below =
    let now : Received = received capacity events in
    let later : Received = received capacity (events ++ more) in
    let first : List (Option ℕ) = map some (in_order now) in
    let go = events_go capacity events more in
    let rest : List (Option ℕ) = map some go.tail ++ later.buffer.kept in
    let within : place < length first = omega (arith, below, length-map (in_order now) some) in
    let split : by_place later ≡ first ++ rest =
    ap (λ (xs : List ℕ). map some xs ++ later.buffer.kept) go.grown
    ∙ ap (λ (ps : List (Option ℕ)). ps ++ later.buffer.kept) (map-append some (in_order now) go.tail)
    ∙ append_assoc first (map some go.tail) later.buffer.kept in
    ap (λ (ps : List (Option ℕ)). get_or ps place None) split ∙ get_or_append_left first rest None place within
    ∙ sym (get_or_append_left first now.buffer.kept None place within)

-- octets at RCV.NXT are readable at once
pub reaches : (r : Received) (octets : List ℕ) → r.next + length octets ≤ (after_receive_event r (Inserts 0 octets)).next
reaches r octets =
    let rest : List (Option ℕ) = drop (0 + length octets) r.buffer.kept in
    let all : length (front (laid r.buffer.kept 0 octets)) ≡ length octets + length (front rest) =
    ap (λ (xs : List ℕ). length xs) (front_octets octets rest) ∙ length-append octets (front rest) in
    let next = ap (λ (s : Received). s.next) (is_with_octets r 0 octets (taken_first r.buffer 0 octets refl)) in
    omega (arith, all, next)
