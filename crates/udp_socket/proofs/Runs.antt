-- What goes out is the fragments of one datagram behind those of another.
use Rattle.std.proofs.Common.{◌≡◌, ℕ, zero, suc, ◌+◌, ◌*◌, ◌<◌, ◌≤◌, Bool, true, false, List, [], ◌∷◌, ◌++◌, length, map, take, filter, cond, Some, refl, sym, ◌∙◌, ap, subst, arith}
use Rattle.std.specs.List.{AllByRecursion, flat_map, slice_get}
use Rattle.std.proofs.lemmas.Bool.Decides.{nat_tests}
use Rattle.std.proofs.lemmas.Grind.{flat_map-append}
use Rattle.std.proofs.lemmas.List.{append_assoc, append-nil, take_all}
use Rattle.clock.specs.declared.moment.Moment.{Moment}
use Rattle.ipv4.specs.declared.addr.Addr.{Addr}
use Rattle.ipv4.specs.declared.addr.Endpoint.{Endpoint}
use Rattle.udp.specs.declared.cutting.Fragment.{Fragment}
use Rattle.udp.specs.Datagram.{UserDatagram, spelling}
use Rattle.udp.specs.Fragments.{fragment, fragments_of, count_of, part_of}
use Rattle.udp.proofs.Covering.{count_from, cover}
use Rattle.udp.proofs.Carrying.{numbered}
use Rattle.udp.specs.Waiting.{Waiting, brought_forward}
use Rattle.udp_socket.specs.SocketView.{Outgoing, SocketView, has_room_in, has_room_out, with_received, with_sent}
use Rattle.udp_socket.specs.Emission.{datagram_of, waits_at, brought, fragment_of, after_part}
use Rattle.udp_socket.specs.Waits.{is_given_up, parts_left}
use Rattle.udp_socket.specs.Events.{Event, Sends, Receives, Reads, Emits, GivesUp, after_event, after_events, gathered, last_due, Piece, piece, piece_due, pieces, Run, pieces_of, whole, begun, given_up, left, gone_out, IsFrom}
use Rattle.udp_socket.proofs.GivingUp.{stays}

-- fewer fragments of the first have gone out than it has
abbrev pub HasPartsLeft : List Outgoing → ℕ → Type 0
HasPartsLeft [] parts = parts ≡ 0
HasPartsLeft (o ∷ rest) parts = parts < count_of (8 + length o.octets)

none_out : (os : List Outgoing) → HasPartsLeft os 0
none_out [] = refl
none_out (o ∷ rest) = omega arith

one_behind : (os : List Outgoing) (o : Outgoing) (parts : ℕ) → HasPartsLeft os parts → HasPartsLeft (os ++ o ∷ []) parts
one_behind [] o parts are = omega (arith, are)
one_behind (x ∷ os) o parts are = are

part_left : (inbox : List Waiting) (os : List Outgoing) (parts : ℕ) → HasPartsLeft os parts
    → let t : SocketView = after_part (record { inbox = inbox; outbox = os; parts = parts }) in HasPartsLeft t.outbox t.parts
part_left inbox [] parts are = are
part_left inbox (o ∷ rest) parts are = by_test (fragment_of o parts).more_fragments refl
  where
    more : SocketView
    more = record { inbox = inbox; outbox = o ∷ rest; parts = parts + 1 }

    last : SocketView
    last = record { inbox = inbox; outbox = rest; parts = 0 }

    by_test : (b : Bool) → (fragment_of o parts).more_fragments ≡ b → HasPartsLeft (cond b more last).outbox (cond b more last).parts
    by_test true is = let below : 1480 * (parts + 1) < 8 + length o.octets = grind (arith, nat_tests, is) in omega (arith, below)
    by_test false is = none_out rest

brought_left : (place : ℕ) (s : SocketView) → HasPartsLeft s.outbox s.parts → HasPartsLeft (brought place s).outbox (brought place s).parts
brought_left zero s are = are
brought_left (suc place) s are = none_out (brought_forward (suc place) s.outbox)

parts_kept : (s : SocketView) (e : Event) → HasPartsLeft s.outbox s.parts → HasPartsLeft (after_event s e).outbox (after_event s e).parts
parts_kept s (Sends now peer identification octets) are = by_test (has_room_out s (length octets))
  where
    by_test : (b : Bool) → HasPartsLeft (cond b (with_sent s now peer identification octets) s).outbox (cond b (with_sent s now peer identification octets) s).parts
    by_test true = one_behind s.outbox _ s.parts are
    by_test false = are
parts_kept s (Receives from octets) are = by_test (has_room_in s (length octets))
  where
    by_test : (b : Bool) → HasPartsLeft (cond b (with_received s from octets) s).outbox (cond b (with_received s from octets) s).parts
    by_test true = are
    by_test false = are
parts_kept s (Reads room) are = are
parts_kept s (Emits place source) are = by_test (waits_at place s)
  where
    t : SocketView
    t = brought place s

    by_test : (b : Bool) → HasPartsLeft (cond b (after_part t) s).outbox (cond b (after_part t) s).parts
    by_test true = part_left t.inbox t.outbox t.parts (brought_left place s are)
    by_test false = are
parts_kept s (GivesUp lost now) are = of_outbox s.outbox s.parts are
  where
    of_outbox : (os : List Outgoing) (parts : ℕ) → HasPartsLeft os parts → HasPartsLeft (filter (stays lost now) os) (parts_left lost now os parts)
    of_outbox [] parts are = are
    of_outbox (o ∷ rest) parts are = by_test (is_given_up lost now o) refl
      where
        by_test : (b : Bool) → is_given_up lost now o ≡ b → HasPartsLeft (filter (stays lost now) (o ∷ rest)) (parts_left lost now (o ∷ rest) parts)
        by_test true is = rw is (none_out (filter (stays lost now) rest))
        by_test false is = rw is are

-- one more of a list
take_next : {X Y : Type 0} (f : X → Y) (xs : List X) (i : ℕ) (x : X) → slice_get xs i ≡ Some x → take (i + 1) (map f xs) ≡ take i (map f xs) ++ f x ∷ []
take_next f [] zero x is = cc
take_next f [] (suc i) x is = cc
take_next f (y ∷ ys) zero x is = let same : y ≡ x = cc in ap (λ z. f z ∷ []) same
take_next f (y ∷ ys) (suc i) x is =
    let next : suc i + 1 ≡ suc (i + 1) = omega arith in
    ap (λ (n : ℕ). take n (map f (y ∷ ys))) next ∙ ap (λ zs. f y ∷ zs) (take_next f ys i x is)

module _ (source : Endpoint) where
  -- what goes out of datagrams, one behind the other
  abbrev runs : List Run → List Piece
  runs rs = flat_map (pieces_of source) rs

  -- the first of these
  abbrev first_run : List Outgoing → ℕ → List Run
  first_run os parts = map (λ (o : Outgoing). let r : Run = record { datagram = o; count = parts } in r) (take 1 os)

  abbrev gone : Outgoing → ℕ → List Piece
  gone o parts = take parts (pieces source o)

  abbrev next : Outgoing → ℕ → List Piece
  next o parts = piece source o (fragment_of o parts) ∷ []

  one_more : (o : Outgoing) (parts : ℕ) → parts < count_of (8 + length o.octets) → gone o (parts + 1) ≡ gone o parts ++ next o parts
  one_more o parts below =
      take_next (piece source o) (fragments_of (8 + length o.octets)) parts (fragment (8 + length o.octets) parts) (numbered (8 + length o.octets) parts below)

  the_last : (o : Outgoing) (parts : ℕ) → parts < count_of (8 + length o.octets) → (fragment_of o parts).more_fragments ≡ false → pieces_of source (whole o) ≡ gone o parts ++ next o parts
  the_last o parts below is =
      let len : ℕ = 8 + length o.octets in
      let past : 8 + length o.octets ≤ 1480 * (parts + 1) = grind (arith, nat_tests, is) in
      let count : length (fragments_of len) ≡ count_of len = count_from len 0 (count_of len) in
      let last : length (fragments_of len) ≡ parts + 1 = omega (arith, count, below, past) in
      ap (λ (n : ℕ). gone o n) last ∙ one_more o parts below

  none_begun : (os : List Outgoing) → runs (first_run os 0) ≡ []
  none_begun [] = refl
  none_begun (o ∷ rest) = refl

  none_given : (lost : Addr → Bool) (now : Moment) (os : List Outgoing) → runs (given_up lost now os 0) ≡ []
  none_given lost now [] = refl
  none_given lost now (o ∷ rest) = by_test (is_given_up lost now o) (none_given lost now rest)
    where
      by_test : (b : Bool) → runs (given_up lost now rest 0) ≡ [] → runs (cond b (record { datagram = o; count = 0 } ∷ []) [] ++ given_up lost now rest 0) ≡ []
      by_test true none = none
      by_test false none = none

  step_sends : (os : List Outgoing) (o : Outgoing) (parts : ℕ) → HasPartsLeft os parts → runs (first_run os parts) ++ [] ≡ runs (first_run (os ++ o ∷ []) parts)
  step_sends [] o parts are = sym (ap (λ (n : ℕ). runs (first_run (o ∷ []) n)) are)
  step_sends (x ∷ os) o parts are = append-nil (runs (first_run (x ∷ os) parts))

  step_first : (inbox : List Waiting) (os : List Outgoing) (parts : ℕ) → HasPartsLeft os parts
      → let s : SocketView = record { inbox = inbox; outbox = os; parts = parts } in
      runs (begun s) ++ piece_due source s ≡ runs (map whole (last_due s)) ++ runs (begun (after_part s))
  step_first inbox [] parts are = refl
  step_first inbox (o ∷ rest) parts are = by_test (fragment_of o parts).more_fragments refl
    where
      more : SocketView
      more = record { inbox = inbox; outbox = o ∷ rest; parts = parts + 1 }

      last : SocketView
      last = record { inbox = inbox; outbox = rest; parts = 0 }

      by_test : (b : Bool) → (fragment_of o parts).more_fragments ≡ b
          → (gone o parts ++ []) ++ next o parts ≡ runs (map whole (cond b [] (o ∷ []))) ++ runs (begun (cond b more last))
      by_test true is =
          ap (λ (ps : List Piece). ps ++ next o parts) (append-nil (gone o parts)) ∙ sym (one_more o parts are) ∙ sym (append-nil (gone o (parts + 1)))
      by_test false is =
          let all : List Piece = pieces_of source (whole o) in
          ap (λ (ps : List Piece). ps ++ next o parts) (append-nil (gone o parts)) ∙ sym (the_last o parts are is)
          ∙ sym (ap (λ (ps : List Piece). (all ++ []) ++ ps) (none_begun rest) ∙ append-nil (all ++ []) ∙ append-nil all)

  -- what goes out of a place carries on the first, or begins another
  step_emits : (place : ℕ) (s : SocketView) → HasPartsLeft s.outbox s.parts
      → runs (begun s) ++ gone_out s (Emits place source) ≡ runs (left s (Emits place source)) ++ runs (begun (after_event s (Emits place source)))
  step_emits zero s are = by_test (waits_at 0 s)
    where
      by_test : (b : Bool) → runs (begun s) ++ cond b (piece_due source s) [] ≡ runs (map whole (cond b (last_due s) [])) ++ runs (begun (cond b (after_part s) s))
      by_test true = step_first s.inbox s.outbox s.parts are
      by_test false = append-nil (runs (begun s))
  step_emits (suc place) s are = by_test (waits_at (suc place) s)
    where
      t : SocketView
      t = brought (suc place) s

      by_test : (b : Bool) → runs (begun s) ++ cond b (piece_due source t) []
          ≡ runs (cond b (begun s) [] ++ map whole (cond b (last_due t) [])) ++ runs (begun (cond b (after_part t) s))
      by_test true =
          ap (λ (ps : List Piece). runs (begun s) ++ ps)
          (ap (λ (ps : List Piece). ps ++ piece_due source t) (sym (none_begun t.outbox)) ∙ step_first t.inbox t.outbox 0 (none_out t.outbox))
          ∙ sym (append_assoc (runs (begun s)) (runs (map whole (last_due t))) (runs (begun (after_part t))))
          ∙ ap (λ (ps : List Piece). ps ++ runs (begun (after_part t))) (sym (flat_map-append (pieces_of source) (begun s) (map whole (last_due t))))
      by_test false = append-nil (runs (begun s))

  step_gives_up : (lost : Addr → Bool) (now : Moment) (os : List Outgoing) (parts : ℕ) → HasPartsLeft os parts
      → runs (first_run os parts) ++ [] ≡ runs (given_up lost now os parts) ++ runs (first_run (filter (stays lost now) os) (parts_left lost now os parts))
  step_gives_up lost now [] parts are = refl
  step_gives_up lost now (o ∷ rest) parts are = by_test (is_given_up lost now o) refl
    where
      by_test : (b : Bool) → is_given_up lost now o ≡ b
          → runs (first_run (o ∷ rest) parts) ++ [] ≡ runs (given_up lost now (o ∷ rest) parts) ++ runs (first_run (filter (stays lost now) (o ∷ rest)) (parts_left lost now (o ∷ rest) parts))
      by_test true is =
          rw is (sym (ap (λ (ps : List Piece). (gone o parts ++ ps) ++ runs (first_run (filter (stays lost now) rest) 0)) (none_given lost now rest)
          ∙ ap (λ (ps : List Piece). (gone o parts ++ []) ++ ps) (none_begun (filter (stays lost now) rest))))
      by_test false is =
          rw is (append-nil (gone o parts ++ []) ∙ sym (ap (λ (ps : List Piece). ps ++ (gone o parts ++ [])) (none_given lost now rest)))

  -- what goes out by an event carries on what has gone out
  step : (s : SocketView) (e : Event) → HasPartsLeft s.outbox s.parts → IsFrom source e
      → runs (begun s) ++ gone_out s e ≡ runs (left s e) ++ runs (begun (after_event s e))
  step s (Sends now peer identification octets) are from = by_test (has_room_out s (length octets))
    where
      by_test : (b : Bool) → runs (begun s) ++ [] ≡ runs (begun (cond b (with_sent s now peer identification octets) s))
      by_test true = step_sends s.outbox _ s.parts are
      by_test false = append-nil (runs (begun s))
  step s (Receives peer octets) are from = by_test (has_room_in s (length octets))
    where
      by_test : (b : Bool) → runs (begun s) ++ [] ≡ runs (begun (cond b (with_received s peer octets) s))
      by_test true = append-nil (runs (begun s))
      by_test false = append-nil (runs (begun s))
  step s (Reads room) are from = append-nil (runs (begun s))
  step s (Emits place other) are from =
      subst (λ (x : Endpoint). runs (begun s) ++ gone_out s (Emits place x) ≡ runs (left s (Emits place x)) ++ runs (begun (after_event s (Emits place x)))) (sym from)
      (step_emits place s are)
  step s (GivesUp lost now) are from = step_gives_up lost now s.outbox s.parts are

  -- over events
  over : (s : SocketView) (events : List Event) → HasPartsLeft s.outbox s.parts → AllByRecursion (IsFrom source) events
      → runs (begun s) ++ gathered gone_out s events ≡ runs (gathered left s events) ++ runs (begun (after_events s events))
  over s [] are from = append-nil (runs (begun s))
  over s (e ∷ events) are from =
      let t : SocketView = after_event s e in
      let more : List Piece = gathered gone_out t events in
      let end : List Piece = runs (begun (after_events t events)) in
      sym (append_assoc (runs (begun s)) (gone_out s e) more)
      ∙ ap (λ (ps : List Piece). ps ++ more) (step s e are from.0)
      ∙ append_assoc (runs (left s e)) (runs (begun t)) more
      ∙ ap (λ (ps : List Piece). runs (left s e) ++ ps) (over t events (parts_kept s e are) from.1)
      ∙ sym (append_assoc (runs (left s e)) (runs (gathered left t events)) end)
      ∙ ap (λ (ps : List Piece). ps ++ end) (sym (flat_map-append (pieces_of source) (left s e) (gathered left t events)))

-- from a socket in which nothing waits
pub runs_out : (source : Endpoint) (s : SocketView) (events : List Event) → s.outbox ≡ [] → s.parts ≡ 0 → AllByRecursion (IsFrom source) events
    → gathered gone_out s events ≡ flat_map (pieces_of source) (gathered left s events ++ begun (after_events s events))
runs_out source s events none parts from =
    ap (λ (os : List Outgoing). flat_map (pieces_of source) (map (λ (o : Outgoing). let r : Run = record { datagram = o; count = s.parts } in r) (take 1 os)) ++ gathered gone_out s events) (sym none)
    ∙ over source s events (subst (λ (os : List Outgoing). HasPartsLeft os s.parts) (sym none) parts) from
    ∙ sym (flat_map-append (pieces_of source) (gathered left s events) (begun (after_events s events)))

-- the fragments carry the spelling
octets_of_pieces : (source : Endpoint) (o : Outgoing) (fs : List Fragment) → flat_map (λ (p : Piece). p.octets) (map (piece source o) fs) ≡ flat_map (part_of (spelling (datagram_of source o))) fs
octets_of_pieces source o [] = refl
octets_of_pieces source o (f ∷ fs) = ap (λ (xs : List ℕ). part_of (spelling (datagram_of source o)) f ++ xs) (octets_of_pieces source o fs)

length-pieces : (source : Endpoint) (o : Outgoing) (fs : List Fragment) → length (map (piece source o) fs) ≡ length fs
length-pieces source o [] = refl
length-pieces source o (f ∷ fs) = ap suc (length-pieces source o fs)

pub whole_spelled : (source : Endpoint) (o : Outgoing) → flat_map (λ (p : Piece). p.octets) (pieces_of source (whole o)) ≡ spelling (datagram_of source o)
whole_spelled source o =
    let d : UserDatagram = datagram_of source o in
    let fs : List Fragment = fragments_of (8 + length o.octets) in
    let size : length (map (piece source o) fs) ≤ length fs = omega (arith, length-pieces source o fs) in
    let len : 8 + length o.octets ≡ length (spelling d) = omega arith in
    ap (λ (ps : List Piece). flat_map (λ (p : Piece). p.octets) ps) (take_all (length fs) (map (piece source o) fs) size)
    ∙ octets_of_pieces source o fs
    ∙ ap (λ (n : ℕ). flat_map (part_of (spelling d)) (fragments_of n)) len
    ∙ cover (spelling d)

pub datagrams_given_up : (lost : Addr → Bool) (now : Moment) (os : List Outgoing) (parts : ℕ) → map (λ (r : Run). r.datagram) (given_up lost now os parts) ≡ filter (is_given_up lost now) os
datagrams_given_up lost now [] parts = refl
datagrams_given_up lost now (o ∷ rest) parts = by_test (is_given_up lost now o) (datagrams_given_up lost now rest 0) refl
  where
    by_test : (b : Bool) → map (λ (r : Run). r.datagram) (given_up lost now rest 0) ≡ filter (is_given_up lost now) rest → is_given_up lost now o ≡ b
        → map (λ (r : Run). r.datagram) (given_up lost now (o ∷ rest) parts) ≡ filter (is_given_up lost now) (o ∷ rest)
    by_test true same is = rw is (ap (λ (os : List Outgoing). o ∷ os) same)
    by_test false same is = rw is same
