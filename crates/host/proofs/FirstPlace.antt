-- What goes out is for the first place for which a frame can.
use Rattle.std.proofs.Common.{◌≡◌, ◌≢◌, ℕ, zero, suc, ◌+◌, ◌<◌, Bool, true, false, cond, List, [], ◌∷◌, ◌++◌, length, map, Option, Some, None, is_some, option_map, option_and_then, refl, sym, ◌∙◌, ap, subst, arith}
use Rattle.std.specs.List.{find, flat_map, position, slice_get}
use Rattle.std.specs.Option.{option_or}
use Rattle.std.proofs.lemmas.List.Concat.{flat_map-cons}
use Rattle.std.proofs.lemmas.List.Folds.{find_at, find-append}
use Rattle.std.proofs.lemmas.Option.{cond_some}
use Rattle.ipv4.specs.declared.addr.Addr.{Addr}
use Rattle.ipv4.specs.declared.addr.Endpoint.{Endpoint}
use Rattle.clock.specs.declared.moment.Moment.{Moment}
use Rattle.tcp_state.specs.declared.emission.Due.{Due}
use Rattle.tcp_state.specs.Due.{emitted_len as segment_len}
use Rattle.interface.specs.declared.reply.Waiting.{Waiting}
use Rattle.interface.specs.declared.way.Way.{Way}
use Rattle.interface.specs.declared.way.Way.TheVariants.{To, Ask, Waits}
use Rattle.interface.specs.Replies.{goes_out, is_due as is_reply_due}
use Rattle.interface.specs.Ways.{way}
use Rattle.sockets.specs.declared.entry.Entry.{Entry}
use Rattle.sockets.specs.declared.role.Role.{Role}
use Rattle.sockets.specs.declared.role.Role.TheVariants.{Idle, Listener, Connected, Datagrams}
use Rattle.sockets.specs.declared.emission.Emitted.TheVariants as emitted
use Rattle.sockets.specs.declared.emission.Outgoing.{Outgoing}
use Rattle.sockets.specs.declared.emission.Outgoing.TheVariants.{Segment, Datagram}
use Rattle.sockets.specs.Entries.{HasOutgoing, due_emitted, due_to, dues_of, sends}
use Rattle.sockets.specs.Emission.{Next, emitted, next_of, next_out, in_turn}
use Rattle.sockets.specs.SocketsView.{SocketsView, later_moment}
use Rattle.sockets.proofs.Emitting.{IsFirstDatagram, first_datagram, found_due, sends_due, due_outgoing, due_passes, next-found, next-none, emitted-found}
use Rattle.sockets.proofs.Firsts.{find-position_none, found_by_place}
use Rattle.udp.specs.declared.cutting.Part.{Part}
use Rattle.udp_socket.specs.Emission.{brought, due_part, due_peer, first_that, fragment_of}
use Rattle.udp_socket.proofs.Places.{due_brought}
use Rattle.udp_socket.specs.SocketView.{Outgoing as OutDatagram, SocketView}
use Rattle.host.specs.HostView.{HostView}
use Rattle.host.proofs.TurnOrder.{turns_find, turn_none, none_turn}
use Rattle.host.specs.Emission.{Emission, Replies, Nothing, emission, emission_at, emission_by, emission_len, emission_to, emitted_len, goes_out_from, len_of}
use Rattle.host.specs.Places.{Place, ReplyOf, EntryOf, can_go_out, places, places_in_turn, places_of, turns}

-- The first of lists that were made of others.

find-mapped : {X Y : Type 0} (f : X → Y) (p : Y → Bool) (xs : List X) → find p (map f xs) ≡ option_map f (find (λ x. p (f x)) xs)
find-mapped f p [] = refl
find-mapped {X} {Y} f p (x ∷ xs) = by_test (p (f x)) (find-mapped f p xs)
  where
    by_test : (b : Bool) → find p (map f xs) ≡ option_map f (find (λ y. p (f y)) xs) → cond b (Some (f x)) (find p (map f xs)) ≡ option_map f (cond b (Some x) (find (λ y. p (f y)) xs))
    by_test true further = refl
    by_test false further = further

at-place : {X : Type 0} (p : X → Bool) (xs : List X) (i : ℕ) → position p xs ≡ Some i → find p xs ≡ slice_get xs i
at-place p xs i e = find_at p xs ∙ ap (slice_get xs) (cond_some _ _ _ e).1

pub find-passes : {X : Type 0} (p : X → Bool) (xs : List X) (x : X) → find p xs ≡ Some x → p x ≡ true
find-passes p [] x e = cc
find-passes {X} p (y ∷ ys) x e = by_test (p y) refl (find-passes p ys x) e
  where
    by_test : (b : Bool) → p y ≡ b → (find p ys ≡ Some x → p x ≡ true) → cond b (Some y) (find p ys) ≡ Some x → p x ≡ true
    by_test true is further e = let same : y ≡ x = cc in subst (λ z. p z ≡ true) same is
    by_test false is further e = further e

slice_get-some : {X : Type 0} (xs : List X) (n : ℕ) → n < length xs → slice_get xs n ≡ None → ⊥
slice_get-some [] n within none = omega (arith, within)
slice_get-some (x ∷ xs) zero within none = cc
slice_get-some (x ∷ xs) (suc n) within none = slice_get-some xs n (omega (arith, within)) none

mapped-none : {X Y : Type 0} (f : X → Y) (o : Option X) → option_map f o ≡ None → o ≡ None
mapped-none f None e = refl
mapped-none f (Some x) e = cc

some-part : (s : SocketView) (outbox : List OutDatagram) (peer : Endpoint) → s.outbox ≡ outbox → due_peer outbox ≡ Some peer → due_part s ≡ None → ⊥
some-part s [] peer at due none = cc
some-part s (o ∷ rest) peer at due none = let some : due_part s ≡ Some (record { identification = o.identification; fragment = fragment_of o s.parts }) = rw at refl in let no = sym some ∙ none in cc

-- a datagram that waits has a part to go out
pub part-waits : (place : ℕ) (socket : SocketView) → place < length socket.outbox → due_part (brought place socket) ≡ None → ⊥
part-waits place socket within none = by_place (slice_get socket.outbox place) refl
  where
    by_place : (o : Option OutDatagram) → slice_get socket.outbox place ≡ o → ⊥
    by_place None there = slice_get-some socket.outbox place within there
    by_place (Some o) there =
        let s : SocketView = brought place socket in
        some-part s s.outbox o.peer refl (due_brought socket place o.peer (ap (option_map (λ (x : OutDatagram). x.peer)) there)) none

-- The first place for which a frame can go out.

abbrev as_place : Next → Place
as_place next = EntryOf next.entry next.peer next.what

abbrev by_sides : Option Waiting → Option Next → Option Place
by_sides w next = option_or (option_map ReplyOf w) (option_map as_place next)

-- of what the entries have due it is for the first of the first entry for which one can
table-is : (h : HostView) (moment : Moment) (entries : List Entry)
    → find (can_go_out h moment) (flat_map places_of entries) ≡ option_map as_place (option_and_then (next_of (goes_out_from h moment)) (find (sends (goes_out_from h moment)) entries))
table-is h moment [] = refl
table-is h moment (e ∷ es) =
    ap (find (can_go_out h moment)) (flat_map-cons places_of e es)
    ∙ find-append (can_go_out h moment) (places_of e) (flat_map places_of es)
    ∙ ap (λ o. option_or o (find (can_go_out h moment) (flat_map places_of es))) (find-mapped (λ (due : Endpoint × Outgoing). EntryOf e due.0 due.1) (can_go_out h moment) (dues_of e.role))
    ∙ by_due (table-is h moment es) (due_to (goes_out_from h moment) e.role) refl
  where
    by_due : find (can_go_out h moment) (flat_map places_of es) ≡ option_map as_place (option_and_then (next_of (goes_out_from h moment)) (find (sends (goes_out_from h moment)) es))
        → (o : Option (Endpoint × Outgoing)) → due_to (goes_out_from h moment) e.role ≡ o
        → option_or (option_map (λ (due : Endpoint × Outgoing). EntryOf e due.0 due.1) o) (find (can_go_out h moment) (flat_map places_of es))
        ≡ option_map as_place (option_and_then (next_of (goes_out_from h moment)) (cond (is_some o) (Some e) (find (sends (goes_out_from h moment)) es)))
    by_due further None is = further
    by_due further (Some due) is = sym (ap (λ (o : Option (Endpoint × Outgoing)). option_map as_place (option_map (λ (d : Endpoint × Outgoing). let n : Next = record { entry = e; peer = d.0; what = d.1 } in n) o)) is)

module _ (h : HostView) (moment : Moment) where
  abbrev own : SocketsView
  own = h.sockets

  abbrev goes : Addr → Bool
  goes = goes_out_from h moment

  abbrev replied : Option Waiting
  replied = find (is_reply_due h.interface moment) h.interface.replies

  over : (entries : List Entry) → find (can_go_out h moment) (map ReplyOf h.interface.replies ++ flat_map places_of entries) ≡ by_sides (find (is_reply_due h.interface moment) h.interface.replies) (option_and_then (next_of (goes_out_from h moment)) (find (sends (goes_out_from h moment)) entries))
  over entries =
      find-append (can_go_out h moment) (map ReplyOf h.interface.replies) (flat_map places_of entries)
      ∙ ap (λ o. option_or o (find (can_go_out h moment) (flat_map places_of entries))) (find-mapped ReplyOf (can_go_out h moment) h.interface.replies)
      ∙ ap (λ o. option_or (option_map ReplyOf (find (is_reply_due h.interface moment) h.interface.replies)) o) (table-is h moment entries)

  first-is : find (can_go_out h moment) (places_in_turn h) ≡ by_sides (find (is_reply_due h.interface moment) h.interface.replies) (next_out h.sockets (goes_out_from h moment))
  first-is = over (turns h.sockets) ∙ ap (λ o. by_sides replied (option_and_then (next_of goes) o)) (turns_find own (sends goes))

  -- nothing can go out for any of them, in whatever order they stand
  none-sends : (w : Option Waiting) (o : Option Entry) → find (sends goes) own.entries ≡ o → by_sides w (option_and_then (next_of goes) o) ≡ None → (w ≡ None) × (find (sends goes) own.entries ≡ None)
  none-sends (Some w) o found none = cc
  none-sends None None found none = (refl, found)
  none-sends None (Some e) found none =
      let due = sends_due goes e (find-passes (sends goes) own.entries e found) in
      let some : option_map as_place (next_of goes e) ≡ Some (EntryOf e due.0.0 due.0.1) = ap (λ (d : Option (Endpoint × Outgoing)). option_map as_place (option_map (λ (x : Endpoint × Outgoing). let n : Next = record { entry = e; peer = x.0; what = x.1 } in n) d)) due.1 in
      let bad : Some (EntryOf e due.0.0 due.0.1) ≡ None = sym some ∙ none in cc

  pub none-in-turn : find (can_go_out h moment) (places h) ≡ None → find (can_go_out h moment) (places_in_turn h) ≡ None
  none-in-turn none =
      let parts = none-sends replied (find (sends goes) own.entries) refl (sym (over own.entries) ∙ none) in
      first-is ∙ ap (λ w. by_sides w (next_out own goes)) parts.0 ∙ ap (λ o. by_sides None (option_and_then (next_of goes) o)) (turn_none own (sends goes) parts.1)

  pub none-at-all : find (can_go_out h moment) (places_in_turn h) ≡ None → find (can_go_out h moment) (places h) ≡ None
  none-at-all none = by_reply replied refl
    where
      by_entry : replied ≡ None → (o : Option Entry) → find (in_turn own (sends goes)) own.entries ≡ o → find (can_go_out h moment) (places h) ≡ None
      by_entry unreplied None found = over own.entries ∙ ap (λ w. by_sides w (option_and_then (next_of goes) (find (sends goes) own.entries))) unreplied ∙ ap (λ o. by_sides None (option_and_then (next_of goes) o)) (none_turn own (sends goes) found)
      by_entry unreplied (Some e) found =
          let due = found_due own goes e found in
          let bad : Some (EntryOf e due.0.0 due.0.1) ≡ None = sym (ap (λ w. by_sides w (next_out own goes)) unreplied ∙ ap (λ (n : Option Next). by_sides None n) (next-found own goes e due.0 found due.1)) ∙ sym first-is ∙ none in cc

      by_reply : (w : Option Waiting) → replied ≡ w → find (can_go_out h moment) (places h) ≡ None
      by_reply None unreplied = by_entry unreplied (find (in_turn own (sends goes)) own.entries) refl
      by_reply (Some w) first = let bad : Some (ReplyOf w) ≡ None = sym (ap (λ (x : Option Waiting). by_sides x (next_out own goes)) first) ∙ sym first-is ∙ none in cc

-- what goes out for it
data IsFirst (h : HostView) (moment : Moment) (first : Option Place) : Type 0 where
  ForReply : (w : Waiting) (place : ℕ) → first ≡ Some (ReplyOf w) → slice_get h.interface.replies place ≡ Some w → emission h moment ≡ Replies place → IsFirst h moment first
  ForEntry : (next : Next) → first ≡ Some (as_place next) → next_out h.sockets (goes_out_from h moment) ≡ Some next → emission h moment ≡ emission_to h moment (Some next.peer) → IsFirst h moment first
  ForNone : first ≡ None → emission h moment ≡ Nothing → IsFirst h moment first

is-first : (h : HostView) (moment : Moment) → IsFirst h moment (find (can_go_out h moment) (places_in_turn h))
is-first h moment = by_reply (position (is_reply_due h.interface moment) h.interface.replies) refl
  where
    out : Option Next → Emission
    out o = emission_to h moment (option_map (λ next. next.peer) o)

    by_entry : position (is_reply_due h.interface moment) h.interface.replies ≡ None → (o : Option Next) → next_out h.sockets (goes_out_from h moment) ≡ o → IsFirst h moment (find (can_go_out h moment) (places_in_turn h))
    by_entry unplaced None found =
        ForNone
        (first-is h moment ∙ ap (λ w. by_sides w (next_out h.sockets (goes_out_from h moment))) (find-position_none (is_reply_due h.interface moment) h.interface.replies unplaced) ∙ ap (λ e. by_sides None e) found)
        (ap (emission_at h moment) unplaced ∙ ap (λ (o : Option Next). emission_to h moment (option_map (λ next. next.peer) o)) found)
    by_entry unplaced (Some next) found =
        ForEntry next
        (first-is h moment ∙ ap (λ w. by_sides w (next_out h.sockets (goes_out_from h moment))) (find-position_none (is_reply_due h.interface moment) h.interface.replies unplaced) ∙ ap (λ e. by_sides None e) found)
        found (ap (emission_at h moment) unplaced ∙ ap (λ (o : Option Next). emission_to h moment (option_map (λ next. next.peer) o)) found)

    by_reply : (o : Option ℕ) → position (is_reply_due h.interface moment) h.interface.replies ≡ o → IsFirst h moment (find (can_go_out h moment) (places_in_turn h))
    by_reply None unplaced = by_entry unplaced (next_out h.sockets (goes_out_from h moment)) refl
    by_reply (Some place) at =
        let x = found_by_place (is_reply_due h.interface moment) h.interface.replies place at in
        ForReply x.0 place
        (first-is h moment ∙ ap (λ w. by_sides w (next_out h.sockets (goes_out_from h moment))) x.1)
        (sym (at-place (is_reply_due h.interface moment) h.interface.replies place at) ∙ x.1) (ap (emission_at h moment) at)

pub for-reply : (h : HostView) (moment : Moment) (w : Waiting) → find (can_go_out h moment) (places_in_turn h) ≡ Some (ReplyOf w)
    → (place : ℕ) × (slice_get h.interface.replies place ≡ Some w) × (emission h moment ≡ Replies place)
for-reply h moment w first = elim (is-first h moment) [
  | ForReply v place is at goes ↦ let same : v ≡ w = let e = sym is ∙ first in cc in (place, at ∙ ap Some same, goes)
  | ForEntry next is found goes ↦ let no = sym is ∙ first in cc
  | ForNone is goes ↦ let no = sym is ∙ first in cc
]

-- what goes out next is of the first entry that sends, and the first that it has due
next-is : (sockets : SocketsView) (goes : Addr → Bool) (next : Next) → next_out sockets goes ≡ Some next → (find (in_turn sockets (sends goes)) sockets.entries ≡ Some next.entry) × (due_to goes next.entry.role ≡ Some (next.peer, next.what))
next-is sockets goes next is = by_entry (find (in_turn sockets (sends goes)) sockets.entries) refl
  where
    by_entry : (o : Option Entry) → find (in_turn sockets (sends goes)) sockets.entries ≡ o → (find (in_turn sockets (sends goes)) sockets.entries ≡ Some next.entry) × (due_to goes next.entry.role ≡ Some (next.peer, next.what))
    by_entry None found = let none = sym (next-none sockets goes found) ∙ is in cc
    by_entry (Some e) found =
        let due = found_due sockets goes e found in
        let made : Next = record { entry = e; peer = due.0.0; what = due.0.1 } in
        let same : made ≡ next = let both = sym (next-found sockets goes e due.0 found due.1) ∙ is in cc in
        subst (λ (n : Next). (find (in_turn sockets (sends goes)) sockets.entries ≡ Some n.entry) × (due_to goes n.entry.role ≡ Some (n.peer, n.what))) same (found, due.1)

pub for-entry : (h : HostView) (moment : Moment) (e : Entry) (peer : Endpoint) (what : Outgoing) → find (can_go_out h moment) (places_in_turn h) ≡ Some (EntryOf e peer what)
    → (find (in_turn h.sockets (sends (goes_out_from h moment))) h.sockets.entries ≡ Some e) × (due_to (goes_out_from h moment) e.role ≡ Some (peer, what)) × (emission h moment ≡ emission_to h moment (Some peer))
for-entry h moment e peer what first = elim (is-first h moment) [
  | ForReply v place is at goes ↦ let no = sym is ∙ first in cc
  | ForEntry next is found goes ↦
      let same : as_place next ≡ EntryOf e peer what = let f = sym is ∙ first in cc in
      let entries : next.entry ≡ e = cc in
      let peers : next.peer ≡ peer = cc in
      let whats : next.what ≡ what = cc in
      let its = next-is h.sockets (goes_out_from h moment) next found in (
        its.0 ∙ ap Some entries,
        ap (λ (x : Entry). due_to (goes_out_from h moment) x.role) (sym entries) ∙ its.1 ∙ ap (λ (p : Endpoint). Some (p, next.what)) peers ∙ ap (λ (w : Outgoing). Some (peer, w)) whats,
        goes ∙ ap (λ (p : Endpoint). emission_to h moment (Some p)) peers,
      )
  | ForNone is goes ↦ let no = sym is ∙ first in cc
]

pub for-none : (h : HostView) (moment : Moment) → find (can_go_out h moment) (places h) ≡ None → emission h moment ≡ Nothing
for-none h moment none = let first = none-in-turn h moment none in elim (is-first h moment) [
  | ForReply v place is at goes ↦ let no = sym is ∙ first in cc
  | ForEntry next is found goes ↦ let no = sym is ∙ first in cc
  | ForNone is goes ↦ goes
]

-- Where there is a place, something goes out.

due-told : (what : Outgoing) (role : Role) → HasOutgoing role what → due_emitted what role ≡ None → ⊥
due-told what (Idle buffers bound) is e = absurd is
due-told what (Listener local backlog) is e = absurd is
due-told (Segment due) (Connected c l) is e = let no : Some (emitted.Segment (segment_len c due)) ≡ None = sym (ap (λ (o : Option Due). option_map (λ (d : Due). emitted.Segment (segment_len c d)) o) is) ∙ e in cc
due-told (Datagram place) (Connected c l) is e = absurd is
due-told (Segment due) (Datagrams bound socket) is e = absurd is
due-told (Datagram place) (Datagrams bound socket) is e = part-waits place socket is (mapped-none (λ (part : Part). emitted.Datagram part) (due_part (brought place socket)) e)

entry-long : (h : HostView) (moment : Moment) (next : Next) → next_out h.sockets (goes_out_from h moment) ≡ Some next → len_of h moment (emission_to h moment (Some next.peer)) ≡ None → ⊥
entry-long h moment next found none = by_way (way h.interface moment next.peer.addr) passes none
  where
    goes : Addr → Bool
    goes = goes_out_from h moment

    due : Endpoint × Outgoing
    due = (next.peer, next.what)

    its : (find (in_turn h.sockets (sends goes)) h.sockets.entries ≡ Some next.entry) × (due_to goes next.entry.role ≡ Some due)
    its = next-is h.sockets goes next found

    passes : goes_out (way h.interface moment next.peer.addr) ≡ true
    passes = due_passes goes next.entry.role due its.1

    by_way : (w : Way) → goes_out w ≡ true → len_of h moment (emission_by next.peer.addr w) ≡ None → ⊥
    by_way (To mac) passes none =
        due-told next.what next.entry.role (due_outgoing goes next.entry.role due its.1)
        (sym (emitted-found h.sockets goes next.entry due its.0 its.1) ∙ mapped-none emitted_len (emitted h.sockets goes) none)
    by_way (Ask hop) passes none = cc
    by_way Waits passes none = cc

pub only-none : (h : HostView) (now : Moment) → emission_len h now ≡ None → find (can_go_out h (later_moment h.sockets now)) (places h) ≡ None
only-none h now none = none-at-all h (later_moment h.sockets now) (elim (is-first h moment) [
  | ForReply v place is at goes ↦ let no : len_of h moment (Replies place) ≡ None = ap (len_of h moment) (sym goes) ∙ none in cc
  | ForEntry next is found goes ↦ absurd (entry-long h moment next found (ap (len_of h moment) (sym goes) ∙ none))
  | ForNone is goes ↦ is
])
  where
    moment : Moment
    moment = later_moment h.sockets now

-- The order of the datagrams of a socket.

before-fails : (goes : Addr → Bool) (outbox : List OutDatagram) (place before : ℕ) (o : OutDatagram) → first_that goes outbox ≡ Some place → before < place → slice_get outbox before ≡ Some o → goes o.peer.addr ≡ false
before-fails goes [] place before o first earlier at = cc
before-fails goes (x ∷ rest) place before o first earlier at = by_test (λ p b. before-fails goes rest p b o) (goes x.peer.addr) refl first
  where
    by_rest : ((p b : ℕ) → first_that goes rest ≡ Some p → b < p → slice_get rest b ≡ Some o → goes o.peer.addr ≡ false) → (r : Option ℕ) → first_that goes rest ≡ r → option_map suc r ≡ Some place → goes x.peer.addr ≡ false → (b : ℕ) → b < place → slice_get (x ∷ rest) b ≡ Some o → goes o.peer.addr ≡ false
    by_rest further None is same fails b earlier at = cc
    by_rest further (Some p) is same fails zero earlier at = let here : x ≡ o = cc in subst (λ (w : OutDatagram). goes w.peer.addr ≡ false) here fails
    by_rest further (Some p) is same fails (suc b) earlier at = let next : suc p ≡ place = cc in further p b is (omega (arith, next, earlier)) at

    by_test : ((p b : ℕ) → first_that goes rest ≡ Some p → b < p → slice_get rest b ≡ Some o → goes o.peer.addr ≡ false) → (b : Bool) → goes x.peer.addr ≡ b → cond b (Some 0) (option_map suc (first_that goes rest)) ≡ Some place → goes o.peer.addr ≡ false
    by_test further true passes is = let none : 0 ≡ place = cc in absurd (omega (arith, none, earlier))
    by_test further false fails is = by_rest further (first_that goes rest) refl is fails before earlier at

first-datagram : (h : HostView) (moment : Moment) (e : Entry) (peer : Endpoint) (place : ℕ) (bound : Option Endpoint) (socket : SocketView) → find (can_go_out h moment) (places_in_turn h) ≡ Some (EntryOf e peer (Datagram place)) → e.role ≡ Datagrams bound socket
    → IsFirstDatagram (goes_out_from h moment) socket.outbox 0 (peer, Datagram place)
first-datagram h moment e peer place bound socket first is =
    let its = for-entry h moment e peer (Datagram place) first in
    first_datagram (goes_out_from h moment) bound socket (peer, Datagram place) (ap (due_to (goes_out_from h moment)) (sym is) ∙ its.1)

pub datagram-first : (h : HostView) (moment : Moment) (e : Entry) (peer : Endpoint) (place : ℕ) (bound : Option Endpoint) (socket : SocketView) → find (can_go_out h moment) (places_in_turn h) ≡ Some (EntryOf e peer (Datagram place)) → e.role ≡ Datagrams bound socket
    → first_that (goes_out_from h moment) socket.outbox ≡ Some place
datagram-first h moment e peer place bound socket first is =
    let it = first-datagram h moment e peer place bound socket first is in
    let same : place ≡ 0 + it.place = let what = it.what in cc in
    it.first ∙ ap Some (omega (arith, same))

pub datagrams-ordered : (h : HostView) (moment : Moment) (e : Entry) (peer : Endpoint) (place before : ℕ) (bound : Option Endpoint) (socket : SocketView) (o : OutDatagram) → find (can_go_out h moment) (places_in_turn h) ≡ Some (EntryOf e peer (Datagram place)) → e.role ≡ Datagrams bound socket
    → before < place → slice_get socket.outbox before ≡ Some o → o.peer.addr ≢ peer.addr
datagrams-ordered h moment e peer place before bound socket o first is earlier at same =
    let it = first-datagram h moment e peer place bound socket first is in
    let fails = before-fails (goes_out_from h moment) socket.outbox place before o (datagram-first h moment e peer place bound socket first is) earlier at in
    let no : true ≡ false = sym it.passes ∙ ap (goes_out_from h moment) (sym same) ∙ fails in cc
