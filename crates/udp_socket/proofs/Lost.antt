-- What is given up of the outgoing datagrams, by their tags alone.
use Rattle.std.proofs.Common.{◌≡◌, ℕ, ◌<◌, ◌≤◌, ◌||◌, Bool, true, false, not, List, [], ◌∷◌, ◌++◌, length, take, drop, filter, fold, Option, Some, refl, sym, ◌∙◌, ap, subst, length-append, arith}
use Rattle.std.specs.List.{list_any, slice_get}
use Rattle.circular_buffer.specs.Buffer.{Buffer, buffer, keep_last}
use Rattle.clock.specs.declared.moment.Moment.{Moment}
use Rattle.clock.specs.Moments.{sooner}
use Rattle.ipv4.specs.declared.addr.Addr.{Addr}
use Rattle.udp.specs.Waiting.{Waiting, Line}
use Rattle.udp_socket.specs.declared.tag.Tag.{Tag}
use Rattle.udp_socket.specs.SocketView.{Outgoing, SocketView}
use Rattle.udp_socket.specs.Stored.{outgoing, outgoing_of, AreBeside, ArePartsOf, IsStored, first_if, bare}
use Rattle.udp_socket.specs.Waits.{is_given_up, deadline_of}
use Rattle.udp.proofs.Turning.{length-rest, pushed_whole}
use Rattle.udp_socket.proofs.Due.{shown}
use Rattle.udp_socket.proofs.Beside.{beside_push, outgoing_push}

pub given_beside : (test : Addr → Bool) (now : Moment) (tags : List Tag) (items : List Waiting) → AreBeside tags items
    → list_any (λ (tag : Tag). is_given_up test now (bare tag)) tags ≡ list_any (is_given_up test now) (outgoing_of tags items)
given_beside test now [] [] beside = refl
given_beside test now [] (item ∷ items) beside = absurd beside
given_beside test now (tag ∷ tags) [] beside = absurd beside
given_beside test now (tag ∷ tags) (item ∷ items) beside = ap (λ (b : Bool). is_given_up test now (bare tag) || b) (given_beside test now tags items beside.2)

-- the least deadline of the tags, from one on
pub deadline_beside : (test : Addr → Bool) (tags : List Tag) (items : List Waiting) (least : Option Moment) → AreBeside tags items
    → fold (λ l (tag : Tag). sooner l (deadline_of test (bare tag))) least tags ≡ fold (λ l o. sooner l (deadline_of test o)) least (outgoing_of tags items)
deadline_beside test [] [] least beside = refl
deadline_beside test [] (item ∷ items) least beside = absurd beside
deadline_beside test (tag ∷ tags) [] least beside = absurd beside
deadline_beside test (tag ∷ tags) (item ∷ items) least beside = deadline_beside test tags items (sooner least (deadline_of test (bare tag))) beside.2

-- the first datagram is given up where its tag says so
first_test : (test : Addr → Bool) (now : Moment) (tags : List Tag) (items : List Waiting) (tag : Tag) (b : Bool) → AreBeside tags items → slice_get tags 0 ≡ Some tag
    → is_given_up test now (bare tag) ≡ b → filter (λ o. not (is_given_up test now o)) (take 1 (outgoing_of tags items)) ≡ first_if (not b) (outgoing_of tags items)
first_test test now [] items tag b beside first is = cc
first_test test now (t ∷ ts) [] tag b beside first is = absurd beside
first_test test now (t ∷ ts) (w ∷ ws) tag b beside first is =
    let same : t ≡ tag = cc in
    let told : is_given_up test now (bare t) ≡ b = ap (λ (x : Tag). is_given_up test now (bare x)) same ∙ is in
    of_test b told
  where
    of_test : (b : Bool) → is_given_up test now (bare t) ≡ b → filter (λ o. not (is_given_up test now o)) (outgoing t w ∷ []) ≡ first_if (not b) (outgoing t w ∷ outgoing_of ts ws)
    of_test true told = rw told refl
    of_test false told = rw told refl

pub first_gone : (test : Addr → Bool) (now : Moment) (tags : List Tag) (items : List Waiting) (tag : Tag) (s : SocketView) → AreBeside tags items → slice_get tags 0 ≡ Some tag
    → outgoing_of tags items ≡ s.outbox → is_given_up test now (bare tag) ≡ true → first_if false s.outbox ≡ filter (λ o. not (is_given_up test now o)) (take 1 s.outbox)
first_gone test now tags items tag s beside first shown is =
    sym (first_test test now tags items tag true beside first is) ∙ ap (λ (os : List Outgoing). filter (λ o. not (is_given_up test now o)) (take 1 os)) shown

pub first_kept : (test : Addr → Bool) (now : Moment) (tags : List Tag) (items : List Waiting) (tag : Tag) (s : SocketView) → AreBeside tags items → slice_get tags 0 ≡ Some tag
    → outgoing_of tags items ≡ s.outbox → is_given_up test now (bare tag) ≡ false → first_if true s.outbox ≡ filter (λ o. not (is_given_up test now o)) (take 1 s.outbox)
first_kept test now tags items tag s beside first shown is =
    ap (λ (os : List Outgoing). first_if true os) (sym shown) ∙ sym (first_test test now tags items tag false beside first is)
    ∙ ap (λ (os : List Outgoing). filter (λ o. not (is_given_up test now o)) (take 1 os)) shown

-- both lists turned by one
beside_turned : (tags : List Tag) (items : List Waiting) (tag : Tag) → AreBeside tags items → slice_get tags 0 ≡ Some tag
    → AreBeside (drop 1 tags ++ tag ∷ []) (drop 1 items ++ take 1 items)
beside_turned [] items tag beside first = cc
beside_turned (t ∷ ts) [] tag beside first = absurd beside
beside_turned (t ∷ ts) (w ∷ ws) tag beside first =
    let same : t ≡ tag = cc in
    beside_push ts ws tag w beside.2 (beside.0 ∙ ap (λ (x : Tag). x.peer) same) beside.1

outgoing_turned : (tags : List Tag) (items : List Waiting) (tag : Tag) → AreBeside tags items → slice_get tags 0 ≡ Some tag
    → outgoing_of (drop 1 tags ++ tag ∷ []) (drop 1 items ++ take 1 items) ≡ drop 1 (outgoing_of tags items) ++ first_if true (outgoing_of tags items)
outgoing_turned [] items tag beside first = cc
outgoing_turned (t ∷ ts) [] tag beside first = absurd beside
outgoing_turned (t ∷ ts) (w ∷ ws) tag beside first =
    let same : t ≡ tag = cc in
    outgoing_push ts ws tag w beside.2 ∙ ap (λ (x : Tag). outgoing_of ts ws ++ outgoing x w ∷ []) (sym same)

some_wait : (tags : List Tag) (items : List Waiting) (tag : Tag) → AreBeside tags items → slice_get tags 0 ≡ Some tag → 0 < length tags
some_wait [] items tag beside first = cc
some_wait (t ∷ ts) items tag beside first = omega arith

pub no_parts : (items : List Waiting) → ArePartsOf items 0
no_parts [] = refl
no_parts (w ∷ ws) = omega arith

-- the tags then: there is a place for the one that was taken out
tags_turned : (tags popped after : Buffer Tag) (tag : Tag) → tags.capacity ≡ 64 → length tags.items ≤ 64 → 0 < length tags.items
    → popped ≡ buffer (drop 1 tags.items) tags.capacity → after ≡ buffer (keep_last popped.capacity (popped.items ++ tag ∷ [])) popped.capacity
    → after ≡ buffer (drop 1 tags.items ++ tag ∷ []) tags.capacity
tags_turned tags popped after tag places few some is_popped is =
    let room : length (drop 1 tags.items) < tags.capacity = omega (arith, places, few, length-rest tags.items some) in
    is ∙ ap (λ (b : Buffer Tag). buffer (keep_last b.capacity (b.items ++ tag ∷ [])) b.capacity) is_popped
    ∙ ap (λ (ts : List Tag). buffer ts tags.capacity) (pushed_whole (drop 1 tags.items) tag tags.capacity room)

-- the socket with the first datagram behind the others
pub stored_turned : (inbox line requeued : Line) (tags popped after : Buffer Tag) (parts : ℕ) (tag : Tag) → IsStored inbox line tags parts
    → slice_get tags.items 0 ≡ Some tag → requeued ≡ record line { items = drop 1 line.items ++ take 1 line.items }
    → popped ≡ buffer (drop 1 tags.items) tags.capacity → after ≡ buffer (keep_last popped.capacity (popped.items ++ tag ∷ [])) popped.capacity
    → IsStored inbox requeued after 0
stored_turned inbox line requeued tags popped after parts tag stored first is_requeued is_popped is =
    let some = some_wait tags.items line.items tag stored.beside first in
    let turned_line : Line = record line { items = drop 1 line.items ++ take 1 line.items } in
    let count : length (drop 1 tags.items ++ tag ∷ []) ≡ length tags.items = omega (arith, length-append (drop 1 tags.items) (tag ∷ []), length-rest tags.items some) in
    subst (λ (l : Line). IsStored inbox l after 0) (sym is_requeued)
    (subst (λ (ts : Buffer Tag). IsStored inbox turned_line ts 0) (sym (tags_turned tags popped after tag stored.places stored.few some is_popped is))
    (record {
      inbox = stored.inbox;
      outbox = stored.outbox;
      places = stored.places;
      few = omega (arith, count, stored.few);
      beside = beside_turned tags.items line.items tag stored.beside first;
      parts = no_parts (drop 1 line.items ++ take 1 line.items);
    }))

pub shown_turned : (inbox : List Waiting) (line requeued : Line) (tags popped after : Buffer Tag) (parts : ℕ) (tag : Tag) (s : SocketView) → tags.capacity ≡ 64 → length tags.items ≤ 64
    → AreBeside tags.items line.items → slice_get tags.items 0 ≡ Some tag → requeued ≡ record line { items = drop 1 line.items ++ take 1 line.items }
    → popped ≡ buffer (drop 1 tags.items) tags.capacity → after ≡ buffer (keep_last popped.capacity (popped.items ++ tag ∷ [])) popped.capacity
    → shown inbox (outgoing_of tags.items line.items) parts ≡ s
    → shown inbox (outgoing_of after.items requeued.items) 0 ≡ record s { outbox = drop 1 s.outbox ++ first_if true s.outbox; parts = 0 }
shown_turned inbox line requeued tags popped after parts tag s places few beside first is_requeued is_popped is seen =
    let some = some_wait tags.items line.items tag beside first in
    ap (λ (ts : Buffer Tag). shown inbox (outgoing_of ts.items requeued.items) 0) (tags_turned tags popped after tag places few some is_popped is)
    ∙ ap (λ (l : Line). shown inbox (outgoing_of (drop 1 tags.items ++ tag ∷ []) l.items) 0) is_requeued
    ∙ ap (λ (os : List Outgoing). shown inbox os 0) (outgoing_turned tags.items line.items tag beside first)
    ∙ ap (λ (x : SocketView). let y : SocketView = record x { outbox = drop 1 x.outbox ++ first_if true x.outbox; parts = 0 } in y) seen
