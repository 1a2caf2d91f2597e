-- How many octets a further datagram may have.
use Rattle.std.proofs.Common.{◌≡◌, ℕ, ◌+◌, ◌-◌, ◌<◌, ◌≤◌, ◌↔◌, ◌&&◌, nat_lt, nat_le, min, Bool, true, false, if◌then◌else◌, List, length, map, refl, sym, ◌∙◌, ap, arith}
use Rattle.std.proofs.lemmas.Bool.Decides.{nat_tests}
use Rattle.udp.specs.Waiting.{Waiting, Line, HasRoom, load}
use Rattle.udp_socket.specs.declared.tag.Tag.{Tag}
use Rattle.udp_socket.specs.Asking.{room_beside, room_out}
use Rattle.udp_socket.specs.SocketView.{Outgoing, SocketView, line_of, waiting_of, has_room_out}
use Rattle.udp_socket.specs.Stored.{outgoing_of, AreBeside}
use Rattle.udp_socket.proofs.Beside.{waiting_beside}

-- the numbers alone
abbrev left : ℕ → ℕ → ℕ
left count counted = if nat_lt count 64 then min (65535 - (counted + 8)) 65507 else 0

some_left : (count counted most : ℕ) → count < 64 → counted + (8 + most) ≤ 65535 → ((len : ℕ) → counted + (8 + len) ≤ 65535 → len ≤ most) → left count counted ≡ min most 65507
some_left count counted most few fits largest =
    let all : 65535 - (counted + 8) ≤ most = largest (65535 - (counted + 8)) (omega (arith, fits)) in
    let same : 65535 - (counted + 8) ≡ most = omega (arith, all, fits) in
    let test : nat_lt count 64 ≡ true = grind (arith, nat_tests, few) in
    ap (λ (b : Bool). if b then min (65535 - (counted + 8)) 65507 else 0) test ∙ ap (λ (n : ℕ). min n 65507) same

tested : (count counted len : ℕ) → 0 < len → len ≤ 65507 → (nat_lt count 64 && nat_le (counted + (8 + len)) 65535) ≡ nat_le len (left count counted)
tested count counted len some short = by_test (nat_lt count 64) refl
  where
    by_test : (b : Bool) → nat_lt count 64 ≡ b → (nat_lt count 64 && nat_le (counted + (8 + len)) 65535) ≡ nat_le len (left count counted)
    by_test true is = rw is (grind (arith, nat_tests, some, short))
    by_test false is = rw is (grind (arith, nat_tests, some))

-- the most that a queue takes is what it has beside those that wait
pub most_left : (line : Line) (most : ℕ) → line.capacity ≡ 65535 → ((len : ℕ) → HasRoom line len ↔ (len ≤ most)) → min most 65507 ≡ room_beside line
most_left line most capacity answers =
    let room : HasRoom line most = (answers most).1 (omega arith) in
    sym (some_left (length line.items) (load line) most room.datagrams (omega (arith, room.octets, capacity))
    (λ len fits. (answers len).0 (record { datagrams = room.datagrams; octets = omega (arith, fits, capacity) })))

-- where it takes none there is none
pub none_left : (line : Line) → line.capacity ≡ 65535 → ((len : ℕ) → HasRoom line len → ⊥) → 0 ≡ room_beside line
none_left line capacity refused = by_test (nat_lt (length line.items) 64) refl
  where
    by_test : (b : Bool) → nat_lt (length line.items) 64 ≡ b → 0 ≡ room_beside line
    by_test false is = rw is refl
    by_test true is =
        let few : length line.items < 64 = grind (arith, nat_tests, is) in
        let full : 65535 < load line + 8 = by_full (nat_le (load line + 8) 65535) refl few in
        rw is (omega (arith, full))
      where
        by_full : (b : Bool) → nat_le (load line + 8) 65535 ≡ b → length line.items < 64 → 65535 < load line + 8
        by_full true fits few = absurd (refused 0 (record { datagrams = few; octets = grind (arith, nat_tests, fits, capacity) }))
        by_full false full few = grind (arith, nat_tests, full)

-- the datagrams that a socket shows leave the room of those in its queue
pub room_shown : (tags : List Tag) (line : Line) (s : SocketView) → AreBeside tags line.items → outgoing_of tags line.items ≡ s.outbox → room_beside line ≡ room_out s
room_shown tags line s beside shown =
    ap (λ (ws : List Waiting). room_beside (line_of ws)) (sym (waiting_beside tags line.items beside))
    ∙ ap (λ (os : List Outgoing). room_beside (line_of (map waiting_of os))) shown

pub room_most : (s : SocketView) (len : ℕ) → 0 < len → len ≤ 65507 → has_room_out s len ≡ nat_le len (room_out s)
room_most s len some short = tested (length (map waiting_of s.outbox)) (load (line_of (map waiting_of s.outbox))) len some short
