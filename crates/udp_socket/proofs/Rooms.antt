-- Room for a further datagram, as a test and as its parts.
use Rattle.std.proofs.Common.{◌≡◌, ℕ, ◌+◌, ◌<◌, ◌≤◌, ◌↔◌, ◌&&◌, nat_lt, nat_le, Bool, true, false, List, length, map, Result, Ok, Err, IsErr, is_ok, refl, sym, ◌∙◌, ap, arith}
use Rattle.std.proofs.lemmas.Bool.Decides.{nat_tests}
use Rattle.udp.specs.Waiting.{Waiting, Line, HasRoom, load}
use Rattle.udp_socket.specs.declared.tag.Tag.{Tag}
use Rattle.udp_socket.specs.SocketView.{Outgoing, SocketView, waiting_of, has_room, has_room_out}
use Rattle.udp_socket.specs.Stored.{outgoing_of, AreBeside}
use Rattle.udp_socket.proofs.Beside.{waiting_beside}

pub err_not_ok : {A B : Type 0} (r : Result A B) → IsErr r → is_ok r ≡ false
err_not_ok (Ok x) err = cc
err_not_ok (Err e) err = refl

both : (a b c d : ℕ) → a < b → c ≤ d → (nat_lt a b && nat_le c d) ≡ true
both a b c d below most = grind (arith, nat_tests, below, most)

either : (a b c d : ℕ) → (nat_lt a b && nat_le c d) ≡ true → (a < b) × (c ≤ d)
either a b c d test = (grind (arith, nat_tests, test), grind (arith, nat_tests, test))

-- the queue has room exactly where the test says so
pub room_tested : (line : Line) (n : ℕ) → line.capacity ≡ 65535 → HasRoom line n ↔ (has_room line.items n ≡ true)
room_tested line n capacity = (
  λ room. both (length line.items) 64 (load line + (8 + n)) 65535 room.datagrams (omega (arith, room.octets, capacity)),
  λ test. let fits = either (length line.items) 64 (load line + (8 + n)) 65535 test in
      record { datagrams = fits.0; octets = omega (arith, fits.1, capacity) },
)

pub has_its_room : (line : Line) (n : ℕ) → line.capacity ≡ 65535 → HasRoom line n → has_room line.items n ≡ true
has_its_room line n capacity room = (room_tested line n capacity).0 room

pub none_has_room : (line : Line) (n : ℕ) → line.capacity ≡ 65535 → (HasRoom line n → ⊥) → has_room line.items n ≡ false
none_has_room line n capacity refused = by_test (has_room line.items n) refl
  where
    by_test : (b : Bool) → has_room line.items n ≡ b → b ≡ false
    by_test false is = refl
    by_test true is = absurd (refused ((room_tested line n capacity).1 is))

-- .. by the most that it has room for
pub room_by_most : (line : Line) (n most : ℕ) → line.capacity ≡ 65535 → ((len : ℕ) → HasRoom line len ↔ (len ≤ most)) → nat_le n most ≡ has_room line.items n
room_by_most line n most capacity answers = by_test (nat_le n most) refl
  where
    by_test : (b : Bool) → nat_le n most ≡ b → b ≡ has_room line.items n
    by_test true is = sym (has_its_room line n capacity ((answers n).1 (grind (arith, nat_tests, is))))
    by_test false is =
        let beyond : most < n = grind (arith, nat_tests, is) in
        sym (none_has_room line n capacity (λ room. let within = (answers n).0 room in absurd (omega (arith, within, beyond))))

pub room_by_none : (line : Line) (n : ℕ) → line.capacity ≡ 65535 → ((len : ℕ) → HasRoom line len → ⊥) → false ≡ has_room line.items n
room_by_none line n capacity refused = sym (none_has_room line n capacity (refused n))

-- the datagrams that a socket shows have the room of those in its queue
pub out_stored : (tags : List Tag) (line : Line) (s : SocketView) (n : ℕ) → AreBeside tags line.items → outgoing_of tags line.items ≡ s.outbox
    → has_room line.items n ≡ has_room_out s n
out_stored tags line s n beside shown =
    ap (λ (ws : List Waiting). has_room ws n) (sym (waiting_beside tags line.items beside))
    ∙ ap (λ (os : List Outgoing). has_room (map waiting_of os) n) shown
