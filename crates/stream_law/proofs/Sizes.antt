-- How much a connection holds at most. The sizes of its buffers are read here alone.
use Rattle.std.proofs.Common.{ℕ, ◌+◌, ◌≤◌, ◌≡◌, ◌||◌, if◌then◌else◌, Bool, true, false, List, length, arith, refl, ap}
use Rattle.tcp_state.specs.View.{View, IsSound, is_opening, is_write_finished}
use Rattle.tcp_state.specs.Calls.{send_count}
use Rattle.tcp_halves.specs.Stream.{send_room, receive_window}

-- the octets that a buffer holds at most, whoever makes it
abbrev pub most_held : ℕ
most_held = 1048576

held-few : (none : Bool) (n size : ℕ) → size ≤ most_held → n ≤ (if none then 0 else size) → n ≤ most_held
held-few true n size fits few = omega (arith, few)
held-few false n size fits few = omega (arith, fits, few)

held-nothing : (none : Bool) (n size : ℕ) → none ≡ true → n ≤ (if none then 0 else size) → n ≤ 0
held-nothing true n size e few = few
held-nothing false n size e few = cc

-- what is held to be sent
pub held-fits : (v : View) → IsSound v → length v.sending.held ≤ most_held
held-fits v sound = held-few (is_opening v.state || is_write_finished v.state) (length v.sending.held) v.sending.size sound.terms.send_size sound.held

-- nothing while the connection opens
pub opening-holds-nothing : (v : View) → IsSound v → is_opening v.state ≡ true → length v.sending.held ≤ 0
opening-holds-nothing v sound opening =
    held-nothing (is_opening v.state || is_write_finished v.state) (length v.sending.held) v.sending.size (ap (λ b. b || is_write_finished v.state) opening) sound.held

-- and nothing once our FIN is acknowledged
pub finished-holds-nothing : (v : View) → IsSound v → is_write_finished v.state ≡ true → length v.sending.held ≤ 0
finished-holds-nothing v sound finished =
    held-nothing (is_opening v.state || is_write_finished v.state) (length v.sending.held) v.sending.size (or-true (is_opening v.state) (is_write_finished v.state) finished) sound.held
  where
    or-true : (a b : Bool) → b ≡ true → (a || b) ≡ true
    or-true true b e = refl
    or-true false b e = e

-- with what one send may add to it
pub room-fits : (v : View) → IsSound v → length v.sending.held + send_room v.sending ≤ most_held
room-fits v sound = omega (arith, held-fits v sound, sound.terms.send_size)

pub count-fits : (v : View) (octets : List ℕ) → IsSound v → send_count v octets ≤ most_held
count-fits v octets sound = omega (arith, room-fits v sound)

-- the window that is advertised, and each of its octets has a place
pub window-fits : (v : View) → IsSound v → receive_window v.receiving ≤ most_held
window-fits v sound =
    let window : length v.receiving.readable + receive_window v.receiving ≤ v.receiving.size = sound.window in
    omega (arith, window, sound.terms.places, sound.terms.capacity)

pub window-has-places : (v : View) → IsSound v → receive_window v.receiving ≤ length v.receiving.kept
window-has-places v sound =
    let window : length v.receiving.readable + receive_window v.receiving ≤ v.receiving.size = sound.window in
    let places : length v.receiving.readable + length v.receiving.kept ≡ v.receiving.capacity = sound.buffer.places in
    omega (arith, window, sound.terms.places, places)
