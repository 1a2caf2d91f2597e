-- What a send buffer holds, over every list of calls.
use Rattle.std.proofs.Common.{◌≡◌, ℕ, ◌+◌, ◌-◌, ◌≤◌, List, [], ◌∷◌, ◌++◌, length, take, drop, fold, refl, sym, ◌∙◌, ap, length-append, arith}
use Rattle.std.specs.List.{slice_range}
use Rattle.std.proofs.lemmas.List.{length-drop, length-take, drop-drop, drop-append-le}
use Rattle.stream_buf.specs.Sending.{send_room, written_count, copied}
use Rattle.stream_buf.specs.Written.{SendEvent, Written, nothing_written, after_send_event, written, IsHeld, AreHeldFrom, AreSendCalls}
use Rattle.stream_buf.specs.Written.SendEvent.{Writes, Acks}

-- what holds of every send buffer for so many octets
pub record IsRight (capacity : ℕ) (w : Written) : Type 0 where
  pub held : w.buffer.held ≡ drop w.acknowledged w.taken
  pub acknowledged : w.acknowledged ≤ length w.taken
  pub most : length w.buffer.held ≤ capacity
  pub size : w.buffer.capacity ≡ capacity

first_right : (capacity : ℕ) → IsRight capacity (nothing_written capacity)
first_right capacity = record { held = refl; acknowledged = omega arith; most = omega arith; size = refl }

write_keeps : (capacity : ℕ) (w : Written) (octets : List ℕ) → IsRight capacity w → IsRight capacity (after_send_event w (Writes octets))
write_keeps capacity w octets right =
    let more : List ℕ = take (written_count w.buffer octets) octets in
    let count = length-take (written_count w.buffer octets) octets in
    record {
      held = ap (λ (xs : List ℕ). xs ++ more) right.held ∙ sym (drop-append-le w.acknowledged w.taken more right.acknowledged);
      acknowledged = omega (arith, length-append w.taken more, right.acknowledged);
      most = omega (arith, length-append w.buffer.held more, count, right.most, right.size);
      size = right.size;
    }

acks_keep : (capacity : ℕ) (w : Written) (count : ℕ) → count ≤ length w.buffer.held → IsRight capacity w → IsRight capacity (after_send_event w (Acks count))
acks_keep capacity w count within right =
    let size = ap (λ (xs : List ℕ). length xs) right.held in
    record {
      held = ap (λ (xs : List ℕ). drop count xs) right.held ∙ drop-drop count w.acknowledged w.taken;
      acknowledged = omega (arith, size, length-drop w.acknowledged w.taken, within, right.acknowledged);
      most = omega (arith, length-drop count w.buffer.held, right.most);
      size = right.size;
    }

event_keeps : (capacity : ℕ) (w : Written) (event : SendEvent) → IsHeld w event → IsRight capacity w → IsRight capacity (after_send_event w event)
event_keeps capacity w (Writes octets) can right = write_keeps capacity w octets right
event_keeps capacity w (Acks count) can right = acks_keep capacity w count can right

events_keep : (capacity : ℕ) (events : List SendEvent) (w : Written) → AreHeldFrom w events → IsRight capacity w → IsRight capacity (fold after_send_event w events)
events_keep capacity [] w can right = right
events_keep capacity (event ∷ events) w can right = events_keep capacity events (after_send_event w event) can.1 (event_keeps capacity w event can.0 right)

pub written_right : (capacity : ℕ) (events : List SendEvent) → AreSendCalls capacity events → IsRight capacity (written capacity events)
written_right capacity events can = events_keep capacity events (nothing_written capacity) can (first_right capacity)

pub room_right : (capacity : ℕ) (w : Written) → IsRight capacity w → length w.buffer.held + send_room w.buffer ≡ capacity
room_right capacity w right = omega (arith, right.most, right.size)

-- a part of what is held is the part of what was taken that lies behind what was acknowledged
pub copied_right : (capacity offset len : ℕ) (w : Written) → IsRight capacity w
    → copied w.buffer offset len ≡ slice_range w.taken (w.acknowledged + offset) (w.acknowledged + offset + len)
copied_right capacity offset len w right =
    let count : offset + len - offset ≡ w.acknowledged + offset + len - (w.acknowledged + offset) = omega arith in
    ap (λ (n : ℕ). take n (drop offset w.buffer.held)) count
    ∙ ap (λ (xs : List ℕ). take (w.acknowledged + offset + len - (w.acknowledged + offset)) xs)
    (ap (λ (xs : List ℕ). drop offset xs) right.held ∙ drop-drop offset w.acknowledged w.taken)
