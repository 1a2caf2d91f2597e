use Rattle.std.proofs.Common.{◌≡◌, ℕ, ◌+◌, ◌≤◌, true, inl, inr, List, length, refl, sym, subst, arith}
use Rattle.stream_buf.specs.Receiving.{is_taken}
use Rattle.stream_buf.specs.Received.{Received, after_receive_event, received, IsInserted}
use Rattle.stream_buf.specs.Received.ReceiveEvent.{Inserts}
use Rattle.stream_buf.proofs.Taking.{taken_first}
use Rattle.stream_buf.proofs.Touching.{empty_or_not, one_begins, touching_taken, few_taken, not_taken}
use Rattle.stream_buf.proofs.Receptions.{IsCounted, is_with_octets, is_unchanged, received_counted, inserted, unmoved}
use Rattle.stream_buf.proofs.laws.insertions_are_taken.Goals as goal

taken_whole : (capacity : ℕ) (r : Received) (distance : ℕ) (octets : List ℕ) → IsCounted capacity r → distance + length octets ≤ length r.buffer.kept
    → is_taken r.buffer distance octets ≡ true → IsInserted r distance octets (after_receive_event r (Inserts distance octets))
taken_whole capacity r distance octets right within taken =
    subst (IsInserted r distance octets) (sym (is_with_octets r distance octets taken)) (inserted capacity r distance octets right within)

pub returns-clause-first : goal.returns-clause-first
returns-clause-first c = λ capacity events octets can within.
    let r : Received = received capacity events in
    taken_whole capacity r 0 octets (received_counted capacity events can) (omega (arith, within)) (taken_first r.buffer 0 octets refl)

pub returns-clause-touching : goal.returns-clause-touching
returns-clause-touching c = λ capacity events distance octets can within touches.
    let r : Received = received capacity events in
    let right = received_counted capacity events can in
    taken_whole capacity r distance octets right within (touching_taken r.buffer distance octets right.sound within touches)

pub returns-clause-few : goal.returns-clause-few
returns-clause-few c = λ capacity events distance octets can within few.
    let r : Received = received capacity events in
    let right = received_counted capacity events can in
    taken_whole capacity r distance octets right within (few_taken r.buffer distance octets right.sound within few)

pub returns-clause-refused : goal.returns-clause-refused
returns-clause-refused c = λ capacity events distance octets can within ahead full apart.
    let r : Received = received capacity events in
    let right = received_counted capacity events can in
    elim (empty_or_not octets) [
      | inl none ↦ unmoved capacity r distance octets right none
      | inr has ↦
          let more = one_begins r.buffer.kept distance octets ahead has within apart in
          is_unchanged r distance octets (not_taken r.buffer distance octets right.sound ahead within (omega (arith, more, full)))
    ]
