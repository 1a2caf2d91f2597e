-- Why an open connection of which nothing is due has told its room.
use Rattle.std.proofs.Common.{◌≡◌, ◌+◌, ◌*◌, ◌<◌, ◌≤◌, ◌||◌, ◌&&◌, not, false, true, [], length, None, inl, inr, arith, ap}
use Rattle.std.proofs.lemmas.Bool.Decides.{leb_tells}
use Rattle.tcp_segment.specs.declared.TheConstants.{MSS}
use Rattle.tcp_halves.specs.Stream.{receive_window}
use Rattle.tcp_halves.specs.Windows.{receive_room, has_grown}
use Rattle.tcp_state.specs.View.{View, is_opening, is_closed}
use Rattle.tcp_state.specs.Due.{is_ack_due, first_due}
use Rattle.tcp_halves.proofs.Choices.{clash, both, or_right, neither, of_false}
use Rattle.tcp_state.proofs.Emissions.{by_due}

-- then no acknowledgement is
pub none_owed : (v : View) → first_due v ≡ None → is_ack_due v ≡ false
none_owed v = by_due (λ o. o ≡ None → is_ack_due v ≡ false) v (record {
  nothing = λ quiet heard none. quiet;
  rst = λ owes none. cc;
  syn = λ opening goes none. cc;
  once_more = λ opened mark is goes none. cc;
  octets = λ opened sends none. cc;
  fin = λ opened sends none. cc;
  probe = λ opened owes goes none. cc;
  ack = λ owes none. cc;
  asks = λ quiet owes none. cc;
})

pub room_told : (v : View) → (is_opening v.state || is_closed v.state) ≡ false → v.spoke ≡ true → first_due v ≡ None → receive_room v.receiving < receive_window v.receiving + MSS
room_told v opened spoke none =
    let r = v.receiving in
    let lives = neither (is_opening v.state) (is_closed v.state) opened in
    elim (leb_tells (receive_window r + MSS) (receive_room r)) [
      | inl grown ↦ clash (is_ack_due v)
          (or_right v.owes_ack (not (is_opening v.state) && not (is_closed v.state) && v.spoke && has_grown r)
          (both (not (is_opening v.state) && not (is_closed v.state) && v.spoke) (has_grown r) (both (not (is_opening v.state) && not (is_closed v.state)) v.spoke (both (not (is_opening v.state)) (not (is_closed v.state)) (of_false (is_opening v.state) lives.0) (of_false (is_closed v.state) lives.1)) spoke) grown.0))
          (none_owed v none)
      | inr told ↦ told.1
    ]

pub whole_told : (v : View) → (is_opening v.state || is_closed v.state) ≡ false → v.spoke ≡ true → first_due v ≡ None → v.receiving.readable ≡ [] → v.receiving.size < receive_window v.receiving + MSS
whole_told v opened spoke none read =
    let told = room_told v opened spoke none in
    let empty : length v.receiving.readable ≡ 0 = ap length read in
    omega (arith, told, empty)

pub segment_told : (v : View) → (is_opening v.state || is_closed v.state) ≡ false → v.spoke ≡ true → first_due v ≡ None → v.receiving.readable ≡ [] → 2 * MSS ≤ v.receiving.size → MSS ≤ receive_window v.receiving
segment_told v opened spoke none read wide = let told = whole_told v opened spoke none read in omega (arith, told, wide)
