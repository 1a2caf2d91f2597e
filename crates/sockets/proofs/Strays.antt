-- What a segment leads to for which there is no connection.
use Rattle.std.proofs.Common.{◌≡◌, ℕ, ◌+◌, ◌%◌, ◌^◌, ◌&&◌, not, Bool, true, false, [], ◌∷◌, ◌++◌, Option, Some, None, refl, ap, ◌⊎◌, ◌≤◌, ◌<◌, ◌==◌, ◌||◌, nat_le, count_by, length, arith}
use Rattle.std.proofs.lemmas.Bool.Decides.{nat_tests}
use Rattle.std.specs.List.{find}
use Rattle.std.proofs.lemmas.Bool.{and_from}
use Rattle.ipv4.specs.declared.addr.Addr.{Addr}
use Rattle.clock.specs.declared.moment.Moment.{Moment}
use Rattle.tcp_segment.specs.declared.head.Head.{Head}
use Rattle.tcp_segment.specs.Segment.{Segment, span_of}
use Rattle.tcp_state.specs.Arrival.{opened_passively}
use Rattle.tcp_state.specs.declared.connection.Fate.TheVariants.{Rejected}
use Rattle.sockets.specs.declared.entry.Entry.{Entry}
use Rattle.sockets.specs.Arrival.{room_for, Becomes, Opens, NoRoom, Answers, local_end, peer_end, is_opening, has_no_room, after_opening, arrival}
use Rattle.sockets.specs.Causes.{IsOpenedBy}
use Rattle.sockets.specs.Entries.{is_between, is_listening_at, is_waiting_at, backlog_of, fate_of, new_waiting}
use Rattle.sockets.specs.Replies.{reset_at_ack, reset_past}
use Rattle.sockets.specs.SocketsView.{SocketsView, later_moment}
use Rattle.sockets.specs.Strays.{IsResetOf}
use Rattle.sockets.proofs.Ends.{eqb-same, same_end-same}

-- when there is a place: fewer wait than may, and neither the table nor the ids are used up
place : (backlog waiting entries most ids : ℕ) → waiting < backlog → entries < most → ids < 2 ^ 64 → (nat_le backlog waiting || ((entries == most) || (ids == 2 ^ 64))) ≡ false
place backlog waiting entries most ids fewer few young = grind (arith, nat_tests)

no_place : (backlog waiting entries most ids : ℕ) → (backlog ≤ waiting) ⊎ ((entries ≡ most) ⊎ (ids ≡ 2 ^ 64)) → (nat_le backlog waiting || ((entries == most) || (ids == 2 ^ 64))) ≡ true
no_place backlog waiting entries most ids full = grind (arith, nat_tests)

module _ (h : SocketsView) (now : Moment) (isn : ℕ) (source : Addr) (s : Segment) where
  at_ack : IsResetOf s s.acknowledgement 0 false (reset_at_ack s)
  at_ack = record { source = refl; destination = refl; number = refl; acknowledgement = refl; rst = refl; ack = refl; syn = refl; fin = refl; window = refl }

  past_it : IsResetOf s 0 ((s.number + span_of s) % 2 ^ 32) true (reset_past s)
  past_it = record { source = refl; destination = refl; number = refl; acknowledgement = refl; rst = refl; ack = refl; syn = refl; fin = refl; window = refl }

  by_listener : {P : Type 0} (o : Option Entry) → (o ≡ None → P) → ((listener : Entry) → o ≡ Some listener → P) → P
  by_listener None none some = none refl
  by_listener (Some listener) none some = some listener refl

  both_false : (b : Bool) → (b && false) ≡ false
  both_false true = refl
  both_false false = refl

  pub reset_ignored : find (is_between (local_end h s) (peer_end source s)) h.entries ≡ None → s.flags.rst ≡ true → arrival h now isn source s ≡ Becomes h
  reset_ignored none rst =
      let closed : is_opening s.flags ≡ false = rw rst (ap (λ b. b && not s.flags.ack) (both_false s.flags.syn)) in
      by_listener (find (is_listening_at s.destination) h.entries)
      (λ nobody. rw (none, nobody, rst) refl)
      (λ listener found. rw (none, found, closed, rst) refl)

  pub acknowledgement_answered : find (is_between (local_end h s) (peer_end source s)) h.entries ≡ None → s.flags.rst ≡ false → s.flags.ack ≡ true
      → (head : Head) × (arrival h now isn source s ≡ Answers head) × IsResetOf s s.acknowledgement 0 false head
  acknowledgement_answered none rst ack =
      let closed : is_opening s.flags ≡ false = rw ack (both_false (s.flags.syn && not s.flags.rst)) in
      (reset_at_ack s, by_listener (find (is_listening_at s.destination) h.entries) (λ nobody. rw (none, nobody, rst, ack) refl) (λ listener found. rw (none, found, closed, rst, ack) refl), at_ack)

  pub stray_answered : find (is_between (local_end h s) (peer_end source s)) h.entries ≡ None → find (is_listening_at s.destination) h.entries ≡ None → s.flags.rst ≡ false → s.flags.ack ≡ false
      → (head : Head) × (arrival h now isn source s ≡ Answers head) × IsResetOf s 0 ((s.number + span_of s) % 2 ^ 32) true head
  stray_answered none nobody rst ack = (reset_past s, rw (none, nobody, rst, ack) refl, past_it)

  pub rest_dropped : (listener : Entry) → find (is_between (local_end h s) (peer_end source s)) h.entries ≡ None → find (is_listening_at s.destination) h.entries ≡ Some listener → s.flags.rst ≡ false → s.flags.ack ≡ false → s.flags.syn ≡ false
      → arrival h now isn source s ≡ Becomes h
  rest_dropped listener none found rst ack syn =
      let closed : is_opening s.flags ≡ false = rw syn refl in
      rw (none, found, closed, rst, ack) refl

  opens_so : s.flags.rst ≡ false → s.flags.ack ≡ false → s.flags.syn ≡ true → is_opening s.flags ≡ true
  opens_so rst ack syn = rw (syn, rst, ack) refl

  pub syn_unplaced : (listener : Entry) → find (is_between (local_end h s) (peer_end source s)) h.entries ≡ None → find (is_listening_at s.destination) h.entries ≡ Some listener → s.flags.rst ≡ false → s.flags.ack ≡ false → s.flags.syn ≡ true
      → (backlog_of listener.role ≤ count_by (is_waiting_at listener.id) h.entries) ⊎ ((length h.entries ≡ h.sizes.entries) ⊎ (h.last_id + 1 ≡ 2 ^ 64)) → arrival h now isn source s ≡ NoRoom
  syn_unplaced listener none found rst ack syn full =
      let no_room : has_no_room h listener ≡ true = no_place (backlog_of listener.role) (count_by (is_waiting_at listener.id) h.entries) (length h.entries) h.sizes.entries (h.last_id + 1) full in
      rw (none, found, opens_so rst ack syn, no_room) refl

  pub refusal_answered : (e : Entry) → find (is_between (local_end h s) (peer_end source s)) h.entries ≡ Some e → fate_of s e.role ≡ Rejected → (head : Head) × (arrival h now isn source s ≡ Answers head) × IsResetOf s s.acknowledgement 0 false head
  refusal_answered e found rejected = (reset_at_ack s, rw (found, rejected) refl, at_ack)

  pub syn_opens : (listener : Entry) → find (is_between (local_end h s) (peer_end source s)) h.entries ≡ None → find (is_listening_at s.destination) h.entries ≡ Some listener → s.flags.rst ≡ false → s.flags.ack ≡ false → s.flags.syn ≡ true
      → count_by (is_waiting_at listener.id) h.entries < backlog_of listener.role → length h.entries < h.sizes.entries → h.last_id + 1 < 2 ^ 64 → (next : SocketsView) × (arrival h now isn source s ≡ Opens next) × ((e : Entry) × (next.entries ≡ h.entries ++ e ∷ []) × IsOpenedBy h source s e)
  syn_opens listener none found rst ack syn fewer few young =
      let room : has_no_room h listener ≡ false = place (backlog_of listener.role) (count_by (is_waiting_at listener.id) h.entries) (length h.entries) h.sizes.entries (h.last_id + 1) fewer few young in
      let opened = opens_so rst ack syn in
      let waiting : Entry = new_waiting (record { 0 = h.last_id + 1 }) listener.id (opened_passively (room_for h s) (local_end h s) (peer_end source s) isn s (later_moment h now)) in (
        after_opening h (later_moment h now) isn listener source s,
        rw (none, found, opened, room) refl,
        (
          waiting,
          refl,
          record {
            opens = opened;
            id = refl;
            between = and_from _ _ (same_end-same (local_end h s)) (same_end-same (peer_end source s));
            state = refl;
            told = refl;
            listener = listener;
            listens = found;
            waits = eqb-same listener.id.0;
          },
        ),
      )
