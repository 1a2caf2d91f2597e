-- What a reader makes of the oldest octet that its writer holds, and what the writer makes of the answer.
use Rattle.std.proofs.Common.{◌≡◌, ◌⊎◌, ℕ, zero, suc, ◌+◌, ◌^◌, ◌<◌, ◌≤◌, ◌&&◌, ◌||◌, not, if◌then◌else◌, Bool, true, false, List, [], ◌∷◌, ◌++◌, length, drop, inl, inr, arith, refl, sym, ◌∙◌, ap, subst, length-append, nat_le}
use Rattle.std.proofs.lemmas.Bool.{le-ltb, le-leb}
use Rattle.std.proofs.lemmas.Bool.Decides.{leb_tells}
use Rattle.clock.specs.declared.moment.Moment.{Moment}
use Rattle.tcp_segment.specs.Segment.{Segment, bit, span_of}
use Rattle.tcp_segment.specs.Wire.{wire, past}
use Rattle.tcp_halves.specs.Halves.{Receiving}
use Rattle.tcp_halves.specs.Stream.{outstanding, receive_window, is_acceptable, stands_before}
use Rattle.tcp_halves.proofs.Choices.{both, and_false, of_false, or_left}
use Rattle.tcp_state.specs.declared.state.State.{State}
use Rattle.tcp_state.specs.declared.state.State.TheVariants.{Established, FinWait2, CloseWait}
use Rattle.tcp_state.specs.View.{View, IsSound, is_opening, is_closed, is_time_wait, is_write_finished, awaits_fin_ack, takes_flag_number}
use Rattle.tcp_state.specs.Arrival.{is_acceptable_to, is_receiving, holds_back}
use Rattle.tcp_state.specs.Duties.{acknowledges, Places, StandsAt, is_aged}
use Rattle.tcp_state.specs.Edges.{Event, after_event}
use Rattle.tcp_state.specs.Progress.{IsOrdinary, BringsOldest}
use Rattle.tcp_state.proofs.Fewer.{fewer_held}
use Rattle.tcp_state.proofs.Ordinary.{leaves_end, leaves_front}
use Rattle.tcp_state.proofs.OwedAlone.{none_out}
use Rattle.tcp_state.proofs.TakenOrAnswered.{more_read}
use Rattle.round_law.specs.Progress.{Meet}
use Rattle.round_law.proofs.HeardOn.{heard_leaves, none_came}
use Rattle.round_law.proofs.Repeated.{repeats_answered}

-- The states.

pub record Receives (t : State) : Type 0 where
  pub receives : is_receiving t ≡ true
  pub past : is_opening t ≡ false
  pub unshut : awaits_fin_ack t ≡ false
  pub goes_on : is_time_wait t ≡ false

pub receiver : (t : State) → (t ≡ Established) ⊎ (t ≡ FinWait2) → Receives t
receiver t (inl is) = subst Receives (sym is) (record { receives = refl; past = refl; unshut = refl; goes_on = refl })
receiver t (inr is) = subst Receives (sym is) (record { receives = refl; past = refl; unshut = refl; goes_on = refl })

pub record Sends (t : State) : Type 0 where
  pub past : is_opening t ≡ false
  pub unshut : awaits_fin_ack t ≡ false
  pub goes_on : is_time_wait t ≡ false

pub sender : (t : State) → (t ≡ Established) ⊎ (t ≡ CloseWait) → Sends t
sender t (inl is) = subst Sends (sym is) (record { past = refl; unshut = refl; goes_on = refl })
sender t (inr is) = subst Sends (sym is) (record { past = refl; unshut = refl; goes_on = refl })

-- Of the reader's own stream nothing is held and SND.NXT is this; and there are octets to be read, or it owes an acknowledgement of more than the writer knows.
abbrev pub HasCome : View → ℕ → ℕ → View → Type 0
HasCome e una next c = (0 < length c.receiving.readable) ⊎ ((c.owes_ack ≡ true) × (c.receiving.rnext ≡ e.receiving.rnext) × (una < next))

abbrev pub StandsStill : View → View → Type 0
StandsStill e c = (c.sending.held ≡ []) × (c.sending.nxt ≡ e.sending.nxt)

all_dropped : (n : ℕ) (xs : List ℕ) → xs ≡ [] → drop n xs ≡ []
all_dropped zero xs none = none
all_dropped (suc n) [] none = refl
all_dropped (suc n) (x ∷ xs) none = cc

-- whatever plain segment comes then
module _ (e : View) (una next : ℕ) (c : View) (s : Segment) (now : Moment) (sound : IsSound c) (called : c.released ≡ false) (past : is_opening c.state ≡ false) (no_rst : s.flags.rst ≡ false) (no_fin : s.flags.fin ≡ false)
    (lives : is_closed (after_event c (Event.Hears s now)).state ≡ false) where
  pub stands_still : StandsStill e c → StandsStill e (after_event c (Event.Hears s now))
  stands_still still =
      let left = leaves_end c s now in
      let on = heard_leaves c s now past called no_rst no_fin in
      (left.1 ∙ all_dropped left.0 c.sending.held still.0, on.1 ∙ still.1)

  -- where an acknowledgement is owed, it is, or there is something to read
  pub owed_or_read : c.receiving.rnext ≡ e.receiving.rnext → (after_event c (Event.Hears s now)).owes_ack ≡ true → una < next → HasCome e una next (after_event c (Event.Hears s now))
  owed_or_read number owes more =
      let w = after_event c (Event.Hears s now) in
      let on = heard_leaves c s now past called no_rst no_fin in
      by_readable w.receiving.readable refl
    where
      by_readable : (xs : List ℕ) → (after_event c (Event.Hears s now)).receiving.readable ≡ xs → HasCome e una next (after_event c (Event.Hears s now))
      by_readable [] none = inr (owes, none_came c s (after_event c (Event.Hears s now)).receiving sound.rnext (heard_leaves c s now past called no_rst no_fin).2 none ∙ number, more)
      by_readable (x ∷ xs) some = let long : length (after_event c (Event.Hears s now)).receiving.readable ≡ length (x ∷ xs) = ap length some in inl (omega (arith, long))

  pub has_come_on : HasCome e una next c → HasCome e una next (after_event c (Event.Hears s now))
  has_come_on (inl some) =
      let more = leaves_front c s now in
      let long : length (after_event c (Event.Hears s now)).receiving.readable ≡ length (c.receiving.readable ++ more.0) = ap length more.1 in
      inl (omega (arith, long, length-append c.receiving.readable more.0, some))
  has_come_on (inr owed) = owed_or_read owed.1 ((heard_leaves c s now past called no_rst no_fin).0 owed.0 lives) owed.2

-- The oldest octet.

at_most : (b : Bool) (n : ℕ) → (if b then 0 else n) ≤ n
at_most true n = omega arith
at_most false n = omega arith

one_at_most : (b : Bool) → (if b then 1 else 0) ≤ 1
one_at_most true = omega arith
one_at_most false = omega arith

-- what is outstanding is of a buffer, with a FIN
few_out : (w : View) → IsSound w → outstanding w.sending ≤ 1048577
few_out w sound =
    omega (arith, sound.flight, one_at_most (takes_flag_number w.state), sound.held, at_most (is_opening w.state || is_write_finished w.state) w.sending.size, sound.terms.send_size)

module _ (w e : View) (s : Segment) (now : Moment) (meet : Meet w e) (sound_far : IsSound w) (sound : IsSound e) (called : e.released ≡ false) (state : Receives e.state) (oldest : BringsOldest w s) (no_fin : s.flags.fin ≡ false)
    (edge : e.receiving.edge < 2 ^ 32) (room : meet.una ≡ meet.next → length s.octets ≤ receive_window e.receiving) (free : holds_back e s now ≡ false) (lives : is_closed (after_event e (Event.Hears s now)).state ≡ false) where
  abbrev at : Places
  at = record { own = e.sending.una; una = 0; ack = 0; peer = meet.initial; next = meet.next; edge = meet.next + receive_window e.receiving; first = meet.una }

  none : outstanding e.sending ≡ 0
  none = none_out e sound state.past state.unshut meet.held

  acknowledged : e.sending.nxt ≡ e.sending.una
  acknowledged = omega (arith, none, sound.una, sound.nxt)

  short : length s.octets ≤ 1460
  short = omega (arith, oldest.size, sound_far.segment)

  small_window : receive_window e.receiving ≤ 1048576
  small_window = omega (arith, sound.window, sound.terms.places, sound.terms.capacity)

  stands : StandsAt at e s
  stands = record {
    una_number = omega (arith, sound.una);
    ack_number = λ ack. omega (arith, oldest.acknowledgement, meet.answered, acknowledged, sound.una);
    ack_behind = λ ack. omega (arith, none);
    ack_ahead = λ ack. omega arith;
    receives = record { next_number = meet.next_number; edge_number = omega (arith, meet.next_number, edge); order = omega arith; near = omega (arith, small_window) };
    first_number = oldest.number ∙ meet.una_number;
    first_near = record { behind = omega (arith, meet.sent, few_out w sound_far); ahead = omega (arith, meet.behind, short) };
  }

  -- its acknowledgement stands at SND.UNA
  young : is_aged at e ≡ false
  young = ap (λ b. e.guard.on && b) (le-ltb (0 + e.sending.max_window) 0 (omega arith)) ∙ and_false e.guard.on

  pub oldest_comes : HasCome e meet.una meet.next (after_event e (Event.Hears s now))
  oldest_comes = by_readable e.receiving.readable refl
    where
      by_readable : (xs : List ℕ) → e.receiving.readable ≡ xs → HasCome e meet.una meet.next (after_event e (Event.Hears s now))
      by_readable (x ∷ xs) some =
          let long : length e.receiving.readable ≡ length (x ∷ xs) = ap length some in
          has_come_on e meet.una meet.next e s now sound called state.past oldest.ordinary.no_rst no_fin lives (inl (omega (arith, long)))
      by_readable [] empty =
          elim (leb_tells meet.next meet.una) [
            | inl all ↦
                let first : meet.una ≡ meet.next = omega (arith, all.1, meet.behind) in
                let fits = room first in
                let grows = more_read at e s now sound stands called state.receives oldest.ordinary (omega arith) young meet.behind (omega (arith, fits)) (omega (arith, first, oldest.some)) in
                inl (omega (arith, grows))
            | inr some ↦ owed_or_read e meet.una meet.next e s now sound called state.past oldest.ordinary.no_rst no_fin lives refl
                (repeats_answered at e s now sound stands state.receives oldest.ordinary (omega arith) young oldest.some some.1 lives free) some.1
          ]

-- The answer.

-- what stands at RCV.NXT without octets is acceptable, whatever the window
at_next : (r : Receiving) → r.rnext < 2 ^ 32 → is_acceptable r r.rnext 0 ≡ true
at_next r small =
    or_left (nat_le (past r.rnext r.rnext) (receive_window r)) (stands_before r r.rnext) (le-leb (past r.rnext r.rnext) (receive_window r) (omega (arith, small)))

pub frees : (c : View) (s : Segment) (now : Moment) (initial una next : ℕ) → IsSound c → 0 < length c.sending.held → IsOrdinary s → s.octets ≡ [] → s.flags.fin ≡ false → s.number ≡ c.receiving.rnext → c.sending.una ≡ wire initial una
    → s.acknowledgement ≡ wire initial next → una < next → next ≤ una + outstanding c.sending → length (after_event c (Event.Hears s now)).sending.held < length c.sending.held
frees c s now initial una next sound some plain empty no_fin number una_number ack_number above within =
    let none : span_of s ≡ 0 = ap (λ (l : List ℕ). length l + bit s.flags.syn 1 + bit s.flags.fin 1) empty ∙ (ap (λ b. 0 + bit b 1 + bit s.flags.fin 1) plain.no_syn ∙ ap (λ b. 0 + 0 + bit b 1) no_fin) in
    let acceptable : is_acceptable_to c s ≡ true = ap (is_acceptable c.receiving s.number) none ∙ (ap (λ n. is_acceptable c.receiving n 0) number ∙ at_next c.receiving sound.rnext) in
    let plain_one = not s.flags.rst && is_acceptable_to c s in
    let says : acknowledges c s ≡ true = both (plain_one && not s.flags.syn) s.flags.ack
    (both plain_one (not s.flags.syn) (both (not s.flags.rst) (is_acceptable_to c s) (of_false s.flags.rst plain.no_rst) acceptable) (of_false s.flags.syn plain.no_syn)) plain.ack in
    fewer_held c s now initial una next sound some says una_number ack_number above within
